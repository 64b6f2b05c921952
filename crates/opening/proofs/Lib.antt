pub mod EmptyTables
pub mod OpenPromise
pub mod Openings
