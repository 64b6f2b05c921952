pub mod LoadChecks
pub mod LoadPromise
pub mod ArrivedTables
pub mod ArriveChecks
pub mod ArrivePromise
