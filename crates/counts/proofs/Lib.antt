pub mod CountEntries
