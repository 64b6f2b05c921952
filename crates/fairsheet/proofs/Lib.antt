pub mod PairsFound
pub mod RowsRead
pub mod SheetsRead
pub mod RateRoom
pub mod SheetTold
