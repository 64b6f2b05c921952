pub mod SheetGiven
