-- What reading a text of demands gives, and what is then written.
pub mod SheetRead
pub mod Written
