pub mod WideSums
