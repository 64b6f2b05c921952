pub mod Digits
pub mod NumeralWalk
pub mod TemplateWalk
pub mod Texts
pub mod Forms
pub mod PairReads
pub mod Words
