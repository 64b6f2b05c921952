-- A slot's reason, read off the core that the slot left.
pub mod ReasonLeft
