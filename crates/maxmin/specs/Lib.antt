-- What the fair rates are in the caller's room, and what is claimed of them there.
pub mod Shared
pub mod CodeFair
