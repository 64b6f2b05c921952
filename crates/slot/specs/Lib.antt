-- What the parts of a slot do to the tables.
pub mod Buckets
pub mod Turns
pub mod Sends
pub mod Slots
