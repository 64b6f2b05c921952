pub mod Order
pub mod Owner
