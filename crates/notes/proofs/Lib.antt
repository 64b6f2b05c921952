pub mod ReasonLeft
pub mod TenantSlot
