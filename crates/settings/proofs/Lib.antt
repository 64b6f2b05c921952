-- What join, change and leave do to the tables, over the lists that the tables hold.
pub mod Remarks
pub mod Entries
pub mod HeldRates
pub mod Withdrawing
pub mod Emptying
pub mod Placing
pub mod Bounds
pub mod LeavePromise
pub mod JoinPromise
pub mod Retuning
pub mod ChangePromise
