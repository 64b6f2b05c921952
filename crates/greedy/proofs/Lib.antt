-- What the call of a run with a greedy client does, one after the other.
pub mod Offers
