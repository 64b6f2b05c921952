-- Where the counts of the ids stand, and what it is that calls enter in them.
pub mod CountTable
