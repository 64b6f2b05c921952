-- That there are runs, of opens.
pub mod Openings
