-- What a line without a form is answered with, and what a line shows; the pieces of a printout, and that they make it up; that there are pieces; and
-- that places where no packet waits do not show in them.
pub mod Shown
pub mod Pieces
pub mod PiecesExample
pub mod UnseenOnPaper
pub mod UnseenExample
