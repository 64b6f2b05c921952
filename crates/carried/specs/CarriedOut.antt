-- A whole script was carried out, in a buffer with room for a line: control and tables hold core and counts behind it. Of a "whole text
-- over 60,000 bytes" the only line is written.
use Rattle.std.specs.Prelude.{ℕ, ◌≤◌, ◌<◌, ◌≡◌, List, [], length, take}
use Rattle.definitions.specs.declared.Answer.TheVariants.{Refused}
use Rattle.definitions.specs.Counts.{whole_new}
use Rattle.grammar.specs.Bytes.{text_limit}
use Rattle.grammar.specs.Printout.{printed, whole_from}
use Rattle.printer.specs.Printed.{line_room}
use Rattle.script.specs.declared.Progress.{Progress}
use Rattle.tables.specs.declared.Tables.{Tables}
use Rattle.tables.specs.Meaning.{whole_of}
use Rattle.tables.specs.Invariant.{Valid}

pub record CarriedOut (text out : List ℕ) (r : Progress) (u : Tables) : Type 0 where
  pub valid : Valid r.control u
  pub left : line_room ≤ length out → length text ≤ text_limit → whole_of r.control u ≡ whole_from whole_new [] text
  pub long : line_room ≤ length out → text_limit < length text → take r.written out ≡ printed (Refused 18)
  pub fits : r.written ≤ length out
