-- `script::piece`: the lines read so far are walked, and nothing is written before the first. The measure is what is left of the text.
use Rattle.std.proofs.Common.{◌≡◌, ◌-◌, ◌≤◌, ◌<◌, [], length}
use Rattle.printer.specs.Printed.{line_room}
use Rattle.script.specs.declared.Progress.{Progress}
use Rattle.script.specs.Pieces.{Walked, Unmoved}
use Rattle.script.proofs.piece.Given as goal

abbrev pub invariant-loop-audience : goal.invariant-loop-audience
invariant-loop-audience l =
    let old = l.initial in
    let sofar : Progress = record { control = l.core; next = l.place; written = l.written } in
    (length l.out ≡ length old.out)
    × Walked l.audience l.text l.at old.core old.tables [] l.out sofar l.tables
    × (l.place ≤ l.at → l.written ≡ 0)
    × (length l.out < line_room → Unmoved l.at old.core old.tables sofar l.tables)
    × (length l.text ≤ l.at → Unmoved l.at old.core old.tables sofar l.tables)

abbrev pub decreases-loop-audience : goal.decreases-loop-audience
decreases-loop-audience l = length l.text - l.place
