-- `arguments::numbers`: up to its place, each number is what was read.
use Rattle.std.proofs.Common.{ℕ, ◌+◌, ◌<◌, ◌≡◌, Some, get_or, length}
use Rattle.arguments.proofs.numbers.Given as goal

abbrev pub invariant-loop-i : goal.invariant-loop-i
invariant-loop-i g l =
    (length l.numbers ≡ g.row.N) × ((i : ℕ) → i < l.i → g.F.Fn.post l.number (i + 1, tt) (Some (get_or l.numbers i 0)))
