-- `remains::overwrite_unused`: the places passed are overwritten where no packet waits.
use Rattle.std.proofs.Common.{◌≡◌}
use Rattle.remains.specs.Remains.{overwritten_below}
use Rattle.remains.proofs.overwrite_unused.Given as goal

abbrev pub invariant-loop-place : goal.invariant-loop-place
invariant-loop-place l =
    (l.handles ≡ overwritten_below l.place l.stocks l.handle l.initial.handles)
    × (l.lengths ≡ overwritten_below l.place l.stocks l.length l.initial.lengths)
