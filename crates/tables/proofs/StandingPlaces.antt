-- Handles and lengths stand: by each call's contract, and by induction over any calls of which none may write. Assumes nothing.
use mathlib.Core.Path.{◌≡◌, refl, ◌∙◌}
use mathlib.Core.Bool.{false}
use Rattle.definitions.specs.History.{Trace}
use Rattle.definitions.proofs.Laws.Tests.{or-false}
use Rattle.tables.specs.declared.Control.{Control}
use Rattle.tables.specs.declared.Tables.{Tables}
use Rattle.tables.specs.CallsFrom.{CallsFrom, here, called}
use Rattle.tables.specs.Places.{PlacesStand, may_write, Promised, may_have_written, Standing}

calls_stand : {c : Control} {t : Tables} {trace : Trace} {d : Control} {u : Tables} → CallsFrom Promised c t trace d u → may_have_written trace ≡ false
    → PlacesStand t u
unfolding may_have_written
calls_stand here none = record { handles = refl; lengths = refl }
calls_stand (called {trace} {call = call} {r} x p) none =
    let each = or-false (may_have_written trace) (may_write call r.answer) none in
    let before = calls_stand x each.0 in
    let last = p.stand each.1 in
    record { handles = last.handles ∙ before.handles; lengths = last.lengths ∙ before.lengths }

pub standing : Standing
standing = record {
  join = λ p. p.stand refl;
  change = λ p. p.stand refl;
  leave = λ p. p.stand refl;
  calls = calls_stand;
}
