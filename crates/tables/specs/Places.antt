-- Which calls may write places (paper 02, S-3): "emptying is to write no place: all handles and lengths stand after it as
-- before". That they stand is part of every call's contract, `Promised`; of those that empty, and of any calls, `Standing` says it.
use Rattle.std.specs.Prelude.{◌≡◌, Bool, false, ◌||◌, ℕ}
use Rattle.definitions.specs.declared.Answer.{Answer}
use Rattle.definitions.specs.Answers.{is_accepted}
use Rattle.definitions.specs.Event.{Event, Open, Join, Change, Leave, Load, Arrive, Tick}
use Rattle.definitions.specs.History.{Trace, begin, ◌and◌}
use Rattle.tables.specs.declared.Control.{Control}
use Rattle.tables.specs.declared.Answered.{Answered}
use Rattle.tables.specs.declared.Tables.{Tables}
use Rattle.tables.specs.Promise.{Meets}
use Rattle.tables.specs.Counting.{Counts}
use Rattle.tables.specs.CallsFrom.{CallsFrom}

-- "all handles and lengths stand"
pub record PlacesStand (t u : Tables) : Type 0 where
  pub handles : u.handles ≡ t.handles
  pub lengths : u.lengths ≡ t.lengths

-- an arrival puts its packet at a place, and opening fills all of them; and both only where they are accepted
abbrev pub may_write : Event → Answer → Bool
may_write (Open threshold discipline seed) answer = is_accepted answer
may_write (Join id kind rate burst) answer = false
may_write (Change id kind rate burst) answer = false
may_write (Leave id) answer = false
may_write (Load id dummies) answer = false
may_write (Arrive id packet) answer = is_accepted answer
may_write Tick answer = false

-- the contract of every call: it is met, the places stand unless it may write them, and the counts are what it makes of them
pub record Promised (call : Event) (c : Control) (t : Tables) (r : Answered) (u : Tables) : Type 0 where
  pub meets : Meets call c t r u
  pub stand : may_write call r.answer ≡ false → PlacesStand t u
  pub counts : Counts call c t r u

-- whether any call of a trace may write places
unfoldable pub may_have_written : Trace → Bool
may_have_written begin = false
may_have_written (trace and d) = may_have_written trace || may_write d.event d.answer

-- Whatever the answer: the calls that empty leave all handles and lengths as they were. And so do any calls, one after the other,
-- among which no open and no arrival is accepted.
pub record Standing : Type 0 where
  pub join : {id kind rate burst : ℕ} {c : Control} {t u : Tables} {r : Answered} → Promised (Join id kind rate burst) c t r u
      → PlacesStand t u
  pub change : {id kind rate burst : ℕ} {c : Control} {t u : Tables} {r : Answered} → Promised (Change id kind rate burst) c t r u
      → PlacesStand t u
  pub leave : {id : ℕ} {c : Control} {t u : Tables} {r : Answered} → Promised (Leave id) c t r u → PlacesStand t u
  pub calls : {trace : Trace} {c d : Control} {t u : Tables} → CallsFrom Promised c t trace d u → may_have_written trace ≡ false
      → PlacesStand t u
