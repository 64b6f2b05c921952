-- `script::perform_told` meets its contract: each arm is the call of its name. Assumes nothing.
use mathlib.Core.Path.{◌≡◌, refl}
use mathlib.Core.Bool.{false}
use Rattle.definitions.specs.Sameness.{is_tick}
use Rattle.definitions.proofs.Laws.Tests.{true-false}
use Rattle.grammar.specs.declared.Call.{Call}
use Rattle.grammar.specs.Calls.{event_of}
use Rattle.slot.specs.declared.Ticked.{Ticked}
use Rattle.tables.specs.declared.Answered.{Answered}
use Rattle.tables.specs.declared.Control.{Control}
use Rattle.tables.specs.declared.Tables.{Tables}
use Rattle.tables.specs.Places.{Promised}
use Rattle.script.specs.Shown.{PerformedCall}
use Rattle.script.proofs.perform_told.Goals as goal

-- of a call that is no tick its answer is all that is told
untold : {call : Call} {c : Control} {t u : Tables} {answered : Answered} {ticked : Ticked} → is_tick (event_of call) ≡ false
    → ticked.answered ≡ answered → Promised (event_of call) c t answered u → PerformedCall call c t ticked u
untold other same promised = record { promised = rw same promised; sum = λ tick. true-false tick other }

pub returns-in-Open : goal.returns-in-Open
unfolding is_tick
returns-in-Open c = rw c.in-Open.is (untold refl c.undrawn.ensures c.open.ensures)

pub returns-in-Join : goal.returns-in-Join
unfolding is_tick
returns-in-Join c = rw c.in-Join.is (untold refl c.undrawn-in-Join.ensures c.join.ensures)

pub returns-in-Change : goal.returns-in-Change
unfolding is_tick
returns-in-Change c = rw c.in-Change.is (untold refl c.undrawn-in-Change.ensures c.change.ensures)

pub returns-in-Leave : goal.returns-in-Leave
unfolding is_tick
returns-in-Leave c = rw c.in-Leave.is (untold refl c.undrawn-in-Leave.ensures c.leave.ensures)

pub returns-in-Load : goal.returns-in-Load
unfolding is_tick
returns-in-Load c = rw c.in-Load.is (untold refl c.undrawn-in-Load.ensures c.load.ensures)

pub returns-in-Arrive : goal.returns-in-Arrive
unfolding is_tick
returns-in-Arrive c = rw c.in-Arrive.is (untold refl c.undrawn-in-Arrive.ensures c.arrive.ensures)
