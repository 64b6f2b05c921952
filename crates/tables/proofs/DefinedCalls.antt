-- Calls from any core on, each keeping its promise, are the stretch of the definitions: the answers are theirs, and the tables
-- mean the core that the calls leave. By induction over the calls. Assumes nothing but the promises that they are made of.
use mathlib.Core.Path.{◌≡◌, refl, ap, ap₂, ◌∙◌}
use Rattle.definitions.specs.Event.{Event}
use Rattle.definitions.specs.State.{Core}
use Rattle.definitions.specs.Core.{step}
use Rattle.definitions.specs.History.{Trace, ◌and◌, after, answer_at, dealing_at, trace_of, pick_of, draws_of}
use Rattle.definitions.specs.Stretch.{scheduler_from, stretch, behind}
use Rattle.tables.specs.declared.Control.{Control}
use Rattle.tables.specs.declared.Answered.{Answered}
use Rattle.tables.specs.declared.Tables.{Tables}
use Rattle.tables.specs.Meaning.{core_of}
use Rattle.tables.specs.Promise.{Meets}
use Rattle.tables.specs.Run.{dealing, calls_of}
use Rattle.tables.specs.CallsFrom.{CallsFrom, here, called}

-- the tables mean the core that the definitions come to
pub from_core : {c : Control} {t : Tables} {d : Control} {u : Tables} {trace : Trace}
    → CallsFrom Meets c t trace d u
    → core_of d u ≡ behind (core_of c t) (calls_of trace)
unfolding after calls_of
from_core here = refl
from_core (called {call = call} calls m) = m.core ∙ ap (λ (x : Core). (step x call).core) (from_core calls)

-- the next call is dealt with as the definitions say
from_dealing : {c d : Control} {t u v : Tables} {trace : Trace} {call : Event} {r : Answered}
    → CallsFrom Meets c t trace d u
    → Meets call d u r v
    → dealing call d u r ≡ dealing_at (scheduler_from (core_of c t)) (calls_of trace) call
unfolding answer_at dealing_at
from_dealing {call = call} calls m = λ i. record {
  event = call;
  answer = (m.answer ∙ ap (λ (x : Core). (step x call).answer) (from_core calls)) i;
  pick = ap pick_of (from_core calls) i;
  draws = ap draws_of (from_core calls) i;
}

-- so what was called and what it got is what the definitions give to the same calls
pub from_trace : {c : Control} {t : Tables} {d : Control} {u : Tables} {trace : Trace}
    → CallsFrom Meets c t trace d u
    → trace ≡ stretch (core_of c t) (calls_of trace)
unfolding trace_of calls_of
from_trace here = refl
from_trace (called calls m) = ap₂ ◌and◌ (from_trace calls) (from_dealing calls m)
