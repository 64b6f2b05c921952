-- Calls one after the other from any core on, each keeping a contract.
use Rattle.definitions.specs.Event.{Event}
use Rattle.definitions.specs.History.{Trace, begin, ◌and◌}
use Rattle.tables.specs.declared.Control.{Control}
use Rattle.tables.specs.declared.Answered.{Answered}
use Rattle.tables.specs.declared.Tables.{Tables}
use Rattle.tables.specs.Run.{dealing}

-- what is promised where a call on a control and tables gives an answer with a control, and leaves tables
abbrev pub Contract : Type 1
Contract = Event → Control → Tables → Answered → Tables → Type 0

-- the trace of the calls made on control c and tables t, and control and tables after the last one
pub data CallsFrom (Keeps : Contract) (c : Control) (t : Tables) : Trace → Control → Tables → Type 0 where
  here : CallsFrom Keeps c t begin c t
  called : {trace : Trace} {d : Control} {u v : Tables} {call : Event} {r : Answered}
      → CallsFrom Keeps c t trace d u
      → Keeps call d u r v
      → CallsFrom Keeps c t (trace and dealing call d u r) r.control v
