-- The counts in the tables are those of the definitions, since each call's promise says so of the ones before it; so what is claimed of
-- these is so of the tables. By induction over the calls. Assumes nothing but the promises.
use Prim.Native.Nat.{ℕ}
use mathlib.Core.Path.{◌≡◌, refl, sym, ap, ◌∙◌, fun_ext}
use mathlib.Core.Bool.{Bool, true, false}
use Rattle.definitions.specs.declared.Answer.{Answer}
use Rattle.definitions.specs.Event.{Event}
use Rattle.definitions.specs.State.{Core, unopened}
use Rattle.definitions.specs.Core.{step}
use Rattle.definitions.specs.History.{Trace, after, trace_of, scheduler}
use Rattle.definitions.specs.Sameness.{kept}
use Rattle.definitions.specs.Stretch.{stretch}
use Rattle.definitions.specs.Counts.{Count, Tally, zeros, tallied, wrapped, counts_after, count_sheet, Whole, whole_new, whole_after}
use Rattle.definitions.specs.Counted.{counts_behind, whole_behind, Settles}
use Rattle.definitions.proofs.Laws.Tests.{true-false}
use Rattle.definitions.proofs.Counts.{counted, whole_behind_lem}
use Rattle.definitions.proofs.ChosenSheet.{sheet_same}
use Rattle.tables.specs.declared.Control.{Control}
use Rattle.tables.specs.declared.Answered.{Answered}
use Rattle.tables.specs.declared.Tables.{Tables}
use Rattle.tables.specs.Meaning.{core_of, counts_of, whole_of}
use Rattle.tables.specs.Promise.{Meets}
use Rattle.tables.specs.Places.{Promised}
use Rattle.tables.specs.Run.{calls_of}
use Rattle.tables.specs.CallsFrom.{CallsFrom, here}
use Rattle.tables.specs.CallsFrom as calls_from
use Rattle.tables.specs.CodeCounts.{Made, CodeCounts}
use Rattle.tables.proofs.Promises.{core_of-opened}
use Rattle.tables.proofs.DefinedCalls.{from_trace}
use Rattle.tables.proofs.Runs.{runs}

-- core and counts after one call
pub promised_whole : {call : Event} {c : Control} {t u : Tables} {r : Answered} → Promised call c t r u
    → whole_of r.control u ≡ whole_after (whole_of c t) call
unfolding whole_after
promised_whole {call} {c} {t} {u} {r} p = λ i. record { core = p.meets.core i; counts = same i }
  where
    same : counts_of r.control u ≡ counts_after (core_of c t) call (step (core_of c t) call).answer (counts_of c t)
    same =
        fun_ext (λ id. fun_ext (λ count.
        p.counts.each id count
        ∙ ap (λ (a : Answer). counts_after (core_of c t) call a (counts_of c t) id count) p.meets.answer))

defined : {c : Control} {t : Tables} {d : Control} {u : Tables} {trace : Trace} → CallsFrom Promised c t trace d u
    → whole_of d u ≡ whole_behind (whole_of c t) (calls_of trace)
unfolding whole_behind calls_of
defined here = refl
defined (calls_from.called {call = call} calls p) = promised_whole p ∙ ap (λ (w : Whole). whole_after w call) (defined calls)

-- before any accepted open there are none
pub shut_whole : (c : Control) (t : Tables) → core_of c t ≡ unopened → whole_of c t ≡ whole_new
unfolding counts_of runs
shut_whole c t e = go c.opened refl
  where
    none : c.opened ≡ false → (id : ℕ) → counts_of c t id ≡ zeros
    none o id = rw o

    go : (b : Bool) → c.opened ≡ b → whole_of c t ≡ whole_new
    go true o = true-false (ap runs (core_of-opened c t o)) (ap runs e)
    go false o = λ i. record { core = e i; counts = λ id. none o id i }

-- calls that keep their promise are calls that keep the part of it that a run asks for
met : {c : Control} {t : Tables} {d : Control} {u : Tables} {trace : Trace} → CallsFrom Promised c t trace d u → CallsFrom Meets c t trace d u
met here = here
met (calls_from.called calls p) = calls_from.called (met calls) p.meets

module _ {trace : Trace} {d : Control} {u : Tables} (m : Made trace d u) where
  made_whole : whole_of d u ≡ record { core = after scheduler (calls_of trace); counts = counts_behind (calls_of trace) }
  made_whole =
      defined m.calls
      ∙ ap (λ (w : Whole). whole_behind w (calls_of trace)) (shut_whole m.first m.old m.shut)
      ∙ whole_behind_lem (calls_of trace)

  made_core : core_of d u ≡ after scheduler (calls_of trace)
  made_core = ap (λ (w : Whole). w.core) made_whole

  made_counts : counts_of d u ≡ counts_behind (calls_of trace)
  made_counts = ap (λ (w : Whole). w.counts) made_whole

  made_trace : trace ≡ trace_of scheduler (calls_of trace)
  made_trace = from_trace (met m.calls) ∙ ap (λ (x : Core). stretch x (calls_of trace)) m.shut

  made_keeps : (id : ℕ) (count : Count) → counts_of d u id count ≡ wrapped (tallied id trace count)
  made_keeps id count =
      ap (λ (counts : ℕ → Tally). counts id count) made_counts
      ∙ counted.keeps (calls_of trace) id count
      ∙ ap (λ (t : Trace). wrapped (tallied id t count)) (sym made_trace)

  made_settles : (id : ℕ) → Settles (counts_of d u id) (core_of d u) id
  made_settles id = rw (made_counts, made_core) (counted.settles_kept (calls_of trace) id)

made_private : (chosen : ℕ) {one other : Trace} {c d : Control} {t u : Tables} → Made one c t → Made other d u
    → kept chosen one ≡ kept chosen other
    → count_sheet (core_of c t) (counts_of c t) chosen ≡ count_sheet (core_of d u) (counts_of d u) chosen
made_private chosen {one} {other} m n e =
    rw (made_counts m, made_core m, made_counts n, made_core n)
    (sheet_same chosen (calls_of one) (calls_of other)
    (ap (kept chosen) (sym (made_trace m)) ∙ e ∙ ap (kept chosen) (made_trace n)))

-- two cores that mean the same, with the same counts, on which the same is called
pub counts_alike : {c d e f : Control} {t u v w : Tables} {first second : Trace} → whole_of d u ≡ whole_of c t
    → CallsFrom Promised c t first e v → CallsFrom Promised d u second f w → calls_of second ≡ calls_of first
    → counts_of f w ≡ counts_of e v
counts_alike {first = first} same one other e =
    ap (λ (x : Whole). x.counts)
    (defined other ∙ ap (whole_behind _) e ∙ ap (λ (x : Whole). whole_behind x (calls_of first)) same ∙ sym (defined one))

pub code_counts : CodeCounts
code_counts = record { defined = defined; keeps = made_keeps; settles = made_settles; private = made_private }
