-- The calls behind a run are a stretch of the definitions, from the core that the tables of the run mean; so the bound, S-4, S-10
-- and S-14 hold of what the code gave. That the core is within its limits is so of every run. Assumes nothing.
use Prim.Native.Nat.{ℕ, suc, ◌+◌, ◌≤◌}
use mathlib.Core.Path.{◌≡◌, subst⁻¹}
use lib.Dec.{T}
use Rattle.definitions.specs.Client.{is_indifferent}
use Rattle.definitions.specs.History.{History, Trace, client_of}
use Rattle.definitions.specs.Stretch.{stretch, ticks, undisturbed, acceptances, tokens, bought}
use Rattle.definitions.specs.Bound.{Bound}
use Rattle.definitions.specs.Greedy.{Greedy}
use Rattle.definitions.specs.Guarantee.{steady, picks, demand, sure}
use Rattle.definitions.specs.Switching.{bucket_of, refills, top_rate, admissions, affordable, BySpells, ByTicks}
use Rattle.definitions.proofs.Bound.{bound}
use Rattle.definitions.proofs.Limits.Client.{indifferent_limits}
use Rattle.definitions.proofs.Stretches.Greedy.{greedy_exact}
use Rattle.definitions.proofs.Stretches.Guarantee.{guarantee as guaranteed}
use Rattle.definitions.proofs.Stretches.Switching.{switching as switched}
use Rattle.tables.specs.declared.Control.{Control}
use Rattle.tables.specs.declared.Tables.{Tables}
use Rattle.tables.specs.Meaning.{core_of}
use Rattle.tables.specs.Promise.{Meets}
use Rattle.tables.specs.Run.{core_after, calls_of}
use Rattle.tables.specs.CallsFrom.{CallsFrom}
use Rattle.tables.specs.CodeStretch.{CodeStretch}
use Rattle.tables.proofs.DefinedCalls.{from_trace}
use Rattle.tables.proofs.Runs.{run_limits}

-- what is so of every stretch of the definitions from a core on is so of the traces of calls from tables that mean it
of_calls : (P : Trace → Type 0) {c d : Control} {t u : Tables} {trace : Trace}
    → CallsFrom Meets c t trace d u
    → ((calls : History) → P (stretch (core_of c t) calls))
    → P trace
of_calls P {trace = trace} calls all = subst⁻¹ P (from_trace calls) (all (calls_of trace))

pub code_stretch : CodeStretch
unfolding Bound BySpells ByTicks core_after
code_stretch = record {
  bound = λ run id calls.
      of_calls
      (λ t. T (is_indifferent (client_of (core_after run) id).kind)
      → T (undisturbed id t)
      → acceptances id t ≤ bought (client_of (core_after run) id) (ticks t))
      calls
      (bound (core_after run) id);
  greedy = λ run id calls.
      of_calls
      (λ t. Greedy id (client_of (core_after run) id) t → acceptances id t ≡ bought (client_of (core_after run) id) (ticks t))
      calls
      (λ history greedy.
      greedy_exact.anywhere (core_after run) id history
      (indifferent_limits (core_after run) id (run_limits.limits run) greedy.indifferently).active.rate_high
      greedy);
  spells = λ run id calls.
      of_calls
      (λ t. admissions id (client_of (core_after run) id) t ≤ affordable id (client_of (core_after run) id) t)
      calls
      (switched.by_spells (core_after run) id);
  switching = λ run id calls.
      of_calls
      (λ t. admissions id (client_of (core_after run) id) t
      ≤ tokens (bucket_of (client_of (core_after run) id)) (top_rate id (client_of (core_after run) id) t)
      (refills id (client_of (core_after run) id) t))
      calls
      (switched.by_ticks (core_after run) id);
  guarantee = λ run calls active.
      of_calls (λ t. T (steady t) → ticks t ≤ picks t + demand (core_after run) (ticks t)) calls
      (λ history. guaranteed.anywhere (core_after run) history (run_limits.limits run) active);
  sharper = λ run calls active.
      of_calls (λ t. T (steady t) → (m : ℕ) → ticks t ≡ suc m → suc m ≤ picks t + demand (core_after run) m) calls
      (λ history. guaranteed.sharper (core_after run) history (run_limits.limits run) active);
  figure = λ run calls.
      of_calls (λ t. T (steady t) → (m : ℕ) → m ≤ ticks t → sure (core_after run) m ≤ picks t) calls
      (λ history. guaranteed.figure (core_after run) history (run_limits.limits run));
}
