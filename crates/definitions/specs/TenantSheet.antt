-- "Nothing that other private tenants send or load alters a line of it" (paper 02, S-5): the sheet of a private tenant over whole
-- histories. And what the notes of a slot are worth: which rule each of them stands for.
use Rattle.std.specs.Prelude.{ℕ, ◌<◌, ◌≡◌, ◌≢◌, cond, List, [], ◌∷◌, None}
use Rattle.definitions.specs.declared.Note.{Note}
use Rattle.definitions.specs.declared.Note.TheVariants.{Told, ToIndifferent, ToAnother}
use Rattle.definitions.specs.declared.Outcome.TheVariants.{None as Nobody}
use Rattle.definitions.specs.Sizes.{ids, first_come}
use Rattle.definitions.specs.Draw.{sum_below, draw}
use Rattle.definitions.specs.Client.{private}
use Rattle.definitions.specs.State.{State, Core, running}
use Rattle.definitions.specs.Tick.{rule1, rule2, rule3, rule_of, contender_rate, private_rate, turn, outcome_by}
use Rattle.definitions.specs.History.{History, start, ◌then◌, Place, calls, scheduler, after, trace_of}
use Rattle.definitions.specs.Sameness.{is_tick, kept}
use Rattle.definitions.specs.Limits.{StateLimits}
use Rattle.definitions.specs.Notes.{drawn_reason, operator_note, tenant_note}

-- what a sheet tells of each tick of a history, latest first
unfoldable pub notes_of : (Core → Note) → History → List Note
notes_of note start = []
notes_of note (h then c) = cond (is_tick c) (note (after scheduler h) ∷ notes_of note h) (notes_of note h)

-- Any tenant, any two histories whose kept calls for it are equal, and any place of either at which both have as many of these
-- behind them: the sheet is the same up to there, line by line. Ticks are kept, so the n-th line of one is of the n-th tick of both.
unfoldable pub TenantSheets : Type 0
TenantSheets =
    (tenant : ℕ) (H K : History)
    → kept tenant (trace_of scheduler H) ≡ kept tenant (trace_of scheduler K)
    → (h k : History)
    → Place h H
    → Place k K
    → calls (kept tenant (trace_of scheduler h)) ≡ calls (kept tenant (trace_of scheduler k))
    → notes_of (tenant_note tenant) h ≡ notes_of (tenant_note tenant) k

-- what the operator is told of a slot, rule by rule, on any state
pub record OperatorTold (s : State) : Type 0 where
  -- by discipline 0 nobody is drawn, and somebody has the slot
  pub served : rule_of s ≡ rule1 → s.discipline ≡ first_come
      → (operator_note (running s) ≡ Told (outcome_by rule1 (turn s).id s) None) × (outcome_by rule1 (turn s).id s ≢ Nobody)
  -- by discipline 1, and among the private, the target and the sum are those of the draw
  pub drawn : rule_of s ≡ rule1 → s.discipline ≢ first_come
      → let d = (draw s.side.generator (contender_rate s)).sample in
      (operator_note (running s) ≡ Told (outcome_by rule1 (turn s).id s) (drawn_reason d.target d.sum))
      × (d.sum ≡ sum_below ids (contender_rate s))
  pub privately : rule_of s ≡ rule2
      → let d = (draw s.side.generator (private_rate s.clients)).sample in
      (operator_note (running s) ≡ Told (outcome_by rule2 (turn s).id s) (drawn_reason d.target d.sum))
      × (d.sum ≡ sum_below ids (private_rate s.clients))
  pub nobody : rule_of s ≡ rule3 → operator_note (running s) ≡ Told Nobody None

-- what a private tenant is told of a slot, rule by rule; nobody's slot does not come up while it is active
pub record TenantTold (s : State) (id : ℕ) : Type 0 where
  pub to_indifferent : rule_of s ≡ rule1 → tenant_note id (running s) ≡ ToIndifferent
  pub to_another : rule_of s ≡ rule2 → (turn s).id ≢ id → tenant_note id (running s) ≡ ToAnother
  pub own : rule_of s ≡ rule2 → (turn s).id ≡ id → tenant_note id (running s) ≡ operator_note (running s)
  pub somebody : rule_of s ≢ rule3

pub record NotesTold : Type 0 where
  pub operator : (s : State) → OperatorTold s
  -- within the limits, as every state is that a history reaches (Limits)
  pub tenant : (s : State) (id : ℕ) → StateLimits s → id < ids → (s.clients id).kind ≡ private → TenantTold s id
