-- A private tenant's sheet, by erasure: what it is told of a slot is the same on a core and on its erasure, since a slot of a hidden
-- client is told by its type alone. So a history and the history of its kept calls have one sheet. Assumes nothing.
use Prim.Native.Nat.{ℕ}
use mathlib.Core.Path.{◌≡◌, refl, sym, ap, ap₂, ◌∙◌}
use mathlib.Core.Bool.{Bool, true, false, cond, not}
use mathlib.Core.List.{List, ◌∷◌}
use lib.Dec.{eqb}
use borrow.Author.Tests.{not-true}
use Rattle.definitions.specs.declared.Outcome.{Outcome}
use Rattle.definitions.specs.declared.Answer.TheVariants.{Slot}
use Rattle.definitions.specs.declared.Note.{Note}
use Rattle.definitions.specs.declared.Note.TheVariants.{ToAnother}
use Rattle.definitions.specs.Client.{is_private}
use Rattle.definitions.specs.Stock.{Stock}
use Rattle.definitions.specs.State.{State, Core, unopened, running}
use Rattle.definitions.specs.Checks.{first_failed, active_checks}
use Rattle.definitions.specs.Tick.{Rule, rule1, rule2, rule3, turn, outcome_by, sent, on_tick}
use Rattle.definitions.specs.Core.{step}
use Rattle.definitions.specs.History.{History, start, ◌then◌, scheduler, after, dealing_at, trace_of}
use Rattle.definitions.specs.Sameness.{is_tick, is_struck, kept}
use Rattle.definitions.specs.Notes.{Reason, reason_of, seen_by, tenant_checks, unless_refused, tenant_seen, tenant_note}
use Rattle.definitions.specs.TenantSheet.{notes_of, TenantSheets}
use Rattle.definitions.proofs.Laws.Tests.{true-false, and_both}
use Rattle.definitions.proofs.Laws.Kinds.{private_kind_lem}
use Rattle.definitions.proofs.Laws.Rules.{sent-holder}
use Rattle.definitions.proofs.Sameness.Erase.{hidden, erase, erase_core}
use Rattle.definitions.proofs.Sameness.Slot.{turn_erased, outcome_erased}
use Rattle.definitions.proofs.Sameness.Kinds.{trace}
use Rattle.definitions.proofs.Sameness.Histories.{AlikeAt, kept_alike_lem}
use Rattle.definitions.proofs.Sameness.Theorem.{not_tick_struck, kept-behind}

module _ (tenant : ℕ) where
  -- ---- one slot

  -- a slot of a hidden client goes to another private one, whatever it sends
  hidden_seen : (s : State) (id : ℕ) (k : Stock) (reason : Reason) → hidden tenant id (s.clients id) ≡ true
      → seen_by s tenant (Slot (sent id (s.clients id) k)) reason ≡ ToAnother
  unfolding seen_by hidden
  hidden_seen s id k reason e =
      let apart = and_both (is_private (s.clients id).kind) (not (eqb id tenant)) e in
      rw (sent-holder id (s.clients id) k, not-true (eqb id tenant) apart.1, private_kind_lem (s.clients id).kind apart.0)

  outcome_seen : (s : State) (r : Rule) (id : ℕ) (reason : Reason)
      → seen_by s tenant (Slot (outcome_by r id s)) reason ≡ seen_by s tenant (Slot (outcome_by r id (erase tenant s))) reason
  unfolding outcome_by erase
  outcome_seen s r id reason = go (hidden tenant id (s.clients id)) refl r
    where
      go : (b : Bool) → hidden tenant id (s.clients id) ≡ b → (r : Rule)
          → seen_by s tenant (Slot (outcome_by r id s)) reason ≡ seen_by s tenant (Slot (outcome_by r id (erase tenant s))) reason
      go false e r = ap (λ (o : Outcome). seen_by s tenant (Slot o) reason) (outcome_erased tenant s r id e)
      go true e rule1 = hidden_seen s id _ reason e ∙ sym (hidden_seen s id _ reason e)
      go true e rule2 = hidden_seen s id _ reason e ∙ sym (hidden_seen s id _ reason e)
      go true e rule3 = refl

  slot_seen : (s : State)
      → seen_by s tenant (on_tick s).answer (reason_of (turn s).draws)
      ≡ seen_by s tenant (on_tick (erase tenant s)).answer (reason_of (turn (erase tenant s)).draws)
  unfolding on_tick
  slot_seen s = rw (turn_erased tenant s) (outcome_seen s (turn s).rule (turn s).id (reason_of (turn s).draws))

  note_erased : (core : Core) → tenant_note tenant core ≡ tenant_note tenant (erase_core tenant core)
  unfolding tenant_note tenant_seen erase_core step
  note_erased unopened = refl
  note_erased (running s) =
      unfold tenant_checks active_checks erase seen_by in
      ap (unless_refused (first_failed (tenant_checks s tenant))) (slot_seen s)

  -- ---- whole histories

  alike_note : {h k : History} → AlikeAt tenant h k → tenant_note tenant (after scheduler h) ≡ tenant_note tenant (after scheduler k)
  alike_note {h} {k} a =
      note_erased (after scheduler h) ∙ ap (tenant_note tenant) a.cores ∙ sym (note_erased (after scheduler k))

  sheet : History → List Note
  sheet h = notes_of (tenant_note tenant) h

  sheet-kept : (h : History) → sheet h ≡ sheet (kept tenant (trace h))
  unfolding sheet notes_of kept trace_of dealing_at
  sheet-kept start = refl
  sheet-kept (h then c) = go (is_struck tenant (trace h) c) refl (is_tick c) refl (sheet-kept h)
    where
      K : History
      K = kept tenant (trace h)

      go : (b : Bool) → is_struck tenant (trace h) c ≡ b → (w : Bool) → is_tick c ≡ w → sheet h ≡ sheet K
          → cond w (tenant_note tenant (after scheduler h) ∷ sheet h) (sheet h) ≡ sheet (cond b K (K then c))
      go true e true f ih = true-false f (not_tick_struck tenant h c e)
      go true e false f ih = ih
      go false e true f ih =
          rw f (ap₂ (λ (note : Note) (rest : List Note). note ∷ rest) (alike_note (kept_alike_lem tenant h)) ih)
      go false e false f ih = rw f ih

  pub sheet_same : (h k : History) → kept tenant (trace h) ≡ kept tenant (trace k)
      → notes_of (tenant_note tenant) h ≡ notes_of (tenant_note tenant) k
  unfolding sheet
  sheet_same h k e = sheet-kept h ∙ ap sheet e ∙ sym (sheet-kept k)

pub tenant_sheets : TenantSheets
unfolding TenantSheets
tenant_sheets tenant H K e h k p q n = sheet_same tenant h k (kept-behind tenant e p q n)
