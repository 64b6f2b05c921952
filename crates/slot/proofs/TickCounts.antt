-- What a tick enters in the sheets: what was sent, by the one whose slot it is, who is one of the ids. By cases on the outcome.
-- Assumes nothing.
use Prim.Native.Nat.{ℕ, zero, suc, ◌<◌}
use mathlib.Core.Path.{◌≡◌, refl, sym, ap, ◌∙◌}
use mathlib.Core.Bool.{Bool, true, false}
use mathlib.Core.List.{List, [], ◌∷◌}
use Rattle.definitions.specs.declared.Packet.{Packet}
use Rattle.definitions.specs.declared.Outcome.{Outcome}
use Rattle.definitions.specs.declared.Outcome.TheVariants.{Real, Dummy, Idle, None}
use Rattle.definitions.specs.declared.Answer.TheVariants.{Refused, Slot}
use Rattle.definitions.specs.Event.{Tick}
use Rattle.definitions.specs.Sizes.{ids}
use Rattle.definitions.specs.Client.{Client}
use Rattle.definitions.specs.Stock.{Stock}
use Rattle.definitions.specs.State.{State}
use Rattle.definitions.specs.Counts.{count_sent, count_dummies, more, entry_of_refused, entry_of_slot, entry_of, entered}
use Rattle.definitions.specs.Tick.{Rule, rule1, rule2, rule3, turn, sent_from, sent, outcome_by}
use Rattle.definitions.proofs.Laws.Rules.{turn-rule}
use Rattle.definitions.proofs.Limits.Turns.{rule1_below, rule2_below}
use Rattle.counts.specs.CountTable.{Entered, SenderBelow}
use Rattle.tables.specs.declared.Control.{Control}
use Rattle.tables.specs.declared.Answered.{Answered}
use Rattle.tables.specs.declared.Tables.{Tables}
use Rattle.tables.specs.Meaning.{state_of}
use Rattle.tables.specs.Invariant.{Valid}
use Rattle.tables.specs.Counting.{Counts}
use Rattle.tables.proofs.Countings.{IdleOutside, idle-one, counted, counts_refused}
use Rattle.slot.specs.declared.Sent.{Sent}
use Rattle.slot.specs.Slots.{Done}

sent_below : (id : ℕ) (c : Client) (k : Stock) → id < ids → SenderBelow (sent id c k)
unfolding sent
sent_below id c k below = go k.pool k.queue
  where
    go : (pool : ℕ) (queue : List Packet) → SenderBelow (sent_from id c pool queue)
    go zero [] = tt
    go (suc n) [] = below
    go pool (p ∷ queue) = below

-- what is entered goes by the outcome alone
slot_entry : (outcome : Outcome) (id : ℕ) (indifferent : Bool) (waiting : ℕ)
    → entry_of_slot id false 0 outcome ≡ entry_of_slot id indifferent waiting outcome
unfolding entry_of_slot
slot_entry (Real other packet padding) id indifferent waiting = refl
slot_entry (Dummy other) id indifferent waiting = refl
slot_entry (Idle other) id indifferent waiting = refl
slot_entry None id indifferent waiting = refl

slot_idle : (c : Control) (outcome : Outcome) → c.opened ≡ true → SenderBelow outcome
    → IdleOutside c (λ (id : ℕ). entry_of_slot id false 0 outcome)
unfolding entry_of_slot entered
slot_idle c (Real other packet padding) o below = idle-one c other (more count_sent 1) o below
slot_idle c (Dummy other) o below = idle-one c other (more count_dummies 1) o below
slot_idle c (Idle other) o below = λ id none count. refl
slot_idle c None o below = λ id none count. refl

module _ (c : Control) (t : Tables) (valid : Valid c t) where
  pub tick_refused_counts : (r : Answered) → r ≡ record { control = c; answer = Refused 19 } → Counts Tick c t r t
  unfolding entry_of_refused
  tick_refused_counts r e = counts_refused 19 e refl (λ id indifferent waiting. refl)

  module _ (ready : c.opened ≡ true) (r : Sent) (u : Tables) (done : Done c t r u) where
    abbrev s : State
    s = state_of c t

    pub tick_sender : SenderBelow r.outcome
    unfolding outcome_by
    tick_sender = rw done.outcome (go (turn s).rule refl)
      where
        go : (rule : Rule) → (turn s).rule ≡ rule → SenderBelow (outcome_by rule (turn s).id s)
        go rule1 e = sent_below (turn s).id _ _ (rule1_below s (valid ready).limits (sym (turn-rule s) ∙ e))
        go rule2 e = sent_below (turn s).id _ _ (rule2_below s (valid ready).limits (sym (turn-rule s) ∙ e))
        go rule3 e = tt

    pub tick_counts : (v : Tables) (a : Answered) → a ≡ record { control = r.control; answer = Slot r.outcome }
        → Entered (λ (id : ℕ). entry_of_slot id false 0 r.outcome) t.counts v.counts
        → Counts Tick c t a v
    unfolding entry_of
    tick_counts v a e after =
        counted valid (ap (λ (x : Answered). x.control.opened) e ∙ done.opened) after
        (λ id. rw e (slot_entry r.outcome id _ _))
        (slot_idle c r.outcome ready tick_sender)
