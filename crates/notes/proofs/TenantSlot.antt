-- What a tenant is told, from the number of its checks, whose slot it was and the marks of that id. By cases on these. Assumes nothing.
use Prim.Native.Nat.{ℕ, zero, suc, ◌^◌, ◌≤◌, ◌<◌}
use mathlib.Core.Path.{◌≡◌, refl, sym, ap, ◌∙◌}
use mathlib.Core.Logic.{◌≢◌}
use mathlib.Core.Bool.{Bool, true, false, cond, true≢false}
use native.Mathlib.Nat.{lt_of_not-le}
use lib.Dec.{eqb, ltb}
use borrow.Author.Tests.{eq-eqb, ne_eqb, lt-ltb, le-ltb, ltb-true}
use Rattle.definitions.specs.declared.Answer.{Answer}
use Rattle.definitions.specs.declared.Note.{Note}
use Rattle.definitions.specs.declared.Note.TheVariants.{Refusal, ToIndifferent, ToAnother}
use Rattle.definitions.specs.Sizes.{ids}
use Rattle.definitions.specs.Client.{Kind, absent, indifferent, private}
use Rattle.definitions.specs.State.{unopened, running}
use Rattle.definitions.specs.Checks.{first_failed}
use Rattle.definitions.specs.Notes.{Reason, note_of, holder, went_to, seen_by, tenant_checks, unless_refused, tenant_seen}
use Rattle.marks.specs.Marks.{marked}
use Rattle.marks.proofs.Bits.{marked_past}
use Rattle.tables.specs.declared.Control.{Control}
use Rattle.tables.specs.declared.Tables.{Tables}
use Rattle.tables.specs.Meaning.{kind_at, client_at, clients_of, state_of, core_of}
use Rattle.tables.specs.Numbers.{refusal}

-- a mark in a word is that of an id
marked_below : (word id : ℕ) → word < 2 ^ 64 → marked word id ≡ true → id < ids
unfolding ids
marked_below word id fits e =
    lt_of_not-le (λ (past : 64 ≤ id). true≢false (sym e ∙ marked_past 64 word id fits past))

unless_some : (n : ℕ) (note : Note) → n ≢ 0 → Refusal n ≡ unless_refused n note
unless_some zero note some = absurd (some refl)
unless_some (suc n) note some = refl

module _ (c : Control) (t : Tables) (id : ℕ) (answer : Answer) (reason : Reason) {n : ℕ}
    (number : n ≡ refusal c t (λ s. tenant_checks s id)) where
  seen_number : tenant_seen id (core_of c t) answer reason ≡ unless_refused n (seen_by (state_of c t) id answer reason)
  unfolding core_of tenant_seen refusal
  seen_number = go c.opened number
    where
      seen : Note
      seen = seen_by (state_of c t) id answer reason

      go : (opened : Bool) → n ≡ cond opened (first_failed (tenant_checks (state_of c t) id)) 19
          → tenant_seen id (cond opened (running (state_of c t)) unopened) answer reason ≡ unless_refused n seen
      go true e = ap (λ (m : ℕ). unless_refused m seen) (sym e)
      go false e = ap (λ (m : ℕ). unless_refused m seen) (sym e)

  pub told-refused : n ≢ 0 → Refusal n ≡ tenant_seen id (core_of c t) answer reason
  told-refused some = unless_some n (seen_by (state_of c t) id answer reason) some ∙ sym seen_number

  module _ (none : n ≡ 0) where
    seen_slot : seen_by (state_of c t) id answer reason ≡ tenant_seen id (core_of c t) answer reason
    seen_slot = ap (λ (m : ℕ). unless_refused m (seen_by (state_of c t) id answer reason)) (sym none) ∙ sym seen_number

    pub told_own : holder answer ≡ id → note_of answer reason ≡ tenant_seen id (core_of c t) answer reason
    told_own own = unfold seen_by in rw (eq-eqb (holder answer) id own) at seen_slot

    -- a slot of what is no id is told whole, whoever asks
    pub told-nobody : ids ≤ holder answer → note_of answer reason ≡ tenant_seen id (core_of c t) answer reason
    unfolding seen_by state_of clients_of
    told-nobody past = go (eqb (holder answer) id) (rw (le-ltb (holder answer) ids past) at seen_slot)
      where
        note : Note
        note = note_of answer reason

        go : (b : Bool) → cond b note note ≡ tenant_seen id (core_of c t) answer reason
            → note ≡ tenant_seen id (core_of c t) answer reason
        go true e = e
        go false e = e

    module _ (other : holder answer ≢ id) where
      -- another's slot is told by the kind of its client
      told_kind : (kind : Kind) → ((state_of c t).clients (holder answer)).kind ≡ kind
          → went_to kind (note_of answer reason) ≡ tenant_seen id (core_of c t) answer reason
      told_kind kind e = unfold seen_by in rw (ne_eqb (holder answer) id other, e) at seen_slot

      -- the kind, by the two marks, which an id alone has
      marked_kind : (a b : Bool) → marked c.indifferent (holder answer) ≡ a → marked c.private (holder answer) ≡ b
          → holder answer < ids
          → ((state_of c t).clients (holder answer)).kind ≡ cond a indifferent (cond b private absent)
      unfolding state_of clients_of client_at kind_at
      marked_kind a b e f below = rw (lt-ltb (holder answer) ids below, e, f)

      pub told_indifferent : c.indifferent < 2 ^ 64 → marked c.indifferent (holder answer) ≡ true
          → ToIndifferent ≡ tenant_seen id (core_of c t) answer reason
      told_indifferent fits e =
          told_kind indifferent (marked_kind true (marked c.private (holder answer)) e refl (marked_below c.indifferent (holder answer) fits e))

      pub told_another : c.private < 2 ^ 64 → marked c.indifferent (holder answer) ≡ false → marked c.private (holder answer) ≡ true
          → ToAnother ≡ tenant_seen id (core_of c t) answer reason
      told_another fits e f =
          told_kind private (marked_kind false true e f (marked_below c.private (holder answer) fits f))

      pub told_neither : marked c.indifferent (holder answer) ≡ false → marked c.private (holder answer) ≡ false
          → note_of answer reason ≡ tenant_seen id (core_of c t) answer reason
      unfolding state_of clients_of
      told_neither e f = told_kind absent (go (ltb (holder answer) ids) refl)
        where
          go : (b : Bool) → ltb (holder answer) ids ≡ b → ((state_of c t).clients (holder answer)).kind ≡ absent
          go true l = marked_kind false false e f (ltb-true (holder answer) ids l)
          go false l = rw l
