-- What a note tells, rule by rule: the definitions of the turn, read off, and, within the limits, that rule 1 picks an indifferent
-- client and rule 2 a private one. Assumes nothing.
use Prim.Native.Nat.{ℕ, ◌<◌}
use mathlib.Core.Path.{◌≡◌, refl, sym, ap, ap₂, ◌∙◌}
use mathlib.Core.Logic.{◌≢◌}
use mathlib.Core.Bool.{Bool, true, false, cond, true≢false, false≢true}
use lib.Dec.{eqb}
use borrow.Author.Tests.{eq-eqb, ne_eqb, lt-ltb}
use Rattle.definitions.specs.declared.Outcome.{Outcome}
use Rattle.definitions.specs.declared.Answer.{Answer}
use Rattle.definitions.specs.declared.Answer.TheVariants.{Slot}
use Rattle.definitions.specs.declared.Note.TheVariants.{Told}
use Rattle.definitions.specs.Sizes.{ids, first_come}
use Rattle.definitions.specs.Draw.{draw}
use Rattle.definitions.specs.Client.{indifferent, private, is_indifferent, is_private, refilled}
use Rattle.definitions.specs.State.{State, Core, unopened, running, updated}
use Rattle.definitions.specs.Checks.{first_failed, active_checks}
use Rattle.definitions.specs.Tick.{Rule, rule1, rule2, rule3, rule_of, first_turn, turn_by, turn, outcome_by, sent, refill_all, slotted, on_tick}
use Rattle.definitions.specs.Event.{Event, Open, Join, Change, Leave, Load, Arrive, Tick}
use Rattle.definitions.specs.Core.{step}
use Rattle.definitions.specs.Sameness.{is_tick}
use Rattle.definitions.specs.Limits.{StateLimits}
use Rattle.definitions.specs.Notes.{Reason, reason_of, note_of, operator_note, holder, went_to, seen_by, tenant_checks, tenant_seen, tenant_note}
use Rattle.definitions.specs.TenantSheet.{OperatorTold, TenantTold, NotesTold}
use Rattle.definitions.proofs.Laws.Tests.{true-false}
use Rattle.definitions.proofs.Laws.Rules.{rule-cases, turn-rule, sent-holder, sent_somebody}
use Rattle.definitions.proofs.Sample.{sample-sum}
use Rattle.definitions.proofs.Limits.Turns.{rule1_contender, rule2_private}

-- an indifferent client is not a private one, and rule 3 is neither of the others
kinds_apart : indifferent ≡ private → ⊥
kinds_apart e = true≢false (ap is_indifferent e)

is_third : Rule → Bool
is_third rule1 = false
is_third rule2 = false
is_third rule3 = true

rule1_third : rule1 ≡ rule3 → ⊥
unfolding is_third
rule1_third e = false≢true (ap is_third e)

rule2_third : rule2 ≡ rule3 → ⊥
unfolding is_third
rule2_third e = false≢true (ap is_third e)

module _ (s : State) where
  -- what is told where the rule is known
  told-turn : (r : Rule) → rule_of s ≡ r
      → operator_note (running s) ≡ Told (outcome_by r (turn s).id s) (reason_of (turn_by r s).draws)
  unfolding operator_note step on_tick note_of turn
  told-turn r e =
      ap₂ (λ (x y : Rule). Told (outcome_by x (turn s).id s) (reason_of (turn_by y s).draws)) (turn-rule s ∙ e) e

  operator_told : OperatorTold s
  unfolding turn_by first_turn reason_of outcome_by draw
  operator_told = record {
    served = λ e first. (
      told-turn rule1 e ∙ rw (eq-eqb s.discipline first_come first),
      sent_somebody (turn s).id (s.clients (turn s).id) (s.side.stocks (turn s).id),
    );
    drawn = λ e other. (
      told-turn rule1 e ∙ rw (ne_eqb s.discipline first_come other),
      sample-sum _ s.side.generator,
    );
    privately = λ e. (told-turn rule2 e, sample-sum _ s.side.generator);
    nobody = λ e. told-turn rule3 e;
  }

  module _ (id : ℕ) (known : StateLimits s) (below : id < ids) (own : (s.clients id).kind ≡ private) where
    -- no check fails
    seen_slot : tenant_note id (running s) ≡ seen_by s id (on_tick s).answer (reason_of (turn s).draws)
    unfolding tenant_note tenant_seen tenant_checks first_failed active_checks step
    seen_slot = rw (lt-ltb id ids below, own)

    -- by rule 1 or 2, from the kind of the client that has the slot
    seen_turn : (r : Rule) → rule_of s ≡ r
        → outcome_by r (turn s).id s ≡ sent (turn s).id (s.clients (turn s).id) (s.side.stocks (turn s).id)
        → tenant_note id (running s)
        ≡ cond (eqb (turn s).id id) (operator_note (running s)) (went_to (s.clients (turn s).id).kind (operator_note (running s)))
    unfolding operator_note step on_tick seen_by
    seen_turn r e sends =
        let held : holder (on_tick s).answer ≡ (turn s).id =
        ap (λ (x : Rule). holder (Slot (outcome_by x (turn s).id s))) (turn-rule s ∙ e) ∙ ap (λ (o : Outcome). holder (Slot o)) sends
        ∙ sent-holder (turn s).id (s.clients (turn s).id) (s.side.stocks (turn s).id) in
        seen_slot ∙ rw held

    tenant_told : TenantTold s id
    unfolding outcome_by
    tenant_told = record {
      to_indifferent = λ e.
          let kind = (rule1_contender s known e).indifferently in
          let other : (turn s).id ≢ id = λ same. kinds_apart (sym kind ∙ ap (λ (j : ℕ). (s.clients j).kind) same ∙ own) in
          seen_turn rule1 e refl ∙ rw (ne_eqb (turn s).id id other, kind);
      to_another = λ e other. seen_turn rule2 e refl ∙ rw (ne_eqb (turn s).id id other, rule2_private s known e);
      own = λ e same. seen_turn rule2 e refl ∙ rw (eq-eqb (turn s).id id same);
      somebody = λ e.
          rule-cases (λ r. r ≡ rule3 → ⊥) s (λ j low waits. rule1_third) (λ none j low secret. rule2_third)
          (λ none none_secret f. true-false (ap is_private own) (none_secret id below))
          e;
    }

-- of a tick alone anything is told
pub tick_event : (call : Event) → is_tick call ≡ true → call ≡ Tick
unfolding is_tick
tick_event (Open threshold discipline seed) e = true-false e refl
tick_event (Join id kind rate burst) e = true-false e refl
tick_event (Change id kind rate burst) e = true-false e refl
tick_event (Leave id) e = true-false e refl
tick_event (Load id dummies) e = true-false e refl
tick_event (Arrive id packet) e = true-false e refl
tick_event Tick e = refl

-- a tick leaves every client's kind as it was, and so what a tenant is told of an answer and a reason
pub seen_after : (id : ℕ) (core : Core) (answer : Answer) (reason : Reason)
    → tenant_seen id (step core Tick).core answer reason ≡ tenant_seen id core answer reason
unfolding tenant_seen step on_tick slotted updated refill_all refilled seen_by tenant_checks active_checks
seen_after id unopened answer reason = refl
seen_after id (running s) answer reason = refl

pub notes_told : NotesTold
notes_told = record { operator = operator_told; tenant = λ s id known below own. tenant_told s id known below own }
