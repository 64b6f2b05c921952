-- Which ids are indifferent: what the paper reads off the accepted opens, joins, changes and leaves is the kind that the
-- core holds. By induction on the history; what one call does is told by Readings. Assumes nothing.
use Prim.Native.Nat.{ℕ}
use mathlib.Core.Path.{◌≡◌, refl, sym, ap, ◌∙◌}
use mathlib.Core.Bool.{Bool, true, false, cond}
use lib.Dec.{eqb}
use Rattle.definitions.specs.Event.{Event}
use Rattle.definitions.specs.Sizes.{indifferent_kind}
use Rattle.definitions.specs.Client.{Client, is_indifferent, kind_of, same_kind, joining, retuned, changed, charged, refilled}
use Rattle.definitions.specs.State.{Core, unopened}
use Rattle.definitions.specs.Answers.{is_accepted}
use Rattle.definitions.specs.Core.{step}
use Rattle.definitions.specs.History.{History, start, ◌then◌, Dealing, Trace, client_of, scheduler, after, answer_at, dealing_at, trace_of}
use Rattle.definitions.specs.Sameness.{indifferent_by, indifferent_since, indifferent_at}
use Rattle.definitions.specs.Stretch.{stretch, behind}
use Rattle.definitions.proofs.Laws.Kinds.{same_kind-true, kind_of_indifferent}
use Rattle.definitions.proofs.Readings.{Reading, told}

-- what the calls of a history get, as they are defined
abbrev pub trace : History → Trace
trace h = trace_of scheduler h

abbrev pub dealt : History → Event → Dealing
dealt h c = dealing_at scheduler h c

-- whether an id is indifferent in a core
unfoldable pub holds_indifferent : ℕ → Core → Bool
holds_indifferent id core = is_indifferent (client_of core id).kind

changed_indifferent : (c : Client) (kind rate burst : ℕ)
    → is_indifferent (changed c kind rate burst).kind ≡ eqb kind indifferent_kind
unfolding changed retuned joining
changed_indifferent c kind rate burst = go (same_kind c.kind (kind_of kind)) refl ∙ kind_of_indifferent kind
  where
    go : (b : Bool) → same_kind c.kind (kind_of kind) ≡ b
        → is_indifferent (cond b (retuned c rate burst) (joining kind rate burst)).kind ≡ is_indifferent (kind_of kind)
    go true e = ap is_indifferent (same_kind-true c.kind (kind_of kind) e)
    go false e = refl

indifferent_reading : (id : ℕ) → Reading id (λ c. is_indifferent c.kind) (indifferent_by id)
unfolding indifferent_by joining charged refilled
indifferent_reading id = record {
  opened = λ threshold discipline seed was. refl;
  joined = λ other kind rate burst was. rw (kind_of_indifferent kind);
  altered = λ c other kind rate burst was. rw (changed_indifferent c kind rate burst);
  left = λ other was. refl;
  load = λ other dummies was. refl;
  arrive = λ other p was. refl;
  charge = λ c. refl;
  refill = λ c. refl;
}

-- whether an id is indifferent after a call, from whether it was and what the call got
pub told_indifferent : (id : ℕ) (core : Core) (c : Event)
    → is_indifferent (client_of (step core c).core id).kind
    ≡ cond (is_accepted (step core c).answer) (indifferent_by id c (is_indifferent (client_of core id).kind))
    (is_indifferent (client_of core id).kind)
told_indifferent id = told id (λ c. is_indifferent c.kind) (indifferent_by id) (indifferent_reading id)

-- so in any calls from any core on, and in a history
pub indifferent_since_lem : (core : Core) (id : ℕ) (h : History)
    → indifferent_since (holds_indifferent id core) id (stretch core h) ≡ holds_indifferent id (behind core h)
unfolding indifferent_since trace_of dealing_at after answer_at holds_indifferent
indifferent_since_lem core id start = refl
indifferent_since_lem core id (h then c) = rw (indifferent_since_lem core id h) (sym (told_indifferent id (behind core h) c))

pub indifferent_held : (id : ℕ) (h : History) → indifferent_at id (trace h) ≡ holds_indifferent id (after scheduler h)
unfolding holds_indifferent client_of
indifferent_held id h = indifferent_since_lem unopened id h
