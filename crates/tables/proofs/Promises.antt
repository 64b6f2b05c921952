-- How a call's promise is met: a refusal gives the first number that fails and leaves all as it was; an accepted call gives
-- a state that is the definition's, and the limits follow from it. Assumes nothing.
use Prim.Native.Nat.{ℕ}
use mathlib.Core.Path.{◌≡◌, refl, sym, ap, subst, ◌∙◌}
use mathlib.Core.Logic.{◌≢◌}
use mathlib.Core.Bool.{Bool, true, false, cond, not, ◌&&◌}
use mathlib.Core.List.{List, [], ◌∷◌}
use native.Mathlib.Omega.{arith}
use lib.Dec.{T, eqb}
use lib.ListN.{length}
use Rattle.definitions.specs.Event.{Event}
use Rattle.definitions.specs.declared.Answer.TheVariants.{Accepted, Refused}
use Rattle.definitions.specs.State.{State, Core, running, unopened}
use Rattle.definitions.specs.Checks.{Result, Check, accepted, refused, checked, unchanged}
use Rattle.definitions.specs.Core.{step}
use Rattle.definitions.specs.Limits.{StateLimits, CoreLimits}
use Rattle.definitions.proofs.Laws.Tests.{true-false, T_and}
use Rattle.definitions.proofs.Laws.Checked.{Passed}
use Rattle.definitions.proofs.Limits.{step-limits}
use Rattle.tables.specs.declared.Control.{Control}
use Rattle.tables.specs.declared.Answered.{Answered}
use Rattle.tables.specs.declared.Tables.{Tables}
use Rattle.tables.specs.Tables.{tables}
use Rattle.tables.specs.Meaning.{packet_at, queue_at, client_at, clients_of, stock_at, stocks_of, order_of, side_of, state_of, core_of}
use Rattle.tables.specs.Invariant.{Shape, SoundCore, Valid}
use Rattle.tables.specs.Numbers.{first_failed, refusal}
use Rattle.tables.specs.Promise.{Meets}
use Rattle.tables.specs.Counting.{Counts}
use Rattle.tables.specs.Places.{may_write, Promised}

-- no check has the number 0
abbrev pub numbered : List Check → Bool
numbered [] = true
numbered (c ∷ cs) = not (eqb c.number 0) && numbered cs

module _ (before : Core) (done : Result) where
  -- a check that fails answers
  pub checked_refused : (cs : List Check)
      → first_failed cs ≢ 0
      → checked cs (unchanged before) done ≡ refused (first_failed cs) before
  unfolding first_failed checked
  checked_refused [] some = absurd (some refl)
  checked_refused (c ∷ cs) some = go c.passed some (checked_refused cs)
    where
      go : (b : Bool) → cond b (first_failed cs) c.number ≢ 0
          → (first_failed cs ≢ 0 → checked cs (unchanged before) done ≡ refused (first_failed cs) before)
          → cond b (checked cs (unchanged before) done) (refused c.number before)
          ≡ refused (cond b (first_failed cs) c.number) before
      go true n rest = rest n
      go false n rest = refl

  -- where none fails, what was to be done is done
  pub checked_done : (cs : List Check) → T (numbered cs) → first_failed cs ≡ 0 → checked cs (unchanged before) done ≡ done
  unfolding first_failed checked
  checked_done [] k none = refl
  checked_done (c ∷ cs) k none = go c.passed c.number k none (λ j. checked_done cs j)
    where
      go : (b : Bool) (n : ℕ) → T (not (eqb n 0) && numbered cs) → cond b (first_failed cs) n ≡ 0
          → (T (numbered cs) → first_failed cs ≡ 0 → checked cs (unchanged before) done ≡ done)
          → cond b (checked cs (unchanged before) done) (refused n before) ≡ done
      go true n t e rest = rest (T_and (not (eqb n 0)) (numbered cs) t).1 e
      go false n t e rest = absurd (T_and (not (eqb 0 0)) (numbered cs) (rw e at t)).0

-- and every check is passed
pub checks_passed : (cs : List Check) → T (numbered cs) → first_failed cs ≡ 0 → Passed cs
unfolding first_failed
checks_passed [] k none = tt
checks_passed (c ∷ cs) k none = go c.passed c.number refl k none (λ j. checks_passed cs j)
  where
    go : (b : Bool) (n : ℕ) → c.passed ≡ b → T (not (eqb n 0) && numbered cs) → cond b (first_failed cs) n ≡ 0
        → (T (numbered cs) → first_failed cs ≡ 0 → Passed cs) → (c.passed ≡ true) × Passed cs
    go true n p t e rest = (p, rest (T_and (not (eqb n 0)) (numbered cs) t).1 e)
    go false n p t e rest = absurd (T_and (not (eqb 0 0)) (numbered cs) (rw e at t)).0

-- A call other than open: what it checks, what it makes of a state, and that the definitions say so.
pub record Checking (call : Event) : Type 0 where
  pub checks : State → List Check
  pub made : State → State
  pub shut : step unopened call ≡ refused 19 unopened
  pub runs : (s : State) → step (running s) call ≡ checked (checks s) (unchanged (running s)) (accepted (made s))
  pub counted : (s : State) → T (numbered (checks s))

pub core_of-opened : (c : Control) (t : Tables) → c.opened ≡ true → core_of c t ≡ running (state_of c t)
unfolding core_of
core_of-opened c t e = rw e

pub core_of_shut : (c : Control) (t : Tables) → c.opened ≡ false → core_of c t ≡ unopened
unfolding core_of
core_of_shut c t e = rw e

-- valid tables mean a core within the limits
pub core_of-limits : (c : Control) (t : Tables) → Valid c t → CoreLimits (core_of c t)
unfolding core_of
core_of-limits c t valid = go c.opened (λ e. (valid e).limits)
  where
    go : (opened : Bool) → (opened ≡ true → StateLimits (state_of c t)) → CoreLimits (cond opened (running (state_of c t)) unopened)
    go true known = known refl
    go false known = tt

module _ (call : Event) (k : Checking call) (c : Control) (t : Tables) (valid : Valid c t) where
  s : State
  s = state_of c t

  -- what the definitions give, once it is known which core this is and how it answers
  told : {core : Core} {r : Result} → core_of c t ≡ core → step core call ≡ r → step (core_of c t) call ≡ r
  told e f = ap (λ (x : Core). step x call) e ∙ f

  -- a refusal leaves control and tables as they were
  pub refused_meets : refusal c t k.checks ≢ 0
      → Meets call c t (record { control = c; answer = Refused (refusal c t k.checks) }) t
  unfolding refusal s
  refused_meets = go c.opened refl
    where
      go : (b : Bool) → c.opened ≡ b → cond b (first_failed (k.checks (state_of c t))) 19 ≢ 0
          → Meets call c t (record { control = c; answer = Refused (cond b (first_failed (k.checks (state_of c t))) 19) }) t
      go true e some =
          let o = core_of-opened c t e in
          let r = told o (k.runs s ∙ checked_refused (running s) (accepted (k.made s)) (k.checks s) some) in
          record {
            answer = ap (λ (q : Result). q.answer) (sym r);
            core = o ∙ ap (λ (q : Result). q.core) (sym r);
            valid = valid;
          }
      go false e some =
          let o = core_of_shut c t e in
          let r = told o k.shut in
          record {
            answer = ap (λ (q : Result). q.answer) (sym r);
            core = o ∙ ap (λ (q : Result). q.core) (sym r);
            valid = valid;
          }

  -- the same of what a function returned
  pub refused_with_lem : (r : Answered) (n : ℕ) → r ≡ record { control = c; answer = Refused n } → n ≡ refusal c t k.checks → n ≢ 0
      → Meets call c t r t
  refused_with_lem r n e f some =
      rw e (subst (λ (m : ℕ). Meets call c t (record { control = c; answer = Refused m }) t) (sym f)
      (refused_meets (λ z. some (f ∙ z))))

  -- where no check fails, the core was open
  pub opened : refusal c t k.checks ≡ 0 → c.opened ≡ true
  unfolding refusal
  opened = go c.opened
    where
      go : (b : Bool) → cond b (first_failed (k.checks (state_of c t))) 19 ≡ 0 → b ≡ true
      go true n = refl
      go false n = absurd (omega arith)

  module _ (none : refusal c t k.checks ≡ 0) where
    none_failed : first_failed (k.checks s) ≡ 0
    unfolding refusal s
    none_failed = sym (ap (λ (b : Bool). cond b (first_failed (k.checks s)) 19) (opened none)) ∙ none

    pub all_passed : Passed (k.checks (state_of c t))
    unfolding s
    all_passed = checks_passed (k.checks s) (k.counted s) none_failed

    pub sound_before : SoundCore c t
    sound_before = valid (opened none)

    -- an accepted call: the state after is what the definitions make of the state before, and the tables are laid out right
    pub accepted_meets : (d : Control) (u : Tables) → d.opened ≡ true → state_of d u ≡ k.made (state_of c t) → Shape d u
        → Meets call c t (record { control = d; answer = Accepted }) u
    unfolding s
    accepted_meets d u e same shape = record {
      answer = ap (λ (q : Result). q.answer) (sym r);
      core = core_of-opened d u e ∙ ap running same ∙ ap (λ (q : Result). q.core) (sym r);
      valid = λ w. record { shape = shape; limits = rw same limits };
    }
      where
        ran : step (running s) call ≡ accepted (k.made s)
        ran = k.runs s ∙ checked_done (running s) (accepted (k.made s)) (k.checks s) (k.counted s) none_failed

        r : step (core_of c t) call ≡ accepted (k.made s)
        r = told (core_of-opened c t (opened none)) ran

        limits : StateLimits (k.made s)
        limits = subst (λ (q : Result). CoreLimits q.core) ran (step-limits (running s) sound_before.limits call)

    pub accepted_with : (r : Answered) (d : Control) (u : Tables) → r ≡ record { control = d; answer = Accepted }
        → d.opened ≡ true → state_of d u ≡ k.made (state_of c t) → Shape d u → Meets call c t r u
    accepted_with r d u e o same shape = rw e (accepted_meets d u o same shape)

-- nothing of this goes by what the counts are, so that it holds with any others
pub meets_recounted : {call : Event} {c : Control} {t : Tables} {r : Answered} {u : Tables} {counts : List ℕ}
    → length counts ≡ length u.counts
    → Meets call c t r u
    → Meets call c t r (tables u.terms u.stocks u.handles u.lengths u.links counts)
unfolding core_of state_of clients_of client_at side_of order_of stocks_of stock_at queue_at packet_at
meets_recounted e m = record {
  answer = m.answer;
  core = m.core;
  valid = λ o.
      let old = (m.valid o).shape in record {
        shape = record {
          sizes = record {
            terms = old.sizes.terms;
            stocks = old.sizes.stocks;
            handles = old.sizes.handles;
            lengths = old.sizes.lengths;
            counts = e ∙ old.sizes.counts;
          };
          heads = old.heads;
          waits = old.waits;
          apart = old.apart;
          rates_held = old.rates_held;
          sound = old.sound;
          order = old.order;
          ordered = old.ordered;
          placed = old.placed;
        };
        limits = (m.valid o).limits;
      };
}

-- a call that writes no place
pub in_place : {call : Event} {c : Control} {t u : Tables} {r : Answered} → u.handles ≡ t.handles → u.lengths ≡ t.lengths
    → Counts call c t r u → Meets call c t r u → Promised call c t r u
in_place handles lengths counts m = record {
  meets = m;
  stand = λ none. record { handles = handles; lengths = lengths };
  counts = counts;
}

-- and one that does, once it is accepted
pub with_places : {call : Event} {c d : Control} {t u : Tables} {r : Answered} → r ≡ record { control = d; answer = Accepted }
    → may_write call Accepted ≡ true → Counts call c t r u → Meets call c t r u → Promised call c t r u
with_places {call} e some counts m = record {
  meets = m;
  stand = λ none. true-false (ap (λ (x : Answered). may_write call x.answer) e ∙ some) none;
  counts = counts;
}
