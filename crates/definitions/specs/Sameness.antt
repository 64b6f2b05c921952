-- Demand 3 (paper 01, "Two histories"): what the chosen client and every indifferent one see is the same in any two
-- histories whose kept calls are equal. What is kept and what is compared is read off two traces, whoever made them;
-- `Sameness` is the claim of any scheduler. The words of the paper stand beside each.
use Rattle.std.specs.Prelude.{ℕ, ◌≡◌, Bool, true, false, cond, not, ◌&&◌, ◌||◌, List, [], ◌∷◌, T, eqb}
use Rattle.definitions.specs.Event.{Event, Open, Join, Change, Leave, Load, Arrive, Tick}
use Rattle.definitions.specs.declared.Answer.{Answer}
use Rattle.definitions.specs.Answers.{number, is_departure}
use Rattle.definitions.specs.History.{History, start, ◌then◌, Place, calls, Dealing, Trace, begin, ◌and◌, Holdings, Scheduler, after, answer_at, trace_of}
use Rattle.definitions.specs.Counts.{Count, tallied, gained}
unfoldable pub use Rattle.definitions.specs.Traces.{is_setting, is_tick, is_arrival, names, indifferent_by, indifferent_since, indifferent_at}

-- "Struck out are the arrives and loads naming another id that is not indifferent at their place, an inactive one or one
-- above 63 too."
unfoldable pub is_struck : ℕ → Trace → Event → Bool
is_struck chosen t (Open threshold discipline seed) = false
is_struck chosen t (Join id kind rate burst) = false
is_struck chosen t (Change id kind rate burst) = false
is_struck chosen t (Leave id) = false
is_struck chosen t (Load id dummies) = not (eqb id chosen) && not (indifferent_at id t)
is_struck chosen t (Arrive id packet) = not (eqb id chosen) && not (indifferent_at id t)
is_struck chosen t Tick = false

-- "All other calls are kept": the history of the kept calls.
unfoldable pub kept : ℕ → Trace → History
kept chosen begin = start
kept chosen (t and d) = cond (is_struck chosen t d.event) (kept chosen t) (kept chosen t then d.event)

-- What some calls of a trace show, latest first, each with its number among the kept calls: "the n-th kept call of one
-- history is compared with the n-th of the other".
unfoldable pub log : {A : Type 0} → ℕ → (Trace → Dealing → Bool) → (Dealing → A) → Trace → List (ℕ × A)
log chosen which shows begin = []
log chosen which shows (t and d) =
    cond (which t d) ((calls (kept chosen t), shows d) ∷ log chosen which shows t) (log chosen which shows t)

-- "its departures the slots whose outcome bears its id, with that outcome and the tick's number among the kept calls"
unfoldable pub departure : ℕ → Dealing → Bool
departure id d = is_tick d.event && is_departure id d.answer

-- "its drops its arrivals answered 14 or 15"
unfoldable pub drop : ℕ → Dealing → Bool
drop id d = names id d.event && (is_arrival d.event && (eqb (number d.answer) 14 || eqb (number d.answer) 15))

-- the answers of those dealings that are logged
abbrev pub answers_of : ℕ → (Trace → Dealing → Bool) → Trace → List (ℕ × Answer)
answers_of chosen which = log chosen which (λ d. d.answer)

-- one client's answers, departures and drops, at those places where `when` holds
pub record SameDealings (chosen id : ℕ) (when : Trace → Bool) (t u : Trace) : Type 0 where
  -- "A client's answers are what its own calls get, accepted or the number"
  pub answers : answers_of chosen (λ p d. when p && names id d.event) t
      ≡ answers_of chosen (λ p d. when p && names id d.event) u
  pub departures : answers_of chosen (λ p d. when p && departure id d) t ≡ answers_of chosen (λ p d. when p && departure id d) u
  pub drops : answers_of chosen (λ p d. when p && drop id d) t ≡ answers_of chosen (λ p d. when p && drop id d) u

-- "Queue (handles and lengths from the front), pool and bucket (the level)"
pub record SameHoldings (id : ℕ) (x y : Holdings) : Type 0 where
  pub queue : x.queue id ≡ y.queue id
  pub pool : x.pool id ≡ y.pool id
  pub level : x.level id ≡ y.level id

-- what is compared at two places: behind one is the trace t, and the core there holds x; behind the other u and y
pub record LooksSame (chosen : ℕ) (t : Trace) (x : Holdings) (u : Trace) (y : Holdings) : Type 0 where
  -- "the answers to its joins, changes and leaves", and those to every open
  pub settings : answers_of chosen (λ p d. is_setting d.event) t ≡ answers_of chosen (λ p d. is_setting d.event) u
  -- every slot's rule, "and the picks under rule 2"
  pub slots : log chosen (λ p d. is_tick d.event) (λ d. d.pick) t ≡ log chosen (λ p d. is_tick d.event) (λ d. d.pick) u
  -- beyond the paper's words: what was drawn in every slot, with its targets, sums, generators and steps
  pub draws : log chosen (λ p d. is_tick d.event) (λ d. d.draws) t ≡ log chosen (λ p d. is_tick d.event) (λ d. d.draws) u
  -- the chosen client, active or not
  pub chosen_dealings : SameDealings chosen chosen (λ p. true) t u
  pub chosen_holdings : SameHoldings chosen x y
  -- "The chosen client's sheet is as private as its queue" (paper 02, S-7).
  pub chosen_counts : (count : Count) → tallied chosen t count ≡ tallied chosen u count
  -- "Of any client but the chosen one .. only those answers, departures and drops are compared at whose place it is
  -- indifferent; what else it got or sent while private is not."
  pub indifferent_alike : (id : ℕ) → indifferent_at id t ≡ indifferent_at id u
  pub indifferent_dealings : (id : ℕ) → SameDealings chosen id (indifferent_at id) t u
  pub indifferent_holdings : (id : ℕ) → T (indifferent_at id t) → SameHoldings id x y
  -- "for a client that is indifferent, what is the same is what each count has gained after the join or change that made it so, what
  -- that change itself emptied left out" (paper 02, S-7); wherever it is not, both have gained nothing
  pub indifferent_gains : (id : ℕ) (count : Count) → gained id t count ≡ gained id u count

module _ (S : Scheduler) where
  -- Any chosen client, any two histories whose kept calls "agree in order and arguments", and any place of either at which
  -- both have as many kept calls behind them.
  unfoldable pub Sameness : Type 0
  Sameness =
      (chosen : ℕ) (H K : History)
      → kept chosen (trace_of S H) ≡ kept chosen (trace_of S K)
      → (h k : History)
      → Place h H
      → Place k K
      → calls (kept chosen (trace_of S h)) ≡ calls (kept chosen (trace_of S k))
      → LooksSame chosen (trace_of S h) (S.holdings (after S h)) (trace_of S k) (S.holdings (after S k))

-- the opens, joins, changes and leaves of a history
unfoldable pub settings_of : History → History
settings_of start = start
settings_of (h then c) = cond (is_setting c) (settings_of h then c) (settings_of h)

module _ (S : Scheduler) where
  -- and what they get, latest first
  unfoldable pub setting_answers : History → List Answer
  setting_answers start = []
  setting_answers (h then c) = cond (is_setting c) (answer_at S h c ∷ setting_answers h) (setting_answers h)

  -- "Which opens, joins, changes and leaves are accepted follows from these four alone."
  unfoldable pub SettingsAlone : Type 0
  SettingsAlone = (h k : History) → settings_of h ≡ settings_of k → setting_answers h ≡ setting_answers k
