-- Within the limits a slot by rule 1 sends an indifferent packet, under either discipline, and rule 2 picks a private client; and the
-- target of its draw is what the generator leaves after it.
-- It holds since the order has a packet where one waits, and since a draw among clients that have rates draws one of them.
use Prim.Native.Nat.{ℕ, ◌%◌, ◌≤◌, ◌<◌}
use mathlib.Core.Path.{◌≡◌, refl, ap, subst, ◌∙◌}
use mathlib.Core.Bool.{Bool, true, false, not, ◌&&◌, false≢true}
use mathlib.Core.List.{List, [], ◌∷◌}
use native.Mathlib.Omega.{arith}
use lib.Dec.{eqb}
use Rattle.definitions.specs.declared.Packet.{Packet}
use Rattle.definitions.specs.declared.Outcome.TheVariants.{Real}
use Rattle.definitions.specs.declared.Answer.TheVariants.{Slot}
use Rattle.definitions.specs.Sizes.{ids, first_come}
use Rattle.definitions.specs.Sample.{Sample}
use Rattle.definitions.specs.Draw.{sum_below, draw}
use Rattle.definitions.specs.Client.{Kind, absent, indifferent, private, is_active, is_indifferent, is_private, Client}
use Rattle.definitions.specs.Stock.{Stock, empty}
use Rattle.definitions.specs.State.{State, earliest}
use Rattle.definitions.specs.Tick.{contends, Rule, rule1, rule2, rule3, rule_of, contender_rate, private_rate, Turn, first_turn, turn_by, turn, padding, sent, outcome_by, on_tick}
use Rattle.definitions.specs.Limits.{standing, ordered, StateLimits}
use Rattle.definitions.specs.Facts.{Rule1Sends, Rule2Private}
use Rattle.definitions.proofs.Laws.Tests.{lt_cases, cond_both}
use Rattle.definitions.proofs.Laws.Kinds.{private_kind_lem}
use Rattle.definitions.proofs.Laws.Rules.{rule-cases, turn-rule}
use Rattle.definitions.proofs.Sample.{sample-sum, sample_sampled}
use Rattle.definitions.proofs.Draw.{weighing, weighing_some, draw-among}
use Rattle.definitions.proofs.Limits.Order.{standing_first_same}
use Rattle.definitions.proofs.Limits.Client.{Parts, RateBy, limits_parts}
use Rattle.definitions.proofs.Limits.Slots.{ordered-silent, ordered_high}
pub use Rattle.definitions.specs.Facts.{Contender}

pub contends_contender : (c : Client) (k : Stock) → contends c k ≡ true → Contender c k
unfolding contends
contends_contender c k e = go c.kind k.queue refl refl e
  where
    go : (x : Kind) (q : List Packet) → c.kind ≡ x → k.queue ≡ q → (is_indifferent x && not (empty q)) ≡ true → Contender c k
    go absent q f g e = absurd (false≢true e)
    go indifferent [] f g e = absurd (false≢true e)
    go indifferent (p ∷ ps) f g e = record { indifferently = f; packet = p; behind = ps; waiting = g }
    go private q f g e = absurd (false≢true e)

contender_sent : (id : ℕ) (c : Client) (k : Stock) (at : Contender c k) → sent id c k ≡ Real id at.packet 0
unfolding sent padding
contender_sent id c k at = rw (at.waiting, at.indifferently)

contends-ordered : (c : Client) (k : Stock) → contends c k ≡ true → 0 < ordered c k
unfolding ordered
contends-ordered c k e =
    let at = contends_contender c k e in
    rw (at.indifferently, at.waiting) (omega arith)

pub ordered-contends : (c : Client) (k : Stock) → 0 < ordered c k → contends c k ≡ true
ordered-contends c k some = go (contends c k) refl
  where
    go : (b : Bool) → contends c k ≡ b → contends c k ≡ true
    go true e = e
    go false e = absurd (omega (arith, ordered-silent c k e))

-- the client whose slot it is, by each rule
abbrev pub PickedBy : Rule → State → ℕ → Type 0
PickedBy rule1 s id = (id < ids) × (contends (s.clients id) (s.side.stocks id) ≡ true)
PickedBy rule2 s id = (id < ids) × (is_private (s.clients id).kind ≡ true)
PickedBy rule3 s id = Unit {0}

-- of the draws of a turn and the generator after it: that the rates in a draw are some, and leave its target of that value
abbrev pub Counted : List Sample → ℕ → Type 0
Counted [] generator = Unit {0}
Counted (d ∷ draws) generator = (0 < d.sum) × (d.target ≡ generator % d.sum)

draw-counted : (generator : ℕ) (weight : ℕ → ℕ) → 0 < sum_below ids weight
    → let d = (draw generator weight).sample in Counted (d ∷ []) d.generator
unfolding draw
draw-counted generator weight some =
    let sum = sum_below ids weight in
    rw (sample-sum sum generator) (some, (sample_sampled sum generator).target_is)

active_rate_lem : (c : Client) → Parts c → is_active c.kind ≡ true → 1 ≤ c.rate
active_rate_lem c parts e = go c.kind e parts.rates
  where
    go : (k : Kind) → is_active k ≡ true → RateBy k c.rate → 1 ≤ c.rate
    go absent f r = absurd (false≢true f)
    go indifferent f r = r.0
    go private f r = r.0

private_active_lem : (k : Kind) → is_private k ≡ true → is_active k ≡ true
private_active_lem absent e = e
private_active_lem indifferent e = refl
private_active_lem private e = refl

module _ (s : State) (known : StateLimits s) where
  rated : (id : ℕ) → is_active (s.clients id).kind ≡ true → 1 ≤ (s.clients id).rate
  rated id = active_rate_lem (s.clients id) (limits_parts (s.clients id) (known.client_limits id))

  contender_rated : (id : ℕ) → contends (s.clients id) (s.side.stocks id) ≡ true → 1 ≤ (s.clients id).rate
  contender_rated id waits =
      rated id (ap is_active (contends_contender (s.clients id) (s.side.stocks id) waits).indifferently)

  -- Discipline 0: where an indifferent packet waits, the order has a first, and that one waits.
  earliest_picked : (id : ℕ) → contends (s.clients id) (s.side.stocks id) ≡ true → PickedBy rule1 s (earliest s.side.order)
  unfolding earliest standing
  earliest_picked id waits = go s.side.order known.side_limits.order_whole
    where
      go : (order : List ℕ) → ((j : ℕ) → standing j order ≡ ordered (s.clients j) (s.side.stocks j))
          → PickedBy rule1 s (earliest order)
      go [] whole = absurd (omega (arith, whole id, contends-ordered (s.clients id) (s.side.stocks id) waits))
      go (first ∷ rest) whole =
          let some : 0 < ordered (s.clients first) (s.side.stocks first) =
          omega (arith, whole first, standing_first_same first first rest refl) in (
            lt_cases first ids (λ below. below) (λ high. absurd (omega (arith, some, ordered_high s known first high))),
            ordered-contends (s.clients first) (s.side.stocks first) some,
          )

  -- Discipline 1: a draw among those with a packet waiting.
  contender_picked : (id : ℕ)
      → id < ids
      → contends (s.clients id) (s.side.stocks id) ≡ true
      → PickedBy rule1 s (draw s.side.generator (contender_rate s)).id
  unfolding contender_rate weighing
  contender_picked id below waits =
      draw-among (λ j. contends (s.clients j) (s.side.stocks j)) (λ j. (s.clients j).rate) s.side.generator id below waits
      (contender_rated id waits)

  -- Rule 2: a draw among all private clients.
  private_picked : (id : ℕ)
      → id < ids
      → is_private (s.clients id).kind ≡ true
      → PickedBy rule2 s (draw s.side.generator (private_rate s.clients)).id
  unfolding private_rate weighing
  private_picked id below secret =
      draw-among (λ j. is_private (s.clients j).kind) (λ j. (s.clients j).rate) s.side.generator id below secret
      (rated id (private_active_lem (s.clients id).kind secret))

  -- what these draws are among weighs something
  contender_sum : (id : ℕ) → id < ids → contends (s.clients id) (s.side.stocks id) ≡ true → 0 < sum_below ids (contender_rate s)
  unfolding contender_rate weighing
  contender_sum id below waits =
      weighing_some (λ j. contends (s.clients j) (s.side.stocks j)) (λ j. (s.clients j).rate) id below waits
      (contender_rated id waits)

  private_sum : (id : ℕ) → id < ids → is_private (s.clients id).kind ≡ true → 0 < sum_below ids (private_rate s.clients)
  unfolding private_rate weighing
  private_sum id below secret =
      weighing_some (λ j. is_private (s.clients j).kind) (λ j. (s.clients j).rate) id below secret
      (rated id (private_active_lem (s.clients id).kind secret))

  pub turn-counted : Counted (turn s).draws (turn s).generator
  unfolding turn turn_by first_turn
  turn-counted =
      rule-cases (λ rule. Counted (turn_by rule s).draws (turn_by rule s).generator) s
      (λ id below waits. cond_both (λ (t : Turn). Counted t.draws t.generator) (eqb s.discipline first_come)
      tt
      (draw-counted s.side.generator (contender_rate s) (contender_sum id below waits)))
      (λ none id below secret. draw-counted s.side.generator (private_rate s.clients) (private_sum id below secret))
      (λ none none_secret. tt)

  pub turn_picked : PickedBy (rule_of s) s (turn s).id
  unfolding turn turn_by first_turn
  turn_picked =
      rule-cases (λ rule. PickedBy rule s (turn_by rule s).id) s
      (λ id below waits. cond_both (λ (t : Turn). PickedBy rule1 s t.id) (eqb s.discipline first_come)
      (earliest_picked id waits)
      (contender_picked id below waits))
      (λ none id below secret. private_picked id below secret)
      (λ none none_secret. tt)

  -- whom rule 1 picks
  module _ (e : rule_of s ≡ rule1) where
    rule1_picked : PickedBy rule1 s (turn s).id
    rule1_picked = subst (λ (r : Rule). PickedBy r s (turn s).id) e turn_picked

    pub rule1_below : (turn s).id < ids
    rule1_below = rule1_picked.0

    pub rule1_contender : Contender (s.clients (turn s).id) (s.side.stocks (turn s).id)
    rule1_contender = contends_contender (s.clients (turn s).id) (s.side.stocks (turn s).id) rule1_picked.1

  -- whom rule 2 picks
  module _ (e : rule_of s ≡ rule2) where
    rule2_picked : PickedBy rule2 s (turn s).id
    rule2_picked = subst (λ (r : Rule). PickedBy r s (turn s).id) e turn_picked

    pub rule2_below : (turn s).id < ids
    rule2_below = rule2_picked.0

pub rule1_answer : Rule1Sends
unfolding on_tick outcome_by
rule1_answer s known e =
    let picked = rule1_contender s known e in (
      picked,
      ap Slot
          (ap (λ (r : Rule). outcome_by r (turn s).id s) (turn-rule s ∙ e)
          ∙ contender_sent (turn s).id (s.clients (turn s).id) (s.side.stocks (turn s).id) picked),
    )

pub rule2_private : Rule2Private
rule2_private s known e = private_kind_lem (s.clients (turn s).id).kind (rule2_picked s known e).1
