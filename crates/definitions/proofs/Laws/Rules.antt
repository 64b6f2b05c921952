-- By which rule a slot goes, what makes it the first that applies, and whose id the outcome bears.
-- By splitting the two tests, or the queue and the pool. Assumes nothing.
use Prim.Native.Nat.{ℕ, zero, suc, ◌<◌}
use mathlib.Core.Path.{◌≡◌, refl, ap}
use mathlib.Core.Logic.{◌≢◌}
use mathlib.Core.Bool.{Bool, true, false, cond}
use mathlib.Core.List.{List, [], ◌∷◌}
use lib.Dec.{eqb}
use Rattle.definitions.specs.declared.Packet.{Packet}
use Rattle.definitions.specs.declared.Outcome.{Outcome}
use Rattle.definitions.specs.declared.Outcome.TheVariants.{Real, Dummy, Idle, None}
use Rattle.definitions.specs.declared.Answer.TheVariants.{Slot}
use Rattle.definitions.specs.Sizes.{ids, first_come}
use Rattle.definitions.specs.Client.{Client, is_private}
use Rattle.definitions.specs.Stock.{Stock}
use Rattle.definitions.specs.State.{State}
use Rattle.definitions.specs.Answers.{bears}
use Rattle.definitions.specs.Tick.{any_below, contends, Rule, rule1, rule2, rule3, rule_of, Turn, first_turn, turn_by, turn, padding, without_packet, sent_from, sent}
use Rattle.definitions.specs.Notes.{holder}
use Rattle.definitions.proofs.Laws.Tests.{true-false, cond_both}
use Rattle.definitions.proofs.Laws.Sums.{any_below-true, any_below-false}

-- that a test holds of none of the ids
abbrev pub Nowhere : (ℕ → Bool) → Type 0
Nowhere test = (id : ℕ) → id < ids → test id ≡ false

-- to show something of the rule by which a slot goes, show it of each rule from what makes it the first that applies
pub rule-cases : (P : Rule → Type 0) (s : State)
    → ((id : ℕ) → id < ids → contends (s.clients id) (s.side.stocks id) ≡ true → P rule1)
    → (Nowhere (λ id. contends (s.clients id) (s.side.stocks id))
    → (id : ℕ)
    → id < ids
    → is_private (s.clients id).kind ≡ true
    → P rule2)
    → (Nowhere (λ id. contends (s.clients id) (s.side.stocks id)) → Nowhere (λ id. is_private (s.clients id).kind) → P rule3)
    → P (rule_of s)
unfolding rule_of
rule-cases P s first second third = go (any_below ids waits) (any_below ids secret) refl refl
  where
    waits : ℕ → Bool
    waits id = contends (s.clients id) (s.side.stocks id)

    secret : ℕ → Bool
    secret id = is_private (s.clients id).kind

    go : (a b : Bool) → any_below ids waits ≡ a → any_below ids secret ≡ b → P (cond a rule1 (cond b rule2 rule3))
    go true b e f = let found = any_below-true ids waits e in first found.0 found.1 found.2
    go false true e f =
        let found = any_below-true ids secret f in
        second (any_below-false ids waits e) found.0 found.1 found.2
    go false false e f = third (any_below-false ids waits e) (any_below-false ids secret f)

-- the turn that a rule gives is of that rule
pub turn_by-rule : (rule : Rule) (s : State) → (turn_by rule s).rule ≡ rule
unfolding turn_by first_turn
turn_by-rule rule1 s = cond_both (λ (t : Turn). t.rule ≡ rule1) (eqb s.discipline first_come) refl refl
turn_by-rule rule2 s = refl
turn_by-rule rule3 s = refl

pub turn-rule : (s : State) → (turn s).rule ≡ rule_of s
unfolding turn
turn-rule s = turn_by-rule (rule_of s) s

is_none : Outcome → Bool
is_none (Real id p added) = false
is_none (Dummy id) = false
is_none (Idle id) = false
is_none None = true

-- to show something of what a client sends, show it of each of the three
pub sent-cases : (P : Outcome → Type 0) (id : ℕ) (c : Client) (k : Stock)
    → ((p : Packet) (added : ℕ) → P (Real id p added)) → P (Dummy id) → P (Idle id)
    → P (sent id c k)
unfolding sent
sent-cases P id c k real dummy idle = go k.queue
  where
    bare : (n : ℕ) → P (without_packet id n)
    bare zero = idle
    bare (suc n) = dummy

    go : (q : List Packet) → P (sent_from id c k.pool q)
    go [] = bare k.pool
    go (p ∷ ps) = real p (padding c p)

-- an outcome of a client bears its id and no other, whatever it sends
pub sent-bears : (id : ℕ) (c : Client) (k : Stock) (j : ℕ) → bears j (sent id c k) ≡ eqb id j
unfolding bears
sent-bears id c k j = sent-cases (λ o. bears j o ≡ eqb id j) id c k (λ p added. refl) refl refl

pub sent-holder : (id : ℕ) (c : Client) (k : Stock) → holder (Slot (sent id c k)) ≡ id
unfolding holder
sent-holder id c k = sent-cases (λ o. holder (Slot o) ≡ id) id c k (λ p added. refl) refl refl

-- and is somebody's
pub sent_somebody : (id : ℕ) (c : Client) (k : Stock) → sent id c k ≢ None
unfolding is_none
sent_somebody id c k e =
    true-false (ap is_none e) (sent-cases (λ o. is_none o ≡ false) id c k (λ p added. refl) refl refl)
