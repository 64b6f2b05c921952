-- Demand 3 is proved by erasure: a core without what the private neighbours of the chosen client have to send. A call that is
-- struck out does not change it, and a kept call commutes with it, so histories with equal kept calls end alike.
-- Only stocks are erased, so every test of kind, rate and threshold computes alike. Assumes nothing.
use Prim.Native.Nat.{ℕ}
use mathlib.Core.Path.{◌≡◌, refl, ap}
use mathlib.Core.Bool.{Bool, true, false, cond, not, ◌&&◌}
use lib.Dec.{eqb}
use borrow.Author.Tests.{eqb-true, eqb-false}
use Rattle.definitions.specs.Client.{Client, Kind, is_private}
use Rattle.definitions.specs.Stock.{Stock, bare}
use Rattle.definitions.specs.State.{State, Core, unopened, running, put}

-- whether a client at an id is a private neighbour of the chosen one
unfoldable pub hidden : ℕ → ℕ → Client → Bool
hidden chosen id c = is_private c.kind && not (eqb id chosen)

-- what the ids have to send, without that of the hidden clients
unfoldable pub shown : ℕ → (ℕ → Client) → (ℕ → Stock) → ℕ → Stock
shown chosen clients stocks id = cond (hidden chosen id (clients id)) bare (stocks id)

unfoldable pub erase : ℕ → State → State
erase chosen s = record {
  threshold = s.threshold;
  discipline = s.discipline;
  clients = s.clients;
  side = record {
    generator = s.side.generator;
    order = s.side.order;
    stocks = shown chosen s.clients s.side.stocks;
  };
}

unfoldable pub erase_core : ℕ → Core → Core
erase_core chosen unopened = unopened
erase_core chosen (running s) = running (erase chosen s)

-- whether a client is hidden goes by its kind
pub hidden_kind : (chosen id : ℕ) (c d : Client) → c.kind ≡ d.kind → hidden chosen id c ≡ hidden chosen id d
unfolding hidden
hidden_kind chosen id c d e = ap (λ (k : Kind). is_private k && not (eqb id chosen)) e

-- what is hidden twice is hidden once
cond_twice : (b : Bool) (k : Stock) → cond b bare k ≡ cond b bare (cond b bare k)
cond_twice true k = refl
cond_twice false k = refl

module _ (chosen : ℕ) where
  -- two states that agree in what is not erased
  pub erase_path : (s t : State)
      → s.threshold ≡ t.threshold
      → s.discipline ≡ t.discipline
      → s.clients ≡ t.clients
      → s.side.generator ≡ t.side.generator
      → s.side.order ≡ t.side.order
      → ((id : ℕ) → shown chosen s.clients s.side.stocks id ≡ shown chosen t.clients t.side.stocks id)
      → erase chosen s ≡ erase chosen t
  unfolding erase
  erase_path s t p q c g o e = λ i. record {
    threshold = p i;
    discipline = q i;
    clients = c i;
    side = record { generator = g i; order = o i; stocks = λ id. e id i };
  }

  module _ (clients : ℕ → Client) (stocks : ℕ → Stock) where
    -- what a client has that is not hidden is shown as it is
    pub shown_open : (id : ℕ) → hidden chosen id (clients id) ≡ false → shown chosen clients stocks id ≡ stocks id
    unfolding shown
    shown_open id e = rw e

    module _ (after : ℕ → Client) where
      -- where a client keeps its kind, its stock is shown before and after, or neither
      pub shown-kept : (j : ℕ) → (after j).kind ≡ (clients j).kind
          → shown chosen after stocks j ≡ shown chosen after (shown chosen clients stocks) j
      unfolding shown
      shown-kept j same =
          rw (hidden_kind chosen j (after j) (clients j) same) (cond_twice (hidden chosen j (clients j)) (stocks j))

      -- one stock anew, where the others keep their kinds
      pub shown-put : (id : ℕ) (k k' : Stock)
          → ((j : ℕ) → (j ≡ id → ⊥) → (after j).kind ≡ (clients j).kind)
          → cond (hidden chosen id (after id)) bare k ≡ cond (hidden chosen id (after id)) bare k'
          → (j : ℕ)
          → shown chosen after (put stocks id k) j ≡ shown chosen after (put (shown chosen clients stocks) id k') j
      unfolding shown put
      shown-put id k k' others own j = go (eqb j id) refl
        where
          go : (b : Bool)
              → eqb j id ≡ b
              → cond (hidden chosen j (after j)) bare (cond b k (stocks j))
              ≡ cond (hidden chosen j (after j)) bare (cond b k' (shown chosen clients stocks j))
          go true e = rw (eqb-true j id e) own
          go false e = shown-kept j (others j (eqb-false j id e))

  pub erase_twice : (s : State) → erase chosen s ≡ erase chosen (erase chosen s)
  unfolding erase
  erase_twice s =
      erase_path s (erase chosen s) refl refl refl refl refl
      (λ id. shown-kept s.clients s.side.stocks s.clients id refl)

  pub erase_core_twice : (core : Core) → erase_core chosen core ≡ erase_core chosen (erase_core chosen core)
  unfolding erase_core
  erase_core_twice unopened = refl
  erase_core_twice (running s) = ap running (erase_twice s)
