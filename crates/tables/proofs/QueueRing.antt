-- The places of a queue, as a ring among those of its id: it grows at its end, and is taken from at its front.
-- Two of its numbers are one place only `places` apart. By recursion on the count of packets. Assumes nothing.
use Prim.Native.Nat.{ℕ, zero, suc, ◌+◌, ◌*◌, ◌%◌, ◌≤◌, ◌<◌}
use mathlib.Core.Path.{◌≡◌, refl, ap, ap₂, ◌∙◌}
use mathlib.Core.Logic.{◌≢◌}
use mathlib.Core.List.{List, [], ◌∷◌, ◌++◌, map}
use native.Mathlib.Nat.{mod-lt, mod-eq_of_lt}
use native.Mathlib.Omega.{arith}
use lib.ListN.{length, length-map}
use Rattle.definitions.specs.declared.Packet.{Packet}
use Rattle.definitions.specs.Sizes.{ids, places}
use Rattle.order.specs.Order.{sentinel, All, Absent}
use Rattle.order.proofs.Owner.{place_below}
use Rattle.tables.specs.declared.Tables.{Tables}
use Rattle.tables.specs.Tables.{head_at, count_at, ring}
use Rattle.tables.specs.Meaning.{packet_at, queue_at}
use Rattle.tables.proofs.Fields.{places_positive, ring-length}

-- the place of an id that a number of its ring stands for
abbrev pub place_of : ℕ → ℕ → ℕ
place_of id k = id * places + k % places

pub remainder_small : (k : ℕ) → k % places < places
remainder_small k = mod-lt k places_positive

pub remainder_again : (k : ℕ) → k % places % places ≡ k % places
remainder_again k = mod-eq_of_lt (remainder_small k)

remainder_suc : (a b : ℕ) → a % places ≡ b % places → suc a % places ≡ suc b % places
unfolding places
remainder_suc a b e = omega arith

remainder_apart : (a b : ℕ) → a < b → b < a + places → b % places ≢ a % places
unfolding places
remainder_apart a b l h = omega arith

module _ (id : ℕ) where
  pub place_within : id < ids → (k : ℕ) → place_of id k < sentinel
  place_within below k = place_below id (k % places) (remainder_small k) below

  place_apart : (a b : ℕ) → a < b → b < a + places → place_of id b ≢ place_of id a
  place_apart a b l h same = let far : b % places ≢ a % places = remainder_apart a b l h in omega arith

  -- only the remainder of its beginning counts
  pub ring_same : (a b n : ℕ) → a % places ≡ b % places → ring id a n ≡ ring id b n
  unfolding ring
  ring_same a b zero e = refl
  ring_same a b (suc n) e =
      ap₂ (λ (x : ℕ) (xs : List ℕ). x ∷ xs) (ap (λ (x : ℕ). id * places + x) e)
      (ring_same (suc a) (suc b) n (remainder_suc a b e))

  pub ring_remainder : (head n : ℕ) → ring id (head % places) n ≡ ring id head n
  ring_remainder head n = ring_same (head % places) head n (remainder_again head)

  -- a packet goes in behind
  pub ring_push : (head n : ℕ) → ring id head (suc n) ≡ ring id head n ++ (place_of id (head + n) ∷ [])
  unfolding ring
  ring_push head zero = let e : head + 0 ≡ head = omega arith in rw e
  ring_push head (suc n) =
      let e : head + suc n ≡ suc head + n = omega arith in
      rw e (ap (λ (xs : List ℕ). place_of id head ∷ xs) (ring_push (suc head) n))

  -- and the first is taken out at the front
  pub ring_pop : (head n : ℕ) → ring id head (suc n) ≡ place_of id head ∷ ring id (suc head) n
  unfolding ring
  ring_pop head n = refl

  pub ring_pop_remainder : (head n : ℕ) → ring id head (suc n) ≡ place_of id head ∷ ring id (suc head % places) n
  ring_pop_remainder head n = rw (ring_remainder (suc head) n) (ring_pop head n)

  -- a number behind a ring that does not close
  pub ring-behind : (k head n : ℕ) → head + n ≤ k → k < head + places → Absent (place_of id k) (ring id head n)
  unfolding ring
  ring-behind k head zero l h = tt
  ring-behind k head (suc n) l h =
      (place_apart head k (omega arith) h, ring-behind k (suc head) n (omega arith) (omega arith))

  -- the next place is free where fewer than all are taken
  pub ring_free : (head n : ℕ) → n < places → Absent (place_of id (head + n)) (ring id head n)
  ring_free head n room = ring-behind (head + n) head n (omega arith) (omega arith)

-- packets that are the same at each place of a list
pub packets_same : (t u : Tables) (order : List ℕ) → All (λ p. packet_at u p ≡ packet_at t p) order
    → map (packet_at u) order ≡ map (packet_at t) order
packets_same t u [] same = refl
packets_same t u (p ∷ order) same = ap₂ (λ (x : Packet) (xs : List Packet). x ∷ xs) same.0 (packets_same t u order same.1)

pub packets_append : (t : Tables) (xs ys : List ℕ) → map (packet_at t) (xs ++ ys) ≡ map (packet_at t) xs ++ map (packet_at t) ys
packets_append t [] ys = refl
packets_append t (x ∷ xs) ys = ap (λ (r : List Packet). packet_at t x ∷ r) (packets_append t xs ys)

-- a queue has as many packets as its count says
pub queue_length : (t : Tables) (id : ℕ) → length (queue_at t id) ≡ count_at t.stocks id
unfolding queue_at
queue_length t id =
    length-map (ring id (head_at t.stocks id) (count_at t.stocks id)) (packet_at t)
    ∙ ring-length id (head_at t.stocks id) (count_at t.stocks id)
