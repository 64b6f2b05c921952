-- Every place where no packet waits is overwritten: one that is fewer places behind the head than the queue has packets is among
-- those of the queue. By recursion over the queue's ring, and over the places. Assumes nothing.
use Prim.Native.Nat.{ℕ, zero, suc, ◌+◌, ◌-◌, ◌/◌, ◌%◌, ◌<◌}
use mathlib.Core.Path.{◌≡◌, refl, ap, subst, ◌∙◌}
use mathlib.Core.Logic.{◌≢◌}
use mathlib.Core.Bool.{Bool, true, false, cond}
use mathlib.Core.List.{List}
use native.Mathlib.Omega.{arith}
use lib.ListN.{length, get_or, set}
use lib.Seq.{get_or-set_same, get_or-set_other}
use borrow.Author.Tests.{ltb-true}
use Rattle.definitions.specs.Sizes.{ids, places}
use Rattle.definitions.proofs.Laws.Tests.{eqb-cases}
use Rattle.order.specs.Order.{sentinel, Absent}
use Rattle.order.specs.Owner.{owner}
use Rattle.tables.specs.declared.Tables.{Tables}
use Rattle.tables.specs.Tables.{head_at, count_at, ring}
use Rattle.tables.specs.Meaning.{packet_at}
use Rattle.tables.specs.Invariant.{Sized}
use Rattle.tables.specs.Unused.{waiting_places, Unused}
use Rattle.tables.proofs.QueueRing.{place_of}
use Rattle.tables.proofs.UnusedPlaces.{owner_below}
use Rattle.remains.specs.Remains.{behind_head, waits_at, overwritten_at, overwritten_below, overwritten_unused, overwritten_tables, UnusedOverwritten}
use Rattle.remains.proofs.KeptPlaces.{overwritten_below-length, overwritten_unused_differ}

-- the k-th place of a queue is one of them
ring_has : (id head n k : ℕ) → k < n → Absent (place_of id (head + k)) (ring id head n) → ⊥
unfolding ring
ring_has id head zero k l absent = omega arith
ring_has id head (suc n) zero l absent =
    let none : head + 0 ≡ head = omega arith in
    absent.0 (ap (place_of id) none)
ring_has id head (suc n) (suc k) l absent =
    let next : head + suc k ≡ suc head + k = omega arith in
    ring_has id (suc head) n k (omega arith) (subst (λ x. Absent (place_of id x) (ring id (suc head) n)) next absent.1)

place_nth : (place head : ℕ) → place_of (place / places) (head + (place % places + (places - head % places)) % places) ≡ place
unfolding places
place_nth place head = omega arith

module _ (t : Tables) (place : ℕ) (below : place < sentinel) (unused : Unused t place) where
  waits_never : waits_at t.stocks place ≡ true → ⊥
  unfolding waits_at behind_head owner waiting_places
  waits_never waits =
      let head = head_at t.stocks (owner place) in
      ring_has (owner place) head (count_at t.stocks (owner place)) (behind_head t.stocks place) (ltb-true _ _ waits)
      (rw (place_nth place head) (unused (owner place) (owner_below place below)))

  unused_free : waits_at t.stocks place ≡ false
  unused_free = go (waits_at t.stocks place) refl
    where
      go : (b : Bool) → waits_at t.stocks place ≡ b → b ≡ false
      go true e = absurd (waits_never e)
      go false e = refl

module _ (stocks : List ℕ) (number : ℕ) (table : List ℕ) (place : ℕ) where
  overwritten_at_here : (xs : List ℕ) → waits_at stocks place ≡ false → place < length xs
      → get_or (overwritten_at stocks number place xs) place 0 ≡ number
  unfolding overwritten_at
  overwritten_at_here xs free room = rw free (get_or-set_same xs place number 0 room)

  overwritten_at_elsewhere : (other : ℕ) (xs : List ℕ) → place ≢ other
      → get_or (overwritten_at stocks number other xs) place 0 ≡ get_or xs place 0
  unfolding overwritten_at
  overwritten_at_elsewhere other xs apart = go (waits_at stocks other)
    where
      go : (b : Bool) → get_or (cond b xs (set xs other number)) place 0 ≡ get_or xs place 0
      go true = refl
      go false = get_or-set_other xs other place number 0 apart

  module _ (free : waits_at stocks place ≡ false) (room : place < length table) where
    overwritten_below_here : get_or (overwritten_at stocks number place (overwritten_below place stocks number table)) place 0 ≡ number
    overwritten_below_here =
        overwritten_at_here (overwritten_below place stocks number table) free
        (omega (arith, overwritten_below-length stocks number table place))

    overwritten_below-written : (n : ℕ) → place < n → get_or (overwritten_below n stocks number table) place 0 ≡ number
    unfolding overwritten_below
    overwritten_below-written zero l = absurd (omega arith)
    overwritten_below-written (suc n) l =
        eqb-cases (λ b. get_or (overwritten_at stocks number n (overwritten_below n stocks number table)) place 0 ≡ number) place n
        (λ e. rw (← e) overwritten_below_here)
        (λ apart.
        overwritten_at_elsewhere n (overwritten_below n stocks number table) apart ∙ overwritten_below-written n (omega arith))

    overwritten_unused-written : place < sentinel → get_or (overwritten_unused stocks number table) place 0 ≡ number
    unfolding overwritten_unused
    overwritten_unused-written below = overwritten_below-written sentinel below

module _ (t : Tables) (handle length place : ℕ) (sizes : Sized t) (below : place < sentinel) (unused : Unused t place) where
  place_written : packet_at (overwritten_tables handle length t) place ≡ record { handle = handle; length = length }
  unfolding packet_at sentinel ids places
  place_written =
      let free : waits_at t.stocks place ≡ false = unused_free t place below unused in
      λ i. record {
        handle = overwritten_unused-written t.stocks handle t.handles place free (omega (arith, sizes.handles)) below i;
        length = overwritten_unused-written t.stocks length t.lengths place free (omega (arith, sizes.lengths)) below i;
      }

pub unused_overwritten : UnusedOverwritten
unused_overwritten = record { written = place_written; differ = λ c t handle length. overwritten_unused_differ handle length t c }
