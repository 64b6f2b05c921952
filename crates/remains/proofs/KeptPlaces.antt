-- Numbers written where no packet waits are never seen. Each place of a queue is fewer places behind its head than the queue has
-- packets, so it is not written: by recursion over the queue's ring, and over the places. So the tables differ only where no
-- packet waits, and mean the same core. Assumes nothing.
use Prim.Native.Nat.{ℕ, zero, suc, ◌+◌, ◌-◌, ◌%◌, ◌≤◌, ◌<◌}
use mathlib.Core.Path.{◌≡◌, refl, ap, ◌∙◌}
use mathlib.Core.Bool.{Bool, true, false, cond}
use mathlib.Core.List.{List}
use native.Mathlib.Omega.{arith}
use lib.ListN.{length, get_or, set, length-set}
use lib.Seq.{get_or-set_other}
use borrow.Author.Tests.{lt-ltb}
use Rattle.definitions.specs.Sizes.{ids, places}
use Rattle.definitions.specs.State.{Core}
use Rattle.definitions.proofs.Laws.Tests.{true-false}
use Rattle.order.specs.Order.{sentinel, All}
use Rattle.order.proofs.DistinctLists.{all_map}
use Rattle.tables.specs.declared.Control.{Control}
use Rattle.tables.specs.declared.Tables.{Tables}
use Rattle.tables.specs.Tables.{tables, head_at, count_at, ring}
use Rattle.tables.specs.Meaning.{core_of}
use Rattle.tables.specs.Invariant.{SoundCore, Valid}
use Rattle.tables.specs.Unused.{waiting_places, SamePlace, DifferUnused}
use Rattle.tables.specs.Unseen.{Laid}
use Rattle.tables.proofs.Fields.{place_owner}
use Rattle.tables.proofs.QueueRing.{place_of}
use Rattle.tables.proofs.Touch.{count_high}
use Rattle.tables.proofs.UnusedPlaces.{rewritten_place, rewritten_waiting, rewritten_laid, unused_unseen}
use Rattle.runs.specs.declared.Progress.{Progress}
use Rattle.runs.specs.Stands.{Goes}
use Rattle.remains.specs.Remains.{behind_head, waits_at, overwritten_at, overwritten_below, overwritten_unused, overwritten_tables}

remainder_behind : (id head k : ℕ) → k < places
    → (place_of id (head + k) % places + (places - head % places)) % places ≡ k
unfolding places
remainder_behind id head k l = omega arith

module _ (stocks : List ℕ) (id : ℕ) where
  behind_head-nth : (k : ℕ) → k < places → behind_head stocks (place_of id (head_at stocks id + k)) ≡ k
  unfolding behind_head
  behind_head-nth k l = rw (place_owner id (head_at stocks id + k)) (remainder_behind id (head_at stocks id) k l)

  waits_at-nth : (k : ℕ) → k < count_at stocks id → k < places → waits_at stocks (place_of id (head_at stocks id + k)) ≡ true
  unfolding waits_at
  waits_at-nth k h l = rw (behind_head-nth k l, place_owner id (head_at stocks id + k)) (lt-ltb k (count_at stocks id) h)

  -- the places of n packets of the queue, from the one behind k others on
  ring_waits : (k n : ℕ) → k + n ≤ count_at stocks id → count_at stocks id ≤ places
      → All (λ p. waits_at stocks p ≡ true) (ring id (head_at stocks id + k) n)
  unfolding ring
  ring_waits k zero h l = tt
  ring_waits k (suc n) h l =
      let next : head_at stocks id + suc k ≡ suc (head_at stocks id + k) = omega arith in
      (waits_at-nth k (omega arith) (omega arith), rw next at (ring_waits (suc k) n (omega arith) l))

module _ (stocks : List ℕ) (number : ℕ) (table : List ℕ) where
  overwritten_at-length : (place : ℕ) (xs : List ℕ) → length (overwritten_at stocks number place xs) ≡ length xs
  unfolding overwritten_at
  overwritten_at-length place xs = go (waits_at stocks place)
    where
      go : (b : Bool) → length (cond b xs (set xs place number)) ≡ length xs
      go true = refl
      go false = length-set xs place number

  pub overwritten_below-length : (n : ℕ) → length (overwritten_below n stocks number table) ≡ length table
  unfolding overwritten_below
  overwritten_below-length zero = refl
  overwritten_below-length (suc n) = overwritten_at-length n (overwritten_below n stocks number table) ∙ overwritten_below-length n

  overwritten_unused-length : length (overwritten_unused stocks number table) ≡ length table
  unfolding overwritten_unused
  overwritten_unused-length = overwritten_below-length sentinel

  module _ (place : ℕ) (waits : waits_at stocks place ≡ true) where
    overwritten_at-kept : (other : ℕ) (xs : List ℕ) → get_or (overwritten_at stocks number other xs) place 0 ≡ get_or xs place 0
    unfolding overwritten_at
    overwritten_at-kept other xs = go (waits_at stocks other) refl
      where
        go : (b : Bool) → waits_at stocks other ≡ b → get_or (cond b xs (set xs other number)) place 0 ≡ get_or xs place 0
        go true e = refl
        go false e = get_or-set_other xs other place number 0 (λ same. true-false waits (ap (waits_at stocks) same ∙ e))

    overwritten_below-kept : (n : ℕ) → get_or (overwritten_below n stocks number table) place 0 ≡ get_or table place 0
    unfolding overwritten_below
    overwritten_below-kept zero = refl
    overwritten_below-kept (suc n) = overwritten_at-kept n (overwritten_below n stocks number table) ∙ overwritten_below-kept n

    -- what stands where a packet waits
    overwritten_unused-kept : get_or (overwritten_unused stocks number table) place 0 ≡ get_or table place 0
    unfolding overwritten_unused
    overwritten_unused-kept = overwritten_below-kept sentinel

module _ (handle length : ℕ) (t : Tables) where
  place_kept : (p : ℕ) → waits_at t.stocks p ≡ true → SamePlace t (overwritten_tables handle length t) p
  place_kept p waits =
      rewritten_place t _ _ p (overwritten_unused-kept t.stocks handle t.handles p waits)
      (overwritten_unused-kept t.stocks length t.lengths p waits)

  module _ (c : Control) (sound : SoundCore c t) where
    places_wait : (id : ℕ) → id < ids → All (λ p. waits_at t.stocks p ≡ true) (waiting_places t id)
    unfolding waiting_places
    places_wait id below =
        let none : head_at t.stocks id + 0 ≡ head_at t.stocks id = omega arith in
        rw none at (ring_waits t.stocks id 0 (count_at t.stocks id) (omega arith) (count_high c t sound id below))

    overwritten_unused_laid : Laid (overwritten_tables handle length t)
    overwritten_unused_laid =
        rewritten_laid t _ _ sound.shape (overwritten_unused-length t.stocks handle t.handles)
        (overwritten_unused-length t.stocks length t.lengths)

  module _ (c : Control) (valid : Valid c t) where
    pub overwritten_unused_differ : DifferUnused c t (overwritten_tables handle length t)
    overwritten_unused_differ e =
        rewritten_waiting t _ _
        (λ id below.
        all_map (λ p. waits_at t.stocks p ≡ true) (SamePlace t (overwritten_tables handle length t)) place_kept (waiting_places t id)
        (places_wait c (valid e) id below))

    overwritten_unused_core : core_of c (overwritten_tables handle length t) ≡ core_of c t
    overwritten_unused_core = (unused_unseen.indistinct c t (overwritten_tables handle length t) valid overwritten_unused_differ).core

    overwritten_unused_valid : Valid c (overwritten_tables handle length t)
    overwritten_unused_valid =
        unused_unseen.valid c t (overwritten_tables handle length t) valid overwritten_unused_differ
        (λ e. overwritten_unused_laid c (valid e))

-- calls that were made, with the tables overwritten behind them
module _ {p q : Progress} {t u : Tables} {calls : ℕ} (handle length : ℕ) (g : Goes calls p t q u) where
  goes_rewritten : Goes calls p t q (overwritten_tables handle length u)
  goes_rewritten = record {
    run = ap (λ (x : Core). record { core = x; value = q.maker.generator.value; quiet = q.maker.quiet; check = q.check })
        (overwritten_unused_core handle length u q.control g.valid) ∙ g.run;
    valid = overwritten_unused_valid handle length u q.control g.valid;
  }

  pub goes_overwritten : {handles lengths : List ℕ}
      → handles ≡ overwritten_unused u.stocks handle u.handles
      → lengths ≡ overwritten_unused u.stocks length u.lengths
      → Goes calls p t q (tables u.terms u.stocks handles lengths u.links u.counts)
  goes_overwritten e f = rw (e, f) goes_rewritten
