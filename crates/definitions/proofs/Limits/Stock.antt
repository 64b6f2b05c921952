-- What a client has to send is within its limits after each thing that is done to it, by the client's kind.
use Prim.Native.Nat.{ℕ, pred, ◌+◌, ◌≤◌, ◌<◌}
use mathlib.Core.Path.{◌≡◌, refl, ap}
use mathlib.Core.Bool.{true, not, false≢true}
use mathlib.Core.List.{List, [], ◌∷◌, ◌++◌, tail}
use native.Mathlib.Omega.{arith}
use lib.ListN.{length, length-append}
use Rattle.definitions.specs.declared.Packet.{Packet}
use Rattle.definitions.specs.Sizes.{places, pool_limit, shortest, longest}
use Rattle.definitions.specs.Client.{Kind, absent, indifferent, private, is_active, is_indifferent}
use Rattle.definitions.specs.Stock.{Stock, empty, bare, loaded, queued, spent}
use Rattle.definitions.specs.Limits.{LengthsFit, QueueLimits, PoolBy, QueueBy, StockLimits}
use Rattle.definitions.proofs.Laws.Tests.{cond_both}

pub bare-limits : (kind : Kind) → StockLimits kind bare
bare-limits absent = record { queues = refl; pools = refl }
bare-limits indifferent = record { queues = record { queue_high = omega arith; queue_lengths = tt }; pools = refl }
bare-limits private = record { queues = record { queue_high = omega arith; queue_lengths = tt }; pools = omega arith }

-- whatever the kind
pub queue_high_lem : (kind : Kind) (queue : List Packet) → QueueBy kind queue → length queue ≤ places
queue_high_lem absent queue none = omega (arith, ap length none)
queue_high_lem indifferent queue fits = fits.queue_high
queue_high_lem private queue fits = fits.queue_high

pool_pred : (kind : Kind) (pool : ℕ) → PoolBy kind pool → PoolBy kind (pred pool)
pool_pred absent pool none = omega arith
pool_pred indifferent pool none = omega arith
pool_pred private pool high = omega arith

tail_limits : (queue : List Packet) → QueueLimits queue → QueueLimits (tail queue)
tail_limits [] fits = fits
tail_limits (p ∷ ps) fits = record { queue_high = omega (arith, fits.queue_high); queue_lengths = fits.queue_lengths.2 }

queue_tail : (kind : Kind) (queue : List Packet) → QueueBy kind queue → QueueBy kind (tail queue)
queue_tail absent queue none = ap tail none
queue_tail indifferent queue fits = tail_limits queue fits
queue_tail private queue fits = tail_limits queue fits

queue_push : (queue : List Packet) (p : Packet)
    → QueueLimits queue
    → length queue < places
    → (shortest ≤ p.length) × (p.length ≤ longest)
    → QueueLimits (queue ++ (p ∷ []))
queue_push queue p fits room own = record {
  queue_high = simp length-append (omega arith);
  queue_lengths = go queue fits.queue_lengths;
}
  where
    go : (q : List Packet) → LengthsFit q → LengthsFit (q ++ (p ∷ []))
    go [] f = (own.0, own.1, tt)
    go (x ∷ xs) f = (f.0, f.1, go xs f.2)

module _ (kind : Kind) (k : Stock) (limits : StockLimits kind k) where
  pub loaded-limits : (dummies : ℕ)
      → is_active kind ≡ true
      → not (is_indifferent kind) ≡ true
      → k.pool + dummies ≤ pool_limit
      → StockLimits kind (loaded k dummies)
  unfolding loaded
  loaded-limits dummies active unlike fits = record { queues = limits.queues; pools = go kind active unlike }
    where
      go : (x : Kind) → is_active x ≡ true → not (is_indifferent x) ≡ true → PoolBy x (k.pool + dummies)
      go absent e f = absurd (false≢true e)
      go indifferent e f = absurd (false≢true f)
      go private e f = fits

  pub queued-limits : (p : Packet)
      → is_active kind ≡ true
      → (shortest ≤ p.length) × (p.length ≤ longest)
      → length k.queue < places
      → StockLimits kind (queued k p)
  unfolding queued
  queued-limits p active own room = record { queues = go kind active limits.queues; pools = limits.pools }
    where
      go : (x : Kind) → is_active x ≡ true → QueueBy x k.queue → QueueBy x (k.queue ++ (p ∷ []))
      go absent e fits = absurd (false≢true e)
      go indifferent e fits = queue_push k.queue p fits room own
      go private e fits = queue_push k.queue p fits room own

  pub spent-limits : StockLimits kind (spent k)
  unfolding spent
  spent-limits = record {
    queues = queue_tail kind k.queue limits.queues;
    pools = cond_both (PoolBy kind) (empty k.queue) (pool_pred kind k.pool limits.pools) limits.pools;
  }
