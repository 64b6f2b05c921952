-- The examples of specs/GreedyExamples, computed. Assumes nothing.
use Prim.Native.Nat.{ℕ, zero, suc, ◌*◌, ◌≤◌}
use mathlib.Core.Path.{◌≡◌, refl, sym, ap, ◌∙◌}
use mathlib.Core.Bool.{Bool, true, false, cond}
use native.Mathlib.Omega.{arith}
use lib.Dec.{T, eqb, lit<, lit≤}
use lib.ListN.{replicate, length-replicate}
use borrow.Author.Tests.{ne_eqb}
use Rattle.definitions.specs.Sizes.{ids, places, shares, burst_limit, shortest, longest, first_come, weighted_draw}
use Rattle.definitions.specs.Draw.{sum_below}
use Rattle.definitions.specs.Client.{Client, indifferent, nobody}
use Rattle.definitions.specs.Stock.{Stock, bare}
use Rattle.definitions.specs.State.{put}
use Rattle.definitions.specs.Checks.{active_rate, rates}
use Rattle.definitions.specs.History.{Trace, after, answer_at, dealing_at, trace_of}
use Rattle.definitions.specs.Sameness.{names, is_setting, is_arrival, is_tick}
use Rattle.definitions.specs.Limits.{LengthsFit, ClientLimits, StockLimits, standing, ordered, CoreLimits}
use Rattle.definitions.specs.Stretch.{stretch, is_open, ticks, resets, is_offer, undisturbed, acceptances, tokens}
use Rattle.definitions.specs.Greedy.{is_refused, refused_ever, refused_since, refused_at_ticks, offers_until}
use Rattle.definitions.specs.GreedyExamples.{ticking, joined, offered_over, among, GreedyOver, GreedyThere, conditions, sole, GreedyNeeded}
use Rattle.definitions.proofs.Laws.Tests.{cond_same, eqb-cases, eqb_comm}
use Rattle.definitions.proofs.Everything.{everything}

-- what the examples compute with
unfoldable computed : Type 0
unfolding everything after answer_at dealing_at trace_of names is_setting is_arrival is_tick is_open ticks resets is_offer undisturbed
    acceptances tokens is_refused refused_ever refused_since refused_at_ticks ticking joined offered_over conditions sole
computed = Unit {0}

module _ (n accepted : ℕ) where
  abbrev t : Trace
  t = stretch (joined 700 2) (offered_over among n)

  over : T (undisturbed 3 t) → T (offers_until 3 15 t) → refused_ever 3 14 t ≡ false → ticks t ≡ n → acceptances 3 t ≡ accepted
      → GreedyOver n accepted
  unfolding computed
  over calm offers roomy ticked got = record {
    greedy = record { indifferently = tt; burst_two = lit≤ tt; calm = calm; offers = offers; roomy = roomy };
    ticked = ticked;
    got = got;
  }

pub greedy_there : GreedyThere
unfolding computed
greedy_there = record {
  filled = refl;
  over0 = over 0 2 tt tt refl refl refl;
  over1 = over 1 2 tt tt refl refl refl;
  over2 = over 2 3 tt tt refl refl refl;
  over3 = over 3 4 tt tt refl refl refl;
  over6 = over 6 6 tt tt refl refl refl;
  over12 = over 12 10 tt tt refl refl refl;
  over40 = over 40 29 tt tt refl refl refl;
}

-- A core with one client is within the limits. Its client and its stock stand at one id, and nothing at any other.
standing-replicate : (id n : ℕ) → standing id (replicate n 3) ≡ cond (eqb 3 id) n 0
unfolding standing
standing-replicate id zero = sym (cond_same (eqb 3 id) 0)
standing-replicate id (suc n) = go (eqb 3 id) (standing-replicate id n)
  where
    go : (b : Bool) → standing id (replicate n 3) ≡ cond b n 0
        → cond b (suc (standing id (replicate n 3))) (standing id (replicate n 3)) ≡ cond b (suc n) 0
    go true e = ap suc e
    go false e = e

lengths_replicate : (n : ℕ) → LengthsFit (replicate n (record { handle = 1; length = 64 }))
unfolding shortest longest
lengths_replicate zero = tt
lengths_replicate (suc n) = (lit≤ tt, lit≤ tt, lengths_replicate n)

sole-limits : (n : ℕ) → n ≤ places → CoreLimits (sole 512 2 (2 * shares) n)
unfolding ids shares burst_limit weighted_draw first_come put sum_below rates active_rate ordered sole
sole-limits n room = record {
  threshold_low = lit≤ tt;
  threshold_high = lit≤ tt;
  discipline_high = lit≤ tt;
  rates_high = lit≤ tt;
  client_limits = λ id.
      eqb-cases (λ t. ClientLimits (cond t client nobody)) id 3
      (λ e. record {
        active = record { rate_low = lit≤ tt; rate_high = lit≤ tt };
        burst_low = lit≤ tt;
        burst_high = lit≤ tt;
        level_high = lit≤ tt;
      })
      (λ ne. refl);
  ids_high = λ id above. rw (ne_eqb id 3 (λ e. omega arith));
  side_limits = record {
    stock_limits = λ id.
        eqb-cases (λ t. StockLimits (cond t client nobody).kind (cond t stock bare)) id 3
        (λ e. record {
          queues = record { queue_high = rw length-replicate room; queue_lengths = lengths_replicate n };
          pools = refl;
        })
        (λ ne. record { queues = refl; pools = refl });
    order_whole = λ id.
        standing-replicate id n
        ∙ rw (eqb_comm 3 id) (eqb-cases (λ t. cond t n 0 ≡ ordered (cond t client nobody) (cond t stock bare)) id 3
        (λ e. sym (length-replicate n _)) (λ ne. refl));
  };
}
  where
    client : Client
    client = record { kind = indifferent; rate = 512; burst = 2; level = 2 * shares }

    stock : Stock
    stock = record { queue = replicate n (record { handle = 1; length = 64 }); pool = 0 }

pub greedy_needed : GreedyNeeded
unfolding computed
greedy_needed = record {
  burst_one = record { indifferently = tt; told = refl; fewer = lit< tt };
  early = record { indifferently = tt; told = refl; fewer = lit< tt };
  last = record { indifferently = tt; told = refl; fewer = lit< tt };
  full = record { indifferently = tt; told = refl; fewer = lit< tt };
  until_full = tt;
  full_within = sole-limits places (omega arith);
  changed = record { indifferently = tt; told = refl; fewer = lit< tt };
  rate = record { indifferently = tt; told = refl; fewer = lit< tt };
}
