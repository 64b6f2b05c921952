-- That there are greedy clients, and why S-10 (paper 02) has its conditions: where one of them is not met, fewer packets may be
-- accepted than were bought. All are computed. Client 3 is the one that offers.
use Rattle.std.specs.Prelude.{ℕ, zero, suc, ◌*◌, ◌<◌, ◌≡◌, Bool, true, false, not, List, [], ◌∷◌, T, leb, replicate}
use Rattle.definitions.specs.Event.{Event, Open, Join, Change, Load, Tick}
use Rattle.definitions.specs.Sizes.{places, shares, indifferent_kind, private_kind, first_come}
use Rattle.definitions.specs.Client.{indifferent, nobody, is_indifferent}
use Rattle.definitions.specs.Stock.{bare}
use Rattle.definitions.specs.State.{Core, running, put}
use Rattle.definitions.specs.Cases.{arrival}
use Rattle.definitions.specs.History.{History, start, ◌then◌, after, scheduler, client_of}
use Rattle.definitions.specs.Limits.{CoreLimits}
use Rattle.definitions.specs.Stretch.{stretch, behind, ticks, undisturbed, acceptances, bought}
use Rattle.definitions.specs.Greedy.{refused_ever, offers_until, Greedy}

-- a packet that client 3 offers
abbrev pub offer : Event
offer = arrival 3 1 64

-- n ticks behind some calls
unfoldable pub ticking : ℕ → History → History
ticking zero h = h
ticking (suc n) h = ticking n h then Tick

-- a core on which client 3 is indifferent beside a private client, with what three ticks have brought into its bucket
unfoldable pub joined : ℕ → ℕ → Core
joined rate burst =
    after scheduler
    (ticking 3 (start then Open 1024 first_come 1 then Join 2 private_kind 20 0 then Join 3 indifferent_kind rate burst))

module _ (offering : History → History) where
  -- an offering before the first of n ticks, and one behind each of them
  unfoldable pub offered_over : ℕ → History
  offered_over zero = offering start
  offered_over (suc n) = offering (offered_over n then Tick)

-- three packets: with a burst of 2 or less the third gets 15
abbrev pub thrice : History → History
thrice h = h then offer then offer then offer

-- The same among calls of others, one of them a join, and calls that are refused: an open (1), a join of client 3 (6) and a
-- packet of it (13).
abbrev pub among : History → History
among h =
    h then Join 7 indifferent_kind 100 1 then Open 0 first_come 1 then Join 3 indifferent_kind 1 1 then arrival 3 5 63
    then offer then arrival 2 8 64 then offer then Load 2 1 then arrival 7 9 64 then offer

-- Client 3, with two packets' tokens at first and a rate of 700, is greedy over n ticks, and so many of its packets are accepted.
pub record GreedyOver (n accepted : ℕ) : Type 0 where
  pub greedy : Greedy 3 (client_of (joined 700 2) 3) (stretch (joined 700 2) (offered_over among n))
  pub ticked : ticks (stretch (joined 700 2) (offered_over among n)) ≡ n
  pub got : acceptances 3 (stretch (joined 700 2) (offered_over among n)) ≡ accepted

-- there are such stretches, for several n
pub record GreedyThere : Type 0 where
  pub filled : (client_of (joined 700 2) 3).level ≡ 2 * shares
  pub over0 : GreedyOver 0 2
  pub over1 : GreedyOver 1 2
  pub over2 : GreedyOver 2 3
  pub over3 : GreedyOver 3 4
  pub over6 : GreedyOver 6 6
  pub over12 : GreedyOver 12 10
  pub over40 : GreedyOver 40 29

-- Which conditions of the request client 3 meets: burst 2 or more; an offering until 15 before the first tick and behind each;
-- no 14; no open, nor join, change or leave of it.
unfoldable pub conditions : Core → History → List Bool
conditions core calls =
    leb 2 (client_of core 3).burst
    ∷ offers_until 3 15 (stretch core calls)
    ∷ not (refused_ever 3 14 (stretch core calls))
    ∷ undisturbed 3 (stretch core calls)
    ∷ []

-- client 3 is indifferent and meets the conditions that are told, and fewer of its packets are accepted than it bought
pub record Fewer (core : Core) (calls : History) (met : List Bool) : Type 0 where
  pub indifferently : T (is_indifferent (client_of core 3).kind)
  pub told : conditions core calls ≡ met
  pub fewer : acceptances 3 (stretch core calls) < bought (client_of core 3) (ticks (stretch core calls))

-- a core with client 3 alone and so many packets of it waiting
unfoldable pub sole : ℕ → ℕ → ℕ → ℕ → Core
sole rate burst level waiting = running (record {
  threshold = shares;
  discipline = first_come;
  clients = put (λ id. nobody) 3 (record { kind = indifferent; rate = rate; burst = burst; level = level });
  side = record {
    generator = 1;
    order = replicate waiting 3;
    stocks = put (λ id. bare) 3 (record { queue = replicate waiting (record { handle = 1; length = 64 }); pool = 0 });
  };
})

-- Stretches in which a condition is not met; where 14 is met no offering ends with 15 either, so there it is two. The last meets
-- all four, at a rate that no history reaches.
pub record GreedyNeeded : Type 0 where
  -- of burst 1 a bucket with less than a token may have no room for a rate of 1000: every second refill spills
  pub burst_one : Fewer (joined 1000 1) (offered_over thrice 3) (false ∷ true ∷ true ∷ true ∷ [])
  -- at level 2024 the client leaves out the one packet that it could send before the first tick, and later offerings do not make
  -- up for what that tick spills
  pub early : Fewer (behind (joined 1000 2) (start then offer then Tick)) (thrice (thrice (start then Tick) then Tick))
      (true ∷ false ∷ true ∷ true ∷ [])
  -- or it does so at the end
  pub last : Fewer (joined 1000 2) (start then offer) (true ∷ false ∷ true ∷ true ∷ [])
  -- every offering ends with 14: as many packets wait as there are places
  pub full : Fewer (sole 512 2 (2 * shares) places) (offered_over thrice 1) (true ∷ false ∷ false ∷ true ∷ [])
  pub until_full : T (offers_until 3 14 (stretch (sole 512 2 (2 * shares) places) (offered_over thrice 1)))
  -- from a core within the limits
  pub full_within : CoreLimits (sole 512 2 (2 * shares) places)
  -- it changes to a lower rate
  pub changed : Fewer (joined 1000 2) (thrice (thrice (thrice (start then Change 3 indifferent_kind 1 2) then Tick) then Tick))
      (true ∷ true ∷ true ∷ false ∷ [])
  -- a rate above 1024
  pub rate : Fewer (sole 4096 2 0 0) (offered_over thrice 1) (true ∷ true ∷ true ∷ true ∷ [])
