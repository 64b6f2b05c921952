-- That for every n there is a stretch in which the private side is picked no more often than S-14 (paper 02) claims, and why the
-- claim has its conditions: where one of them is not met, the private side may be picked less often.
use Rattle.std.specs.Prelude.{ℕ, zero, suc, ◌+◌, ◌/◌, ◌<◌, ◌≡◌, Bool, true, false, List, [], ◌∷◌, T}
use Rattle.definitions.specs.Event.{Open, Join, Change, Leave, Tick}
use Rattle.definitions.specs.Sizes.{shares, indifferent_kind, private_kind, first_come, weighted_draw}
use Rattle.definitions.specs.Client.{indifferent, private, nobody}
use Rattle.definitions.specs.Stock.{bare}
use Rattle.definitions.specs.State.{Core, running, put}
use Rattle.definitions.specs.Cases.{arrival}
use Rattle.definitions.specs.History.{History, start, ◌then◌, after, scheduler}
use Rattle.definitions.specs.Limits.{CoreLimits}
use Rattle.definitions.specs.Stretch.{stretch, behind, ticks}
use Rattle.definitions.specs.Guarantee.{steady, picks, private_active, demand, sure}
use Rattle.definitions.specs.GreedyExamples.{offer, ticking, joined}

-- Client 3, at half the shares and beside private client 2, has used up what it had: it has one token and no packet waiting.
unfoldable pub with_token : Core
with_token = behind (joined 512 2) (start then Tick then offer then offer then Tick then Tick)

-- The same with half a token: a packet more, and the slot that sent it.
unfoldable pub with_half : Core
with_half = behind with_token (start then offer then Tick)

-- client 3 offers a packet whenever it has a token again, over n ticks; where it begins depends on n, so that the last tick's
-- refill makes up no token
unfoldable pub beginning : ℕ → Core
beginning zero = with_half
beginning (suc zero) = with_token
beginning (suc (suc n)) = beginning n

unfoldable pub taking : ℕ → History
taking zero = start
taking (suc zero) = start then offer then Tick
taking (suc (suc n)) = taking n then Tick then offer then Tick

-- Some calls from a core on are a stretch as the claim speaks of, of so many ticks, in which so many picks were sure and so many
-- made.
pub record Exactly (core : Core) (calls : History) (n picked : ℕ) : Type 0 where
  pub limited : CoreLimits core
  pub active : T (private_active core)
  pub calm : T (steady (stretch core calls))
  pub ticked : ticks (stretch core calls) ≡ n
  pub claimed : sure core n ≡ picked
  pub got : picks (stretch core calls) ≡ picked

-- for every n, half of the slots are sure, and no more are got
unfoldable pub GuaranteeBest : Type 0
GuaranteeBest = (n : ℕ) → Exactly (beginning n) (taking n) n (n / 2)

-- Two indifferent clients by draw, each with 400 in its bucket and none waiting: both buckets were full, and four slots sent what
-- they let in.
unfoldable pub paired : Core
paired =
    after scheduler
    (ticking 4
    (ticking 21
    (start then Open 1024 weighted_draw 1 then Join 2 private_kind 300 0 then Join 3 indifferent_kind 100 2
    then Join 7 indifferent_kind 100 2)
    then arrival 3 1 64 then arrival 7 1 64 then arrival 3 1 64 then arrival 7 1 64))

-- each offers a packet once it has a token again
unfoldable pub pair_offers : History
pair_offers = ticking 7 start then arrival 3 1 64 then arrival 7 1 64

pub record GuaranteeThere : Type 0 where
  -- The figure for one tick more may be lower: both buckets have a token again with the seventh. By `sharper` all seven are sure,
  -- since nothing is bought with the six before it.
  pub six : sure paired 6 ≡ 6
  pub seven : sure paired 7 ≡ 5
  pub sharpened : demand paired 6 ≡ 0
  -- over nine ticks, of which two send what they offered
  pub nine : Exactly paired (ticking 2 pair_offers) 9 7
  -- and where both have a packet waiting at the start
  pub waiting : Exactly (behind paired pair_offers) (ticking 5 start) 5 3

-- which conditions of the claim are met: a private client is active; no open, join, change or leave is accepted
unfoldable pub conditions_met : Core → History → List Bool
conditions_met core calls = private_active core ∷ steady (stretch core calls) ∷ []

-- the conditions that are told are met, and fewer are picked than is claimed
pub record FewerPicked (core : Core) (calls : History) (met : List Bool) : Type 0 where
  pub told : conditions_met core calls ≡ met
  pub fewer : picks (stretch core calls) + demand core (ticks (stretch core calls)) < ticks (stretch core calls)

-- a core with private client 2 alone, and one with indifferent client 3 alone
unfoldable pub private_only : Core
private_only = after scheduler (start then Open 1024 first_come 1 then Join 2 private_kind 20 0)

unfoldable pub indifferent_only : Core
indifferent_only = after scheduler (start then Open 1024 first_come 1 then Join 3 indifferent_kind 100 1)

-- A core out of its limits: a packet waits that is not in the order of acceptance, so rule 1 goes on for ever and sends nothing.
unfoldable pub out_of_order : Core
out_of_order = running (record {
  threshold = shares;
  discipline = first_come;
  clients = put (put (λ id. nobody) 2 (record { kind = private; rate = 20; burst = 0; level = 0 })) 3
      (record { kind = indifferent; rate = 1; burst = 1; level = 0 });
  side = record {
    generator = 1;
    order = [];
    stocks = put (λ id. bare) 3 (record { queue = record { handle = 1; length = 64 } ∷ []; pool = 0 });
  };
})

pub record GuaranteeNeeded : Type 0 where
  -- "provided one private client is active": without one, nobody is picked
  pub nobody : FewerPicked indifferent_only (ticking 5 start) (false ∷ true ∷ [])
  pub unpicked : picks (stretch indifferent_only (ticking 5 start)) ≡ 0
  -- "without open, .. join, change, leave": the private client leaves, or is gone with an open
  pub left : FewerPicked private_only (ticking 3 (start then Leave 2)) (true ∷ false ∷ [])
  pub opened : FewerPicked private_only (ticking 3 (start then Open 1024 first_come 1)) (true ∷ false ∷ [])
  -- an indifferent client joins, and has a packet sent
  pub joining : FewerPicked private_only (ticking 1 (ticking 3 (start then Join 3 indifferent_kind 1000 2) then offer))
      (true ∷ false ∷ [])
  -- or it changes to a higher rate
  pub changing : FewerPicked (joined 1 2)
      (ticking 3 (ticking 3 (start then Change 3 indifferent_kind 1000 4) then offer then offer then offer then offer))
      (true ∷ false ∷ [])
  -- "from any core on that is within the limits"
  pub limits : FewerPicked out_of_order (ticking 5 start) (true ∷ true ∷ [])
