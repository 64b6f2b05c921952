-- What a tenant sees behind a join or a switch (paper 02, S-4): "A bucket now begins at level 0 after a join and after a change
-- from private to indifferent." Its packets are refused with 15 until ticks have brought a whole token: 1024 / rate of them,
-- rounded up.
use Rattle.std.specs.Prelude.{ℕ, ◌*◌, min, ◌≡◌, true, cond, T, leb}
use Rattle.definitions.specs.declared.Packet.{Packet}
use Rattle.definitions.specs.Event.{Join, Change, Arrive}
use Rattle.definitions.specs.declared.Answer.TheVariants.{Accepted, Refused}
use Rattle.definitions.specs.Sizes.{shares, shortest, longest, indifferent_kind}
use Rattle.definitions.specs.Client.{indifferent, private}
use Rattle.definitions.specs.Stock.{bare}
use Rattle.definitions.specs.State.{Core}
use Rattle.definitions.specs.Checks.{within}
use Rattle.definitions.specs.Core.{step}
use Rattle.definitions.specs.History.{History, after, client_of, stock_of, scheduler}
use Rattle.definitions.specs.Stretch.{stretch, behind, ticks, undisturbed, acceptances}

-- an id that has just become indifferent
pub record Begun (core : Core) (id rate burst : ℕ) : Type 0 where
  pub client : client_of core id ≡ record { kind = indifferent; rate = rate; burst = burst; level = 0 }
  pub stock : stock_of core id ≡ bare

pub record FirstPacket : Type 0 where
  -- "after a join and after a change from private to indifferent"
  pub join : (core : Core) (id rate burst : ℕ)
      → (step core (Join id indifferent_kind rate burst)).answer ≡ Accepted
      → Begun (step core (Join id indifferent_kind rate burst)).core id rate burst
  pub switch : (core : Core) (id rate burst : ℕ)
      → (client_of core id).kind ≡ private
      → (step core (Change id indifferent_kind rate burst)).answer ≡ Accepted
      → Begun (step core (Change id indifferent_kind rate burst)).core id rate burst
  -- while none of its packets is accepted, the ticks fill the bucket
  pub filling : (core : Core) (id rate burst : ℕ) (calls : History)
      → Begun core id rate burst
      → T (undisturbed id (stretch core calls))
      → acceptances id (stretch core calls) ≡ 0
      → (client_of (behind core calls) id).level ≡ min (ticks (stretch core calls) * rate) (burst * shares)
  -- and the first that it offers with n × rate at 1024 or more is accepted, those before it are refused with 15
  pub first : (h : History) (id rate burst : ℕ) (calls : History) (p : Packet)
      → Begun (after scheduler h) id rate burst
      → T (undisturbed id (stretch (after scheduler h) calls))
      → acceptances id (stretch (after scheduler h) calls) ≡ 0
      → within shortest longest p.length ≡ true
      → (step (behind (after scheduler h) calls) (Arrive id p)).answer
      ≡ cond (leb shares (ticks (stretch (after scheduler h) calls) * rate)) Accepted (Refused 15)
