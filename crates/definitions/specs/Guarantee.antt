-- What the private side is sure to get (paper 02, S-14): "Over n ticks without open, hand-over, join, change, leave or change
-- of type by timetable, on one side of the box, private clients together are picked at least n minus the indifferent packets
-- waiting there at the start minus the sum, over indifferent clients, of (level at the start + n × rate) / 1024 rounded down,
-- provided one private client is active." The field calls it the leftover service of the lower priority. The core has one side,
-- and neither hand-overs nor timetables.
use Rattle.std.specs.Prelude.{ℕ, suc, ◌+◌, ◌-◌, ◌≤◌, ◌≡◌, Bool, true, false, cond, not, ◌&&◌, T, length}
use Rattle.definitions.specs.Sizes.{ids}
use Rattle.definitions.specs.Draw.{sum_below}
use Rattle.definitions.specs.Client.{is_indifferent, is_private}
use Rattle.definitions.specs.State.{Core}
use Rattle.definitions.specs.Answers.{is_accepted}
use Rattle.definitions.specs.Tick.{any_below}
use Rattle.definitions.specs.History.{History, Pick, no_slot, by_rule1, by_rule2, by_rule3, Trace, begin, ◌and◌, after, scheduler, client_of, stock_of}
use Rattle.definitions.specs.Sameness.{is_setting, is_tick}
use Rattle.definitions.specs.Limits.{CoreLimits}
use Rattle.definitions.specs.Stretch.{stretch, behind, one_if, ticks, acceptances, bought}

-- "without open, .. join, change, leave", of anybody: none that is accepted; a refused one changes nothing
unfoldable pub steady : Trace → Bool
steady begin = true
steady (t and d) = steady t && not (is_setting d.event && is_accepted d.answer)

-- "picked": by rule 2, which picks a private client, whatever the slot then sends
abbrev pub is_private_pick : Pick → Bool
is_private_pick no_slot = false
is_private_pick by_rule1 = false
is_private_pick (by_rule2 id) = true
is_private_pick by_rule3 = false

-- how often private clients, all of them together, are picked
unfoldable pub picks : Trace → ℕ
picks begin = 0
picks (t and d) = one_if (is_tick d.event && is_private_pick d.pick) (picks t)

-- "provided one private client is active"
unfoldable pub private_active : Core → Bool
private_active core = any_below ids (λ id. is_private (client_of core id).kind)

-- "the sum, over indifferent clients, of" a number of each
unfoldable pub over_indifferent : Core → (ℕ → ℕ) → ℕ
over_indifferent core number = sum_below ids (λ id. cond (is_indifferent (client_of core id).kind) (number id) 0)

-- "the indifferent packets waiting"
unfoldable pub backlog : Core → ℕ
backlog core = over_indifferent core (λ id. length (stock_of core id).queue)

-- what the indifferent clients may take of the next n slots: what waits, and what each of them has bought
unfoldable pub demand : Core → ℕ → ℕ
demand core n = backlog core + over_indifferent core (λ id. bought (client_of core id) n)

-- The figure: of how many picks the private side is sure in the next n ticks. Where the demand passes n the difference is 0.
unfoldable pub sure : Core → ℕ → ℕ
sure core n = cond (private_active core) (n - demand core n) 0

-- Where the slots go: to picks, and to the packets that waited or were accepted, but for those that wait at the end.
unfoldable pub SlotsShared : Type 0
SlotsShared =
    (core : Core) (calls : History)
    → CoreLimits core
    → T (private_active core)
    → T (steady (stretch core calls))
    → picks (stretch core calls) + (backlog core + over_indifferent core (λ id. acceptances id (stretch core calls)))
    ≡ ticks (stretch core calls) + backlog (behind core calls)

pub record Guarantee : Type 0 where
  -- from any core on that is within the limits, whatever else is called
  pub anywhere : (core : Core) (calls : History)
      → CoreLimits core
      → T (private_active core)
      → T (steady (stretch core calls))
      → ticks (stretch core calls) ≤ picks (stretch core calls) + demand core (ticks (stretch core calls))
  -- What the last tick adds to a bucket comes behind its pick and buys no slot: so n − 1 may stand for n in what is bought.
  -- Neither the request nor the figure does so.
  pub sharper : (core : Core) (calls : History)
      → CoreLimits core
      → T (private_active core)
      → T (steady (stretch core calls))
      → (m : ℕ)
      → ticks (stretch core calls) ≡ suc m
      → suc m ≤ picks (stretch core calls) + demand core m
  -- So with the figure, which claims nothing where no private client is active. It may be lower for more ticks; what is sure
  -- within m ticks is so within more.
  pub figure : (core : Core) (calls : History)
      → CoreLimits core
      → T (steady (stretch core calls))
      → (m : ℕ)
      → m ≤ ticks (stretch core calls)
      → sure core m ≤ picks (stretch core calls)
  -- and so from every core on that a history reaches
  pub reached : (h calls : History)
      → T (steady (stretch (after scheduler h) calls))
      → (m : ℕ)
      → m ≤ ticks (stretch (after scheduler h) calls)
      → sure (after scheduler h) m ≤ picks (stretch (after scheduler h) calls)
