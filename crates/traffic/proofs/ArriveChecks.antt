-- What a packet is refused for, over control and tables: once its client is known to be active, by the packet's length, the count of those that
-- wait, the kind and the level. Assumes nothing.
use Rattle.std.proofs.Common.{◌≡◌, ℕ, ◌≤◌, ◌<◌, Bool, cond, not, ◌&&◌, ◌||◌, [], refl}
use lib.Dec.{ltb, leb}
use mathlib.Core.Path.{◌∙◌}
use borrow.Author.Tests.{lt-ltb, le-leb}
use Rattle.definitions.specs.declared.Packet.{Packet}
use Rattle.definitions.specs.Sizes.{ids, places, shares, shortest, longest}
use Rattle.definitions.specs.Checks.{within, active_checks, arrive_checks}
use Rattle.marks.specs.Marks.{marked}
use Rattle.tables.specs.declared.Control.{Control}
use Rattle.tables.specs.declared.Tables.{Tables}
use Rattle.tables.specs.Tables.{level_at, count_at}
use Rattle.tables.specs.Meaning.{state_of, clients_of, client_at, side_of, stocks_of, stock_at}
use Rattle.tables.specs.Numbers.{first_failed, refusal}
use Rattle.tables.proofs.MarkedKinds.{kind_indifferent}
use Rattle.tables.proofs.QueueRing.{queue_length}
use Rattle.tables.proofs.ActiveChecks.{active_below, active_rest}

-- the numbers behind 19, 4 and 5
abbrev pub by_level : Bool → ℕ → ℕ
by_level indifferent level = cond (not indifferent || leb shares level) 0 15

abbrev pub by_count : ℕ → Bool → ℕ → ℕ
by_count count indifferent level = cond (ltb count places) (by_level indifferent level) 14

abbrev pub by_length : ℕ → ℕ → Bool → ℕ → ℕ
by_length length count indifferent level =
    cond (leb shortest length && leb length longest) (by_count count indifferent level) 13

module _ (c : Control) (id : ℕ) (packet : Packet) (active : (t : Tables) → 0 ≡ refusal c t (λ s. active_checks s id [])) where
  pub arrive_id : id < ids
  arrive_id = active_below c id 0 active refl

  pub arrive_rest : (t : Tables) → refusal c t (λ s. arrive_checks s id packet)
      ≡ by_length packet.length (count_at t.stocks id) (marked c.indifferent id) (level_at t.terms id)
  unfolding arrive_checks first_failed within state_of clients_of client_at side_of stocks_of stock_at
  arrive_rest t =
      active_rest c id 0 active refl t _ ∙ rw (lt-ltb id ids arrive_id, kind_indifferent c id, queue_length t id)

  module _ (long : shortest ≤ packet.length) (short : packet.length ≤ longest) where
    pub arrive_fits : (t : Tables) → refusal c t (λ s. arrive_checks s id packet)
        ≡ by_count (count_at t.stocks id) (marked c.indifferent id) (level_at t.terms id)
    arrive_fits t = arrive_rest t ∙ rw (le-leb _ _ long, le-leb _ _ short)

    pub arrive_placed : (t : Tables) → count_at t.stocks id < places → refusal c t (λ s. arrive_checks s id packet)
        ≡ by_level (marked c.indifferent id) (level_at t.terms id)
    arrive_placed t left = arrive_fits t ∙ rw (lt-ltb _ _ left)
