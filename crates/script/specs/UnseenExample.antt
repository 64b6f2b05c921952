-- Cores as `UnusedUnseen` (crates/tables, Unseen) speaks of them, with a packet waiting; and why they have to be the same where
-- packets wait. An open, the join of client 0 as private and the arrival of a packet lead to them, by the packet's handle.
use Rattle.std.specs.Prelude.{ℕ, ◌≡◌, [], ◌∷◌}
use Rattle.definitions.specs.declared.Packet.{Packet}
use Rattle.definitions.specs.declared.Outcome.TheVariants.{Real}
use Rattle.definitions.specs.declared.Answer.TheVariants.{Slot}
use Rattle.definitions.specs.Event.{Open, Join, Arrive, Tick}
use Rattle.definitions.specs.Core.{step}
use Rattle.definitions.specs.History.{start, ◌then◌, Trace}
use Rattle.tables.specs.declared.Control.{Control}
use Rattle.tables.specs.declared.Tables.{Tables}
use Rattle.tables.specs.Meaning.{core_of}
use Rattle.tables.specs.Run.{Reached, calls_of}
use Rattle.tables.specs.Unused.{waiting_places, DifferUnused, overwritten}

abbrev pub waiting_packet : ℕ → Packet
waiting_packet handle = record { handle = handle; length = 64 }

pub record UnseenExample : Type 0 where
  pub control : Control
  pub tables : ℕ → Tables
  pub trace : ℕ → Trace
  pub reached : (handle : ℕ) → Reached (trace handle) control (tables handle)
  pub called : (handle : ℕ)
      → calls_of (trace handle) ≡ start then Open 1024 0 1 then Join 0 2 300 0 then Arrive 0 (waiting_packet handle)
  -- the packet waits at the first place; at the second, say, any numbers may stand
  pub waits : (handle : ℕ) → waiting_places (tables handle) 0 ≡ 0 ∷ []
  pub unused : (handle another length : ℕ) → DifferUnused control (tables handle) (overwritten (tables handle) 1 another length)
  -- the tables differ at the first place alone, and the next slot tells them apart
  pub other : (handle another : ℕ) → tables another ≡ overwritten (tables handle) 0 another 64
  pub sends : (handle : ℕ) → (step (core_of control (tables handle)) Tick).answer ≡ Slot (Real 0 (waiting_packet handle) 1454)
