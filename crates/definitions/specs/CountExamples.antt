-- Count sheets by example (paper 02, S-7): which entries the calls of a history make, why the sheet of a client that is indifferent is
-- compared by what it has gained, and that each count begins again at zero.
use Rattle.std.specs.Prelude.{ℕ, ◌+◌, ◌≡◌, true, List, [], ◌∷◌, Ok, Err}
use Rattle.definitions.specs.declared.Packet.{Packet}
use Rattle.definitions.specs.declared.Outcome.TheVariants.{Real, Dummy}
use Rattle.definitions.specs.declared.Answer.TheVariants.{Accepted, Refused, Slot}
use Rattle.definitions.specs.Event.{Open, Join, Change, Leave, Load, Arrive, Tick}
use Rattle.definitions.specs.Sizes.{ids, indifferent_kind, private_kind}
use Rattle.definitions.specs.State.{Core, unopened}
use Rattle.definitions.specs.History.{History, start, ◌then◌, scheduler, after, trace_of}
use Rattle.definitions.specs.Traces.{indifferent_at}
use Rattle.definitions.specs.Counts.{count_accepted, count_sent, count14, count15, count_emptied, count_dummies, Tally, gained, wrapped, counts_after, count_sheet}
use Rattle.definitions.specs.Counted.{counts_behind}
use Rattle.definitions.specs.Sameness.{kept}

-- a sheet in billing's order
abbrev pub listed : Tally → List ℕ
listed tally =
    tally count_accepted ∷ tally count_sent ∷ tally count14 ∷ tally count15 ∷ tally count_emptied ∷ tally count_dummies ∷ []

abbrev pub small : Packet
small = record { handle = 9; length = 64 }

-- Client 2 is private and sends two packets or none; then it changes to indifferent, fills its bucket and sends one.
abbrev pub as_private : History
as_private = start then Open 1024 0 1 then Join 2 private_kind 900 0 then Join 5 private_kind 100 0

abbrev pub onward : History → History
onward h = h then Change 2 indifferent_kind 900 1 then Tick then Tick then Arrive 2 small then Arrive 2 small then Tick

abbrev pub silent : History
silent = onward as_private

abbrev pub busy : History
busy = onward (as_private then Arrive 2 small then Arrive 2 small)

-- "Any other sheet counts from the join, private time included": what client 2 sent while private shows in its whole sheet, and not in what
-- it has gained since. Client 5's kept calls are the same, and so is its sheet.
pub record PrivateTimeCounts : Type 0 where
  pub kept_alike : kept 5 (trace_of scheduler busy) ≡ kept 5 (trace_of scheduler silent)
  pub indifferently : indifferent_at 2 (trace_of scheduler busy) ≡ true
  pub busy_sheet : listed (counts_behind busy 2) ≡ 3 ∷ 1 ∷ 0 ∷ 1 ∷ 2 ∷ 0 ∷ []
  pub silent_sheet : listed (counts_behind silent 2) ≡ 1 ∷ 1 ∷ 0 ∷ 1 ∷ 0 ∷ 0 ∷ []
  pub busy_gains : listed (gained 2 (trace_of scheduler busy)) ≡ 1 ∷ 1 ∷ 0 ∷ 1 ∷ 0 ∷ 0 ∷ []
  pub silent_gains : listed (gained 2 (trace_of scheduler silent)) ≡ 1 ∷ 1 ∷ 0 ∷ 1 ∷ 0 ∷ 0 ∷ []
  pub busy_chosen : listed (counts_behind busy 5) ≡ listed (counts_behind silent 5)

-- Client 2 alone: a dummy and a packet go out, and two packets are emptied out by a change of type, which keeps the other counts.
abbrev pub emptying : History
emptying =
    start then Open 1024 0 1 then Join 2 private_kind 900 0 then Load 2 1 then Tick then Arrive 2 small then Tick
    then Arrive 2 small then Arrive 2 small then Change 2 indifferent_kind 900 1

-- where a sheet begins, what it keeps and where it ends
pub record Sheets : Type 0 where
  pub changed : listed (counts_behind emptying 2) ≡ 3 ∷ 1 ∷ 0 ∷ 0 ∷ 2 ∷ 1 ∷ []
  -- a change that keeps the type empties nothing
  pub retuned : listed (counts_behind (emptying then Change 2 indifferent_kind 800 2) 2) ≡ 3 ∷ 1 ∷ 0 ∷ 0 ∷ 2 ∷ 1 ∷ []
  -- a leave ends them, and a join begins at zero
  pub left : listed (counts_behind (emptying then Leave 2) 2) ≡ 0 ∷ 0 ∷ 0 ∷ 0 ∷ 0 ∷ 0 ∷ []
  pub joined : listed (counts_behind (emptying then Leave 2 then Join 2 private_kind 1 0 then Arrive 2 small) 2)
      ≡ 1 ∷ 0 ∷ 0 ∷ 0 ∷ 0 ∷ 0 ∷ []
  -- and so does an open
  pub opened : listed (counts_behind (emptying then Open 1024 0 1) 2) ≡ 0 ∷ 0 ∷ 0 ∷ 0 ∷ 0 ∷ 0 ∷ []
  -- a refused join keeps them
  pub refused : listed (counts_behind (emptying then Join 2 private_kind 1 0) 2) ≡ 3 ∷ 1 ∷ 0 ∷ 0 ∷ 2 ∷ 1 ∷ []
  -- "An id not active gives 5", 19 and 4 before it
  pub given : count_sheet (after scheduler emptying) (counts_behind emptying) 2
      ≡ Ok (record { accepted = 3; sent = 1; full = 0; drained = 0; emptied = 2; dummies = 1 })
  pub inactive : count_sheet (after scheduler emptying) (counts_behind emptying) 3 ≡ Err 5
  pub unknown : count_sheet (after scheduler emptying) (counts_behind emptying) ids ≡ Err 4
  pub shut : count_sheet unopened (counts_behind start) ids ≡ Err 19

-- every count of every client at its highest: no calls need have led there
abbrev pub highest : ℕ → Tally
highest id count = 18446744073709551615

-- "counts run to 64 bits and then begin again at zero", each of the six on any core; two packets emptied out leave 1
pub record Wrapping : Type 0 where
  pub accepted : (core : Core) → counts_after core (Arrive 2 small) Accepted highest 2 count_accepted ≡ 0
  pub sent : (core : Core) → counts_after core Tick (Slot (Real 2 small 1454)) highest 2 count_sent ≡ 0
  pub full : (core : Core) → counts_after core (Arrive 2 small) (Refused 14) highest 2 count14 ≡ 0
  pub drained : (core : Core) → counts_after core (Arrive 2 small) (Refused 15) highest 2 count15 ≡ 0
  pub dummies : (core : Core) → counts_after core Tick (Slot (Dummy 2)) highest 2 count_dummies ≡ 0
  pub emptied :
      counts_after (after scheduler (as_private then Arrive 2 small then Arrive 2 small)) (Change 2 indifferent_kind 900 1) Accepted
      highest 2 count_emptied
      ≡ 1
  -- no other count moves with it, and no other client's
  pub others : (core : Core) → listed (counts_after core (Arrive 2 small) Accepted highest 2)
      ≡ 0 ∷ 18446744073709551615 ∷ 18446744073709551615 ∷ 18446744073709551615 ∷ 18446744073709551615 ∷ 18446744073709551615 ∷ []
  pub apart : (core : Core) → listed (counts_after core (Arrive 2 small) Accepted highest 3) ≡ listed (highest 3)
  -- a sheet that keeps to the sum after its count of accepted packets has begun again: 1 accepted, 2^64 − 2 sent, 3 waiting
  pub sum : wrapped (18446744073709551614 + 0 + 3) ≡ 1
