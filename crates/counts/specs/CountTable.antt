-- The table of counts (paper 02, S-7): six numbers for each id, "the six of an id lie together, one id after the other". What a call
-- enters in the sheets is entered in it, and counts wrap at 64 bits.
use Rattle.std.specs.Prelude.{◌≡◌, ℕ, ◌+◌, ◌*◌, ◌<◌, cond, List, length, ◌==◌, slice_index}
use Rattle.definitions.specs.declared.Outcome.{Outcome}
use Rattle.definitions.specs.declared.Outcome.TheVariants.{Real, Dummy, Idle, None}
use Rattle.definitions.specs.Sizes.{ids}
use Rattle.counts.specs.declared.Counted.{Counted}
use Rattle.counts.specs.declared.Counted.TheVariants.{Accepted, Sent, Full, Drained, Emptied, Dummies}
use Rattle.definitions.specs.Counts.{Count, count_accepted, count_sent, count14, count15, count_emptied, count_dummies}
use Rattle.definitions.specs.Counts.{column, Tally, Entry, nothing, entered, wrapped_plus}

abbrev pub count_columns : ℕ
count_columns = 6

-- the count that the code names so
abbrev pub count_named : Counted → Count
count_named Accepted = count_accepted
count_named Sent = count_sent
count_named Full = count14
count_named Drained = count15
count_named Emptied = count_emptied
count_named Dummies = count_dummies

-- where a count of an id stands, by its column
abbrev pub count_entry : ℕ → ℕ → ℕ
count_entry id column = id * count_columns + column

-- the sheet of an id
unfoldable pub count_in : List ℕ → ℕ → Tally
count_in table id count = slice_index table (count_entry id (column count))

-- an entry in the sheet of one id, and nothing in any other's
abbrev pub for_one : ℕ → Entry → ℕ → Entry
for_one one entry id = cond (one == id) entry nothing

-- A table after an entry for each id: it is as long as before and, where it has all counts, each sheet is the one before with its entry.
pub record Entered (entries : ℕ → Entry) (before after : List ℕ) : Type 0 where
  pub size : length after ≡ length before
  pub each : length before ≡ count_columns * ids
      → (id : ℕ)
      → id < ids
      → (count : Count)
      → count_in after id count ≡ entered wrapped_plus (entries id) (count_in before id) count

-- who sent in a slot is one of the ids
abbrev pub SenderBelow : Outcome → Type 0
SenderBelow (Real id packet padding) = id < ids
SenderBelow (Dummy id) = id < ids
SenderBelow (Idle id) = Unit {0}
SenderBelow None = Unit {0}
