-- What is claimed of the count sheets (paper 02, S-7), of every history. That they are "as private as its queue" is part of demand 3
-- (specs/Sameness: `chosen_counts`, `indifferent_gains`).
use Rattle.std.specs.Prelude.{ℕ, ◌+◌, ◌<◌, ◌≡◌, ◌≢◌, cond, ◌&&◌, T, length}
use Rattle.definitions.specs.declared.Packet.{Packet}
use Rattle.definitions.specs.declared.Answer.TheVariants.{Refused}
use Rattle.definitions.specs.Event.{Event, Arrive}
use Rattle.definitions.specs.Sizes.{count_span}
use Rattle.definitions.specs.State.{Core}
use Rattle.definitions.specs.Core.{step}
use Rattle.definitions.specs.History.{History, start, ◌then◌, Place, calls, scheduler, after, answer_at, trace_of, stock_of}
use Rattle.definitions.specs.Traces.{indifferent_at}
use Rattle.definitions.specs.Counts.{Count, count_accepted, count_sent, count14, count15, count_emptied, Tally, zeros, tallied, gained, wrapped, wrapped_plus, counts_after, count_sheet, Whole, whole_after}
use Rattle.definitions.specs.Sameness.{kept}

-- the counts that are kept behind a history
unfoldable pub counts_behind : History → ℕ → Tally
counts_behind start = λ id. zeros
counts_behind (h then c) = counts_after (after scheduler h) c (answer_at scheduler h c) (counts_behind h)

-- core and counts behind some calls, from any on
unfoldable pub whole_behind : Whole → History → Whole
whole_behind w start = w
whole_behind w (h then c) = whole_after (whole_behind w h) c

-- how many packets of an id wait in a core
unfoldable pub waiting_in : Core → ℕ → ℕ
waiting_in core id = length (stock_of core id).queue

-- "Accepted equals sent plus emptied plus waiting, modulo 2 to the power 64."
unfoldable pub Settles : Tally → Core → ℕ → Type 0
Settles tally core id = tally count_accepted ≡ wrapped (tally count_sent + tally count_emptied + waiting_in core id)

-- of an id that is indifferent at the end: the history up to "the join or change that made it so", which is its last call
unfoldable pub made_so : ℕ → History → History
made_so id start = start
made_so id (h then c) =
    cond (indifferent_at id (trace_of scheduler h) && indifferent_at id (trace_of scheduler (h then c))) (made_so id h) (h then c)

-- a packet refused with a number raises one of its client's counts by one and changes nothing else: the core is as it was, and so is
-- every other count
unfoldable pub CountedAlone : ℕ → Count → Type 0
CountedAlone number own =
    (core : Core) (id : ℕ) (p : Packet) (counts : ℕ → Tally)
    → (step core (Arrive id p)).answer ≡ Refused number
    → ((step core (Arrive id p)).core ≡ core)
    × (counts_after core (Arrive id p) (Refused number) counts id own ≡ wrapped_plus (counts id own) 1)
    × ((count : Count) → count ≢ own → counts_after core (Arrive id p) (Refused number) counts id count ≡ counts id count)
    × ((other : ℕ) (count : Count) → other ≢ id
    → counts_after core (Arrive id p) (Refused number) counts other count ≡ counts other count)

-- what a refused call leaves of the counts
pub record DropsCounted : Type 0 where
  -- "A refusal 14 or 15 now changes its own count and nothing else."
  pub full : CountedAlone 14 count14
  pub drained : CountedAlone 15 count15
  -- every other refusal changes nothing, as before
  pub others : (core : Core) (c : Event) (n : ℕ) (counts : ℕ → Tally) → (step core c).answer ≡ Refused n → n ≢ 14 → n ≢ 15
      → ((step core c).core ≡ core) × (counts_after core c (Refused n) counts ≡ counts)

pub record Counted : Type 0 where
  -- the counts that are kept are those of the calls since the join, modulo 2 to the power 64
  pub keeps : (h : History) (id : ℕ) (count : Count) → counts_behind h id count ≡ wrapped (tallied id (trace_of scheduler h) count)
  -- "Accepted equals sent plus emptied plus waiting": of the calls, to the packet
  pub settles : (h : History) (id : ℕ)
      → tallied id (trace_of scheduler h) count_accepted
      ≡ tallied id (trace_of scheduler h) count_sent + tallied id (trace_of scheduler h) count_emptied
      + waiting_in (after scheduler h) id
  -- and of the counts that are kept "modulo 2 to the power 64"
  pub settles_kept : (h : History) (id : ℕ) → Settles (counts_behind h id) (after scheduler h) id
  -- and so from any core and counts of 64 bits on that keep to it, whether calls led there or not
  pub settles_on : (core : Core) (c : Event) (counts : ℕ → Tally) (id : ℕ)
      → ((count : Count) → counts id count < count_span)
      → Settles (counts id) core id
      → Settles (counts_after core c (step core c).answer counts id) (step core c).core id
  -- "what each count has gained after the join or change that made it so": the sheet is what stood there then, and that
  pub gains : (h : History) (id : ℕ) → T (indifferent_at id (trace_of scheduler h)) → (count : Count)
      → counts_behind h id count ≡ wrapped (counts_behind (made_so id h) id count + gained id (trace_of scheduler h) count)

-- "The chosen client's sheet is as private as its queue": what billing gets for the chosen client, its counts as they are kept or the
-- number of a refusal, at every place that demand 3 compares. What the others' sheets have in common is part of `Sameness`.
unfoldable pub SheetSame : Type 0
SheetSame =
    (chosen : ℕ) (H K : History)
    → kept chosen (trace_of scheduler H) ≡ kept chosen (trace_of scheduler K)
    → (h k : History)
    → Place h H
    → Place k K
    → calls (kept chosen (trace_of scheduler h)) ≡ calls (kept chosen (trace_of scheduler k))
    → count_sheet (after scheduler h) (counts_behind h) chosen ≡ count_sheet (after scheduler k) (counts_behind k) chosen
