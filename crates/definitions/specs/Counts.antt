-- The count sheet of a client (paper 02, S-7): "since the join: accepted, sent, refused 14, refused 15, emptied out, dummies sent".
-- The counts stand beside the core: no call asks for them, so that no answer goes by them. What a call enters in a client's sheet goes
-- by the call, by what it got and, where a change of type empties a queue, by how many packets waited.
use Rattle.std.specs.Prelude.{ℕ, zero, suc, ◌+◌, ◌-◌, ◌%◌, Bool, cond, not, ◌&&◌, [], eqb, length, Result, Ok, Err}
use Rattle.definitions.specs.declared.Outcome.{Outcome}
use Rattle.definitions.specs.declared.Outcome.TheVariants.{Real, Dummy, Idle, None}
use Rattle.definitions.specs.declared.Answer.{Answer}
use Rattle.definitions.specs.declared.Answer.TheVariants.{Accepted, Refused, Slot}
use Rattle.definitions.specs.declared.CountSheet.{CountSheet}
use Rattle.definitions.specs.Event.{Event, Open, Join, Change, Leave, Load, Arrive, Tick}
use Rattle.definitions.specs.Sizes.{indifferent_kind, count_span}
use Rattle.definitions.specs.Client.{is_indifferent}
use Rattle.definitions.specs.State.{Core, unopened, running}
use Rattle.definitions.specs.Checks.{first_failed, active_checks}
use Rattle.definitions.specs.Core.{step}
use Rattle.definitions.specs.History.{Trace, begin, ◌and◌, client_of, stock_of}
use Rattle.definitions.specs.Traces.{indifferent_at}

-- the six counts, in the order in which billing names them
pub data Count : Type 0 where
  count_accepted count_sent count14 count15 count_emptied count_dummies : Count

unfoldable pub column : Count → ℕ
column count_accepted = 0
column count_sent = 1
column count14 = 2
column count15 = 3
column count_emptied = 4
column count_dummies = 5

-- what a client's sheet says
abbrev pub Tally : Type 0
Tally = Count → ℕ

-- a join begins at zero
abbrev pub zeros : Tally
zeros count = 0

-- what a call enters in a client's sheet: nothing, so many more of one count, or that the sheet begins anew
pub data Entry : Type 0 where
  nothing : Entry
  more : Count → ℕ → Entry
  anew : Entry

-- "A refusal 14 or 15 now changes its own count and nothing else."
unfoldable pub entry_of_drop : ℕ → Entry
entry_of_drop number = cond (eqb number 14) (more count14 1) (cond (eqb number 15) (more count15 1) nothing)

-- whether a type is the one that a client has, who is indifferent or not
abbrev pub keeps_type : Bool → ℕ → Bool
keeps_type indifferent kind = cond indifferent (eqb kind indifferent_kind) (not (eqb kind indifferent_kind))

-- for one id: whether it is indifferent, and how many of its packets wait, before the call
module _ (id : ℕ) (indifferent : Bool) (waiting : ℕ) where
  abbrev pub if_own : ℕ → Entry → Entry
  if_own other entry = cond (eqb other id) entry nothing

  unfoldable pub entry_of_accepted : Event → Entry
  entry_of_accepted (Open threshold discipline seed) = anew
  entry_of_accepted (Join other kind rate burst) = if_own other anew
  -- "emptied out": what a change of type empties
  entry_of_accepted (Change other kind rate burst) =
      if_own other (cond (keeps_type indifferent kind) nothing (more count_emptied waiting))
  entry_of_accepted (Leave other) = if_own other anew
  entry_of_accepted (Load other dummies) = nothing
  entry_of_accepted (Arrive other packet) = if_own other (more count_accepted 1)
  entry_of_accepted Tick = nothing

  unfoldable pub entry_of_refused : Event → ℕ → Entry
  entry_of_refused (Open threshold discipline seed) number = nothing
  entry_of_refused (Join other kind rate burst) number = nothing
  entry_of_refused (Change other kind rate burst) number = nothing
  entry_of_refused (Leave other) number = nothing
  entry_of_refused (Load other dummies) number = nothing
  entry_of_refused (Arrive other packet) number = if_own other (entry_of_drop number)
  entry_of_refused Tick number = nothing

  unfoldable pub entry_of_slot : Outcome → Entry
  entry_of_slot (Real other packet padding) = if_own other (more count_sent 1)
  entry_of_slot (Dummy other) = if_own other (more count_dummies 1)
  entry_of_slot (Idle other) = nothing
  entry_of_slot None = nothing

  unfoldable pub entry_of : Event → Answer → Entry
  entry_of c Accepted = entry_of_accepted c
  entry_of c (Refused number) = entry_of_refused c number
  entry_of c (Slot outcome) = entry_of_slot outcome

-- a sheet after an entry, by a way to add
unfoldable pub entered : (ℕ → ℕ → ℕ) → Entry → Tally → Tally
entered plus nothing tally count = tally count
entered plus (more one n) tally count = cond (eqb (column count) (column one)) (plus (tally count) n) (tally count)
entered plus anew tally count = 0

-- ---- "Each is defined from the calls since the join."

-- "Accepted equals sent plus emptied plus waiting": what is accepted and neither sent nor emptied out waits
abbrev pub unsettled : Tally → ℕ
unsettled tally = tally count_accepted - (tally count_sent + tally count_emptied)

-- the sheet of an id by the calls of a trace and what they got, however large the counts grow
unfoldable pub tallied : ℕ → Trace → Tally
tallied id begin = zeros
tallied id (t and d) =
    entered ◌+◌ (entry_of id (indifferent_at id t) (unsettled (tallied id t)) d.event d.answer) (tallied id t)

-- "what each count has gained after the join or change that made it so, what that change itself emptied left out", of an id that is
-- indifferent at the trace's end: the calls during which it is indifferent all the time. None of them empties its queue.
unfoldable pub gained : ℕ → Trace → Tally
gained id begin = zeros
gained id (t and d) =
    cond (indifferent_at id t && indifferent_at id (t and d))
    (entered ◌+◌ (entry_of id (indifferent_at id t) 0 d.event d.answer) (gained id t))
    zeros

-- ---- The counts that are kept.

-- "counts run to 64 bits and then begin again at zero"
unfoldable pub wrapped : ℕ → ℕ
wrapped n = n % count_span

unfoldable pub wrapped_plus : ℕ → ℕ → ℕ
wrapped_plus a b = wrapped (a + b)

-- the sheets of all ids after a call on a core that got an answer
unfoldable pub counts_after : Core → Event → Answer → (ℕ → Tally) → ℕ → Tally
counts_after core c answer counts id =
    entered wrapped_plus
    (entry_of id (is_indifferent (client_of core id).kind) (length (stock_of core id).queue) c answer)
    (counts id)

-- ---- The sheet that billing gets.

-- the six numbers in billing's order
unfoldable pub sheet_of : Tally → CountSheet
sheet_of tally = record {
  accepted = tally count_accepted;
  sent = tally count_sent;
  full = tally count14;
  drained = tally count15;
  emptied = tally count_emptied;
  dummies = tally count_dummies;
}

-- its counts, or the number of the first check that failed
abbrev pub Sheet : Type 0
Sheet = Result CountSheet ℕ

abbrev pub unless_unavailable : ℕ → Tally → Sheet
unless_unavailable zero tally = Ok (sheet_of tally)
unless_unavailable (suc n) tally = Err (suc n)

-- "An id not active gives 5": 19 and 4 come before it, as for every call with an id
unfoldable pub count_sheet : Core → (ℕ → Tally) → ℕ → Sheet
count_sheet unopened counts id = Err 19
count_sheet (running s) counts id = unless_unavailable (first_failed (active_checks s id [])) (counts id)

-- ---- All that a call may change: the core, and the counts beside it.

pub record Whole : Type 0 where
  pub core : Core
  pub counts : ℕ → Tally

-- before any call
abbrev pub whole_new : Whole
whole_new = record { core = unopened; counts = λ id. zeros }

unfoldable pub whole_after : Whole → Event → Whole
whole_after w c = record {
  core = (step w.core c).core;
  counts = counts_after w.core c (step w.core c).answer w.counts;
}
