-- A core with a packet waiting: the tables that opening fills, after a join and an arrival as those calls' promises have them.
-- What it means is computed over the definitions, and so are its answers. Assumes nothing.
use Prim.Native.Nat.{ℕ, zero, suc}
use mathlib.Core.Path.{◌≡◌, refl, sym, ap, ◌∙◌}
use mathlib.Core.Logic.{◌≢◌}
use mathlib.Core.Bool.{Bool, true, false, ◌||◌, ◌&&◌}
use mathlib.Core.List.{List, [], ◌∷◌}
use native.Mathlib.Omega.{arith}
use lib.Dec.{eqb, ltb}
use lib.ListN.{set}
use lib.Seq.{set-set}
use borrow.Author.Tests.{ne_eqb}
use Rattle.definitions.specs.declared.Outcome.TheVariants.{Real}
use Rattle.definitions.specs.declared.Answer.TheVariants.{Accepted, Slot}
use Rattle.definitions.specs.Sizes.{ids, places}
use Rattle.definitions.specs.Event.{Event, Open, Join, Arrive, Tick}
use Rattle.definitions.specs.Checks.{join_checks, arrive_checks}
use Rattle.definitions.specs.Client.{kind_of}
use Rattle.definitions.specs.State.{State, Core, unopened, running, fresh}
use Rattle.definitions.specs.Core.{step}
use Rattle.definitions.specs.History.{Trace, begin, ◌and◌}
use Rattle.definitions.proofs.Laws.Tests.{true-false}
use Rattle.definitions.proofs.Everything.{everything}
use Rattle.marks.specs.Marks.{marked}
use Rattle.marks.proofs.Bits.{marked-none, marked_power}
use Rattle.order.specs.Order.{Absent}
use Rattle.order.specs.Owner.{owner}
use Rattle.tables.specs.declared.Control.{Control}
use Rattle.tables.specs.declared.Answered.{Answered}
use Rattle.tables.specs.declared.Tables.{Tables}
use Rattle.tables.specs.Tables.{field, head_at, count_at, ring}
use Rattle.tables.specs.Controls.{with_rates, with_marks, with_waiting}
use Rattle.tables.specs.Meaning.{state_of, core_of}
use Rattle.tables.specs.Numbers.{first_failed, refusal}
use Rattle.tables.specs.Promise.{Meets}
use Rattle.tables.specs.Run.{dealing, Reached, begun, called, calls_of}
use Rattle.tables.specs.Unused.{waiting_places, Unused, overwritten}
use Rattle.tables.proofs.Fields.{place_owner}
use Rattle.tables.proofs.MarkedKinds.{kind_indifferent}
use Rattle.tables.proofs.Promises.{core_of-opened, core_of_shut}
use Rattle.tables.proofs.UnusedPlaces.{unused_unseen}
use Rattle.opening.proofs.EmptyTables.{empty_control, empty_tables}
use Rattle.opening.proofs.OpenPromise.{open_accepted}
use Rattle.settings.specs.Writes.{rates_after, Recast, Quiet}
use Rattle.settings.proofs.Emptying.{emptied_tables}
use Rattle.settings.proofs.Placing.{placed_tables}
use Rattle.settings.proofs.JoinPromise.{join_accepted}
use Rattle.traffic.proofs.ArrivedTables.{free_place, arrived_tables}
use Rattle.traffic.proofs.ArrivePromise.{lined_private, arrive_sound, arrive_accepted}
use Rattle.script.specs.UnseenExample.{waiting_packet, UnseenExample}

abbrev accepting : Control → Answered
accepting c = record { control = c; answer = Accepted }

-- ---- opened

abbrev open_event : Event
open_event = Open 1024 0 1

abbrev c₀ : Control
c₀ = empty_control false 0 0 0

abbrev c₁ : Control
c₁ = empty_control true 1024 0 1

met₁ : Meets open_event c₀ empty_tables (accepting c₁) empty_tables
unfolding everything first_failed
met₁ = open_accepted c₀ empty_tables (λ e. true-false e refl) 1024 0 1 (accepting c₁) refl refl

core₁ : core_of c₁ empty_tables ≡ running (fresh 1024 0 1)
unfolding core_of everything
core₁ = met₁.core

state₁ : state_of c₁ empty_tables ≡ fresh 1024 0 1
state₁ = let e = sym (core_of-opened c₁ empty_tables refl) ∙ core₁ in cc

-- ---- joined

abbrev join_event : Event
join_event = Join 0 2 300 0

abbrev c₂ : Control
c₂ = with_marks (with_rates c₁ (rates_after c₁ empty_tables.terms 0 300)) 0 1 0

abbrev t₂ : Tables
t₂ = placed_tables (emptied_tables empty_tables 0 empty_tables.links) 0 300 0

quiet : Quiet c₁ c₁ 0
quiet = record { rest = refl; waiting = record { own = marked-none 0; others = λ j other. refl } }

joins : refusal c₁ empty_tables (λ s. join_checks s 0 2 300 0) ≡ 0
unfolding refusal everything first_failed
joins = ap (λ (s : State). first_failed (join_checks s 0 2 300 0)) state₁

-- the word of one mark, that of id 0
one_mark : (j : ℕ) → marked 1 j ≡ eqb j 0
one_mark j = marked_power 0 j

recast : Recast (with_rates c₁ (rates_after c₁ empty_tables.terms 0 300)) c₂ 0 (kind_of 2)
unfolding everything
recast = record {
  rest = refl;
  indifferent = record { own = marked-none 0; others = λ j other. refl };
  private = record { own = one_mark 0; others = λ j other. one_mark j ∙ ne_eqb j 0 other ∙ sym (marked-none j) };
}

met₂ : Meets join_event c₁ empty_tables (accepting c₂) t₂
met₂ = join_accepted c₁ empty_tables met₁.valid 0 2 300 0 joins c₁ quiet c₂ recast (accepting c₂) refl

-- the definitions' state behind the join
abbrev s₂ : Core
s₂ = (step (running (fresh 1024 0 1)) join_event).core

core₂ : core_of c₂ t₂ ≡ s₂
core₂ = met₂.core ∙ ap (λ (x : Core). (step x join_event).core) core₁

-- what a core runs; of an unopened one, anything
state_in : Core → State
state_in unopened = fresh 1 0 1
state_in (running s) = s

state₂ : state_of c₂ t₂ ≡ state_in s₂
unfolding state_in
state₂ = ap state_in (sym (core_of-opened c₂ t₂ refl) ∙ core₂)

-- ---- arrived

-- the places of client 0 are all free
free : free_place t₂ 0 ≡ 0
unfolding field ids places
free = refl

-- the second place is client 0's, and in no other's ring
second_own : owner 1 ≡ 0
unfolding owner places
second_own = refl

second_elsewhere : (id head n : ℕ) → id ≢ 0 → Absent 1 (ring id head n)
unfolding ring
second_elsewhere id head zero other = tt
second_elsewhere id head (suc n) other =
    (λ e. other (sym (place_owner id head) ∙ ap owner (sym e) ∙ second_own), second_elsewhere id (suc head) n other)

abbrev c₃ : Control
c₃ = with_waiting c₂ 1

module _ (handle : ℕ) where
  abbrev arrive_event : Event
  arrive_event = Arrive 0 (waiting_packet handle)

  abbrev t₃ : Tables
  t₃ = arrived_tables c₂ t₂ 0 (waiting_packet handle) t₂.links

  arrives : refusal c₂ t₂ (λ s. arrive_checks s 0 (waiting_packet handle)) ≡ 0
  unfolding refusal everything first_failed state_in
  arrives = ap (λ (s : State). first_failed (arrive_checks s 0 (waiting_packet handle))) state₂

  marks : (j : ℕ) → marked 1 j ≡ marked 0 j || (eqb j 0 && ltb 0 ids)
  unfolding ids
  marks j = rw (marked-none j, one_mark j) (go (eqb j 0))
    where
      go : (b : Bool) → b ≡ b && true
      go true = refl
      go false = refl

  met₃ : Meets arrive_event c₂ t₂ (accepting c₃) t₃
  met₃ =
      arrive_accepted c₂ t₂ met₂.valid 0 (waiting_packet handle) arrives t₂.links 1
      (lined_private c₂ t₂ (arrive_sound c₂ t₂ met₂.valid 0 (waiting_packet handle) arrives).shape 0
      (kind_indifferent c₂ 0 ∙ marked-none 0)) marks (accepting c₃) refl

  core₃ : core_of c₃ t₃ ≡ (step s₂ arrive_event).core
  core₃ = met₃.core ∙ ap (λ (x : Core). (step x arrive_event).core) core₂

  sends : (step (core_of c₃ t₃) Tick).answer ≡ Slot (Real 0 (waiting_packet handle) 1454)
  unfolding everything
  sends = ap (λ (x : Core). (step x Tick).answer) core₃

  waits : waiting_places t₃ 0 ≡ 0 ∷ []
  unfolding waiting_places ring field ids places
  waits = refl

  second_unused : Unused t₃ 1
  second_unused zero below = rw waits (λ e. omega arith, tt)
  second_unused (suc id) below =
      unfold waiting_places in
      second_elsewhere (suc id) (head_at t₃.stocks (suc id)) (count_at t₃.stocks (suc id)) (λ e. omega arith)

-- the handles or the lengths of both
overwritten_twice : (table : List ℕ) (first second : ℕ)
    → set table (free_place t₂ 0) second ≡ set (set table (free_place t₂ 0) first) 0 second
overwritten_twice table first second =
    ap (λ (k : ℕ). set table k second) free
    ∙ sym (ap (λ (k : ℕ). set (set table k first) 0 second) free ∙ set-set table 0 first second)

another_handle : (handle another : ℕ) → t₃ another ≡ overwritten (t₃ handle) 0 another 64
another_handle handle another = λ i. record {
  terms = (t₃ handle).terms;
  stocks = (t₃ handle).stocks;
  handles = overwritten_twice t₂.handles handle another i;
  lengths = overwritten_twice t₂.lengths 64 64 i;
  links = (t₃ handle).links;
  counts = (t₃ handle).counts;
}

abbrev called_trace : ℕ → Trace
called_trace handle =
    begin
    and dealing open_event c₀ empty_tables (accepting c₁)
    and dealing join_event c₁ empty_tables (accepting c₂)
    and dealing (arrive_event handle) c₂ t₂ (accepting c₃)

reached : (handle : ℕ) → Reached (called_trace handle) c₃ (t₃ handle)
reached handle = called (called (called (begun (core_of_shut c₀ empty_tables refl)) met₁) met₂) (met₃ handle)

pub unseen_example : UnseenExample
unfolding calls_of
unseen_example = record {
  control = c₃;
  tables = t₃;
  trace = called_trace;
  reached = reached;
  called = λ handle. refl;
  waits = waits;
  unused = λ handle another length.
      (unused_unseen.overwriting c₃ (t₃ handle) 1 another length (met₃ handle).valid (second_unused handle)).0;
  other = another_handle;
  sends = sends;
}
