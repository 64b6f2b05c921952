-- An arrival keeps its promise: what its number says, what either kind of client leaves of the links, and what the call gives.
-- Read off the checks that are passed, and by the laws of ArrivedTables. Assumes nothing.
use Prim.Native.Nat.{ℕ, ◌+◌, ◌≤◌, ◌<◌}
use mathlib.Core.Path.{◌≡◌, refl, ap}
use mathlib.Core.Logic.{◌≢◌}
use mathlib.Core.Bool.{true, false, cond, ◌&&◌, ◌||◌}
use mathlib.Core.List.{List, [], ◌∷◌, ◌++◌}
use native.Mathlib.Omega.{arith}
use lib.Dec.{eqb, ltb}
use borrow.Author.Tests.{lt-ltb, ltb-true, leb-true}
use Rattle.definitions.specs.declared.Packet.{Packet}
use Rattle.definitions.specs.Event.{Arrive}
use Rattle.definitions.specs.declared.Answer.TheVariants.{Accepted, Refused}
use Rattle.definitions.specs.Sizes.{ids, places, shares, shortest, longest}
use Rattle.definitions.specs.Client.{is_indifferent}
use Rattle.definitions.specs.Counts.{count_accepted, count14, count15, nothing, more, entry_of_drop, entry_of_accepted, entry_of_refused, entry_of}
use Rattle.definitions.specs.Checks.{active_checks, arrive_checks}
use Rattle.definitions.proofs.Laws.Checked.{Passed}
use Rattle.definitions.proofs.Laws.Tests.{eqb-cases, cond_same, within-true}
use Rattle.counts.specs.CountTable.{for_one, Entered}
use Rattle.marks.specs.Marks.{marked}
use Rattle.order.specs.Order.{sentinel, Sound, Absent, Ordered}
use Rattle.order.proofs.Owner.{places_of_absent}
use Rattle.tables.specs.declared.Control.{Control}
use Rattle.tables.specs.declared.Answered.{Answered}
use Rattle.tables.specs.Controls.{with_waiting}
use Rattle.tables.specs.declared.Tables.{Tables}
use Rattle.tables.specs.Tables.{level_at, head_at, count_at}
use Rattle.tables.specs.Meaning.{kind_at, client_at, clients_of, stock_at, stocks_of, side_of, state_of}
use Rattle.tables.specs.Invariant.{Shape, SoundCore, Valid}
use Rattle.tables.specs.Numbers.{refusal}
use Rattle.tables.specs.Promise.{Meets}
use Rattle.tables.specs.Counting.{Counts}
use Rattle.tables.proofs.ActiveChecks.{active_past}
use Rattle.tables.proofs.Countings.{IdleOutside, idle_nothing, idle-one, counted, counts_accepted}
use Rattle.tables.proofs.Promises.{refused_with_lem, opened, all_passed, sound_before, accepted_with}
use Rattle.tables.proofs.Checkings.{arrives}
use Rattle.tables.proofs.QueueRing.{place_within, ring_free, queue_length}
use Rattle.traffic.proofs.ArrivedTables.{free_place, place_own, arrived_tables, Lined, arrived_shape, arrived_state}

module _ (c : Control) (t : Tables) (old : Shape c t) (id : ℕ) where
  pub lined_private : is_indifferent (kind_at c id) ≡ false → Lined c t id old.order t.links
  lined_private free = record { sound = old.sound; ordered = rw free old.ordered }

  module _ (below : id < ids) (room : count_at t.stocks id < places) (owes : is_indifferent (kind_at c id) ≡ true) where
    abbrev place : ℕ
    place = free_place t id

    within : place < sentinel
    within = place_within id below (head_at t.stocks id + count_at t.stocks id)

    -- the free place stands nowhere in the order
    place_absent : Absent place old.order
    place_absent =
        places_of_absent id place old.order (place_own t id)
        (rw (old.placed id below, owes) (ring_free id (head_at t.stocks id) (count_at t.stocks id) room))

    pub lined_indifferent : (links : List ℕ) (pushed : ℕ) → pushed ≡ free_place t id → Sound links
        → ((order : List ℕ) → Ordered t.links order → Absent pushed order → pushed < sentinel
        → Ordered links (order ++ (pushed ∷ [])))
        → Lined c t id old.order links
    lined_indifferent links pushed e sound push = record {
      sound = sound;
      ordered = rw (owes, ← e) (push old.order old.ordered (rw e place_absent) (rw e within));
    }

module _ (c : Control) (t : Tables) (valid : Valid c t) (id : ℕ) (p : Packet) where
  pub arrive_refused : (r : Answered) (n : ℕ) → r ≡ record { control = c; answer = Refused n }
      → n ≡ refusal c t (λ s. arrive_checks s id p) → n ≢ 0 → Meets (Arrive id p) c t r t
  unfolding arrives
  arrive_refused = refused_with_lem (Arrive id p) (arrives id p) c t valid

  -- a packet that is refused with another number than 19 and 4 is one of a client
  pub arrive_past : (n : ℕ) → n ≡ refusal c t (λ s. arrive_checks s id p) → n ≢ 19 → n ≢ 4 → (c.opened ≡ true) × (id < ids)
  unfolding arrive_checks
  arrive_past n = active_past c t id n _

  pub arrive_dropped : (n : ℕ) → n ≡ refusal c t (λ s. arrive_checks s id p) → (n ≡ 14 → id < ids) × (n ≡ 15 → id < ids)
  arrive_dropped n f = (λ e. (arrive_past n f (omega arith) (omega arith)).1, λ e. (arrive_past n f (omega arith) (omega arith)).1)

  -- what is entered of it: with 14 or 15 its own count, and else nothing
  dropped_idle : (n : ℕ) → n ≡ refusal c t (λ s. arrive_checks s id p) → IdleOutside c (for_one id (entry_of_drop n))
  unfolding entry_of_drop
  dropped_idle n f =
      eqb-cases (λ b. IdleOutside c (for_one id (cond b (more count14 1) (cond (eqb n 15) (more count15 1) nothing)))) n 14
      (λ e. let past = arrive_past n f (omega arith) (omega arith) in idle-one c id (more count14 1) past.0 past.1)
      (λ other.
      eqb-cases (λ b. IdleOutside c (for_one id (cond b (more count15 1) nothing))) n 15
      (λ e. let past = arrive_past n f (omega arith) (omega arith) in idle-one c id (more count15 1) past.0 past.1)
      (λ unnamed j outside count. rw (cond_same (eqb id j) nothing) (idle_nothing c j outside count)))

  pub arrive_refused_counts : (r : Answered) (n : ℕ) (u : Tables) → r ≡ record { control = c; answer = Refused n }
      → n ≡ refusal c t (λ s. arrive_checks s id p)
      → Entered (for_one id (entry_of_drop n)) t.counts u.counts
      → Counts (Arrive id p) c t r u
  unfolding entry_of entry_of_refused
  arrive_refused_counts r n u e f after =
      counted valid (ap (λ (x : Answered). x.control.opened) e) after (λ j. rw e) (dropped_idle n f)

  module _ (none : refusal c t (λ s. arrive_checks s id p) ≡ 0) where
    passed : Passed (arrive_checks (state_of c t) id p)
    unfolding arrives
    passed = all_passed (Arrive id p) (arrives id p) c t valid none

    pub arrive_sound : SoundCore c t
    unfolding arrives
    arrive_sound = sound_before (Arrive id p) (arrives id p) c t valid none

    pub arrive_below : id < ids
    unfolding arrive_checks active_checks
    arrive_below = ltb-true id ids passed.0

    pub arrive_counts : (waiting : ℕ) (r : Answered) (u : Tables) → r ≡ record { control = with_waiting c waiting; answer = Accepted }
        → Entered (for_one id (more count_accepted 1)) t.counts u.counts
        → Counts (Arrive id p) c t r u
    unfolding arrives entry_of_accepted
    arrive_counts waiting r u e after =
        let runs = opened (Arrive id p) (arrives id p) c t valid none in
        counts_accepted id (more count_accepted 1) valid runs runs arrive_below e after (λ j. refl)

    pub arrive_room : count_at t.stocks id < places
    unfolding arrive_checks active_checks state_of side_of stocks_of stock_at
    arrive_room =
        ltb-true (count_at t.stocks id) places
        (rw (lt-ltb id ids arrive_below, queue_length t id) at passed.1.1.1.0)

    pub arrive_short : p.length ≤ longest
    unfolding arrive_checks active_checks
    arrive_short = (within-true shortest longest p.length passed.1.1.0).1

    pub arrive_paid : is_indifferent (kind_at c id) ≡ true → shares ≤ level_at t.terms id
    unfolding arrive_checks active_checks state_of clients_of client_at
    arrive_paid owes =
        leb-true shares (level_at t.terms id)
        (rw (lt-ltb id ids arrive_below, owes) at passed.1.1.1.1.0)

    pub arrive_accepted : (links : List ℕ) (waiting : ℕ)
        → Lined c t id arrive_sound.shape.order links
        → ((j : ℕ) → marked waiting j ≡ marked c.waiting j || (eqb j id && ltb id ids))
        → (r : Answered) → r ≡ record { control = with_waiting c waiting; answer = Accepted }
        → Meets (Arrive id p) c t r (arrived_tables c t id p links)
    unfolding arrives state_of
    arrive_accepted links waiting lined marks r e =
        accepted_with (Arrive id p) (arrives id p) c t valid none r (with_waiting c waiting) (arrived_tables c t id p links) e
        (opened (Arrive id p) (arrives id p) c t valid none)
        (arrived_state c t arrive_sound.shape id p arrive_below arrive_room links waiting lined marks)
        (arrived_shape c t arrive_sound.shape id p arrive_below arrive_room links waiting lined marks)
