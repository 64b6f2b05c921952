-- Each leak of specs/Leaks is told apart by two histories with equal kept calls, in which one private client does what the
-- other should not see. Both sides are computed. Assumes nothing.
use Prim.Native.Nat.{ℕ, zero, suc}
use native.Mathlib.Omega.{arith}
use mathlib.Core.Path.{◌≡◌, refl, ap}
use mathlib.Core.List.{List, [], ◌∷◌}
use lib.ListN.{get_or}
use Rattle.definitions.specs.Event.{Open, Join, Change, Arrive, Tick}
use Rattle.definitions.specs.declared.Answer.{Answer}
use Rattle.definitions.specs.Sizes.{places, indifferent_kind, private_kind}
use Rattle.definitions.specs.Answers.{shown}
use Rattle.definitions.specs.History.{History, start, ◌then◌, end, Pick, no_slot, by_rule1, by_rule2, by_rule3, after, answer_at, dealing_at, trace_of}
use Rattle.definitions.specs.Sameness.{is_tick, names, indifferent_by, indifferent_since, is_struck, kept, log, departure, Sameness}
use Rattle.definitions.specs.Altered.{with_tick, slot_by, with_arrive, token_left, arrive_if, with_change}
use Rattle.definitions.specs.Leaks.{waiting_only, turn_of_waiting, drawn_among_waiting, next_private, idles, turn_handed_on, idle_handed_on, room_in_store, one_store, order_kept, side_kept, change_keeping, queue_over_change, Leaking}
use Rattle.definitions.proofs.Everything.{everything}

-- two private clients, and what the second may do unseen
quiet : History
quiet = start then Open 1024 0 1 then Join 2 private_kind 300 0 then Join 5 private_kind 100 0

busy : ℕ → History
busy zero = quiet
busy (suc n) = busy n then Arrive 5 (record { handle = 9; length = 64 })

-- the latest entry of a log as one number: the id picked, or the first number that an answer shows
latest_pick : List (ℕ × Pick) → ℕ
latest_pick [] = 0
latest_pick (entry ∷ entries) = elim entry.1 [ no_slot ↦ 100 | by_rule1 ↦ 101 | by_rule2 id ↦ id | by_rule3 ↦ 103 ]

latest_answer : List (ℕ × Answer) → ℕ
latest_answer [] = 0
latest_answer (entry ∷ entries) = get_or (shown entry.1) 0 0

-- what the claims below compute with
unfoldable computed : Type 0
unfolding everything Sameness kept is_struck indifferent_since indifferent_by answer_at dealing_at trace_of after log departure is_tick
    names with_tick slot_by quiet busy latest_pick latest_answer
computed = Unit {0}

-- the slot is 5's where 5 waits, and nobody's where nobody waits
waiting_leaks : Sameness drawn_among_waiting → ⊥
unfolding computed turn_of_waiting waiting_only
waiting_leaks claim =
    let K = busy 1 then Tick in
    let told : ◌≡◌ {A = ℕ} 103 5 = ap latest_pick (claim 2 (quiet then Tick) K refl (quiet then Tick) K end end refl).slots in
    omega arith

-- the slot drawn is 5's: it is 2's where 5 has nothing to send
idle_leaks : Sameness idle_handed_on → ⊥
unfolding computed turn_handed_on next_private idles
idle_leaks claim =
    let K = busy 1 then Tick in
    let told : ◌≡◌ {A = ℕ} 2 5 = ap latest_pick (claim 2 (quiet then Tick) K refl (quiet then Tick) K end end refl).slots in
    omega arith

-- 2's packet is refused where 5's fill the store
store_leaks : Sameness one_store → ⊥
unfolding computed with_arrive arrive_if room_in_store token_left
store_leaks claim =
    let own = Arrive 2 (record { handle = 7; length = 64 }) in
    let H = quiet then own in
    let K = busy places then own in
    let told : ◌≡◌ {A = ℕ} 0 14 = ap latest_answer (claim 2 H K refl H K end end refl).chosen_dealings.answers in
    omega arith

-- 5's packet of its private time goes first once 5 is indifferent
queue_leaks : Sameness queue_over_change → ⊥
unfolding computed with_change change_keeping order_kept side_kept
queue_leaks claim =
    let H = quiet then Change 5 indifferent_kind 100 1 then Tick in
    let K = busy 1 then Change 5 indifferent_kind 100 1 then Tick in
    let told : ◌≡◌ {A = ℕ} 2 101 = ap latest_pick (claim 2 H K refl H K end end refl).slots in
    omega arith

pub leaking : Leaking
leaking = record {
  drawn_among_waiting_leaks = waiting_leaks;
  idle_handed_on_leaks = idle_leaks;
  one_store_leaks = store_leaks;
  queue_over_change_leaks = queue_leaks;
}
