-- Each wrong version of specs/WrongVersions is shown by a short history, at whose end a call gets another answer. Both answers
-- are computed, and told apart by a number that they show or by whether they accept. Assumes nothing.
use Prim.Native.Nat.{ℕ, ◌-◌}
use native.Mathlib.Omega.{arith}
use mathlib.Core.Path.{◌≡◌, refl, sym, ap, ◌∙◌}
use mathlib.Core.Logic.{◌≢◌}
use mathlib.Core.List.{List, [], ◌∷◌}
use lib.ListN.{get_or}
use Rattle.definitions.specs.Event.{Event, Open, Join, Tick}
use Rattle.definitions.specs.declared.Answer.{Answer}
use Rattle.definitions.specs.Sizes.{places, indifferent_kind, private_kind}
use Rattle.definitions.specs.State.{Core}
use Rattle.definitions.specs.Answers.{real, dummy, idle, none, shown, is_accepted}
use Rattle.definitions.specs.Cases.{arrival, arrivals}
use Rattle.definitions.specs.History.{History, start, ◌then◌, Scheduler, after, answer_at, scheduler}
use Rattle.definitions.specs.Sameness.{is_tick}
use Rattle.definitions.specs.Altered.{with_tick, slot_by, with_arrive, room_of, token_left, arrive_if, Unaltered}
use Rattle.definitions.specs.Editions.{in_edition}
use Rattle.definitions.specs.WrongVersions.{Differs, unsent, always_dummy, idle_once_ticked, later_idle, full_early, more_than_token, drained_early, lowest_turn, lowest_id, forgotten, not_kept, refuses_all, always_none, AllDiffer}
use Rattle.definitions.proofs.Laws.Tests.{true-false}
use Rattle.definitions.proofs.Everything.{everything}

-- a history of an open, with first come first served and seed 1, and some calls
followed : History → List Event → History
followed h [] = h
followed h (c ∷ cs) = followed (h then c) cs

opening : List Event → History
opening cs = followed (start then Open 1024 0 1) cs

-- what the claims below compute with
unfoldable computed : Type 0
unfolding everything after answer_at is_tick followed opening with_tick slot_by with_arrive room_of token_left arrive_if
computed = Unit {0}

-- two answers that show different numbers at some place
module _ (S : Scheduler) (h : History) (c : Event) (place : ℕ) where
  shown_at : Answer → ℕ
  shown_at a = get_or (shown a) place 0

  told_apart : (wrong right : ℕ)
      → shown_at (answer_at S h c) ≡ wrong
      → shown_at (answer_at scheduler h c) ≡ right
      → wrong ≢ right
      → Differs S
  told_apart wrong right e f other = record { history = h; event = c; differs = λ same. other (sym e ∙ ap shown_at same ∙ f) }

-- a packet of 2 waits, and the slot is a dummy
always_dummy_differs : Differs always_dummy
unfolding computed unsent shown_at
always_dummy_differs =
    told_apart always_dummy (opening (Join 2 private_kind 300 0 ∷ arrival 2 17 64 ∷ [])) Tick 0 dummy real refl refl
    (λ e. omega arith)

-- two packets of 2 wait, and the second tick idles
later_idle_differs : Differs later_idle
unfolding computed unsent idle_once_ticked shown_at
later_idle_differs =
    told_apart later_idle (opening (Join 2 private_kind 300 0 ∷ arrival 2 17 64 ∷ arrival 2 18 64 ∷ Tick ∷ [])) Tick 0 idle real
    refl refl (λ e. omega arith)

-- there is a place for one more
full_early_differs : Differs full_early
unfolding computed in_edition shown_at
full_early_differs =
    told_apart full_early (opening (Join 3 private_kind 100 0 ∷ arrivals (places - 1))) (arrival 3 1 64) 0 14 0 refl refl
    (λ e. omega arith)

-- a tick at rate 1024 fills a bucket of burst 1, and it has one token
drained_early_differs : Differs drained_early
unfolding computed more_than_token shown_at
drained_early_differs =
    told_apart drained_early (opening (Join 3 indifferent_kind 1024 1 ∷ Tick ∷ [])) (arrival 3 1 64) 0 15 0 refl refl
    (λ e. omega arith)

-- the target is 369 of 400, which is 5's
lowest_id_differs : Differs lowest_id
unfolding computed lowest_turn shown_at
lowest_id_differs =
    told_apart lowest_id (opening (Join 2 private_kind 300 0 ∷ Join 5 private_kind 100 0 ∷ [])) Tick 1 2 5 refl refl
    (λ e. omega arith)

-- 2's packet is gone when its slot comes
not_kept_differs : Differs not_kept
unfolding computed forgotten shown_at
not_kept_differs =
    told_apart not_kept (opening (Join 2 private_kind 300 0 ∷ arrival 2 17 64 ∷ [])) Tick 0 idle real refl refl (λ e. omega arith)

-- the first open is accepted
refuses_all_differs : (number : Core → Event → ℕ) → Differs (refuses_all number)
unfolding computed
refuses_all_differs number = record {
  history = start;
  event = Open 1024 0 1;
  differs = λ same. true-false refl (ap is_accepted (sym same));
}

-- the slot is 2's
always_none_differs : Differs always_none
unfolding computed unsent shown_at
always_none_differs =
    told_apart always_none (opening (Join 2 private_kind 300 0 ∷ [])) Tick 0 none idle refl refl (λ e. omega arith)

pub all_differ : AllDiffer
all_differ = record {
  always_dummy_differs = always_dummy_differs;
  later_idle_differs = later_idle_differs;
  full_early_differs = full_early_differs;
  drained_early_differs = drained_early_differs;
  lowest_id_differs = lowest_id_differs;
  not_kept_differs = not_kept_differs;
  refuses_all_differs = refuses_all_differs;
  always_none_differs = always_none_differs;
}

pub unaltered : Unaltered
unfolding computed
unaltered = record { tick = λ s. refl; arrive = λ s id p. refl }
