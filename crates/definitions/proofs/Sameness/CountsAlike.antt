-- The count sheets against erasure: a struck-out call enters nothing in the sheet of a watched client, and a kept one the same in both
-- histories, since what it got is the same or is about another. By induction over the history. Assumes nothing.
use Prim.Native.Nat.{ℕ, ◌+◌}
use mathlib.Core.Path.{◌≡◌, refl, sym, ap, ap₂, ◌∙◌, fun_ext}
use mathlib.Core.Bool.{Bool, true, false, cond, not, ◌&&◌, and-false}
use lib.Dec.{eqb}
use Rattle.definitions.specs.declared.Packet.{Packet}
use Rattle.definitions.specs.declared.Outcome.TheVariants.{Real, Dummy, Idle, None}
use Rattle.definitions.specs.declared.Answer.{Answer}
use Rattle.definitions.specs.declared.Answer.TheVariants.{Accepted, Refused, Slot}
use Rattle.definitions.specs.Event.{Event, Open, Join, Change, Leave, Load, Arrive, Tick}
use Rattle.definitions.specs.State.{Core, unopened, running}
use Rattle.definitions.specs.Answers.{is_accepted, bears, is_departure}
use Rattle.definitions.specs.Checks.{unchanged, load_checks, arrive_checks}
use Rattle.definitions.specs.Calls.{on_load, on_arrive}
use Rattle.definitions.specs.Core.{step}
use Rattle.definitions.specs.History.{History, start, ◌then◌, Trace, begin, ◌and◌, client_of, scheduler, after, answer_at, dealing_at, trace_of}
use Rattle.definitions.specs.Traces.{is_tick, indifferent_by, indifferent_since, indifferent_at}
use Rattle.definitions.specs.Counts.{Count, Tally, zeros, Entry, nothing, entry_of_accepted, entry_of_refused, entry_of_slot, entry_of, entered, unsettled, tallied, gained}
use Rattle.definitions.specs.Sameness.{is_struck, kept}
use Rattle.definitions.proofs.Laws.Tests.{true-false, cond_same, eqb_same}
use Rattle.definitions.proofs.Laws.Checked.{checked-cases}
use Rattle.definitions.proofs.Sameness.Erase.{hidden}
use Rattle.definitions.proofs.Sameness.Kinds.{trace, holds_indifferent, indifferent_held}
use Rattle.definitions.proofs.Sameness.Watched.{Watched, watched_apart}
use Rattle.definitions.proofs.Sameness.Histories.{AlikeAt, alike_indifferent, alike_answer, alike_departure, alike_departed, hidden_not, kept_alike_lem}

module _ (chosen id : ℕ) (i : Bool) (w : ℕ) where
  -- ---- one call

  -- a packet or a load of another, whatever becomes of it
  load_entry : (core : Core) (j n : ℕ) → entry_of id i w (Load j n) (step core (Load j n)).answer ≡ nothing
  unfolding step on_load entry_of entry_of_accepted entry_of_refused
  load_entry unopened j n = refl
  load_entry (running s) j n =
      checked-cases (λ r. entry_of id i w (Load j n) r.answer ≡ nothing) (load_checks s j n) (unchanged (running s)) _
      (λ number. refl) (λ passed. refl)

  arrive_entry : (core : Core) (j : ℕ) (p : Packet) → eqb j id ≡ false
      → entry_of id i w (Arrive j p) (step core (Arrive j p)).answer ≡ nothing
  unfolding step on_arrive entry_of entry_of_accepted entry_of_refused
  arrive_entry unopened j p e = rw e
  arrive_entry (running s) j p e =
      checked-cases (λ r. entry_of id i w (Arrive j p) r.answer ≡ nothing) (arrive_checks s j p) (unchanged (running s)) _
      (λ number. rw e) (λ passed. rw e)

  struck_entry : (h : History) (c : Event) → Watched chosen id h → is_struck chosen (trace h) c ≡ true
      → entry_of id i w c (answer_at scheduler h c) ≡ nothing
  unfolding is_struck answer_at
  struck_entry h (Open t d v) watched e = true-false e refl
  struck_entry h (Join j k r b) watched e = true-false e refl
  struck_entry h (Change j k r b) watched e = true-false e refl
  struck_entry h (Leave j) watched e = true-false e refl
  struck_entry h (Load j n) watched e = load_entry (after scheduler h) j n
  struck_entry h (Arrive j p) watched e = arrive_entry (after scheduler h) j p (watched_apart chosen id h j watched e)
  struck_entry h Tick watched e = true-false e refl

  -- another's slot
  tick_entry : (a : Answer) → is_departure id a ≡ false → entry_of id i w Tick a ≡ nothing
  unfolding is_departure bears entry_of entry_of_accepted entry_of_refused entry_of_slot
  tick_entry Accepted e = refl
  tick_entry (Refused n) e = refl
  tick_entry (Slot (Real j p added)) e = rw e
  tick_entry (Slot (Dummy j)) e = rw e
  tick_entry (Slot (Idle j)) e = refl
  tick_entry (Slot None) e = refl

  kept_entry : {h k : History} → AlikeAt chosen h k → (c : Event) → is_struck chosen (trace h) c ≡ false → Watched chosen id h
      → entry_of id i w c (answer_at scheduler h c) ≡ entry_of id i w c (answer_at scheduler k c)
  unfolding is_tick holds_indifferent
  kept_entry a (Open t d v) e watched = ap (entry_of id i w (Open t d v)) (alike_answer chosen a (Open t d v) e refl)
  kept_entry a (Join j k r b) e watched = ap (entry_of id i w (Join j k r b)) (alike_answer chosen a (Join j k r b) e refl)
  kept_entry a (Change j k r b) e watched = ap (entry_of id i w (Change j k r b)) (alike_answer chosen a (Change j k r b) e refl)
  kept_entry a (Leave j) e watched = ap (entry_of id i w (Leave j)) (alike_answer chosen a (Leave j) e refl)
  kept_entry a (Load j n) e watched = ap (entry_of id i w (Load j n)) (alike_answer chosen a (Load j n) e refl)
  kept_entry a (Arrive j p) e watched = ap (entry_of id i w (Arrive j p)) (alike_answer chosen a (Arrive j p) e refl)
  kept_entry {h} {k} a Tick e watched = go (is_departure id (answer_at scheduler h Tick)) refl
    where
      seen : hidden chosen id (client_of (after scheduler h) id) ≡ false
      seen = hidden_not chosen id (client_of (after scheduler h) id) (rw (indifferent_held id h) at watched)

      go : (b : Bool) → is_departure id (answer_at scheduler h Tick) ≡ b
          → entry_of id i w Tick (answer_at scheduler h Tick) ≡ entry_of id i w Tick (answer_at scheduler k Tick)
      go true d = ap (entry_of id i w Tick) (alike_departed chosen a id seen d)
      go false d = tick_entry _ d ∙ sym (tick_entry _ (sym (alike_departure chosen a id) ∙ d))

-- ---- histories

module _ (chosen : ℕ) where
  own : (h : History) → Watched chosen chosen h
  own h = rw (eqb_same chosen)

  tally_kept : (h : History) → tallied chosen (trace h) ≡ tallied chosen (trace (kept chosen (trace h)))
  unfolding tallied kept trace_of dealing_at entered
  tally_kept start = refl
  tally_kept (h then c) = fun_ext (λ count. go count (is_struck chosen (trace h) c) refl (tally_kept h))
    where
      K : History
      K = kept chosen (trace h)

      go : (count : Count) (b : Bool) → is_struck chosen (trace h) c ≡ b → tallied chosen (trace h) ≡ tallied chosen (trace K)
          → tallied chosen (trace (h then c)) count ≡ tallied chosen (trace (cond b K (K then c))) count
      go count true e same = rw (struck_entry chosen chosen _ _ h c (own h) e) (ap (λ tally. tally count) same)
      go count false e same =
          ap₂ (λ (entry : Entry) (tally : Tally). entered ◌+◌ entry tally count)
          (kept_entry chosen chosen _ _ (kept_alike_lem chosen h) c e (own h)
          ∙ ap₂ (λ (i : Bool) (w : ℕ). entry_of chosen i w c (answer_at scheduler K c))
          (alike_indifferent chosen (kept_alike_lem chosen h) chosen) (ap unsettled same))
          same

  pub tally_same : (h k : History) → kept chosen (trace h) ≡ kept chosen (trace k)
      → tallied chosen (trace h) ≡ tallied chosen (trace k)
  tally_same h k e = tally_kept h ∙ ap (λ (x : History). tallied chosen (trace x)) e ∙ sym (tally_kept k)

  module _ (id : ℕ) where
    watched : (h : History) → indifferent_at id (trace h) ≡ true → Watched chosen id h
    watched h e = rw e (and-false (not (eqb id chosen)))

    gained-none : (t : Trace) → indifferent_at id t ≡ false → gained id t ≡ zeros
    unfolding gained
    gained-none begin e = refl
    gained-none (t and d) e = rw (e, and-false (indifferent_at id t))

    -- a struck-out call leaves whoever is indifferent so
    struck_stays : (h : History) (c : Event) → is_struck chosen (trace h) c ≡ true
        → indifferent_at id (trace (h then c)) ≡ indifferent_at id (trace h)
    unfolding is_struck indifferent_since indifferent_by trace_of dealing_at
    struck_stays h (Open t d v) e = true-false e refl
    struck_stays h (Join j k r b) e = true-false e refl
    struck_stays h (Change j k r b) e = true-false e refl
    struck_stays h (Leave j) e = true-false e refl
    struck_stays h (Load j n) e = cond_same (is_accepted (answer_at scheduler h (Load j n))) _
    struck_stays h (Arrive j p) e = cond_same (is_accepted (answer_at scheduler h (Arrive j p))) _
    struck_stays h Tick e = true-false e refl

    -- kept calls leave the same indifferent
    kept_stays : (h : History) (c : Event) → is_struck chosen (trace h) c ≡ false
        → indifferent_at id (trace (h then c)) ≡ indifferent_at id (trace (kept chosen (trace h) then c))
    unfolding kept trace_of dealing_at
    kept_stays h c e =
        alike_indifferent chosen (kept_alike_lem chosen (h then c)) id
        ∙ ap (λ (b : Bool). indifferent_at id (trace (cond b (kept chosen (trace h)) (kept chosen (trace h) then c)))) e

    gained-kept : (h : History) → gained id (trace h) ≡ gained id (trace (kept chosen (trace h)))
    unfolding gained kept trace_of dealing_at entered
    gained-kept start = refl
    gained-kept (h then c) =
        go (is_struck chosen (trace h) c) refl (indifferent_at id (trace h)) refl (gained-kept h)
      where
        K : History
        K = kept chosen (trace h)

        go : (b : Bool) → is_struck chosen (trace h) c ≡ b → (was : Bool) → indifferent_at id (trace h) ≡ was
            → gained id (trace h) ≡ gained id (trace K)
            → gained id (trace (h then c)) ≡ gained id (trace (cond b K (K then c)))
        go true e true i same =
            rw (i, struck_stays h c e, i)
            (fun_ext (λ count. rw (struck_entry chosen id true 0 h c (watched h i) e) (ap (λ tally. tally count) same)))
        go true e false i same = rw i (sym (gained-none (trace K) (sym (alike_indifferent chosen (kept_alike_lem chosen h) id) ∙ i)))
        go false e true i same =
            rw (alike_indifferent chosen (kept_alike_lem chosen h) id, kept_stays h c e)
            (ap₂ (λ (entry : Entry) (tally : Tally).
            cond (indifferent_at id (trace K) && indifferent_at id (trace (K then c))) (entered ◌+◌ entry tally) zeros)
            (kept_entry chosen id _ 0 (kept_alike_lem chosen h) c e (watched h i))
            same)
        go false e false i same = rw (i, sym (alike_indifferent chosen (kept_alike_lem chosen h) id) ∙ i)

    pub gained_same : (h k : History) → kept chosen (trace h) ≡ kept chosen (trace k)
        → gained id (trace h) ≡ gained id (trace k)
    gained_same h k e = gained-kept h ∙ ap (λ (x : History). gained id (trace x)) e ∙ sym (gained-kept k)
