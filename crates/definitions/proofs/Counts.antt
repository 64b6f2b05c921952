-- The count sheets are what the calls since the join say. What waits is what was accepted and neither sent nor emptied out, by cases
-- over the calls; the rest follows from it by induction over the history. Assumes nothing.
use Prim.Native.Nat.{ℕ, zero, suc, ◌+◌, ◌%◌, ◌<◌}
use mathlib.Core.Path.{◌≡◌, refl, sym, ap, ap₂, ◌∙◌, fun_ext}
use mathlib.Core.Logic.{◌≢◌}
use mathlib.Core.Bool.{Bool, true, false, cond, not, ◌&&◌}
use mathlib.Core.List.{List, [], ◌∷◌, tail}
use native.Mathlib.Omega.{arith}
use native.Mathlib.Nat.{mod-add-mod, add-mod, zero-mod, mod-eq_of_lt}
use lib.Dec.{T, eqb}
use lib.ListN.{length}
use borrow.Author.Tests.{eqb-true, ne_eqb, not-true}
use Rattle.definitions.specs.declared.Packet.{Packet}
use Rattle.definitions.specs.declared.Outcome.{Outcome}
use Rattle.definitions.specs.declared.Outcome.TheVariants.{Real, Dummy, Idle, None}
use Rattle.definitions.specs.declared.Answer.{Answer}
use Rattle.definitions.specs.declared.Answer.TheVariants.{Refused}
use Rattle.definitions.specs.Event.{Event, Open, Join, Change, Leave, Load, Arrive, Tick}
use Rattle.definitions.specs.Sizes.{indifferent_kind, count_span}
use Rattle.definitions.specs.Client.{Kind, absent, indifferent, private, Client, is_active, is_indifferent, kind_of, same_kind}
use Rattle.definitions.specs.Stock.{Stock, bare, spent}
use Rattle.definitions.specs.State.{Side, State, Core, unopened, running, fresh, updated, put, stocked, emptied}
use Rattle.definitions.specs.Answers.{is_accepted}
use Rattle.definitions.specs.Checks.{Result, Check, accepted, checked, unchanged, open_checks, term_checks, join_checks, active_checks, change_checks, leave_checks, load_checks, arrive_checks}
use Rattle.definitions.specs.Calls.{on_open, on_join, side_after_change, on_change, on_leave, on_load, side_after_arrival, on_arrive}
use Rattle.definitions.specs.Tick.{Rule, rule1, rule2, rule3, turn, sent_from, sent, outcome_by, stocks_after, side_after, slotted, on_tick}
use Rattle.definitions.specs.Core.{step}
use Rattle.definitions.specs.History.{History, start, ◌then◌, client_of, stock_of, scheduler, after, answer_at, dealing_at, trace_of}
use Rattle.definitions.specs.Traces.{indifferent_by, indifferent_at, indifferent_since}
use Rattle.definitions.specs.Stretch.{one_if}
use Rattle.definitions.specs.Counts.{Count, count_accepted, count_sent, count14, count15, count_emptied, count_dummies, column, Tally, zeros, Entry, nothing, more, anew, entry_of_drop, keeps_type, entry_of_accepted, entry_of_refused, entry_of_slot, entry_of, entered, unsettled, tallied, gained, wrapped, wrapped_plus, counts_after, Whole, whole_new, whole_after}
use Rattle.definitions.specs.Counted.{counts_behind, whole_behind, waiting_in, Settles, made_so, CountedAlone, DropsCounted, Counted}
use Rattle.definitions.proofs.Laws.Tests.{T_true, true-false, eqb-cases, eqb_same, cond_both}
use Rattle.definitions.proofs.Laws.Checked.{Passed, checked-cases}
use Rattle.definitions.proofs.Laws.Clients.{put_same, put_other}
use Rattle.definitions.proofs.Laws.Kinds.{kind_of_indifferent}
use Rattle.definitions.proofs.Facts.{check_facts}
use Rattle.definitions.proofs.Laws.Rules.{sent-cases}
use Rattle.definitions.proofs.Stretches.Waiting.{waits, load_waits, arrive_waits}
use Rattle.definitions.proofs.Sameness.Kinds.{trace, holds_indifferent, indifferent_held}

-- ---- What waits.

-- "Accepted equals sent plus emptied plus waiting."
abbrev Balanced : Tally → ℕ → Type 0
Balanced tally waiting = tally count_accepted ≡ tally count_sent + tally count_emptied + waiting

-- whether a change keeps the type, of an active client and a type that there is
pub keeps_kind : (k : Kind) (kind : ℕ) → is_active k ≡ true → is_active (kind_of kind) ≡ true
    → same_kind k (kind_of kind) ≡ keeps_type (is_indifferent k) kind
keeps_kind k kind held given = go k (kind_of kind) (kind_of_indifferent kind) held given
  where
    go : (a b : Kind) → is_indifferent b ≡ eqb kind indifferent_kind → is_active a ≡ true → is_active b ≡ true
        → same_kind a b ≡ keeps_type (is_indifferent a) kind
    go absent b e p q = true-false p refl
    go indifferent b e p q = e
    go private absent e p q = true-false q refl
    go private indifferent e p q = ap not e
    go private private e p q = ap not e

module _ (id : ℕ) (tally : Tally) where
  -- where an entry is about another id, nothing is entered
  own_cases : (other : ℕ) (entry : Entry) (w : ℕ)
      → (id ≡ other → Balanced (entered ◌+◌ entry tally) w)
      → ((id ≡ other → ⊥) → Balanced tally w)
      → Balanced (entered ◌+◌ (cond (eqb other id) entry nothing) tally) w
  unfolding entered
  own_cases other entry w own apart =
      eqb-cases (λ b. Balanced (entered ◌+◌ (cond b entry nothing) tally) w) other id
      (λ e. own (sym e)) (λ ne. apart (λ e. ne (sym e)))

  dropped : (n w : ℕ) → Balanced tally w → Balanced (entered ◌+◌ (entry_of_drop n) tally) w
  unfolding entry_of_drop entered column
  dropped n w balanced = go (eqb n 14) (eqb n 15)
    where
      go : (a b : Bool) → Balanced (entered ◌+◌ (cond a (more count14 1) (cond b (more count15 1) nothing)) tally) w
      go true b = balanced
      go false true = balanced
      go false false = balanced

-- ---- Six calls.

module _ (s : State) (id : ℕ) (tally : Tally) (balanced : Balanced tally (waits (running s) id)) where
  abbrev i : Bool
  i = is_indifferent (s.clients id).kind

  abbrev w : ℕ
  w = waits (running s) id

  abbrev Settled : Event → Result → Type 0
  Settled c r = Balanced (entered ◌+◌ (entry_of id i w c r.answer) tally) (waits r.core id)

  refused_settled : (c : Event) (n : ℕ) → Settled c (record { answer = Refused n; core = running s })
  unfolding entry_of entry_of_refused entered
  refused_settled (Open t d v) n = balanced
  refused_settled (Join j k r b) n = balanced
  refused_settled (Change j k r b) n = balanced
  refused_settled (Leave j) n = balanced
  refused_settled (Load j m) n = balanced
  refused_settled (Arrive j p) n =
      own_cases id tally j (entry_of_drop n) w (λ e. dropped id tally n w balanced) (λ ne. balanced)
  refused_settled Tick n = balanced

  checked_settled : (c : Event) (cs : List Check) (made : State)
      → (Passed cs → Settled c (accepted made))
      → Settled c (checked cs (unchanged (running s)) (accepted made))
  checked_settled c cs made done =
      checked-cases (Settled c) cs (unchanged (running s)) (accepted made) (refused_settled c) done

  -- a new sheet, and nothing waits
  anew_settled : (j : ℕ) (k : Stock) → k.queue ≡ []
      → Balanced (entered ◌+◌ (cond (eqb j id) anew nothing) tally) (length (put s.side.stocks j k id).queue)
  unfolding entered waits stock_of
  anew_settled j k none =
      own_cases id tally j anew _
      (λ e. rw (e, put_same s.side.stocks j k, none))
      (λ ne. rw (put_other s.side.stocks j k id ne) balanced)

  change_settled : (j kind rate burst : ℕ) → Passed (change_checks s j kind rate burst)
      → Balanced
      (entered ◌+◌ (cond (eqb j id) (cond (keeps_type i kind) nothing (more count_emptied w)) nothing) tally)
      (length ((side_after_change s j kind).stocks id).queue)
  unfolding change_checks active_checks term_checks side_after_change emptied entered column waits stock_of
  change_settled j kind rate burst passed =
      own_cases id tally j _ _
      (λ e. rw (← e, keeps_kind (s.clients id).kind kind (rw e passed.1.0) passed.1.1.0) (own (keeps_type i kind)))
      (λ ne. cond_both (λ (side : Side). Balanced tally (length (side.stocks id).queue))
      (same_kind (s.clients j).kind (kind_of kind)) balanced (apart ne))
    where
      own : (same : Bool)
          → Balanced (entered ◌+◌ (cond same nothing (more count_emptied w)) tally)
          (length ((cond same s.side (emptied s.side id)).stocks id).queue)
      own true = balanced
      own false = rw (put_same s.side.stocks id bare) (omega arith)

      apart : (id ≡ j → ⊥) → Balanced tally (length ((emptied s.side j).stocks id).queue)
      apart ne = rw (put_other s.side.stocks j bare id ne) balanced

  -- what a client sends: its first packet is settled, and a dummy is no packet
  sent_settled : (c : Client) (pool : ℕ) (queue : List Packet) → Balanced tally (length queue)
      → Balanced (entered ◌+◌ (entry_of_slot id i w (sent_from id c pool queue)) tally) (length (tail queue))
  unfolding entry_of_slot entered column
  sent_settled c zero [] b = b
  sent_settled c (suc pool) [] b = rw (eqb_same id) b
  sent_settled c pool (p ∷ ps) b = rw (eqb_same id) (omega arith)

  -- another's slot
  apart_settled : (j : ℕ) (c : Client) (k : Stock) → (id ≡ j → ⊥)
      → Balanced (entered ◌+◌ (entry_of_slot id i w (sent j c k)) tally) w
  unfolding entry_of_slot entered
  apart_settled j c k ne =
      sent-cases (λ o. Balanced (entered ◌+◌ (entry_of_slot id i w o) tally) w) j c k
      (λ p added. rw (ne_eqb j id (λ e. ne (sym e))) balanced)
      (rw (ne_eqb j id (λ e. ne (sym e))) balanced)
      balanced

  picked_settled : (j : ℕ)
      → Balanced (entered ◌+◌ (entry_of_slot id i w (sent j (s.clients j) (s.side.stocks j))) tally)
      (length (put s.side.stocks j (spent (s.side.stocks j)) id).queue)
  unfolding waits stock_of sent spent put
  picked_settled j =
      eqb-cases (λ b. Balanced (entered ◌+◌ (entry_of_slot id i w (sent j (s.clients j) (s.side.stocks j))) tally)
      (length (cond b (spent (s.side.stocks j)) (s.side.stocks id)).queue)) id j
      own
      (apart_settled j (s.clients j) (s.side.stocks j))
    where
      own : id ≡ j
          → Balanced (entered ◌+◌ (entry_of_slot id i w (sent j (s.clients j) (s.side.stocks j))) tally)
          (length (spent (s.side.stocks j)).queue)
      own e = rw (← e) (sent_settled (s.clients id) (s.side.stocks id).pool (s.side.stocks id).queue balanced)

  tick_settled : Settled Tick (on_tick s)
  unfolding on_tick slotted updated side_after entry_of entry_of_slot entered outcome_by stocks_after waits stock_of
  tick_settled = go (turn s).rule
    where
      go : (r : Rule)
          → Balanced (entered ◌+◌ (entry_of_slot id i w (outcome_by r (turn s).id s)) tally)
          (length (stocks_after r (turn s).id s.side.stocks id).queue)
      go rule1 = picked_settled (turn s).id
      go rule2 = picked_settled (turn s).id
      go rule3 = balanced

  running_settled : (c : Event) → Settled c (step (running s) c)
  unfolding step on_open on_join on_change on_leave on_load on_arrive updated stocked emptied fresh side_after_arrival
      entry_of entry_of_accepted entered column waits stock_of
  running_settled (Open t d v) = checked_settled (Open t d v) (open_checks t d v) _ (λ passed. fresh_settled)
    where
      fresh_settled : Balanced (entered ◌+◌ anew tally) 0
      fresh_settled = refl
  running_settled (Join j k r b) =
      checked_settled (Join j k r b) (join_checks s j k r b) _ (λ passed. anew_settled j bare refl)
  running_settled (Change j k r b) =
      checked_settled (Change j k r b) (change_checks s j k r b) _ (change_settled j k r b)
  running_settled (Leave j) = checked_settled (Leave j) (leave_checks s j) _ (λ passed. anew_settled j bare refl)
  running_settled (Load j n) =
      checked_settled (Load j n) (load_checks s j n) _ (λ passed. rw (load_waits s id j n) unmoved)
    where
      unmoved : Balanced (entered ◌+◌ nothing tally) w
      unmoved = balanced
  running_settled (Arrive j p) =
      checked_settled (Arrive j p) (arrive_checks s j p) _ (λ passed. rw (arrive_waits s id j p) (arrived (eqb j id)))
    where
      arrived : (own : Bool) → Balanced (entered ◌+◌ (cond own (more count_accepted 1) nothing) tally) (one_if own w)
      arrived true = omega arith
      arrived false = balanced
  running_settled Tick = tick_settled

-- ---- Any call, and histories.

module _ (id : ℕ) where
  unopened_settled : (tally : Tally) → Balanced tally 0 → (c : Event)
      → Balanced (entered ◌+◌ (entry_of id false 0 c (step unopened c).answer) tally) (waits (step unopened c).core id)
  unfolding step on_open fresh entry_of entry_of_accepted entry_of_refused entry_of_drop entered waits stock_of
  unopened_settled tally b (Open t d v) =
      checked-cases
      (λ r. Balanced (entered ◌+◌ (entry_of id false 0 (Open t d v) r.answer) tally) (waits r.core id))
      (open_checks t d v) (unchanged unopened) (accepted (fresh t d v)) (λ n. b) (λ passed. refl)
  unopened_settled tally b (Join j k r burst) = b
  unopened_settled tally b (Change j k r burst) = b
  unopened_settled tally b (Leave j) = b
  unopened_settled tally b (Load j n) = b
  unopened_settled tally b (Arrive j p) = own_cases id tally j nothing 0 (λ e. b) (λ ne. b)
  unopened_settled tally b Tick = b

  core_settled : (core : Core) (tally : Tally) → Balanced tally (waits core id) → (c : Event)
      → Balanced (entered ◌+◌ (entry_of id (is_indifferent (client_of core id).kind) (waits core id) c (step core c).answer) tally)
      (waits (step core c).core id)
  unfolding client_of waits stock_of
  core_settled unopened tally b c = unopened_settled tally b c
  core_settled (running s) tally b c = running_settled s id tally b c

  -- the entry of a call goes by the core before it as it goes by the calls before it
  entry_same : (h : History) → Balanced (tallied id (trace h)) (waits (after scheduler h) id) → (c : Event) (a : Answer)
      → entry_of id (indifferent_at id (trace h)) (unsettled (tallied id (trace h))) c a
      ≡ entry_of id (is_indifferent (client_of (after scheduler h) id).kind) (waits (after scheduler h) id) c a
  unfolding holds_indifferent
  entry_same h b c a =
      ap₂ (λ (i : Bool) (w : ℕ). entry_of id i w c a) (indifferent_held id h)
      (let left : unsettled (tallied id (trace h)) ≡ waits (after scheduler h) id = omega arith in left)

  pub settled : (h : History) → Balanced (tallied id (trace h)) (waits (after scheduler h) id)
  unfolding tallied trace_of dealing_at answer_at after waits stock_of
  settled start = refl
  settled (h then c) =
      rw (entry_same h (settled h) c (step (after scheduler h) c).answer)
      (core_settled (after scheduler h) (tallied id (trace h)) (settled h) c)

-- ---- Counts that wrap.

entered-wrapped : (e : Entry) (kept tally : Tally) → ((count : Count) → kept count ≡ wrapped (tally count)) → (count : Count)
    → entered wrapped_plus e kept count ≡ wrapped (entered ◌+◌ e tally count)
unfolding entered wrapped wrapped_plus
entered-wrapped nothing kept tally same count = same count
entered-wrapped (more one n) kept tally same count = go (eqb (column count) (column one))
  where
    go : (b : Bool) → cond b ((kept count + n) % count_span) (kept count) ≡ (cond b (tally count + n) (tally count)) % count_span
    go true = rw (same count) (mod-add-mod (tally count) count_span n)
    go false = same count
entered-wrapped anew kept tally same count = sym (zero-mod count_span)

kept-wrapped : (h : History) (id : ℕ) (count : Count) → counts_behind h id count ≡ wrapped (tallied id (trace h) count)
unfolding counts_behind counts_after tallied trace_of dealing_at answer_at wrapped waits stock_of
kept-wrapped start id count = sym (zero-mod count_span)
kept-wrapped (h then c) id count =
    rw (entry_same id h (settled id h) c (step (after scheduler h) c).answer)
    (entered-wrapped _ (counts_behind h id) (tallied id (trace h)) (kept-wrapped h id) count)

-- a sum of remainders
wrapped_sum : (a b w : ℕ) → wrapped (a + b + w) ≡ wrapped (wrapped a + wrapped b + w)
unfolding wrapped
wrapped_sum a b w =
    sym (mod-add-mod (a + b) count_span w)
    ∙ ap (λ (x : ℕ). (x + w) % count_span) (add-mod a b count_span)
    ∙ mod-add-mod (a % count_span + b % count_span) count_span w

kept-settled : (h : History) (id : ℕ) → Settles (counts_behind h id) (after scheduler h) id
unfolding Settles waiting_in waits
kept-settled h id =
    rw (kept-wrapped h id count_accepted, kept-wrapped h id count_sent, kept-wrapped h id count_emptied, settled id h)
    (wrapped_sum _ _ _)

-- Counts that keep to the sum are those of a sheet that keeps to it to the packet, modulo 2 to the power 64.
module _ (core : Core) (id : ℕ) (tally : Tally) (narrow : (count : Count) → tally count < count_span)
    (settles : Settles tally core id) where
  whole : Tally
  whole count_accepted = tally count_sent + tally count_emptied + waits core id
  whole count_sent = tally count_sent
  whole count14 = tally count14
  whole count15 = tally count15
  whole count_emptied = tally count_emptied
  whole count_dummies = tally count_dummies

  narrow_wrapped : (count : Count) → tally count ≡ wrapped (tally count)
  unfolding wrapped
  narrow_wrapped count = sym (mod-eq_of_lt (narrow count))

  whole_wrapped : (count : Count) → tally count ≡ wrapped (whole count)
  unfolding whole Settles waiting_in waits
  whole_wrapped count_accepted = settles
  whole_wrapped count_sent = narrow_wrapped count_sent
  whole_wrapped count14 = narrow_wrapped count14
  whole_wrapped count15 = narrow_wrapped count15
  whole_wrapped count_emptied = narrow_wrapped count_emptied
  whole_wrapped count_dummies = narrow_wrapped count_dummies

  settled_on : (c : Event)
      → Settles
      (entered wrapped_plus (entry_of id (is_indifferent (client_of core id).kind) (waits core id) c (step core c).answer) tally)
      (step core c).core id
  unfolding Settles waiting_in waits whole
  settled_on c =
      rw (after-wrapped count_accepted, after-wrapped count_sent, after-wrapped count_emptied, core_settled id core whole refl c)
      (wrapped_sum _ _ _)
    where
      entry : Entry
      entry = entry_of id (is_indifferent (client_of core id).kind) (waits core id) c (step core c).answer

      after-wrapped : (count : Count) → entered wrapped_plus entry tally count ≡ wrapped (entered ◌+◌ entry whole count)
      after-wrapped = entered-wrapped entry tally whole whole_wrapped

-- core and counts behind a history, one beside the other
pub whole_behind_lem : (h : History) → whole_behind whole_new h ≡ record { core = after scheduler h; counts = counts_behind h }
unfolding whole_behind whole_after after counts_behind answer_at
whole_behind_lem start = refl
whole_behind_lem (h then c) = ap (λ (w : Whole). whole_after w c) (whole_behind_lem h)

-- ---- What is gained.

module _ (id : ℕ) (base grown fresh-grown : Tally) (count : Count)
    (same : grown count ≡ base count + fresh-grown count) where
  -- an entry that does not begin the sheet anew adds to what was gained as it adds to the sheet
  abbrev Adds : Entry → Entry → Type 0
  Adds e f = entered ◌+◌ e grown count ≡ base count + entered ◌+◌ f fresh-grown count

  more_adds : (one : Count) (n : ℕ) → Adds (more one n) (more one n)
  unfolding entered
  more_adds one n = go (eqb (column count) (column one))
    where
      go : (b : Bool)
          → cond b (grown count + n) (grown count) ≡ base count + cond b (fresh-grown count + n) (fresh-grown count)
      go true = omega arith
      go false = same

  own_adds : (b : Bool) (e f : Entry) → (b ≡ true → Adds e f) → Adds (cond b e nothing) (cond b f nothing)
  unfolding entered
  own_adds true e f own = own refl
  own_adds false e f own = same

  drop_adds : (n : ℕ) → Adds (entry_of_drop n) (entry_of_drop n)
  unfolding entry_of_drop entered
  drop_adds n = go (eqb n 14) (eqb n 15)
    where
      go : (a b : Bool)
          → Adds (cond a (more count14 1) (cond b (more count15 1) nothing)) (cond a (more count14 1) (cond b (more count15 1) nothing))
      go true b = more_adds count14 1
      go false true = more_adds count15 1
      go false false = same

  -- A client that is indifferent before a call and after it. The change that empties its queue is not among such calls, nor a join.
  module _ (s : State) (w : ℕ) (indifferently : is_indifferent (s.clients id).kind ≡ true) where
    abbrev Stays : Event → Result → Type 0
    Stays c r = cond (is_accepted r.answer) (indifferent_by id c true) true ≡ true
        → Adds (entry_of id true w c r.answer) (entry_of id true 0 c r.answer)

    refused_stays : (c : Event) (n : ℕ) (core : Core) → Stays c (record { answer = Refused n; core = core })
    unfolding entry_of entry_of_refused entered
    refused_stays (Open t d v) n core e = same
    refused_stays (Join j k r b) n core e = same
    refused_stays (Change j k r b) n core e = same
    refused_stays (Leave j) n core e = same
    refused_stays (Load j m) n core e = same
    refused_stays (Arrive j p) n core e = own_adds (eqb j id) _ _ (λ own. drop_adds n)
    refused_stays Tick n core e = same

    checked_stays : (c : Event) (cs : List Check) (made : State)
        → (Passed cs → indifferent_by id c true ≡ true → Adds (entry_of_accepted id true w c) (entry_of_accepted id true 0 c))
        → Stays c (checked cs (unchanged (running s)) (accepted made))
    unfolding entry_of is_accepted
    checked_stays c cs made done =
        checked-cases (Stays c) cs (unchanged (running s)) (accepted made) (λ n. refused_stays c n (running s)) done

    active : is_active (s.clients id).kind ≡ true
    active = go (s.clients id).kind indifferently
      where
        go : (k : Kind) → is_indifferent k ≡ true → is_active k ≡ true
        go absent e = e
        go indifferent e = refl
        go private e = refl

    slot_adds : (o : Outcome) → Adds (entry_of_slot id true w o) (entry_of_slot id true 0 o)
    unfolding entry_of_slot entered
    slot_adds (Real j p added) = own_adds (eqb j id) _ _ (λ own. more_adds count_sent 1)
    slot_adds (Dummy j) = own_adds (eqb j id) _ _ (λ own. more_adds count_dummies 1)
    slot_adds (Idle j) = same
    slot_adds None = same

    running_stays : (c : Event) → Stays c (step (running s) c)
    unfolding step on_open on_join on_change on_leave on_load on_arrive on_tick join_checks indifferent_by entry_of entry_of_accepted is_accepted
        entered
    running_stays (Open t d v) = checked_stays (Open t d v) (open_checks t d v) _ (λ passed e. true-false e refl)
    running_stays (Join j k r b) =
        checked_stays (Join j k r b) (join_checks s j k r b) _
        (λ passed e. own_adds (eqb j id) anew anew
        (λ own. true-false active (rw (eqb-true j id own) at (not-true (is_active (s.clients j).kind) passed.1.0))))
    running_stays (Change j k r b) =
        checked_stays (Change j k r b) (change_checks s j k r b) _
        (λ passed e. own_adds (eqb j id) _ _ (λ own. rw (rw own at e) same))
    running_stays (Leave j) =
        checked_stays (Leave j) (leave_checks s j) _
        (λ passed e. own_adds (eqb j id) anew anew (λ own. true-false (rw own at e) refl))
    running_stays (Load j n) = checked_stays (Load j n) (load_checks s j n) _ (λ passed e. same)
    running_stays (Arrive j p) =
        checked_stays (Arrive j p) (arrive_checks s j p) _
        (λ passed e. own_adds (eqb j id) _ _ (λ own. more_adds count_accepted 1))
    running_stays Tick = λ e. slot_adds _

  core_stays : (core : Core) (w : ℕ) (c : Event) → is_indifferent (client_of core id).kind ≡ true
      → cond (is_accepted (step core c).answer) (indifferent_by id c true) true ≡ true
      → Adds (entry_of id true w c (step core c).answer) (entry_of id true 0 c (step core c).answer)
  unfolding client_of
  core_stays unopened w c e after = true-false e refl
  core_stays (running s) w c e after = running_stays s w e c after

tally_gains : (id : ℕ) (h : History) → indifferent_at id (trace h) ≡ true → (count : Count)
    → tallied id (trace h) count ≡ tallied id (trace (made_so id h)) count + gained id (trace h) count
unfolding tallied gained made_so trace_of dealing_at answer_at indifferent_since holds_indifferent
tally_gains id start e count = true-false e refl
tally_gains id (h then c) e count =
    go (λ b. tally_gains id h b count) (indifferent_at id (trace h)) refl (indifferent_at id (trace (h then c))) e refl
  where
    go : (indifferent_at id (trace h) ≡ true
        → tallied id (trace h) count ≡ tallied id (trace (made_so id h)) count + gained id (trace h) count)
        → (before : Bool) → indifferent_at id (trace h) ≡ before → (now : Bool) → now ≡ true → indifferent_at id (trace (h then c)) ≡ now
        → tallied id (trace (h then c)) count
        ≡ tallied id (trace (cond (before && now) (made_so id h) (h then c))) count
        + (cond (before && now) (entered ◌+◌ (entry_of id before 0 c (answer_at scheduler h c)) (gained id (trace h))) zeros) count
    go grown true b false n f = true-false n refl
    go grown true b true n f =
        rw b
        (core_stays id (tallied id (trace (made_so id h))) (tallied id (trace h)) (gained id (trace h)) count
        (grown b) (after scheduler h) (unsettled (tallied id (trace h))) c
        (sym (indifferent_held id h) ∙ b)
        (rw b at f))
    go grown false b now n f = omega arith

kept_gains : (h : History) (id : ℕ) → T (indifferent_at id (trace h)) → (count : Count)
    → counts_behind h id count ≡ wrapped (counts_behind (made_so id h) id count + gained id (trace h) count)
unfolding wrapped
kept_gains h id e count =
    kept-wrapped h id count
    ∙ ap wrapped (tally_gains id h (T_true e) count)
    ∙ sym (mod-add-mod (tallied id (trace (made_so id h)) count) count_span (gained id (trace h) count))
    ∙ ap (λ (x : ℕ). (x + gained id (trace h) count) % count_span) (sym (kept-wrapped (made_so id h) id count))

pub counted : Counted
unfolding waiting_in waits counts_after
counted = record {
  keeps = kept-wrapped;
  settles = λ h id. settled id h;
  settles_kept = kept-settled;
  settles_on = λ core c counts id narrow settles. settled_on core id (counts id) narrow settles c;
  gains = kept_gains;
}

-- ---- What a refusal leaves.

-- a packet dropped with a number that has a count of its own
module _ (core : Core) (id : ℕ) (p : Packet) (counts : ℕ → Tally) (n : ℕ) (one : Count) (its : entry_of_drop n ≡ more one 1) where
  drop_own : counts_after core (Arrive id p) (Refused n) counts id one ≡ wrapped_plus (counts id one) 1
  unfolding counts_after entry_of entry_of_refused entered
  drop_own = rw (eqb_same id, its, eqb_same (column one))

  drop_other : (count : Count) → (column count ≡ column one → ⊥)
      → counts_after core (Arrive id p) (Refused n) counts id count ≡ counts id count
  unfolding counts_after entry_of entry_of_refused entered
  drop_other count ne = rw (eqb_same id, its, ne_eqb (column count) (column one) ne)

  drop_apart : (other : ℕ) (count : Count) → other ≢ id
      → counts_after core (Arrive id p) (Refused n) counts other count ≡ counts other count
  unfolding counts_after entry_of entry_of_refused entered
  drop_apart other count ne = rw (ne_eqb id other (λ e. ne (sym e)))

-- a count is known by its column
count_of : ℕ → Count
count_of n =
    cond (eqb n 0) count_accepted
    (cond (eqb n 1) count_sent (cond (eqb n 2) count14 (cond (eqb n 3) count15 (cond (eqb n 4) count_emptied count_dummies))))

column_known : (count : Count) → count_of (column count) ≡ count
unfolding count_of column
column_known count_accepted = refl
column_known count_sent = refl
column_known count14 = refl
column_known count15 = refl
column_known count_emptied = refl
column_known count_dummies = refl

pub column_injective : (a b : Count) → column a ≡ column b → a ≡ b
column_injective a b e = sym (column_known a) ∙ ap count_of e ∙ column_known b

drops_none : (n : ℕ) → n ≢ 14 → n ≢ 15 → entry_of_drop n ≡ nothing
unfolding entry_of_drop
drops_none n other another = rw (ne_eqb n 14 other, ne_eqb n 15 another)

refused_none : (core : Core) (c : Event) (n : ℕ) (counts : ℕ → Tally) → n ≢ 14 → n ≢ 15
    → counts_after core c (Refused n) counts ≡ counts
unfolding counts_after entry_of entry_of_refused entered
refused_none core (Open t d v) n counts other another = refl
refused_none core (Join j k r b) n counts other another = refl
refused_none core (Change j k r b) n counts other another = refl
refused_none core (Leave j) n counts other another = refl
refused_none core (Load j m) n counts other another = refl
refused_none core (Arrive j p) n counts other another =
    fun_ext (λ id. fun_ext (λ count. rw (drops_none n other another) (go (eqb j id) id count)))
  where
    go : (b : Bool) (id : ℕ) (count : Count) → entered wrapped_plus (cond b nothing nothing) (counts id) count ≡ counts id count
    go true id count = refl
    go false id count = refl
refused_none core Tick n counts other another = refl

counted-alone : (number : ℕ) (own : Count) → entry_of_drop number ≡ more own 1 → CountedAlone number own
unfolding CountedAlone
counted-alone number own q = λ core id p counts e. (
  check_facts.step-refused core (Arrive id p) number e,
  drop_own core id p counts number own q,
  λ count ne. drop_other core id p counts number own q count (λ same. ne (column_injective count own same)),
  drop_apart core id p counts number own q,
)

pub drops_counted : DropsCounted
unfolding entry_of_drop
drops_counted = record {
  full = counted-alone 14 count14 refl;
  drained = counted-alone 15 count15 refl;
  others = λ core c n counts e other another. (check_facts.step-refused core c n e, refused_none core c n counts other another);
}
