-- Histories against erasure: a history and the history of its kept calls end in cores that are erased alike, and what some
-- calls show is the same in both, if a struck-out call shows nothing and a kept call shows what the erasure decides.
-- Two histories with equal kept calls are then compared through that third one. Assumes nothing.
use Prim.Native.Nat.{ℕ}
use mathlib.Core.Path.{◌≡◌, refl, sym, ap, ap₂, ◌∙◌}
use mathlib.Core.Bool.{Bool, true, false, cond, not, ◌&&◌}
use mathlib.Core.List.{List, ◌∷◌}
use lib.Dec.{eqb}
use Rattle.definitions.specs.Event.{Event, Open, Join, Change, Leave, Load, Arrive, Tick}
use Rattle.definitions.specs.Client.{Client, Kind, absent, indifferent, private, is_indifferent, is_private}
use Rattle.definitions.specs.State.{Core, unopened, running}
use Rattle.definitions.specs.Answers.{is_departure}
use Rattle.definitions.specs.Tick.{Turn}
use Rattle.definitions.specs.Core.{step}
use Rattle.definitions.specs.History.{History, start, ◌then◌, calls, pick_by, pick_of, draws_of, client_of, stock_of, Dealing, Trace, scheduler, after, answer_at, dealing_at, trace_of}
use Rattle.definitions.specs.Sameness.{is_tick, indifferent_at, is_struck, kept, log}
use borrow.Author.Tests.{not-true}
use Rattle.definitions.proofs.Laws.Tests.{true-false, and_both}
use Rattle.definitions.proofs.Sameness.Erase.{hidden, shown_open, erase, erase_core}
use Rattle.definitions.proofs.Sameness.Calls.{Alike, open_alike, join_alike, change_alike, leave_alike, load_alike, arrive_alike, load_struck, arrive_struck}
use Rattle.definitions.proofs.Sameness.Slot.{turn_erased, tick_departure, tick_answer, tick_cores}
use Rattle.definitions.proofs.Sameness.Kinds.{trace, dealt, holds_indifferent, indifferent_held}

module _ (chosen : ℕ) where
  -- the client that a load or an arrival names is not hidden
  abbrev Seen : Core → Event → Type 0
  Seen core (Open t d v) = Unit {0}
  Seen core (Join j k r b) = Unit {0}
  Seen core (Change j k r b) = Unit {0}
  Seen core (Leave j) = Unit {0}
  Seen core (Load j n) = hidden chosen j (client_of core j) ≡ false
  Seen core (Arrive j p) = hidden chosen j (client_of core j) ≡ false
  Seen core Tick = Unit {0}

  -- ---- one call

  -- a call on a core and on its erasure: cores that are erased alike and, of any call but tick, the same answer
  pub record StepAlike (x y : Core) (c : Event) : Type 0 where
    pub cores : erase_core chosen (step x c).core ≡ erase_core chosen (step y c).core
    pub answers : is_tick c ≡ false → (step x c).answer ≡ (step y c).answer

  both : {x y : Core} (c : Event) → Alike chosen (step x c) (step y c) → StepAlike x y c
  both c a = record { cores = a.cores; answers = λ n. a.answers }

  step_erased : (core : Core) (c : Event) → Seen core c → StepAlike core (erase_core chosen core) c
  unfolding step erase_core client_of is_tick
  step_erased unopened c e = record { cores = refl; answers = λ n. refl }
  step_erased (running s) (Open t d v) e = both (Open t d v) (open_alike chosen (running s) t d v)
  step_erased (running s) (Join j k r b) e = both (Join j k r b) (join_alike chosen s j k r b)
  step_erased (running s) (Change j k r b) e = both (Change j k r b) (change_alike chosen s j k r b)
  step_erased (running s) (Leave j) e = both (Leave j) (leave_alike chosen s j)
  step_erased (running s) (Load j n) e = both (Load j n) (load_alike chosen s j e n)
  step_erased (running s) (Arrive j p) e = both (Arrive j p) (arrive_alike chosen s j e p)
  step_erased (running s) Tick e = record { cores = tick_cores chosen s; answers = λ n. true-false refl n }

  -- the same of two cores that are erased alike
  step_alike : (x y : Core) (c : Event) → erase_core chosen x ≡ erase_core chosen y → Seen x c → Seen y c → StepAlike x y c
  step_alike x y c e sx sy = record {
    cores =
        (step_erased x c sx).cores
        ∙ ap (λ (z : Core). erase_core chosen (step z c).core) e
        ∙ sym (step_erased y c sy).cores;
    answers = λ n. (step_erased x c sx).answers n ∙ ap (λ (z : Core). (step z c).answer) e ∙ sym ((step_erased y c sy).answers n);
  }

  -- ---- two histories

  -- histories whose cores are erased alike, and whose kept calls are the same
  pub record AlikeAt (h k : History) : Type 0 where
    pub cores : erase_core chosen (after scheduler h) ≡ erase_core chosen (after scheduler k)
    pub keeps : kept chosen (trace h) ≡ kept chosen (trace k)

  -- clients are not erased
  erase_client : (core : Core) (id : ℕ) → client_of (erase_core chosen core) id ≡ client_of core id
  unfolding erase_core client_of erase
  erase_client unopened id = refl
  erase_client (running s) id = refl

  pub alike_client : {h k : History} → AlikeAt h k → (id : ℕ) → client_of (after scheduler h) id ≡ client_of (after scheduler k) id
  alike_client {h} {k} a id =
      sym (erase_client (after scheduler h) id)
      ∙ ap (λ (z : Core). client_of z id) a.cores
      ∙ erase_client (after scheduler k) id

  pub alike_indifferent : {h k : History} → AlikeAt h k → (id : ℕ) → indifferent_at id (trace h) ≡ indifferent_at id (trace k)
  unfolding holds_indifferent
  alike_indifferent {h} {k} a id =
      indifferent_held id h ∙ ap (λ (c : Client). is_indifferent c.kind) (alike_client a id) ∙ sym (indifferent_held id k)

  alike_struck : {h k : History} → AlikeAt h k → (c : Event) → is_struck chosen (trace h) c ≡ is_struck chosen (trace k) c
  unfolding is_struck
  alike_struck a (Open t d v) = refl
  alike_struck a (Join j k r b) = refl
  alike_struck a (Change j k r b) = refl
  alike_struck a (Leave j) = refl
  alike_struck a (Load j n) = rw (alike_indifferent a j)
  alike_struck a (Arrive j p) = rw (alike_indifferent a j)
  alike_struck a Tick = refl

  -- ---- what is struck out

  -- the id that a struck-out call names
  struck_apart : (h : History) (j : ℕ) → not (eqb j chosen) && not (indifferent_at j (trace h)) ≡ true
      → (eqb j chosen ≡ false) × (holds_indifferent j (after scheduler h) ≡ false)
  struck_apart h j e = (
    not-true (eqb j chosen) (and_both (not (eqb j chosen)) (not (indifferent_at j (trace h))) e).0,
    sym (indifferent_held j h)
        ∙ not-true (indifferent_at j (trace h)) (and_both (not (eqb j chosen)) (not (indifferent_at j (trace h))) e).1,
  )

  -- a struck-out call changes nothing that is not erased
  struck_erased : (h : History) (c : Event) → is_struck chosen (trace h) c ≡ true
      → erase_core chosen (step (after scheduler h) c).core ≡ erase_core chosen (after scheduler h)
  unfolding is_struck step erase_core client_of holds_indifferent
  struck_erased h (Open t d v) e = true-false e refl
  struck_erased h (Join j k r b) e = true-false e refl
  struck_erased h (Change j k r b) e = true-false e refl
  struck_erased h (Leave j) e = true-false e refl
  struck_erased h (Load j n) e = go (after scheduler h) (struck_apart h j e)
    where
      go : (core : Core) → (eqb j chosen ≡ false) × (holds_indifferent j core ≡ false)
          → erase_core chosen (step core (Load j n)).core ≡ erase_core chosen core
      go unopened apart = refl
      go (running s) apart = load_struck chosen s j apart.0 apart.1 n
  struck_erased h (Arrive j p) e = go (after scheduler h) (struck_apart h j e)
    where
      go : (core : Core) → (eqb j chosen ≡ false) × (holds_indifferent j core ≡ false)
          → erase_core chosen (step core (Arrive j p)).core ≡ erase_core chosen core
      go unopened apart = refl
      go (running s) apart = arrive_struck chosen s j apart.0 apart.1 p
  struck_erased h Tick e = true-false e refl

  -- the chosen client is not hidden, nor is an indifferent one
  pub hidden_not : (id : ℕ) (c : Client) → not (eqb id chosen) && not (is_indifferent c.kind) ≡ false
      → hidden chosen id c ≡ false
  unfolding hidden
  hidden_not id c = go c.kind (eqb id chosen)
    where
      go : (k : Kind) (b : Bool) → not b && not (is_indifferent k) ≡ false → is_private k && not b ≡ false
      go absent b e = refl
      go indifferent b e = refl
      go private true e = refl
      go private false e = e

  -- a kept load or arrival names a client that is not hidden
  kept_seen : (h : History) (c : Event) → is_struck chosen (trace h) c ≡ false → Seen (after scheduler h) c
  unfolding is_struck holds_indifferent
  kept_seen h (Open t d v) e = tt
  kept_seen h (Join j k r b) e = tt
  kept_seen h (Change j k r b) e = tt
  kept_seen h (Leave j) e = tt
  kept_seen h (Load j n) e = hidden_not j (client_of (after scheduler h) j) (rw (indifferent_held j h) at e)
  kept_seen h (Arrive j p) e = hidden_not j (client_of (after scheduler h) j) (rw (indifferent_held j h) at e)
  kept_seen h Tick e = tt

  -- ---- a history and its kept calls

  pub kept_alike_lem : (h : History) → AlikeAt h (kept chosen (trace h))
  unfolding kept after trace_of dealing_at
  kept_alike_lem start = record { cores = refl; keeps = refl }
  kept_alike_lem (h then c) = go (is_struck chosen (trace h) c) refl (kept_alike_lem h)
    where
      K : History
      K = kept chosen (trace h)

      go : (b : Bool) → is_struck chosen (trace h) c ≡ b → AlikeAt h K → AlikeAt (h then c) (cond b K (K then c))
      go true e a = record { cores = struck_erased h c e ∙ a.cores; keeps = rw e a.keeps }
      go false e a = record {
        cores = (step_alike (after scheduler h) (after scheduler K) c a.cores (kept_seen h c e)
            (kept_seen K c (sym (alike_struck a c) ∙ e))).cores;
        keeps = rw (e, sym (alike_struck a c) ∙ e) (ap (λ (k : History). k then c) a.keeps);
      }

  pub alike_through : (h k : History) → kept chosen (trace h) ≡ kept chosen (trace k) → AlikeAt h k
  alike_through h k e = record {
    cores =
        (kept_alike_lem h).cores
        ∙ ap (λ (x : History). erase_core chosen (after scheduler x)) e
        ∙ sym (kept_alike_lem k).cores;
    keeps = e;
  }

  -- ---- what two histories that are alike show

  pub alike_answer : {h k : History} → AlikeAt h k → (c : Event) → is_struck chosen (trace h) c ≡ false → is_tick c ≡ false
      → answer_at scheduler h c ≡ answer_at scheduler k c
  unfolding answer_at
  alike_answer {h} {k} a c e n =
      let kept-too : is_struck chosen (trace k) c ≡ false = sym (alike_struck a c) ∙ e in
      (step_alike (after scheduler h) (after scheduler k) c a.cores (kept_seen h c e) (kept_seen k c kept-too)).answers n

  pick_erased : (core : Core) → pick_of (erase_core chosen core) ≡ pick_of core
  unfolding erase_core
  pick_erased unopened = refl
  pick_erased (running s) = ap (λ (t : Turn). pick_by t.rule t.id) (turn_erased chosen s)

  pub alike_pick : {h k : History} → AlikeAt h k → pick_of (after scheduler h) ≡ pick_of (after scheduler k)
  alike_pick {h} {k} a = sym (pick_erased (after scheduler h)) ∙ ap pick_of a.cores ∙ pick_erased (after scheduler k)

  draws_erased : (core : Core) → draws_of (erase_core chosen core) ≡ draws_of core
  unfolding erase_core
  draws_erased unopened = refl
  draws_erased (running s) = ap (λ (t : Turn). t.draws) (turn_erased chosen s)

  pub alike_draws : {h k : History} → AlikeAt h k → draws_of (after scheduler h) ≡ draws_of (after scheduler k)
  alike_draws {h} {k} a = sym (draws_erased (after scheduler h)) ∙ ap draws_of a.cores ∙ draws_erased (after scheduler k)

  departure_erased : (core : Core) (id : ℕ)
      → is_departure id (step core Tick).answer ≡ is_departure id (step (erase_core chosen core) Tick).answer
  unfolding step erase_core
  departure_erased unopened id = refl
  departure_erased (running s) id = tick_departure chosen s id

  departed_erased : (core : Core) (id : ℕ) → hidden chosen id (client_of core id) ≡ false
      → is_departure id (step core Tick).answer ≡ true
      → (step core Tick).answer ≡ (step (erase_core chosen core) Tick).answer
  unfolding step erase_core client_of
  departed_erased unopened id e d = refl
  departed_erased (running s) id e d = tick_answer chosen s id e d

  pub alike_departure : {h k : History} → AlikeAt h k → (id : ℕ)
      → is_departure id (answer_at scheduler h Tick) ≡ is_departure id (answer_at scheduler k Tick)
  unfolding answer_at
  alike_departure {h} {k} a id =
      departure_erased (after scheduler h) id
      ∙ ap (λ (z : Core). is_departure id (step z Tick).answer) a.cores
      ∙ sym (departure_erased (after scheduler k) id)

  -- the same client is hidden
  alike_hidden : {h k : History} → AlikeAt h k → (id : ℕ)
      → hidden chosen id (client_of (after scheduler h) id) ≡ hidden chosen id (client_of (after scheduler k) id)
  alike_hidden {h} {k} a id = ap (hidden chosen id) (alike_client a id)

  module _ {h k : History} (a : AlikeAt h k) (id : ℕ) (e : hidden chosen id (client_of (after scheduler h) id) ≡ false) where
    pub alike_departed : is_departure id (answer_at scheduler h Tick) ≡ true → answer_at scheduler h Tick ≡ answer_at scheduler k Tick
    unfolding answer_at
    alike_departed d =
        departed_erased (after scheduler h) id e d
        ∙ ap (λ (z : Core). (step z Tick).answer) a.cores
        ∙ sym (departed_erased (after scheduler k) id (sym (alike_hidden a id) ∙ e) (sym (alike_departure a id) ∙ d))

    stock_erased : (core : Core) → hidden chosen id (client_of core id) ≡ false
        → stock_of (erase_core chosen core) id ≡ stock_of core id
    unfolding client_of stock_of erase_core erase
    stock_erased unopened q = refl
    stock_erased (running s) q = shown_open chosen s.clients s.side.stocks id q

    pub alike_stock : stock_of (after scheduler h) id ≡ stock_of (after scheduler k) id
    alike_stock =
        sym (stock_erased (after scheduler h) e)
        ∙ ap (λ (z : Core). stock_of z id) a.cores
        ∙ stock_erased (after scheduler k) (sym (alike_hidden a id) ∙ e)

  -- ---- what is logged

  -- What is logged respects erasure: a struck-out call is not logged, and a kept one is logged alike.
  pub record Logged {A : Type 0} (which : Trace → Dealing → Bool) (shows : Dealing → A) : Type 0 where
    pub struck_out : (h : History) (c : Event) → is_struck chosen (trace h) c ≡ true → which (trace h) (dealt h c) ≡ false
    pub which_alike : {h k : History} → AlikeAt h k → (c : Event) → is_struck chosen (trace h) c ≡ false
        → which (trace h) (dealt h c) ≡ which (trace k) (dealt k c)
    pub shows_alike : {h k : History} → AlikeAt h k → (c : Event) → is_struck chosen (trace h) c ≡ false
        → which (trace h) (dealt h c) ≡ true
        → shows (dealt h c) ≡ shows (dealt k c)

  module _ {A : Type 0} (which : Trace → Dealing → Bool) (shows : Dealing → A) (L : Logged which shows) where
    logged : History → List (ℕ × A)
    logged h = log chosen which shows (trace h)

    log-kept : (h : History) → logged h ≡ logged (kept chosen (trace h))
    unfolding log kept trace_of dealing_at logged
    log-kept start = refl
    log-kept (h then c) = go (is_struck chosen (trace h) c) refl (which (trace h) (dealt h c)) refl (log-kept h)
      where
        K : History
        K = kept chosen (trace h)

        a : AlikeAt h K
        a = kept_alike_lem h

        go : (b : Bool) → is_struck chosen (trace h) c ≡ b → (w : Bool) → which (trace h) (dealt h c) ≡ w
            → logged h ≡ logged K
            → cond w ((calls K, shows (dealt h c)) ∷ logged h) (logged h) ≡ logged (cond b K (K then c))
        go true e true f ih = true-false f (L.struck_out h c e)
        go true e false f ih = ih
        go false e true f ih =
            rw (sym (L.which_alike a c e) ∙ f)
            (ap₂ (λ (x : ℕ × A) (l : List (ℕ × A)). x ∷ l) (λ i. (calls (a.keeps i), L.shows_alike a c e f i)) ih)
        go false e false f ih = rw (sym (L.which_alike a c e) ∙ f) ih

    pub log_same : (h k : History) → kept chosen (trace h) ≡ kept chosen (trace k)
        → log chosen which shows (trace h) ≡ log chosen which shows (trace k)
    unfolding logged
    log_same h k e = log-kept h ∙ ap logged e ∙ sym (log-kept k)
