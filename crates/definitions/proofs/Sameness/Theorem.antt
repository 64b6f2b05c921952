-- Demand 3, `Sameness scheduler`: each thing that it compares is logged alike, or is read off what is not erased.
-- Assumes nothing.
use Prim.Native.Nat.{ℕ, ◌≤◌}
use native.Mathlib.Omega.{arith}
use native.Mathlib.Nat.{le_refl}
use mathlib.Core.Path.{◌≡◌, refl, sym, ap, ap₂, ◌∙◌}
use mathlib.Core.Bool.{Bool, true, false, cond, not, ◌&&◌, ◌||◌, and-true, and-false}
use lib.Dec.{eqb}
use Rattle.definitions.specs.Event.{Event, Open, Join, Change, Leave, Load, Arrive, Tick}
use Rattle.definitions.specs.declared.Answer.{Answer}
use Rattle.definitions.specs.Client.{Client}
use Rattle.definitions.specs.Stock.{Stock}
use Rattle.definitions.specs.Answers.{number, is_departure}
use Rattle.definitions.specs.History.{History, ◌then◌, Place, end, before, calls, client_of, stock_of, Trace, holdings_of, scheduler, after, answer_at, dealing_at, trace_of}
use Rattle.definitions.specs.Sameness.{is_setting, is_tick, is_arrival, names, indifferent_at, is_struck, kept, departure, drop, SameDealings, SameHoldings, LooksSame, Sameness}
use Rattle.definitions.proofs.Laws.Tests.{T_true, true-false, and_both, eqb_same}
use Rattle.definitions.proofs.Sameness.Erase.{hidden}
use Rattle.definitions.proofs.Sameness.Kinds.{trace, holds_indifferent, indifferent_held}
use Rattle.definitions.proofs.Sameness.Watched.{Watched, watched_apart}
use Rattle.definitions.proofs.Sameness.CountsAlike.{tally_same, gained_same}
use Rattle.definitions.proofs.Sameness.Histories.{AlikeAt, alike_indifferent, alike_answer, alike_pick, alike_draws, alike_departure, alike_departed, alike_client, alike_stock, hidden_not, alike_through, Logged, log_same}

-- ---- places

place_calls : {h whole : History} → Place h whole → calls h ≤ calls whole
unfolding calls
place_calls {h} end = le_refl (calls h)
place_calls (before p) = let h = place_calls p in omega arith

-- two places of one history with as many calls behind them are one
place_unique : {h k whole : History} → Place h whole → Place k whole → calls h ≡ calls k → h ≡ k
unfolding calls
place_unique end end e = refl
place_unique end (before q) e = absurd (let l = place_calls q in omega arith)
place_unique (before p) end e = absurd (let l = place_calls p in omega arith)
place_unique (before p) (before q) e = place_unique p q e

module _ (chosen : ℕ) where
  -- the kept calls behind a place are behind a place of the kept calls
  place_kept : {h whole : History} → Place h whole → Place (kept chosen (trace h)) (kept chosen (trace whole))
  unfolding kept trace_of dealing_at
  place_kept end = end
  place_kept (before {whole} {c} p) = go (is_struck chosen (trace whole) c) (place_kept p)
    where
      go : {h' : History} (b : Bool) → Place h' (kept chosen (trace whole))
          → Place h' (cond b (kept chosen (trace whole)) (kept chosen (trace whole) then c))
      go true q = q
      go false q = before q

  -- where histories with equal kept calls have as many of them behind them, these are equal
  pub kept-behind : {h k H K : History} → kept chosen (trace H) ≡ kept chosen (trace K) → Place h H → Place k K
      → calls (kept chosen (trace h)) ≡ calls (kept chosen (trace k))
      → kept chosen (trace h) ≡ kept chosen (trace k)
  kept-behind e p q n = place_unique (place_kept p) (rw (sym e) at (place_kept q)) n

  -- ---- a client that is watched where it is the chosen one or indifferent

  pub not_tick_struck : (h : History) (c : Event) → is_struck chosen (trace h) c ≡ true → is_tick c ≡ false
  unfolding is_struck is_tick
  not_tick_struck h (Open t d v) e = refl
  not_tick_struck h (Join j k r b) e = refl
  not_tick_struck h (Change j k r b) e = refl
  not_tick_struck h (Leave j) e = refl
  not_tick_struck h (Load j n) e = refl
  not_tick_struck h (Arrive j p) e = refl
  not_tick_struck h Tick e = sym e

  not_tick_setting : (c : Event) → is_setting c ≡ true → is_tick c ≡ false
  unfolding is_setting is_tick
  not_tick_setting (Open t d v) e = refl
  not_tick_setting (Join j k r b) e = refl
  not_tick_setting (Change j k r b) e = refl
  not_tick_setting (Leave j) e = refl
  not_tick_setting (Load j n) e = refl
  not_tick_setting (Arrive j p) e = refl
  not_tick_setting Tick e = sym e

  module _ (id : ℕ) where
    not_tick_named : (c : Event) → names id c ≡ true → is_tick c ≡ false
    unfolding names is_tick
    not_tick_named (Open t d v) e = refl
    not_tick_named (Join j k r b) e = refl
    not_tick_named (Change j k r b) e = refl
    not_tick_named (Leave j) e = refl
    not_tick_named (Load j n) e = refl
    not_tick_named (Arrive j p) e = refl
    not_tick_named Tick e = sym e

    -- a struck-out call does not name it
    struck_names : (h : History) (c : Event) → Watched chosen id h → is_struck chosen (trace h) c ≡ true → names id c ≡ false
    unfolding is_struck names
    struck_names h (Open t d v) w e = refl
    struck_names h (Join j k r b) w e = true-false e refl
    struck_names h (Change j k r b) w e = true-false e refl
    struck_names h (Leave j) w e = true-false e refl
    struck_names h (Load j n) w e = watched_apart chosen id h j w e
    struck_names h (Arrive j p) w e = watched_apart chosen id h j w e
    struck_names h Tick w e = refl

    module _ (when : Trace → Bool) (steady : (h k : History) → AlikeAt chosen h k → when (trace h) ≡ when (trace k))
        (watched : (h : History) → when (trace h) ≡ true → Watched chosen id h) where
      -- a struck-out call is not logged where it would have to name the client
      not_named : (h : History) (c : Event) (more : Bool) → is_struck chosen (trace h) c ≡ true
          → when (trace h) && (names id c && more) ≡ false
      not_named h c more e = go (when (trace h)) refl
        where
          go : (b : Bool) → when (trace h) ≡ b → b && (names id c && more) ≡ false
          go true w = rw (struck_names h c (watched h w) e)
          go false w = refl

      seen : (h : History) → when (trace h) ≡ true → hidden chosen id (client_of (after scheduler h) id) ≡ false
      unfolding holds_indifferent
      seen h w = hidden_not chosen id (client_of (after scheduler h) id) (rw (indifferent_held id h) at (watched h w))

      answers_logged : Logged chosen (λ p d. when p && names id d.event) (λ d. d.answer)
      unfolding dealing_at
      answers_logged = record {
        struck_out = λ h c e. ap (λ (b : Bool). when (trace h) && b) (sym (and-true (names id c))) ∙ not_named h c true e;
        which_alike = λ {h} {k} a c e. ap (λ (b : Bool). b && names id c) (steady h k a);
        shows_alike = λ {h} {k} a c e w.
            alike_answer chosen a c e (not_tick_named c (and_both (when (trace h)) (names id c) w).1);
      }

      departures_logged : Logged chosen (λ p d. when p && departure id d) (λ d. d.answer)
      unfolding departure is_tick dealing_at
      departures_logged = record {
        struck_out = λ h c e. rw (not_tick_struck h c e) (and-false (when (trace h)));
        which_alike = λ {h} {k} a c e. ap₂ ◌&&◌ (steady h k a) (departs h k a c);
        shows_alike = λ {h} {k} a c e w. departed h k a c w;
      }
        where
          departs : (h k : History) → AlikeAt chosen h k → (c : Event)
              → is_tick c && is_departure id (answer_at scheduler h c) ≡ is_tick c && is_departure id (answer_at scheduler k c)
          departs h k a (Open t d v) = refl
          departs h k a (Join j kind r b) = refl
          departs h k a (Change j kind r b) = refl
          departs h k a (Leave j) = refl
          departs h k a (Load j n) = refl
          departs h k a (Arrive j p) = refl
          departs h k a Tick = alike_departure chosen a id

          departed : (h k : History) → AlikeAt chosen h k → (c : Event)
              → when (trace h) && (is_tick c && is_departure id (answer_at scheduler h c)) ≡ true
              → answer_at scheduler h c ≡ answer_at scheduler k c
          departed h k a (Open t d v) w = true-false (and_both (when (trace h)) false w).1 refl
          departed h k a (Join j kind r b) w = true-false (and_both (when (trace h)) false w).1 refl
          departed h k a (Change j kind r b) w = true-false (and_both (when (trace h)) false w).1 refl
          departed h k a (Leave j) w = true-false (and_both (when (trace h)) false w).1 refl
          departed h k a (Load j n) w = true-false (and_both (when (trace h)) false w).1 refl
          departed h k a (Arrive j p) w = true-false (and_both (when (trace h)) false w).1 refl
          departed h k a Tick w =
              alike_departed chosen a id (seen h (and_both (when (trace h)) (is_departure id (answer_at scheduler h Tick)) w).0)
              (and_both (when (trace h)) (is_departure id (answer_at scheduler h Tick)) w).1

      -- an arrival that was dropped
      dropped : History → Event → Bool
      dropped h c = is_arrival c && (eqb (number (answer_at scheduler h c)) 14 || eqb (number (answer_at scheduler h c)) 15)

      drops_logged : Logged chosen (λ p d. when p && drop id d) (λ d. d.answer)
      unfolding drop dropped dealing_at
      drops_logged = record {
        struck_out = λ h c e. not_named h c (dropped h c) e;
        which_alike = λ {h} {k} a c e. ap₂ ◌&&◌ (steady h k a) (same h k a c e (names id c) refl);
        shows_alike = λ {h} {k} a c e w.
            let dropped-own : names id c && dropped h c ≡ true =
            (and_both (when (trace h)) (names id c && dropped h c) w).1 in
            alike_answer chosen a c e (not_tick_named c (and_both (names id c) (dropped h c) dropped-own).0);
      }
        where
          same : (h k : History) → AlikeAt chosen h k → (c : Event) → is_struck chosen (trace h) c ≡ false
              → (b : Bool) → names id c ≡ b
              → b && dropped h c ≡ b && dropped k c
          same h k a c e true n =
              ap (λ (x : Answer). is_arrival c && (eqb (number x) 14 || eqb (number x) 15))
              (alike_answer chosen a c e (not_tick_named c n))
          same h k a c e false n = refl

      dealings_same : (h k : History) → kept chosen (trace h) ≡ kept chosen (trace k)
          → SameDealings chosen id when (trace h) (trace k)
      dealings_same h k e = record {
        answers = log_same chosen (λ p d. when p && names id d.event) (λ d. d.answer) answers_logged h k e;
        departures = log_same chosen (λ p d. when p && departure id d) (λ d. d.answer) departures_logged h k e;
        drops = log_same chosen (λ p d. when p && drop id d) (λ d. d.answer) drops_logged h k e;
      }

    holdings_same : (h k : History) → AlikeAt chosen h k → Watched chosen id h
        → SameHoldings id (holdings_of (after scheduler h)) (holdings_of (after scheduler k))
    unfolding holds_indifferent holdings_of
    holdings_same h k a w = record {
      queue = ap (λ (x : Stock). x.queue) same;
      pool = ap (λ (x : Stock). x.pool) same;
      level = ap (λ (c : Client). c.level) (alike_client chosen a id);
    }
      where
        same : stock_of (after scheduler h) id ≡ stock_of (after scheduler k) id
        same = alike_stock chosen a id (hidden_not chosen id (client_of (after scheduler h) id) (rw (indifferent_held id h) at w))

  -- ---- the settings and the slots

  settings_logged : Logged chosen (λ p d. is_setting d.event) (λ d. d.answer)
  unfolding is_setting is_struck dealing_at
  settings_logged = record {
    struck_out = not_setting;
    which_alike = λ a c e. refl;
    shows_alike = λ a c e w. alike_answer chosen a c e (not_tick_setting c w);
  }
    where
      not_setting : (h : History) (c : Event) → is_struck chosen (trace h) c ≡ true → is_setting c ≡ false
      not_setting h (Open t d v) e = sym e
      not_setting h (Join j k r b) e = sym e
      not_setting h (Change j k r b) e = sym e
      not_setting h (Leave j) e = sym e
      not_setting h (Load j n) e = refl
      not_setting h (Arrive j p) e = refl
      not_setting h Tick e = refl

  slots_logged : Logged chosen (λ p d. is_tick d.event) (λ d. d.pick)
  unfolding dealing_at
  slots_logged = record {
    struck_out = not_tick_struck;
    which_alike = λ a c e. refl;
    shows_alike = λ a c e w. alike_pick chosen a;
  }

  draws_logged : Logged chosen (λ p d. is_tick d.event) (λ d. d.draws)
  unfolding dealing_at
  draws_logged = record {
    struck_out = not_tick_struck;
    which_alike = λ a c e. refl;
    shows_alike = λ a c e w. alike_draws chosen a;
  }

  -- ---- all of it, at two places with the same kept calls behind them

  looks_same : (h k : History) → kept chosen (trace h) ≡ kept chosen (trace k)
      → LooksSame chosen (trace h) (holdings_of (after scheduler h)) (trace k) (holdings_of (after scheduler k))
  looks_same h k e = record {
    settings = log_same chosen (λ p d. is_setting d.event) (λ d. d.answer) settings_logged h k e;
    slots = log_same chosen (λ p d. is_tick d.event) (λ d. d.pick) slots_logged h k e;
    draws = log_same chosen (λ p d. is_tick d.event) (λ d. d.draws) draws_logged h k e;
    chosen_dealings = dealings_same chosen (λ p. true) (λ p q a. refl) (λ p w. own p) h k e;
    chosen_holdings = holdings_same chosen h k alike (own h);
    chosen_counts = λ count. ap (λ tally. tally count) (tally_same chosen h k e);
    indifferent_alike = alike_indifferent chosen alike;
    indifferent_dealings = λ id.
        dealings_same id (indifferent_at id) (λ p q a. alike_indifferent chosen a id) (indifferently id) h k e;
    indifferent_holdings = λ id w. holdings_same id h k alike (indifferently id h (T_true w));
    indifferent_gains = λ id count. ap (λ tally. tally count) (gained_same chosen id h k e);
  }
    where
      alike : AlikeAt chosen h k
      alike = alike_through chosen h k e

      own : (p : History) → Watched chosen chosen p
      own p = rw (eqb_same chosen)

      indifferently : (id : ℕ) (p : History) → indifferent_at id (trace p) ≡ true → Watched chosen id p
      indifferently id p w = rw w (and-false (not (eqb id chosen)))

pub sameness : Sameness scheduler
unfolding Sameness
sameness chosen H K e h k p q n = looks_same chosen h k (kept-behind chosen e p q n)
