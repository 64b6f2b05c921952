-- A greedy client gets exactly what it bought (paper 02, S-10): "For an indifferent client of burst 2 or more that offers
-- packets until it is refused 15, before the first tick of a stretch and after each tick, never meeting 14 and with no open,
-- nor join, change or leave of it, the number accepted over n ticks is exactly (level at the start + n × rate) / 1024, rounded
-- down." Greedy is what the field calls a source that takes all that its bucket lets it.
use Rattle.std.specs.Prelude.{ℕ, ◌≤◌, ◌≡◌, Bool, true, false, cond, not, ◌&&◌, ◌||◌, T, eqb}
use Rattle.definitions.specs.Sizes.{shares}
use Rattle.definitions.specs.Client.{Client, is_indifferent}
use Rattle.definitions.specs.State.{Core}
use Rattle.definitions.specs.Answers.{number}
use Rattle.definitions.specs.History.{History, Dealing, Trace, begin, ◌and◌, after, scheduler, client_of}
use Rattle.definitions.specs.Sameness.{is_tick}
use Rattle.definitions.specs.Stretch.{stretch, ticks, is_offer, undisturbed, acceptances, bought}

module _ (id refusal : ℕ) where
  -- an offer of the client that is refused with the number
  unfoldable pub is_refused : Dealing → Bool
  is_refused d = is_offer id d.event && eqb (number d.answer) refusal

  -- whether one was refused so
  unfoldable pub refused_ever : Trace → Bool
  refused_ever begin = false
  refused_ever (t and d) = refused_ever t || is_refused d

  -- whether one was since the last tick or, before the first, since the start
  unfoldable pub refused_since : Trace → Bool
  refused_since begin = false
  refused_since (t and d) = cond (is_tick d.event) false (refused_since t || is_refused d)

  -- at every tick so far, whether one was refused so before it and behind the tick before
  unfoldable pub refused_at_ticks : Trace → Bool
  refused_at_ticks begin = true
  refused_at_ticks (t and d) = refused_at_ticks t && (not (is_tick d.event) || refused_since t)

  -- "offers packets until it is refused .., before the first tick of a stretch and after each tick", the last one too.
  -- What else is called, whatever is offered behind that refusal, and offers that get another answer neither end an offering
  -- nor keep it from ending.
  abbrev pub offers_until : Trace → Bool
  offers_until t = refused_at_ticks t && refused_since t

-- what the request asks of the client, as it is at the start, and of the stretch
pub record Greedy (id : ℕ) (client : Client) (t : Trace) : Type 0 where
  pub indifferently : T (is_indifferent client.kind)
  -- "of burst 2 or more"
  pub burst_two : 2 ≤ client.burst
  -- "with no open, nor join, change or leave of it"
  pub calm : T (undisturbed id t)
  -- "that offers packets until it is refused 15, before the first tick of a stretch and after each tick"
  pub offers : T (offers_until id 15 t)
  -- "never meeting 14"
  pub roomy : refused_ever id 14 t ≡ false

pub record GreedyExact : Type 0 where
  -- from any core on at which the client's rate is within its limit
  pub anywhere : (core : Core) (id : ℕ) (calls : History)
      → (client_of core id).rate ≤ shares
      → Greedy id (client_of core id) (stretch core calls)
      → acceptances id (stretch core calls) ≡ bought (client_of core id) (ticks (stretch core calls))
  -- so from every core on that a history reaches
  pub reached : (h : History) (id : ℕ) (calls : History)
      → Greedy id (client_of (after scheduler h) id) (stretch (after scheduler h) calls)
      → acceptances id (stretch (after scheduler h) calls)
      ≡ bought (client_of (after scheduler h) id) (ticks (stretch (after scheduler h) calls))
  -- An offering that ends with 15 met no 14: of an indifferent client, `roomy` follows from `calm` and `offers`.
  pub roomy : (core : Core) (id : ℕ) (calls : History)
      → T (is_indifferent (client_of core id).kind)
      → T (undisturbed id (stretch core calls))
      → T (offers_until id 15 (stretch core calls))
      → refused_ever id 14 (stretch core calls) ≡ false
