-- A tick, put together of its parts: a turn is done, and then the buckets are refilled. Assumes nothing.
use Prim.Native.Nat.{ℕ, ◌<◌}
use mathlib.Core.Path.{◌≡◌, refl, sym, ap, ◌∙◌}
use mathlib.Core.Bool.{true, false}
use mathlib.Core.List.{List}
use Rattle.definitions.specs.Event.{Tick}
use Rattle.definitions.specs.declared.Answer.TheVariants.{Refused, Slot}
use Rattle.definitions.specs.Sizes.{ids}
use Rattle.definitions.specs.Client.{Kind, absent, indifferent, private, is_indifferent, Client}
use Rattle.definitions.specs.State.{State, Core, running, unopened, updated}
use Rattle.definitions.specs.Checks.{Result, refused}
use Rattle.definitions.specs.Tick.{turn, slotted, on_tick}
use Rattle.definitions.specs.Core.{step}
use Rattle.definitions.specs.History.{draws_of}
use Rattle.definitions.specs.Limits.{StateLimits}
use Rattle.definitions.proofs.Laws.Tests.{true-false}
use Rattle.definitions.proofs.Limits.{step-limits}
use Rattle.definitions.proofs.Limits.Client.{BurstBy, rate_high_lem, burst_high_lem, Parts, limits_parts}
use Rattle.generator.specs.declared.Generator.{Generator}
use Rattle.draw.specs.declared.Sample.{Sample}
use Rattle.draw.specs.Samples.{StandsFor, Undrawn}
use Rattle.draw.proofs.Samples.{undrawn-stands}
use Rattle.marks.specs.Marks.{marked}
use Rattle.tables.specs.declared.Control.{Control}
use Rattle.tables.specs.declared.Answered.{Answered}
use Rattle.tables.specs.declared.Tables.{Tables}
use Rattle.tables.specs.Tables.{tables, rate_at, burst_at, level_at}
use Rattle.tables.specs.Meaning.{client_at, clients_of, state_of, core_of}
use Rattle.tables.specs.Invariant.{Valid}
use Rattle.tables.specs.Promise.{Meets}
use Rattle.tables.proofs.Promises.{core_of-opened, core_of_shut}
use Rattle.tables.proofs.MarkedKinds.{kind_indifferent}
use Rattle.tables.proofs.Touch.{client_own}
use Rattle.slot.specs.declared.Choice.{Choice}
use Rattle.slot.specs.declared.Sent.{Sent}
use Rattle.slot.specs.Turns.{Chosen}
use Rattle.slot.specs.Buckets.{Refillable, Refilled}
use Rattle.slot.specs.Slots.{unfilled, Done}
use Rattle.slot.proofs.Refill.{refill_shape, refill_state}

-- only an indifferent client has a burst
burst_none_lem : (k : Kind) (burst : ℕ) → is_indifferent k ≡ false → BurstBy k burst → burst ≡ 0
burst_none_lem absent burst n e = e
burst_none_lem indifferent burst n e = true-false refl n
burst_none_lem private burst n e = e

module _ (c : Control) (t : Tables) (valid : Valid c t) where
  pub tick_refused : c.opened ≡ false → (r : Answered) → r ≡ record { control = c; answer = Refused 19 } → Meets Tick c t r t
  unfolding step
  tick_refused e r f = rw f (record {
    answer = ap (λ (q : Result). q.answer) (sym told);
    core = shut ∙ ap (λ (q : Result). q.core) (sym told);
    valid = valid;
  })
    where
      shut : core_of c t ≡ unopened
      shut = core_of_shut c t e

      told : step (core_of c t) Tick ≡ refused 19 unopened
      told = ap (λ (x : Core). step x Tick) shut

  -- what was drawn: nothing on an unopened core, and else what the turn drew
  pub undrawn_draws : c.opened ≡ false → {g : Generator} {r : Sample} → Undrawn g r → StandsFor r (draws_of (core_of c t))
  undrawn_draws e none = rw (core_of_shut c t e) (undrawn-stands none)

  pub turn_draws : c.opened ≡ true → (choice : Choice) → Chosen choice (turn (state_of c t))
      → StandsFor choice.sample (draws_of (core_of c t))
  turn_draws e choice chosen = rw (core_of-opened c t e) chosen.draws

  module _ (ready : c.opened ≡ true) where
    abbrev s : State
    s = state_of c t

    -- after rules 1 to 3 every indifferent bucket is as it was, and within the limits
    module _ (r : Sent) (u : Tables) (done : Done c t r u) where
      same : (j : ℕ) → j < ids → client_at r.control u j ≡ clients_of c t j
      unfolding state_of unfilled updated
      same j l = sym (client_own r.control u done.shape j l) ∙ ap (λ (x : State). x.clients j) done.state

      parts : (j : ℕ) → Parts (clients_of c t j)
      unfolding state_of
      parts j = limits_parts (clients_of c t j) ((valid ready).limits.client_limits j)

      kind_unmarked : (j : ℕ) → j < ids → marked c.indifferent j ≡ false → is_indifferent (clients_of c t j).kind ≡ false
      unfolding client_at
      kind_unmarked j l marks =
          ap (λ (x : Client). is_indifferent x.kind) (client_own c t (valid ready).shape j l)
          ∙ kind_indifferent c j
          ∙ marks

      pub done_refillable : Refillable c.indifferent u.terms
      unfolding client_at
      done_refillable = record {
        size = done.shape.sizes.terms;
        buckets = λ j l.
            let level : level_at u.terms j ≡ (clients_of c t j).level = ap (λ (x : Client). x.level) (same j l) in
            let rate : rate_at u.terms j ≡ (clients_of c t j).rate = ap (λ (x : Client). x.rate) (same j l) in
            let burst : burst_at u.terms j ≡ (clients_of c t j).burst = ap (λ (x : Client). x.burst) (same j l) in
            record {
              level = rw (level, burst) (parts j).levels;
              rate = rw rate (rate_high_lem (clients_of c t j).kind (clients_of c t j).rate (parts j).rates);
              burst = rw burst (burst_high_lem (clients_of c t j).kind (clients_of c t j).burst (parts j).bursts);
            };
        none = λ j l marks.
            ap (λ (x : Client). x.burst) (same j l)
            ∙ burst_none_lem (clients_of c t j).kind (clients_of c t j).burst (kind_unmarked j l marks) (parts j).bursts;
      }

      pub tick_done : (terms : List ℕ) → Refilled c.indifferent u.terms terms
          → (a : Answered) → a ≡ record { control = r.control; answer = Slot r.outcome }
          → Meets Tick c t a (tables terms u.stocks u.handles u.lengths u.links u.counts)
      unfolding step on_tick
      tick_done terms h a e = rw e (record {
        answer = ap Slot done.outcome ∙ ap (λ (q : Result). q.answer) (sym told);
        core = core_of-opened r.control v (done.opened ∙ ready) ∙ ap running state ∙ ap (λ (q : Result). q.core) (sym told);
        valid = λ w. record { shape = refill_shape r.control u done.shape terms h'; limits = rw state limits };
      })
        where
          v : Tables
          v = tables terms u.stocks u.handles u.lengths u.links u.counts

          h' : Refilled r.control.indifferent u.terms terms
          h' = rw done.indifferent h

          told : step (core_of c t) Tick ≡ on_tick s
          told = ap (λ (x : Core). step x Tick) (core_of-opened c t ready)

          state : state_of r.control v ≡ slotted s (turn s)
          state = refill_state r.control u done.shape terms h' s (turn s) done.state

          limits : StateLimits (slotted s (turn s))
          limits = step-limits (running s) (valid ready).limits Tick
