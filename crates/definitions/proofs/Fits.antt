-- Every state that a history of numbers within their limits reaches has its generator and its handles within theirs.
-- By induction over the history: an open's seed is not 0, a tick steps the generator or leaves it,
-- and only an arrival brings a handle.
use Prim.Native.Nat.{ℕ, zero, suc, ◌≤◌}
use mathlib.Core.Path.{◌≡◌, refl}
use mathlib.Core.Bool.{false≢true}
use mathlib.Core.List.{List, [], ◌∷◌, ◌++◌, tail}
use native.Mathlib.Omega.{arith}
use lib.Dec.{eqb}
use Rattle.definitions.specs.declared.Packet.{Packet}
use Rattle.definitions.specs.Event.{Event, Open, Join, Change, Leave, Load, Arrive, Tick}
use Rattle.definitions.specs.Sizes.{number_limit, handle_limit, first_come}
use Rattle.definitions.specs.Draw.{draw}
use Rattle.definitions.specs.Client.{kind_of, same_kind, Client}
use Rattle.definitions.specs.Stock.{Stock, bare, loaded, queued, spent}
use Rattle.definitions.specs.State.{Side, State, Core, unopened, running, fresh, updated, put, stocked, emptied}
use Rattle.definitions.specs.Checks.{Check, accepted, checked, unchanged, open_checks, join_checks, change_checks, leave_checks, load_checks, arrive_checks}
use Rattle.definitions.specs.Calls.{on_open, on_join, side_after_change, on_change, on_leave, on_load, side_after_arrival, on_arrive}
use Rattle.definitions.specs.Tick.{Rule, rule1, rule2, rule3, rule_of, Turn, first_turn, turn_by, turn, side_after, slotted, on_tick}
use Rattle.definitions.specs.Core.{step}
use Rattle.definitions.specs.History.{start, ◌then◌, scheduler, after}
use Rattle.definitions.specs.Evenness.{stepped_by}
use Rattle.definitions.specs.Fits.{EventFits, HandlesFit, StateFits, CoreFits, Fits, FitsMet, FitsNeeded}
use Rattle.definitions.proofs.Everything.{everything}
use Rattle.definitions.proofs.Laws.Tests.{cond_both}
use Rattle.definitions.proofs.Laws.Checked.{Passed, checked-cases}
use Rattle.definitions.proofs.Laws.Clients.{put-cases, stocks_after-cases}
use Rattle.definitions.proofs.Generator.{Seeded, stepped_seeded}
use Rattle.definitions.proofs.Sample.{sample_sampled}

-- The generator: a draw steps it, up to nine times.

stepped_by_seeded : (n v : ℕ) → Seeded v → Seeded (stepped_by n v)
unfolding stepped_by
stepped_by_seeded zero v seeded = seeded
stepped_by_seeded (suc n) v seeded = stepped_seeded (stepped_by n v) (stepped_by_seeded n v seeded)

draw_seeded : (generator : ℕ) (weight : ℕ → ℕ) → Seeded generator → Seeded (draw generator weight).sample.generator
unfolding draw
draw_seeded generator weight seeded =
    rw (sample_sampled _ generator).generator_is (stepped_by_seeded _ generator seeded)

turn_by_seeded : (rule : Rule) (s : State) → Seeded s.side.generator → Seeded (turn_by rule s).generator
unfolding turn_by first_turn
turn_by_seeded rule1 s seeded =
    cond_both (λ (t : Turn). Seeded t.generator) (eqb s.discipline first_come) seeded
    (draw_seeded s.side.generator _ seeded)
turn_by_seeded rule2 s seeded = draw_seeded s.side.generator _ seeded
turn_by_seeded rule3 s seeded = seeded

-- The handles: a queue gains a packet at its end and loses its first.

handles_push : (queue : List Packet) (p : Packet) → HandlesFit queue → HandlesFit (p ∷ []) → HandlesFit (queue ++ (p ∷ []))
handles_push [] p fits own = own
handles_push (q ∷ qs) p fits own = (fits.0, handles_push qs p fits.1 own)

handles_tail : (queue : List Packet) → HandlesFit queue → HandlesFit (tail queue)
handles_tail [] fits = fits
handles_tail (p ∷ ps) fits = fits.1

module _ (s : State) (known : StateFits s) where
  -- a call whose side has the generator of before, and queues with handles that fit
  call_fits : (cs : List Check) (clients : ℕ → Client) (side : Side)
      → side.generator ≡ s.side.generator
      → ((id : ℕ) → HandlesFit (side.stocks id).queue)
      → CoreFits (checked cs (unchanged (running s)) (accepted (updated s clients side))).core
  unfolding updated
  call_fits cs clients side same fits =
      checked-cases (λ r. CoreFits r.core) cs (unchanged (running s)) (accepted (updated s clients side))
      (λ number. known)
      (λ passed. record {
        generator_low = rw same known.generator_low;
        generator_high = rw same known.generator_high;
        handles_high = fits;
      })

  -- one stock anew
  put-fits : (id : ℕ) (k : Stock) → HandlesFit k.queue → (j : ℕ) → HandlesFit (put s.side.stocks id k j).queue
  put-fits id k fits = put-cases s.side.stocks id k (λ j d. HandlesFit d.queue) fits (λ j other. known.handles_high j)

  slotted-fits : (t : Turn) → Seeded t.generator → StateFits (slotted s t)
  unfolding slotted updated side_after spent
  slotted-fits t seeded = record {
    generator_low = seeded.0;
    generator_high = seeded.1;
    handles_high = stocks_after-cases (λ j d. HandlesFit d.queue) t.rule t.id s.side.stocks
        known.handles_high
        (handles_tail (s.side.stocks t.id).queue (known.handles_high t.id));
  }

  tick_fits : CoreFits (on_tick s).core
  unfolding on_tick turn
  tick_fits = slotted-fits (turn s) (turn_by_seeded (rule_of s) s (known.generator_low, known.generator_high))

  change_fits : (cs : List Check) (clients : ℕ → Client) (id kind : ℕ)
      → CoreFits (checked cs (unchanged (running s)) (accepted (updated s clients (side_after_change s id kind)))).core
  unfolding side_after_change emptied
  change_fits cs clients id kind =
      cond_both (λ (side : Side). CoreFits (checked cs (unchanged (running s)) (accepted (updated s clients side))).core)
      (same_kind (s.clients id).kind (kind_of kind))
      (call_fits cs clients s.side refl known.handles_high)
      (call_fits cs clients (emptied s.side id) refl (put-fits id bare tt))

-- check 3 fails at 0
seed_low : (threshold discipline seed : ℕ) → Passed (open_checks threshold discipline seed) → 1 ≤ seed
unfolding open_checks
seed_low threshold discipline zero passed = absurd (false≢true passed.1.1.0)
seed_low threshold discipline (suc n) passed = omega arith

fresh-fits : (threshold discipline seed : ℕ)
    → EventFits (Open threshold discipline seed)
    → Passed (open_checks threshold discipline seed)
    → StateFits (fresh threshold discipline seed)
unfolding fresh
fresh-fits threshold discipline seed fits passed = record {
  generator_low = omega (arith, seed_low threshold discipline seed passed);
  generator_high = omega (arith, fits.2);
  handles_high = λ id. tt;
}

pub step_fits : (core : Core) → CoreFits core → (c : Event) → EventFits c → CoreFits (step core c).core
unfolding step on_open on_join on_change on_leave on_load on_arrive stocked emptied side_after_arrival loaded queued
step_fits core known (Open threshold discipline seed) fits =
    checked-cases (λ r. CoreFits r.core) (open_checks threshold discipline seed) (unchanged core)
    (accepted (fresh threshold discipline seed))
    (λ number. known)
    (fresh-fits threshold discipline seed fits)
step_fits unopened known (Join id kind rate burst) fits = tt
step_fits unopened known (Change id kind rate burst) fits = tt
step_fits unopened known (Leave id) fits = tt
step_fits unopened known (Load id dummies) fits = tt
step_fits unopened known (Arrive id packet) fits = tt
step_fits unopened known Tick fits = tt
step_fits (running s) known (Join id kind rate burst) fits =
    call_fits s known (join_checks s id kind rate burst) _ (stocked s.side id bare) refl (put-fits s known id bare tt)
step_fits (running s) known (Change id kind rate burst) fits = change_fits s known (change_checks s id kind rate burst) _ id kind
step_fits (running s) known (Leave id) fits =
    call_fits s known (leave_checks s id) _ (emptied s.side id) refl (put-fits s known id bare tt)
step_fits (running s) known (Load id dummies) fits =
    call_fits s known (load_checks s id dummies) _ (stocked s.side id (loaded (s.side.stocks id) dummies)) refl
    (put-fits s known id (loaded (s.side.stocks id) dummies) (known.handles_high id))
step_fits (running s) known (Arrive id packet) fits =
    call_fits s known (arrive_checks s id packet) _ (side_after_arrival s id packet) refl
    (put-fits s known id (queued (s.side.stocks id) packet)
    (handles_push (s.side.stocks id).queue packet (known.handles_high id) (fits.1, tt)))
step_fits (running s) known Tick fits = tick_fits s known

pub fits : Fits
unfolding Fits after
fits start all = tt
fits (h then c) all = step_fits (after scheduler h) (fits h all.0) c all.1

-- the examples are computed

pub fits_met : FitsMet
unfolding everything after number_limit handle_limit
fits_met = record { fits = omega arith; generator = refl; waits = refl }

pub fits_needed : FitsNeeded
unfolding everything after number_limit handle_limit
fits_needed = record {
  seed = λ claim. omega (arith, claim.generator_high);
  handle = λ claim. omega (arith, (claim.handles_high 2).0);
}
