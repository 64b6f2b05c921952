-- `slot::tick` meets its contract: an unopened core refuses it, and else it is the slot of WholeTick. Assumes nothing.
use Rattle.std.proofs.Common.{◌≡◌, ℕ, refl, ap}
use mathlib.Core.Path.{◌∙◌}
use borrow.Author.Tests.{not-true, not-false}
use Rattle.definitions.specs.declared.Answer.TheVariants.{Refused}
use Rattle.tables.specs.declared.Control.{Control}
use Rattle.tables.specs.declared.Answered.{Answered}
use Rattle.tables.proofs.Promises.{meets_recounted, in_place}
use Rattle.slot.proofs.WholeTick.{tick_refused, undrawn_draws, turn_draws, done_refillable, tick_done}
use Rattle.slot.proofs.TickCounts.{tick_refused_counts, tick_sender, tick_counts}
use Rattle.slot.proofs.tick.Goals as goal

-- what an unopened core answers,
-- by the number of the refusal
abbrev refusing : Control → ℕ → Answered
refusing c n = record { control = c; answer = Refused n }

pub returns-then-not-control : goal.returns-then-not-control
returns-then-not-control c =
    let shut = not-true c.args.control.opened c.if-not-control.true in
    let said = c.refused-answered.ensures ∙ ap (refusing c.args.control) c.number.ensures in
    record {
      promised = in_place refl refl (tick_refused_counts _ _ c.requires c.refused-answered.result said)
          (tick_refused _ _ c.requires shut c.refused-answered.result said);
      stands_for = undrawn_draws _ _ c.requires shut c.undrawn.ensures;
    }

pub turn-choice-requires : goal.turn-choice-requires
turn-choice-requires c = (_, _, _, _, c.requires (not-false c.args.control.opened c.if-not-control.false))

pub spend-sent-requires : goal.spend-sent-requires
spend-sent-requires c =
    let core = c.requires (not-false c.args.control.opened c.if-not-control.false) in
    (_, _, record { core = core; chosen = c.turn-choice.ensures _ _ _ _ core })

pub refill_all-requires : goal.refill_all-requires
refill_all-requires c =
    let ready = not-false c.args.control.opened c.if-not-control.false in
    let chosen = c.turn-choice.ensures _ _ _ _ (c.requires ready) in
    done_refillable _ _ c.requires ready c.spend-sent.result _
    (c.spend-sent.ensures _ _ (record { core = c.requires ready; chosen = chosen }))

pub send-requires : goal.send-requires
send-requires c =
    let ready = not-false c.args.control.opened c.if-not-control.false in
    let chosen = c.turn-choice.ensures _ _ _ _ (c.requires ready) in
    tick_sender _ _ c.requires ready c.spend-sent.result _ (c.spend-sent.ensures _ _ (record { core = c.requires ready; chosen = chosen }))

pub returns : goal.returns
returns c =
    let ready = not-false c.args.control.opened c.if-not-control.false in
    let turn = c.turn-choice in
    let chosen = turn.ensures _ _ _ _ (c.requires ready) in
    let done = c.spend-sent.ensures _ _ (record { core = c.requires ready; chosen = chosen }) in
    record {
      promised = in_place refl refl (tick_counts _ _ c.requires ready c.spend-sent.result _ done _ _ refl c.send.ensures)
          (meets_recounted c.send.ensures.size
          (tick_done _ _ c.requires ready c.spend-sent.result _ done _ c.refill_all.ensures _ refl));
      stands_for = turn_draws _ _ c.requires ready turn.result chosen;
    }
