-- `carried::carry_out` meets its contract: without room, or of a text that is too long, it is as the start has left it, and else core and
-- counts are those behind the text. Assumes nothing.
use Rattle.std.proofs.Common.{arith, ◌≡◌, refl, ap, not}
use mathlib.Core.Path.{◌∙◌}
use Rattle.grammar.specs.Bytes.{text_limit}
use Rattle.printer.proofs.LineRoom.{roomy}
use Rattle.script.proofs.PiecesReached.{reached_first, reached_more, reached_left}
use Rattle.carried.proofs.Carrying.{carried_none, carried_long}
use Rattle.carried.proofs.carry_out.Goals as goal

pub returns-then-not-has_room : goal.returns-then-not-has_room
returns-then-not-has_room c = carried_none c.start-first.ensures _ c.has_room.ensures (ap not c.if-not-has_room.true)

pub returns-then-text-gt-TEXT_LIMIT : goal.returns-then-text-gt-TEXT_LIMIT
unfolding text_limit
returns-then-text-gt-TEXT_LIMIT c = carried_long c.start-first.ensures _ c.if-text-gt-TEXT_LIMIT.true

pub loop-at-init : goal.loop-at-init
unfolding text_limit
loop-at-init c =
    let room = roomy c.start-first.new.out 0 c.has_room.ensures (ap not c.if-not-has_room.false) in
    (refl, room, c.if-text-gt-TEXT_LIMIT.false, _, reached_first c.start-first.ensures room _)

pub piece-piece-requires : goal.piece-piece-requires
piece-piece-requires c = c.loop-at.invariant.4.valid

pub loop-at-smaller : goal.loop-at-smaller
loop-at-smaller c =
    let same = c.piece-piece.auto.out in
    omega (arith, c.loop-at-test.true, c.piece-piece.ensures.onward c.loop-at-test.true (omega (arith, same, c.loop-at.invariant.1)))

pub loop-at-preserved : goal.loop-at-preserved
loop-at-preserved c =
    let inv = c.loop-at.invariant in
    let same = c.piece-piece.auto.out in
    (same ∙ inv.0, omega (arith, same, inv.1), inv.2, _, reached_more inv.4 c.piece-piece.ensures c.loop-at-test.true)

pub returns : goal.returns
returns c =
    let reached = c.loop-at.invariant.4 in
    record {
      valid = reached.valid;
      left = λ room short. reached_left reached short c.loop-at-test.false;
      long = λ room over. absurd (omega (arith, c.loop-at.invariant.2));
      fits = omega arith;
    }
