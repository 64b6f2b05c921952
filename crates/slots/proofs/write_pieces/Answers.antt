-- `slots::write_pieces` meets its contract: each piece is counted, and at the end of the text all of the printout is. Assumes nothing.
use Rattle.std.proofs.Common.{refl, ◌∙◌, arith}
use Rattle.grammar.specs.Bytes.{text_limit}
use Rattle.slots.proofs.PiecesCounted.{counted_first, counted-fits, counted_more, counted_all}
use Rattle.slots.proofs.write_pieces.Goals as goal

pub loop-out-init : goal.loop-out-init
loop-out-init g c = (refl, counted_first c.requires.0 c.requires.1 _)

pub returns-then-at-text : goal.returns-then-at-text
returns-then-at-text g c = counted_all c.loop-out.invariant.1 c.if-at-text.true

pub overflow_add-total : goal.overflow_add-total
unfolding text_limit
overflow_add-total g c =
    omega (arith, counted-fits c.loop-out.invariant.1 c.piece-piece.ensures c.piece-piece.auto.out c.if-at-text.false)

pub loop-out-preserved : goal.loop-out-preserved
loop-out-preserved g c =
    let same = c.piece-piece.auto.out in
    (same ∙ c.loop-out.invariant.0, counted_more c.loop-out.invariant.1 c.piece-piece.ensures same c.if-at-text.false)
