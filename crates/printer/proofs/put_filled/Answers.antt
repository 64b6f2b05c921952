-- `printer::put_filled` meets its contract: a turn is one of the two of Filling. Assumes nothing.
use Rattle.std.proofs.Common.{sym, ◌∙◌}
use Rattle.printer.proofs.Filling.{filling_all, filling_none, filling_used, filling_number_room, filling_number, filling_byte_room, filling_byte}
use Rattle.printer.proofs.put_filled.Goals as goal
use Rattle.printer.proofs.put_filled.Goals.{then-takes_number, else-takes_number}

pub loop-byte-init : goal.loop-byte-init
loop-byte-init c = filling_all _ _ _ _ c.requires

-- where a number is taken, one is left
pub bounds-numbers-used : goal.bounds-numbers-used
bounds-numbers-used c =
    filling_used c.loop-byte.invariant c.loop-byte-test.true (sym c.takes_number.ensures ∙ c.if-takes_number.true)

pub put_large-end-requires : goal.put_large-end-requires
put_large-end-requires c =
    filling_number_room c.loop-byte.invariant c.loop-byte-test.true (sym c.takes_number.ensures ∙ c.if-takes_number.true)

pub bounds-out-end : goal.bounds-out-end
bounds-out-end c =
    filling_byte_room c.loop-byte.invariant c.loop-byte-test.true (sym c.takes_number.ensures ∙ c.if-takes_number.false)

pub loop-byte-preserved : goal.loop-byte-preserved
loop-byte-preserved c =
    elim c.if-takes_number.branch [
      | then-takes_number w ↦
          rw (w.out-is, w.end-is, w.used-is)
          (filling_number c.loop-byte.invariant c.loop-byte-test.true (sym c.takes_number.ensures ∙ w.if-takes_number.true)
          w.put_large-end.ensures)
      | else-takes_number w ↦
          rw (w.out-is, w.end-is, w.used-is)
          (filling_byte c.loop-byte.invariant c.loop-byte-test.true (sym c.takes_number.ensures ∙ w.if-takes_number.false))
    ]

pub returns : goal.returns
returns c = filling_none c.loop-byte.invariant c.loop-byte-test.false
