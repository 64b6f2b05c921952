-- `printer::put_between` meets its contract: the second text goes on where the number ended. Assumes nothing.
use Rattle.std.proofs.Common.{◌++◌}
use Rattle.grammar.specs.Numerals.{decimal}
use Rattle.printer.proofs.Appending.{front_room, appended_room, appended_more}
use Rattle.printer.proofs.put_between.Goals as goal

pub put_number-end-requires : goal.put_number-end-requires
put_number-end-requires c =
    let a = c.args in
    rw c.from.ensures (front_room (a.before.now ++ decimal a.n) a.behind.now a.out.now a.at c.requires)

pub put-requires : goal.put-requires
put-requires c = appended_room (rw c.from.ensures at c.put_number-end.ensures) c.args.behind.now c.requires

pub returns : goal.returns
returns c = appended_more (rw c.from.ensures at c.put_number-end.ensures) c.put.ensures
