-- `fairsheet::put_rates` meets its contract: each turn writes the line of the pair that it is at. Assumes nothing.
use Rattle.std.proofs.Common.{◌≡◌, ◌+◌, ◌++◌, ◌∷◌, [], length, length-append, arith}
use borrow.Author.Rules.{rules}
use Rattle.std.proofs.lemmas.Slice.Zip.{zip_turn, zip_end}
use Rattle.fairsheet.proofs.RateRoom.{put_more, put_done}
use Rattle.fairsheet.proofs.put_rates.Goals as goal

pub loop-id-preserved : goal.loop-id-preserved
loop-id-preserved c =
    let i = length c.loop-id.yielded in
    let turn = zip_turn c.args.listed.now c.args.rates.now c.loop-id.yielded c.into_iter-id-iterator.result _ c.next.new.self _
    (search rules) (search rules)
    c.loop-id.yielded_by _ c.in-Some.is c.next.ensures.steps in
    let more : length (c.loop-id.yielded ++ (c.in-Some.id, c.in-Some.rate) ∷ []) ≡ i + 1 =
    length-append c.loop-id.yielded ((c.in-Some.id, c.in-Some.rate) ∷ []) in
    rw more
    (put_more c.loop-id.invariant c.requires.0 c.requires.2 turn.0 turn.1 (omega (arith, c.type_inv.listed i))
    (omega (arith, c.type_inv.rates i)) (rw (turn.2 0, turn.3 0) at c.print_rate-at.ensures))

pub returns : goal.returns
returns c =
    let count = zip_end c.args.listed.now c.args.rates.now c.loop-id.yielded c.into_iter-id-iterator.result _ c.next.new.self _
    (search rules) (search rules)
    c.loop-id.yielded_by c.in-None.is c.next.ensures.steps in
    put_done c.loop-id.invariant c.requires.0 c.requires.2 (omega (arith, c.requires.1))
