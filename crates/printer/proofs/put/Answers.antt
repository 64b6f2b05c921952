-- `printer::put` meets its contract: a turn writes the byte that is next. Assumes nothing.
use Rattle.std.proofs.Common.{ℕ, ◌+◌, ◌<◌, ◌≡◌, List, [], ◌∷◌, ◌++◌, length, drop, get_or, refl, add-one, add-zero, drop-cons, drop_of_length-le, arith}
use Rattle.printer.proofs.Appending.{left_all, left_room, left_less, left_none}
use Rattle.printer.proofs.put.Goals as goal

next : (text : List ℕ) (i : ℕ) → i < length text → drop i text ≡ (get_or text i 0 ∷ []) ++ drop (i + 1) text
next text i more = rw add-one (drop-cons text i 0 more)

pub loop-i-init : goal.loop-i-init
loop-i-init c = rw add-zero (left_all _ _ _ c.requires)

pub bounds-out-at : goal.bounds-out-at
bounds-out-at c =
    omega (arith, left_room c.loop-i.invariant (get_or c.args.text.now c.loop-i.i 0 ∷ []) _ (next _ _ c.loop-i-test.true))

pub loop-i-preserved : goal.loop-i-preserved
loop-i-preserved c =
    let byte = get_or c.args.text.now c.loop-i.i 0 in
    let after = next c.args.text.now c.loop-i.i c.loop-i-test.true in
    left_less c.loop-i.invariant (byte ∷ []) _ after
    (record { place = omega arith; room = omega (arith, left_room c.loop-i.invariant (byte ∷ []) _ after); bytes = refl })

pub returns : goal.returns
returns c =
    let past : c.loop-i.i ≡ length c.args.text.now = omega (arith, c.loop-i-test.false, c.loop-i.auto.i-end) in
    left_none (rw (drop_of_length-le c.args.text.now c.loop-i-test.false, past) at c.loop-i.invariant)
