-- The lowest digit of the word shifted down is the digit at the id, and from 64 on a word of 64 digits has none.
use Rattle.std.proofs.Common.{sym, ap, ℕ, ◌/◌, ◌^◌, eqb, rules}
use lib.Bits.{and_mask}
use Rattle.marks.specs.Marks.{marked}
use Rattle.marks.proofs.Bits.{marked_past}
use Rattle.marks.proofs.has.Goals as goal

pub returns-then-id-lt-IDS : goal.returns-then-id-lt-IDS
unfolding marked
returns-then-id-lt-IDS c = ap (λ (x : ℕ). eqb x 1) (and_mask (c.args.word / 2 ^ c.args.id) 1)

pub returns-else-id-lt-IDS : goal.returns-else-id-lt-IDS
returns-else-id-lt-IDS c = sym (marked_past 64 c.args.word c.args.id (search rules) (search rules))
