-- `parser::read_as` meets its contract: each way that a byte of the template can go has its law in TemplateWalk.antt. Assumes
-- nothing.
use mathlib.Core.Path.{refl, sym, ap, ◌∙◌}
use native.Mathlib.Omega.{arith}
use Rattle.std.proofs.Common.{ℕ, ◌∷◌, length}
use Rattle.parser.proofs.Digits.{some_left, none_left}
use Rattle.parser.proofs.TemplateWalk.{
  walked_none,
  walked_place,
  walked_gap_off,
  walked_number,
  walked_over,
  walked_byte,
  walked_byte_off,
  walked-behind,
  walked_large,
  walked_all,
}
use Rattle.parser.proofs.read_as.Goals as goal
use Rattle.parser.proofs.read_as.Goals.{in-Some+in-Some-read_numeral, in-Some-value, in-None, in_default+in-Some-split_first}

pub loop-byte-init : goal.loop-byte-init
loop-byte-init c = walked_none _ _ _ c.requires

pub returns-in_default-read_numeral : goal.returns-in_default-read_numeral
returns-in_default-read_numeral c =
    walked_gap_off c.loop-byte.invariant c.loop-byte-test.true refl c.in-Some.ensures
    (rw c.in_default-read_numeral.is at c.read_numeral.ensures)

-- a gap's number has its place
pub bounds-numbers-count : goal.bounds-numbers-count
bounds-numbers-count c =
    let w = c.loop-byte.invariant in
    omega (arith, walked_place w c.loop-byte-test.true refl c.in-Some.ensures, w.room.sized)

pub returns-in_default-split_first : goal.returns-in_default-split_first
returns-in_default-split_first c =
    walked_byte_off c.loop-byte.invariant c.loop-byte-test.true refl (sym c.in_default.is ∙ c.gap_of.ensures)
    (λ left e. c.if-first-byte.false (cc (c.in-Some-split_first.ensures.cases.0, e)))

pub returns-in_default-split_first-2 : goal.returns-in_default-split_first-2
returns-in_default-split_first-2 c =
    let none = rw c.in_default-split_first.is at c.split_first.ensures.cases in
    walked_byte_off c.loop-byte.invariant c.loop-byte-test.true refl (sym c.in_default.is ∙ c.gap_of.ensures)
    (λ left e. omega (arith, none, ap length e))

pub loop-byte-preserved : goal.loop-byte-preserved
loop-byte-preserved c =
    elim c.match-gap_of.branch [
      | in-Some+in-Some-read_numeral w ↦
          rw (w.numbers-is, w.large-is, w.count-is, w.rest-is)
          (elim w.match-numeral.branch [
            | in-Some-value w' ↦
                rw (w'.numbers-is, w'.large-is)
                (walked_number c.loop-byte.invariant c.loop-byte-test.true refl w.in-Some.ensures w.in-Some-read_numeral.ensures
                w'.in-Some-value.is)
            | in-None w' ↦
                rw (w'.numbers-is, w'.large-is)
                (walked_over c.loop-byte.invariant c.loop-byte-test.true refl w.in-Some.ensures w.in-Some-read_numeral.ensures
                w'.in-None.is)
          ])
      | in_default+in-Some-split_first w ↦
          let first = w.in-Some-split_first.ensures.cases.0 in
          rw (w.numbers-is, w.large-is, w.count-is, w.rest-is)
          (walked_byte c.loop-byte.invariant c.loop-byte-test.true refl (sym w.in_default.is ∙ c.gap_of.ensures)
          (first ∙ ap (λ (b : ℕ). b ∷ w.in-Some-split_first.behind.now) w.if-first-byte.true))
    ]

pub returns-then-large : goal.returns-then-large
returns-then-large c =
    walked_large c.loop-byte.invariant c.loop-byte-test.false (none_left _ (sym c.is_empty.ensures ∙ c.if-not-is_empty.false))
    c.if-large.true

pub returns : goal.returns
returns c =
    walked_all c.loop-byte.invariant c.loop-byte-test.false (none_left _ (sym c.is_empty.ensures ∙ c.if-not-is_empty.false))
    c.if-large.false

pub returns-then-not-is_empty : goal.returns-then-not-is_empty
returns-then-not-is_empty c =
    walked-behind c.loop-byte.invariant c.loop-byte-test.false (some_left _ (sym c.is_empty.ensures ∙ c.if-not-is_empty.true))
