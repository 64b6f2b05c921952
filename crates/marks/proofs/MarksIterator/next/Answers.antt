-- A turn gives the first mark and leaves the rest of the word.
use Rattle.std.proofs.Common.{◌≡◌, sym, ap, ◌∙◌, ℕ, [], ◌∷◌, length, rules, arith}
use Rattle.definitions.specs.Sizes.{ids}
use Rattle.marks.specs.Marks.{marked_ids}
use Rattle.marks.proofs.MarkedIds.{marked_ids-none, marked_ids-first}
use Rattle.marks.proofs.MarksIterator.next.Goals as goal

pub returns-then-self-eq0-clause-steps : goal.returns-then-self-eq0-clause-steps
returns-then-self-eq0-clause-steps c =
    let none : c.args.self.now ≡ [] = sym c.self.view_is ∙ marked_ids-none c.self.inside.left c.if-self-eq0.true in
    (none, none)

pub returns-clause-steps : goal.returns-clause-steps
unfolding ids
returns-clause-steps c =
    let left : ℕ = c.self.inside.left in
    let rest : ℕ = c.rest-self-inside.result in
    sym c.self.view_is ∙ marked_ids-first left rest (omega arith) (search rules) c.rest-self-inside.ensures.marks
    ∙ ap (λ (id : ℕ). id ∷ marked_ids rest) (sym c.first-id.ensures)

pub returns-clause-goes : goal.returns-clause-goes
returns-clause-goes c =
    let fewer = ap (length {A = ℕ}) (returns-clause-steps c) in
    record { on = λ h. (search rules, search rules, omega (arith, fewer)); keeps = search rules; rests = λ h. search rules }
