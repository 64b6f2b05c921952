-- `notes::tenant` meets its contract: each return is told by the test that led to it. Assumes nothing.
use borrow.Author.Rules.{rules}
use native.Mathlib.Omega.{arith}
use mathlib.Core.Path.{refl, sym, ◌∙◌}
use Rattle.definitions.proofs.Laws.Refused.{number_of_some}
use Rattle.notes.proofs.TenantSlot.{told-refused, told_own, told-nobody, told_indifferent, told_another, told_neither}
use Rattle.notes.proofs.tenant.Goals as goal

pub returns-in-Err : goal.returns-in-Err
returns-in-Err c t =
    let a = c.args in
    told-refused a.control t a.id a.answer a.reason (c.number.ensures ∙ c.in-Err.ensures t)
    (λ e. number_of_some c.in-Err.refusal (sym c.number.ensures ∙ e))

pub returns-in_default-holder_of : goal.returns-in_default-holder_of
returns-in_default-holder_of c t =
    let a = c.args in
    c.operator-whole.ensures
    ∙ told-nobody a.control t a.id a.answer a.reason (c.in_default.ensures t) refl
    (omega (arith, c.in_default-holder_of.ensures))

pub returns-then-holder-id : goal.returns-then-holder-id
returns-then-holder-id c t =
    let a = c.args in
    c.operator-whole.ensures
    ∙ told_own a.control t a.id a.answer a.reason (c.in_default.ensures t) refl
    (sym c.in-Some.ensures ∙ c.if-holder-id.true)

pub returns-then-has : goal.returns-then-has
returns-then-has c t =
    let a = c.args in
    told_indifferent a.control t a.id a.answer a.reason (c.in_default.ensures t) refl
    (λ same. c.if-holder-id.false (c.in-Some.ensures ∙ same))
    (search rules)
    (rw c.in-Some.ensures at (sym c.has.ensures ∙ c.if-has.true))

pub returns-then-has-2 : goal.returns-then-has-2
returns-then-has-2 c t =
    let a = c.args in
    told_another a.control t a.id a.answer a.reason (c.in_default.ensures t) refl
    (λ same. c.if-holder-id.false (c.in-Some.ensures ∙ same))
    (search rules)
    (rw c.in-Some.ensures at (sym c.has.ensures ∙ c.if-has.false))
    (rw c.in-Some.ensures at (sym c.has-2.ensures ∙ c.if-has-2.true))

pub returns : goal.returns
returns c t =
    let a = c.args in
    c.operator-whole.ensures
    ∙ told_neither a.control t a.id a.answer a.reason (c.in_default.ensures t) refl
    (λ same. c.if-holder-id.false (c.in-Some.ensures ∙ same))
    (rw c.in-Some.ensures at (sym c.has.ensures ∙ c.if-has.false))
    (rw c.in-Some.ensures at (sym c.has-2.ensures ∙ c.if-has-2.false))
