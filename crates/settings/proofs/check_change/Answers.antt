-- `settings::check_change` meets its contract: what is asked of every active client comes first, and then the terms, held
-- against what the others have. Assumes nothing.
use Rattle.std.proofs.Common.{arith, ℕ, sym}
use mathlib.Core.Path.{refl, ap, ◌∙◌}
use Rattle.definitions.specs.Sizes.{ids}
use Rattle.definitions.specs.Checks.{term_checks, change_checks}
use Rattle.definitions.proofs.Laws.Refused.{number_of_some, handed_number}
use Rattle.tables.specs.Tables.{tables, field}
use Rattle.tables.specs.Meaning.{state_of}
use Rattle.tables.specs.Numbers.{first_failed}
use Rattle.tables.proofs.ActiveChecks.{active_failed, active_opened, active_below, active_rest}
use Rattle.settings.proofs.HeldRates.{others-held}
use Rattle.settings.proofs.check_change.Goals as goal

pub returns-in_err-check_active-clause-number : goal.returns-in_err-check_active-clause-number
unfolding change_checks
returns-in_err-check_active-clause-number c stocks handles lengths links counts valid =
    let a = c.args in
    handed_number c.from_residual.result _ c.from_residual.ensures.1
    ∙ active_failed a.control a.id _ c.in_err-check_active.ensures
    (tables a.terms.now stocks handles lengths links counts) _ (number_of_some _)

pub bounds-terms-id : goal.bounds-terms-id
unfolding ids
bounds-terms-id c =
    let a = c.args in
    omega (arith, active_below a.control a.id 0 c.in_ok-check_active.ensures refl)

pub overflow_sub-others : goal.overflow_sub-others
unfolding ids field
overflow_sub-others c =
    let a = c.args in
    let known = c.in_ok-check_active.ensures in
    omega (arith, c.requires (active_opened a.control a.id 0 known refl) (active_below a.control a.id 0 known refl))

pub returns-clause-number : goal.returns-clause-number
unfolding ids field change_checks state_of
returns-clause-number c stocks handles lengths links counts valid =
    let a = c.args in
    let t = tables a.terms.now stocks handles lengths links counts in
    let known = c.in_ok-check_active.ensures in
    c.check_terms.ensures.number
    ∙ ap (λ (others : ℕ). first_failed (term_checks a.control.threshold others a.kind a.rate a.burst))
    (others-held a.control t (valid (active_opened a.control a.id 0 known refl)).shape a.id
    (active_below a.control a.id 0 known refl))
    ∙ sym (active_rest a.control a.id 0 known refl t _)
