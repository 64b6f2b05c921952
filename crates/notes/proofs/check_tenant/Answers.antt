-- `notes::check_tenant` meets its contract: each return has the number of the check whose test led to it. Assumes nothing.
use Rattle.std.proofs.Common.{◌≡◌, ℕ, ◌<◌, [], sym}
use mathlib.Core.Path.{refl, ◌∙◌}
use mathlib.Core.Bool.{cond, not}
use borrow.Author.Tests.{lt-ltb}
use Rattle.definitions.specs.Sizes.{ids}
use Rattle.definitions.specs.Checks.{active_checks}
use Rattle.definitions.specs.Notes.{tenant_checks}
use Rattle.definitions.proofs.Laws.Refused.{number_of_some, handed_number}
use Rattle.marks.specs.Marks.{marked}
use Rattle.tables.specs.declared.Control.{Control}
use Rattle.tables.specs.declared.Tables.{Tables}
use Rattle.tables.specs.Meaning.{state_of, clients_of, client_at}
use Rattle.tables.specs.Numbers.{first_failed, refusal}
use Rattle.tables.proofs.MarkedKinds.{kind_indifferent}
use Rattle.tables.proofs.ActiveChecks.{active_failed, active_below, active_rest}
use Rattle.notes.proofs.check_tenant.Goals as goal

-- once the id is known to be active
rest : (c : Control) (id : ℕ) → ((t : Tables) → 0 ≡ refusal c t (λ s. active_checks s id [])) → (t : Tables)
    → refusal c t (λ s. tenant_checks s id) ≡ cond (not (marked c.indifferent id)) 0 11
unfolding tenant_checks first_failed state_of clients_of client_at
rest c id known t =
    let below : id < ids = active_below c id 0 known refl in
    active_rest c id 0 known refl t _ ∙ rw (lt-ltb id ids below, kind_indifferent c id)

pub returns-in_err-check_active : goal.returns-in_err-check_active
unfolding tenant_checks
returns-in_err-check_active c t =
    let a = c.args in
    handed_number c.from_residual.result _ c.from_residual.ensures.1
    ∙ active_failed a.control a.id _ c.in_err-check_active.ensures t _ (number_of_some _)

pub returns-then-has : goal.returns-then-has
returns-then-has c t =
    sym (rest c.args.control c.args.id c.in_ok-check_active.ensures t ∙ rw (sym c.has.ensures ∙ c.if-has.true))

pub returns : goal.returns
returns c t =
    sym (rest c.args.control c.args.id c.in_ok-check_active.ensures t ∙ rw (sym c.has.ensures ∙ c.if-has.false))
