-- `settings::check_join` meets its contract: at each return the tests that led there say which check is the first to fail.
-- The rates held together are the control's. Assumes nothing.
use Rattle.std.proofs.Common.{◌≡◌, ℕ, true, false, sym}
use mathlib.Core.Path.{ap, ◌∙◌}
use borrow.Author.Tests.{lt-ltb, le-ltb, not-true, not-false}
use Rattle.definitions.specs.Sizes.{ids}
use Rattle.definitions.specs.Client.{is_active}
use Rattle.definitions.specs.Checks.{term_checks, join_checks}
use Rattle.tables.specs.Meaning.{kind_at, state_of, clients_of, client_at}
use Rattle.tables.specs.Numbers.{first_failed, refusal}
use Rattle.settings.proofs.check_join.Goals as goal

pub returns-then-not-control-clause-number : goal.returns-then-not-control-clause-number
unfolding refusal
returns-then-not-control-clause-number c t valid = rw (not-true c.args.control.opened c.if-not-control.true)

pub returns-then-id-ge-IDS-clause-number : goal.returns-then-id-ge-IDS-clause-number
unfolding refusal first_failed join_checks ids
returns-then-id-ge-IDS-clause-number c t valid =
    simp (not-false c.args.control.opened c.if-not-control.false, le-ltb c.args.id 64 c.if-id-ge-IDS.true)

pub returns-then-active-clause-number : goal.returns-then-active-clause-number
unfolding refusal first_failed join_checks ids state_of clients_of client_at
returns-then-active-clause-number c t valid =
    let a = c.args in
    let alert : is_active (kind_at a.control a.id) ≡ true =
    sym c.active.ensures ∙ c.if-active.true in
    simp (not-false a.control.opened c.if-not-control.false, lt-ltb a.id 64 c.if-id-ge-IDS.false, alert)

pub returns-clause-number : goal.returns-clause-number
unfolding refusal first_failed join_checks ids state_of clients_of client_at
returns-clause-number c t valid =
    let a = c.args in
    let runs = not-false a.control.opened c.if-not-control.false in
    let dull : is_active (kind_at a.control a.id) ≡ false =
    sym c.active.ensures ∙ c.if-active.false in
    simp (runs, lt-ltb a.id 64 c.if-id-ge-IDS.false, dull)
    (c.check_terms.ensures.number
    ∙ ap (λ (n : ℕ). first_failed (term_checks a.control.threshold n a.kind a.rate a.burst)) (valid runs).shape.rates_held)
