-- `tables::check_active` meets its contract: each return has the number of the check whose test led to it. Assumes nothing.
use Rattle.std.proofs.Common.{◌≡◌, true, false, sym, arith}
use mathlib.Core.Path.{◌∙◌}
use borrow.Author.Tests.{lt-ltb, le-ltb, not-true, not-false}
use Rattle.definitions.specs.Sizes.{ids}
use Rattle.definitions.specs.Client.{is_active}
use Rattle.definitions.specs.Checks.{active_checks}
use Rattle.tables.specs.Meaning.{kind_at, state_of, clients_of, client_at}
use Rattle.tables.specs.Numbers.{first_failed, refusal}
use Rattle.tables.proofs.check_active.Goals as goal

pub returns-then-not-control : goal.returns-then-not-control
unfolding refusal
returns-then-not-control c t = rw (not-true c.args.control.opened c.if-not-control.true)

pub returns-then-id-ge-IDS : goal.returns-then-id-ge-IDS
unfolding refusal first_failed active_checks ids
returns-then-id-ge-IDS c t =
    simp (not-false c.args.control.opened c.if-not-control.false, le-ltb c.args.id 64 (omega (arith, c.if-id-ge-IDS.true)))

pub returns-then-not-active : goal.returns-then-not-active
unfolding refusal first_failed active_checks ids state_of clients_of client_at
returns-then-not-active c t =
    let a = c.args in
    let dull : is_active (kind_at a.control a.id) ≡ false =
    sym c.active.ensures ∙ c.if-not-active.true in
    simp (not-false a.control.opened c.if-not-control.false, lt-ltb a.id 64 c.if-id-ge-IDS.false, dull)

pub returns : goal.returns
unfolding refusal first_failed active_checks ids state_of clients_of client_at
returns c t =
    let a = c.args in
    let alert : is_active (kind_at a.control a.id) ≡ true =
    sym c.active.ensures ∙ c.if-not-active.false in
    simp (not-false a.control.opened c.if-not-control.false, lt-ltb a.id 64 c.if-id-ge-IDS.false, alert)
