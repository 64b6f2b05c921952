-- `settings::check_terms` meets its contract: at each return the tests that led there say which check is the first to fail.
-- Assumes nothing.
use Rattle.std.proofs.Common.{arith, ℕ, ◌+◌, ◌≤◌, ◌<◌, sym}
use mathlib.Core.Path.{ap, ◌∙◌}
use borrow.Author.Tests.{le-leb, lt-leb}
use Rattle.definitions.specs.Sizes.{shares}
use Rattle.definitions.specs.Checks.{burst_fits, term_checks}
use Rattle.definitions.proofs.Laws.Kinds.{kind_read-active}
use Rattle.definitions.proofs.Laws.Refused.{handed_number}
use Rattle.definitions.proofs.Laws.Tests.{told_within}
use Rattle.tables.specs.Numbers.{first_failed}
use Rattle.settings.proofs.check_terms.Goals as goal

pub returns-in_err-named-clause-number : goal.returns-in_err-named-clause-number
unfolding first_failed term_checks
returns-in_err-named-clause-number c =
    let e = c.in_err-named.ensures in
    simp (e.1) (handed_number c.from_residual.result _ c.from_residual.ensures.1 ∙ e.0)

pub returns-then-not-contains-clause-number : goal.returns-then-not-contains-clause-number
unfolding first_failed term_checks shares
returns-then-not-contains-clause-number c =
    let n = c.new.ensures in
    simp (
      kind_read-active _ _ c.in_ok-named.ensures,
      told_within 1 1024 c.args.rate (rw (c.if-not-contains.true, n.start, n.end, n.exhausted) at c.contains.ensures.value),
    )

pub returns-then-not-burst_fits-clause-number : goal.returns-then-not-burst_fits-clause-number
unfolding first_failed term_checks shares
returns-then-not-burst_fits-clause-number c =
    let n = c.new.ensures in
    simp (
      kind_read-active _ _ c.in_ok-named.ensures,
      told_within 1 1024 c.args.rate (rw (c.if-not-contains.false, n.start, n.end, n.exhausted) at c.contains.ensures.value),
      ap (λ (k : ℕ). burst_fits k c.args.burst) c.in_ok-named.ensures ∙ sym c.burst_fits.ensures ∙ c.if-not-burst_fits.true,
    )

pub returns-then-wide-clause-number : goal.returns-then-wide-clause-number
unfolding first_failed term_checks shares
returns-then-wide-clause-number c =
    let n = c.new.ensures in
    let a = c.args in
    let past : a.threshold < a.others + a.rate =
    omega (arith, c.if-wide.true, c.wide-3.ensures, c.wide-2.ensures, c.wide.ensures) in
    simp (
      kind_read-active _ _ c.in_ok-named.ensures,
      told_within 1 1024 a.rate (rw (c.if-not-contains.false, n.start, n.end, n.exhausted) at c.contains.ensures.value),
      ap (λ (k : ℕ). burst_fits k a.burst) c.in_ok-named.ensures ∙ sym c.burst_fits.ensures ∙ c.if-not-burst_fits.false,
      lt-leb _ _ past,
    )

pub returns-clause-number : goal.returns-clause-number
unfolding first_failed term_checks shares
returns-clause-number c =
    let n = c.new.ensures in
    let a = c.args in
    let fits : a.others + a.rate ≤ a.threshold =
    omega (arith, c.if-wide.false, c.wide-3.ensures, c.wide-2.ensures, c.wide.ensures) in
    simp (
      kind_read-active _ _ c.in_ok-named.ensures,
      told_within 1 1024 a.rate (rw (c.if-not-contains.false, n.start, n.end, n.exhausted) at c.contains.ensures.value),
      ap (λ (k : ℕ). burst_fits k a.burst) c.in_ok-named.ensures ∙ sym c.burst_fits.ensures ∙ c.if-not-burst_fits.false,
      le-leb _ _ fits,
    )
