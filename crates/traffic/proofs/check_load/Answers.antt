-- `traffic::check_load` meets its contract: each return has the refusal of the check whose test led to it. Assumes nothing.
use Rattle.std.proofs.Common.{arith, ◌+◌, ◌≤◌, ◌<◌, sym}
use Rattle.std.proofs.lemmas.Result.{err_from_is_err_and}
use mathlib.Core.Path.{◌∙◌}
use borrow.Author.Tests.{le-leb, lt-leb}
use Rattle.definitions.specs.Sizes.{ids, pool_limit}
use Rattle.definitions.specs.Checks.{load_checks}
use Rattle.tables.specs.Tables.{field, pool_at}
use Rattle.tables.proofs.ActiveChecks.{active_failed, refused_number}
use Rattle.traffic.proofs.LoadChecks.{load_id, load_rest}
use Rattle.traffic.proofs.check_load.Goals as goal

pub returns-in_err-check_active : goal.returns-in_err-check_active
unfolding load_checks
returns-in_err-check_active c terms handles lengths links counts =
    let p = err_from_is_err_and c.from_residual.result c.from_residual.ensures.1 in
    rw (p.1, p.2) (active_failed c.args.control c.args.id _ c.in_err-check_active.ensures _ _ (refused_number _))

pub returns-then-has : goal.returns-then-has
returns-then-has c terms handles lengths links counts =
    sym (load_rest c.args.control c.args.id c.args.dummies c.in_ok-check_active.ensures _ ∙ rw (sym c.has.ensures ∙ c.if-has.true))

pub overflow_add-id : goal.overflow_add-id
unfolding ids
overflow_add-id c = record { fits = omega (arith, load_id c.args.control c.args.id c.args.dummies c.in_ok-check_active.ensures) }

pub bounds-stocks-id : goal.bounds-stocks-id
unfolding ids
bounds-stocks-id c = omega (arith, load_id c.args.control c.args.id c.args.dummies c.in_ok-check_active.ensures)

pub returns-then-wide-gt-POOL_LIMIT : goal.returns-then-wide-gt-POOL_LIMIT
unfolding pool_limit field ids
returns-then-wide-gt-POOL_LIMIT c terms handles lengths links counts =
    let a = c.args in
    let past : pool_limit < pool_at a.stocks.now a.id + a.dummies =
    omega (arith, c.if-wide-gt-POOL_LIMIT.true, c.wide-2.ensures, c.wide.ensures) in
    sym (load_rest a.control a.id a.dummies c.in_ok-check_active.ensures _ ∙ rw (sym c.has.ensures ∙ c.if-has.false, lt-leb _ _ past))

pub returns : goal.returns
unfolding pool_limit field ids
returns c terms handles lengths links counts =
    let a = c.args in
    let fits : pool_at a.stocks.now a.id + a.dummies ≤ pool_limit =
    omega (arith, c.if-wide-gt-POOL_LIMIT.false, c.wide-2.ensures, c.wide.ensures) in
    sym (load_rest a.control a.id a.dummies c.in_ok-check_active.ensures _ ∙ rw (sym c.has.ensures ∙ c.if-has.false, le-leb _ _ fits))
