-- `traffic::load` meets its contract: it is refused with the first check that fails, and else raises the pool. Assumes nothing.
use Rattle.std.proofs.Common.{arith, refl, sym}
use Rattle.definitions.specs.Sizes.{ids, pool_limit}
use Rattle.tables.specs.Tables.{field}
use Rattle.tables.proofs.Promises.{in_place}
use Rattle.tables.proofs.ActiveChecks.{refused_as}
use Rattle.traffic.proofs.LoadPromise.{load_refused, load_refused_counts, load_below, load_fits, load_accepted, load_counts}
use Rattle.traffic.proofs.load.Goals as goal

pub returns-in-Err : goal.returns-in-Err
returns-in-Err c =
    let a = c.args in
    let failed = refused_as c.in-Err.is c.number.ensures (c.check_load.ensures a.terms.now a.handles.now a.lengths.now a.links.now a.counts.now) in
    in_place refl refl
    (load_refused_counts a.control _ c.requires a.id a.dummies c.refused.result _ c.refused.ensures)
    (load_refused a.control _ c.requires a.id a.dummies c.refused.result _ c.refused.ensures failed.0 failed.1)

pub overflow_add-stocks : goal.overflow_add-stocks
unfolding ids
overflow_add-stocks c = record { fits = omega (arith, load_below c.args.control _ c.requires c.args.id c.args.dummies (sym (c.in_default.ensures _ _ _ _ _))) }

pub bounds-stocks-id : goal.bounds-stocks-id
unfolding ids
bounds-stocks-id c = omega (arith, load_below c.args.control _ c.requires c.args.id c.args.dummies (sym (c.in_default.ensures _ _ _ _ _)))

pub overflow_add-stocks-2 : goal.overflow_add-stocks-2
unfolding ids pool_limit field
overflow_add-stocks-2 c = record { fits = omega (arith, load_fits c.args.control _ c.requires c.args.id c.args.dummies (sym (c.in_default.ensures _ _ _ _ _))) }

pub bounds-stocks-id-2 : goal.bounds-stocks-id-2
unfolding ids
bounds-stocks-id-2 c = omega (arith, load_below c.args.control _ c.requires c.args.id c.args.dummies (sym (c.in_default.ensures _ _ _ _ _)))

pub returns : goal.returns
unfolding field ids
returns c =
    let a = c.args in
    in_place refl refl
    (load_counts a.control _ c.requires a.id a.dummies c.accepted.result c.accepted.ensures)
    (load_accepted a.control _ c.requires a.id a.dummies (sym (c.in_default.ensures _ _ _ _ _)) c.accepted.result c.accepted.ensures)
