-- `settings::leave` meets its contract: it is refused with the first number that fails, and else empties the id and puts
-- nobody in its place. Assumes nothing.
use mathlib.Core.Path.{refl, sym, ◌∙◌}
use Rattle.definitions.specs.Checks.{leave_checks}
use Rattle.definitions.proofs.Laws.Refused.{number_of_some}
use Rattle.tables.proofs.Promises.{meets_recounted, in_place}
use Rattle.settings.proofs.LeavePromise.{leave_refused, leave_refused_counts, leave_below, leave_ready, leave_room, leave_accepted}
use Rattle.settings.proofs.LeavePromise.{leave_counts}
use Rattle.settings.proofs.leave.Goals as goal

pub returns-in-Err : goal.returns-in-Err
unfolding leave_checks
returns-in-Err c =
    let a = c.args in
    in_place refl refl
    (leave_refused_counts a.control _ c.requires a.id c.refused.result _ c.refused.ensures)
    (leave_refused a.control _ c.requires a.id c.refused.result _ c.refused.ensures
    (c.number.ensures ∙ c.in-Err.ensures _) (λ e. number_of_some c.in-Err.refusal (sym c.number.ensures ∙ e)))

pub empty-bare-requires : goal.empty-bare-requires
unfolding leave_checks
empty-bare-requires c = leave_ready c.args.control _ c.requires c.args.id (sym (c.in_default.ensures _))

pub clear-requires : goal.clear-requires
unfolding leave_checks
clear-requires c = leave_below c.args.control _ c.requires c.args.id (sym (c.in_default.ensures _))

pub place_client-requires : goal.place_client-requires
unfolding leave_checks
place_client-requires c =
    leave_room c.args.control _ c.requires c.args.id (sym (c.in_default.ensures _))
    c.empty-bare.result _ _ c.empty-bare.ensures

pub returns : goal.returns
unfolding leave_checks
returns c =
    let a = c.args in
    let p = c.place_client in
    let q = c.empty-bare in
    let none = sym (c.in_default.ensures _) in
    in_place refl refl
    (leave_counts a.control _ c.requires a.id none
    q.result _ _ q.ensures p.result p.ensures.recast c.accepted.result _ c.accepted.ensures c.clear.ensures)
    (rw p.ensures.terms_after
    (meets_recounted c.clear.ensures.size
    (leave_accepted a.control _ c.requires a.id none
    q.result _ _ q.ensures p.result p.ensures.recast c.accepted.result c.accepted.ensures)))
