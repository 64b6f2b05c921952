-- `settings::join` meets its contract: it is refused with the first number that fails, and else places the client.
-- Assumes nothing.
use mathlib.Core.Path.{refl, sym, ◌∙◌}
use Rattle.definitions.proofs.Laws.Kinds.{kind_read}
use Rattle.definitions.proofs.Laws.Refused.{number_of_some}
use Rattle.tables.proofs.Promises.{meets_recounted, in_place}
use Rattle.settings.proofs.JoinPromise.{join_refused, join_refused_counts, join_below, join_room, join_accepted, join_counts}
use Rattle.settings.proofs.join.Goals as goal

pub returns-in-Err : goal.returns-in-Err
returns-in-Err c =
    let a = c.args in
    in_place refl refl
    (join_refused_counts a.control _ c.requires a.id a.kind a.rate a.burst c.refused.result _ c.refused.ensures)
    (join_refused a.control _ c.requires a.id a.kind a.rate a.burst c.refused.result _
    c.refused.ensures (c.number.ensures ∙ c.in-Err.ensures.number _ c.requires)
    (λ e. number_of_some c.in-Err.refusal (sym c.number.ensures ∙ e)))

pub clear-bare-requires : goal.clear-bare-requires
clear-bare-requires c =
    let a = c.args in
    join_below a.control _ c.requires a.id a.kind a.rate a.burst (sym (c.in-Ok.ensures.number _ c.requires))

pub clear-requires : goal.clear-requires
clear-requires c =
    let a = c.args in
    join_below a.control _ c.requires a.id a.kind a.rate a.burst (sym (c.in-Ok.ensures.number _ c.requires))

pub place_client-requires : goal.place_client-requires
place_client-requires c =
    let a = c.args in
    join_room a.control _ c.requires a.id a.kind a.rate a.burst (sym (c.in-Ok.ensures.number _ c.requires))
    c.clear-bare.result c.clear-bare.ensures.quiet

pub returns : goal.returns
returns c =
    let a = c.args in
    let p = c.place_client in
    let q = c.clear-bare in
    let none = sym (c.in-Ok.ensures.number _ c.requires) in
    let cast = rw (kind_read a.kind c.in-Ok.named c.in-Ok.ensures.named) at p.ensures.recast in
    in_place refl refl
    (join_counts a.control _ c.requires a.id a.kind a.rate a.burst
    none q.result q.ensures.quiet p.result cast
    c.accepted.result _ c.accepted.ensures c.clear.ensures)
    (rw (p.ensures.terms_after, q.ensures.stocks_after)
    (meets_recounted c.clear.ensures.size
    (join_accepted a.control _ c.requires a.id a.kind a.rate a.burst
    none q.result q.ensures.quiet p.result cast
    c.accepted.result c.accepted.ensures)))
