-- `settings::change` meets its contract: it is refused with the first number that fails; else the client is retuned where its
-- kind stays, and emptied and placed anew where it differs. Assumes nothing.
use mathlib.Core.Path.{refl, sym, ◌∙◌}
use Rattle.definitions.specs.Counts.{column}
use Rattle.definitions.proofs.Laws.Kinds.{kind_read}
use Rattle.definitions.proofs.Laws.Refused.{number_of_some}
use Rattle.tables.specs.Tables.{tables}
use Rattle.tables.proofs.Promises.{meets_recounted, in_place}
use Rattle.settings.proofs.ChangePromise.{change_others, change_refused, change_active, change_room, change_ready}
use Rattle.settings.proofs.ChangePromise.{change_below, change_room_bare, change_retuned, change_placed}
use Rattle.settings.proofs.ChangePromise.{change_refused_counts, change_retuned_counts, change_placed_counts}
use Rattle.settings.proofs.change.Goals as goal

pub check_change-requires : goal.check_change-requires
check_change-requires c =
    let a = c.args in
    change_others a.control _ c.requires a.id a.kind a.rate a.burst

pub returns-in-Err : goal.returns-in-Err
returns-in-Err c =
    let a = c.args in
    in_place refl refl
    (change_refused_counts a.control _ c.requires a.id a.kind a.rate a.burst c.refused.result _ c.refused.ensures)
    (change_refused a.control _ c.requires a.id a.kind a.rate a.burst c.refused.result _
    c.refused.ensures (c.number.ensures ∙ c.in-Err.ensures.number _ _ _ _ _ c.requires)
    (λ e. number_of_some c.in-Err.refusal (sym c.number.ensures ∙ e)))

pub keeps_kind-requires : goal.keeps_kind-requires
keeps_kind-requires c =
    let a = c.args in
    change_active a.control _ c.requires a.id a.kind a.rate a.burst (sym (c.in-Ok.ensures.number _ _ _ _ _ c.requires))

pub retune-requires : goal.retune-requires
retune-requires c =
    let a = c.args in
    change_room a.control _ c.requires a.id a.kind a.rate a.burst (sym (c.in-Ok.ensures.number _ _ _ _ _ c.requires))

pub returns-then-keeps_kind : goal.returns-then-keeps_kind
returns-then-keeps_kind c =
    let a = c.args in
    let none = sym (c.in-Ok.ensures.number _ _ _ _ _ c.requires) in
    let stays =
    rw (kind_read a.kind c.in-Ok.named c.in-Ok.ensures.named) at (sym c.keeps_kind.ensures ∙ c.if-keeps_kind.true) in
    let answered = rw c.retune.ensures.value at c.accepted.ensures in
    rw c.retune.ensures.terms_after
    (in_place refl refl
    (change_retuned_counts a.control _ c.requires a.id a.kind a.rate a.burst none stays c.accepted.result answered)
    (change_retuned a.control _ c.requires a.id a.kind a.rate a.burst none stays c.accepted.result answered))

pub waiting_of-requires : goal.waiting_of-requires
waiting_of-requires c =
    let a = c.args in
    change_below a.control _ c.requires a.id a.kind a.rate a.burst (sym (c.in-Ok.ensures.number _ _ _ _ _ c.requires))

pub raise-requires : goal.raise-requires
raise-requires c =
    let a = c.args in
    change_below a.control _ c.requires a.id a.kind a.rate a.burst (sym (c.in-Ok.ensures.number _ _ _ _ _ c.requires))

pub empty-bare-requires : goal.empty-bare-requires
empty-bare-requires c =
    let a = c.args in
    change_ready a.control _ c.requires a.id a.kind a.rate a.burst (sym (c.in-Ok.ensures.number _ _ _ _ _ c.requires))

pub place_client-requires : goal.place_client-requires
place_client-requires c =
    let a = c.args in
    let q = c.empty-bare in
    change_room_bare a.control _ c.requires a.id a.kind a.rate a.burst (sym (c.in-Ok.ensures.number _ _ _ _ _ c.requires))
    q.result _ _ q.ensures

pub returns : goal.returns
unfolding column
returns c =
    let a = c.args in
    let p = c.place_client in
    let q = c.empty-bare in
    let none = sym (c.in-Ok.ensures.number _ _ _ _ _ c.requires) in
    let read = kind_read a.kind c.in-Ok.named c.in-Ok.ensures.named in
    let differs = rw read at (sym c.keeps_kind.ensures ∙ c.if-keeps_kind.false) in
    let cast = rw read at p.ensures.recast in
    let entries = rw c.waiting_of.ensures at c.raise.ensures in
    in_place {u = tables p.new.terms q.new.stocks a.handles.now a.lengths.now q.new.links c.raise.new.counts} refl refl
    (change_placed_counts a.control _ c.requires a.id a.kind a.rate a.burst none
    q.result _ _ q.ensures p.result cast differs c.accepted-2.result _ c.accepted-2.ensures entries)
    (rw p.ensures.terms_after
    (meets_recounted entries.size
    (change_placed a.control _ c.requires a.id a.kind a.rate a.burst none
    q.result _ _ q.ensures p.result cast differs c.accepted-2.result c.accepted-2.ensures)))
