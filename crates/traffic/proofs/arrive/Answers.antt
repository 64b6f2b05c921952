-- `traffic::arrive` meets its contract: it is refused with the first check that fails, and else the packet is the last of its client's. Assumes
-- nothing.
use Rattle.std.proofs.Common.{arith, ◌≡◌, ◌+◌, ◌≤◌, ◌<◌, ℕ, refl, sym, ap, subst}
use mathlib.Core.Path.{◌∙◌}
use Rattle.definitions.specs.Sizes.{ids, places, longest}
use Rattle.definitions.specs.Client.{is_indifferent}
use Rattle.definitions.specs.Counts.{count_accepted, column, more}
use Rattle.counts.specs.CountTable.{for_one, Entered}
use Rattle.definitions.specs.Answers.{is_accepted}
use Rattle.tables.specs.declared.Control.{Control}
use Rattle.tables.specs.declared.Tables.{Tables}
use Rattle.tables.specs.Tables.{count_at}
use Rattle.tables.specs.Meaning.{kind_at}
use Rattle.tables.specs.Invariant.{Shape, Valid}
use Rattle.tables.specs.Numbers.{refusal}
use Rattle.definitions.specs.declared.Packet.{Packet}
use Rattle.definitions.specs.Checks.{arrive_checks}
use Rattle.tables.proofs.MarkedKinds.{kind_indifferent}
use Rattle.tables.proofs.Promises.{meets_recounted, in_place, with_places}
use Rattle.tables.proofs.ActiveChecks.{refused_as}
use Rattle.traffic.proofs.ArrivedTables.{place_stored, charged_terms, Lined}
use Rattle.traffic.proofs.ArrivePromise.{lined_private, lined_indifferent, arrive_refused, arrive_accepted}
use Rattle.traffic.proofs.ArrivePromise.{arrive_dropped, arrive_refused_counts, arrive_counts}
use Rattle.traffic.proofs.ArrivePromise.{arrive_sound, arrive_below, arrive_short, arrive_room, arrive_paid}
use Rattle.traffic.proofs.arrive.Lts.{then-has, else-has}
use Rattle.traffic.proofs.arrive.Goals as goal

pub drop-requires : goal.drop-requires
drop-requires c =
    let failed = refused_as c.in-Err.is c.number-number.ensures (c.check_arrive.ensures _ _ _ _) in
    arrive_dropped c.args.control c.args.tables.now c.requires c.args.id c.args.packet _ failed.0

pub returns-in-Err : goal.returns-in-Err
returns-in-Err c =
    let a = c.args in
    let failed = refused_as c.in-Err.is c.number-number.ensures (c.check_arrive.ensures _ _ _ _) in
    in_place refl refl
    (arrive_refused_counts c.args.control c.args.tables.now c.requires c.args.id c.args.packet c.refused.result _ _ c.refused.ensures failed.0 c.drop.ensures)
    (meets_recounted c.drop.ensures.size
    (arrive_refused c.args.control c.args.tables.now c.requires c.args.id c.args.packet c.refused.result _ c.refused.ensures failed.0 failed.1))

-- no check failed
module _ (c : Control) (t : Tables) (valid : Valid c t) (id : ℕ) (packet : Packet) (none : refusal c t (λ s. arrive_checks s id packet) ≡ 0) where
  shape : Shape c t
  shape = (arrive_sound c t valid id packet none).shape

  below : id < ids
  below = arrive_below c t valid id packet none

  room : count_at t.stocks id < places
  room = arrive_room c t valid id packet none

pub free_place-place-requires : goal.free_place-place-requires
free_place-place-requires c =
    (below c.args.control c.args.tables.now c.requires c.args.id c.args.packet (sym (c.in_default.ensures _ _ _ _)), (shape c.args.control c.args.tables.now c.requires c.args.id c.args.packet (sym (c.in_default.ensures _ _ _ _))).heads _ (below c.args.control c.args.tables.now c.requires c.args.id c.args.packet (sym (c.in_default.ensures _ _ _ _))), room c.args.control c.args.tables.now c.requires c.args.id c.args.packet (sym (c.in_default.ensures _ _ _ _)))

pub keep-requires : goal.keep-requires
keep-requires c =
    (rw c.free_place-place.ensures (place_stored c.args.tables.now _ (below c.args.control c.args.tables.now c.requires c.args.id c.args.packet (sym (c.in_default.ensures _ _ _ _)))), arrive_short c.args.control c.args.tables.now c.requires c.args.id c.args.packet (sym (c.in_default.ensures _ _ _ _)))

pub count_up-requires : goal.count_up-requires
count_up-requires c = (below c.args.control c.args.tables.now c.requires c.args.id c.args.packet (sym (c.in_default.ensures _ _ _ _)), room c.args.control c.args.tables.now c.requires c.args.id c.args.packet (sym (c.in_default.ensures _ _ _ _)))

pub charge-requires : goal.charge-requires
charge-requires c =
    (below c.args.control c.args.tables.now c.requires c.args.id c.args.packet (sym (c.in_default.ensures _ _ _ _)), arrive_paid c.args.control c.args.tables.now c.requires c.args.id c.args.packet (sym (c.in_default.ensures _ _ _ _)) (kind_indifferent c.args.control c.args.id ∙ sym c.has.ensures ∙ c.if-has.true))

pub push-requires : goal.push-requires
push-requires c = (shape c.args.control c.args.tables.now c.requires c.args.id c.args.packet (sym (c.in_default.ensures _ _ _ _))).sound

pub raise-requires : goal.raise-requires
raise-requires c = below c.args.control c.args.tables.now c.requires c.args.id c.args.packet (sym (c.in_default.ensures _ _ _ _))

pub returns : goal.returns
unfolding is_accepted column shape
returns c =
    let a = c.args in
    let none = (sym (c.in_default.ensures _ _ _ _)) in
    let after = c.if-has.tables in
    let met : (after.terms ≡ charged_terms a.control a.tables.now a.id)
    × Lined a.control a.tables.now a.id (shape a.control a.tables.now c.requires a.id a.packet none).order after.links
    × (after.stocks ≡ c.count_up.new.stocks) × (after.handles ≡ c.keep.new.handles) × (after.lengths ≡ c.keep.new.lengths)
    × (after.counts ≡ a.tables.now.counts) =
    elim c.if-has.branch [
      | then-has w ↦
          let owes = kind_indifferent a.control a.id ∙ sym c.has.ensures ∙ w.if-has.true in (
            rw owes (ap (λ (t : Tables). t.terms) w.tables-is ∙ w.charge.ensures),
            rw (ap (λ (t : Tables). t.links) w.tables-is)
                (lined_indifferent a.control a.tables.now (shape a.control a.tables.now c.requires a.id a.packet none) a.id (below a.control a.tables.now c.requires a.id a.packet none) (room a.control a.tables.now c.requires a.id a.packet none) owes _ _
                c.free_place-place.ensures w.push.ensures.sound w.push.ensures.by_index),
            ap (λ (t : Tables). t.stocks) w.tables-is,
            ap (λ (t : Tables). t.handles) w.tables-is,
            ap (λ (t : Tables). t.lengths) w.tables-is,
            ap (λ (t : Tables). t.counts) w.tables-is,
          )
      | else-has w ↦
          let keeps = kind_indifferent a.control a.id ∙ sym c.has.ensures ∙ w.if-has.false in (
            rw keeps (ap (λ (t : Tables). t.terms) w.tables-is),
            rw (ap (λ (t : Tables). t.links) w.tables-is) (lined_private a.control a.tables.now (shape a.control a.tables.now c.requires a.id a.packet none) a.id keeps),
            ap (λ (t : Tables). t.stocks) w.tables-is,
            ap (λ (t : Tables). t.handles) w.tables-is,
            ap (λ (t : Tables). t.lengths) w.tables-is,
            ap (λ (t : Tables). t.counts) w.tables-is,
          )
    ] in
    let entries = subst (λ counts. Entered (for_one a.id (more count_accepted 1)) counts c.raise.new.counts) met.5 (c.raise.ensures) in
    with_places c.accepted.ensures refl
    (arrive_counts a.control a.tables.now c.requires a.id a.packet none c.mark.result c.accepted.result _ c.accepted.ensures entries)
    (rw (met.0, met.2, met.3, met.4, c.count_up.ensures, c.keep.ensures.handles_after, c.keep.ensures.lengths_after, c.free_place-place.ensures)
    (meets_recounted entries.size
    (arrive_accepted a.control a.tables.now c.requires a.id a.packet none after.links c.mark.result met.1 c.mark.ensures c.accepted.result c.accepted.ensures)))
