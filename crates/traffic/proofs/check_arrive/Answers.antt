-- `traffic::check_arrive` meets its contract: each return has the refusal of the check whose test led to it. Assumes nothing.
use Rattle.std.proofs.Common.{arith, ◌+◌, ◌≤◌, ◌<◌, sym}
use Rattle.std.proofs.lemmas.Result.{err_from_is_err_and}
use mathlib.Core.Path.{◌∙◌}
use borrow.Author.Tests.{le-ltb, le-leb, lt-leb}
use Rattle.definitions.specs.Sizes.{ids, places, shares, shortest, longest}
use Rattle.definitions.specs.Checks.{arrive_checks}
use Rattle.tables.specs.Tables.{field, level_at, count_at}
use Rattle.tables.proofs.ActiveChecks.{active_failed, refused_number}
use Rattle.traffic.proofs.ArriveChecks.{arrive_id, arrive_rest, arrive_fits, arrive_placed}
use Rattle.traffic.proofs.check_arrive.Goals as goal

pub returns-in_err-check_active : goal.returns-in_err-check_active
unfolding arrive_checks
returns-in_err-check_active c handles lengths links counts =
    let p = err_from_is_err_and c.from_residual.result c.from_residual.ensures.1 in
    rw (p.1, p.2) (active_failed c.args.control c.args.id _ c.in_err-check_active.ensures _ _ (refused_number _))

pub returns-then-packet-lt-SHORTEST : goal.returns-then-packet-lt-SHORTEST
unfolding shortest
returns-then-packet-lt-SHORTEST c handles lengths links counts =
    let a = c.args in
    let short : a.packet.length < shortest = omega (arith, c.if-packet-lt-SHORTEST.true) in
    sym (arrive_rest a.control a.id a.packet c.in_ok-check_active.ensures _ ∙ rw (lt-leb _ _ short))

pub returns-then-packet-gt-LONGEST : goal.returns-then-packet-gt-LONGEST
unfolding shortest longest
returns-then-packet-gt-LONGEST c handles lengths links counts =
    let a = c.args in
    let least : shortest ≤ a.packet.length = omega (arith, c.if-packet-lt-SHORTEST.false) in
    let long : longest < a.packet.length = omega (arith, c.if-packet-gt-LONGEST.true) in
    sym (arrive_rest a.control a.id a.packet c.in_ok-check_active.ensures _ ∙ rw (le-leb _ _ least, lt-leb _ _ long))

pub overflow_add-id : goal.overflow_add-id
unfolding ids
overflow_add-id c = record { fits = omega (arith, arrive_id c.args.control c.args.id c.args.packet c.in_ok-check_active.ensures) }

pub bounds-stocks-id : goal.bounds-stocks-id
unfolding ids
bounds-stocks-id c = omega (arith, arrive_id c.args.control c.args.id c.args.packet c.in_ok-check_active.ensures)

pub returns-then-stocks-id-ge-PLACES : goal.returns-then-stocks-id-ge-PLACES
unfolding places field ids shortest longest
returns-then-stocks-id-ge-PLACES c handles lengths links counts =
    let a = c.args in
    let full : places ≤ count_at a.stocks.now a.id = omega (arith, c.if-stocks-id-ge-PLACES.true) in
    sym (arrive_fits a.control a.id a.packet c.in_ok-check_active.ensures (omega (arith, c.if-packet-lt-SHORTEST.false)) (omega (arith, c.if-packet-gt-LONGEST.false)) _ ∙ rw (le-ltb _ _ full))

pub returns-then-not-has : goal.returns-then-not-has
unfolding places field ids shortest longest
returns-then-not-has c handles lengths links counts =
    let a = c.args in
    let left : count_at a.stocks.now a.id < places = omega (arith, c.if-stocks-id-ge-PLACES.false) in
    sym (arrive_placed a.control a.id a.packet c.in_ok-check_active.ensures (omega (arith, c.if-packet-lt-SHORTEST.false)) (omega (arith, c.if-packet-gt-LONGEST.false)) _ left
    ∙ rw (sym c.has.ensures ∙ c.if-not-has.true))

pub overflow_add-id-2 : goal.overflow_add-id-2
unfolding ids
overflow_add-id-2 c = record { fits = omega (arith, arrive_id c.args.control c.args.id c.args.packet c.in_ok-check_active.ensures) }

pub bounds-terms-id : goal.bounds-terms-id
unfolding ids
bounds-terms-id c = omega (arith, arrive_id c.args.control c.args.id c.args.packet c.in_ok-check_active.ensures)

pub returns-then-terms-id-lt-SHARES : goal.returns-then-terms-id-lt-SHARES
unfolding shares places field ids shortest longest
returns-then-terms-id-lt-SHARES c handles lengths links counts =
    let a = c.args in
    let left : count_at a.stocks.now a.id < places = omega (arith, c.if-stocks-id-ge-PLACES.false) in
    let poor : level_at a.terms.now a.id < shares = omega (arith, c.if-terms-id-lt-SHARES.true) in
    sym (arrive_placed a.control a.id a.packet c.in_ok-check_active.ensures (omega (arith, c.if-packet-lt-SHORTEST.false)) (omega (arith, c.if-packet-gt-LONGEST.false)) _ left
    ∙ rw (sym c.has.ensures ∙ c.if-not-has.false, lt-leb _ _ poor))

pub returns : goal.returns
unfolding shares places field ids shortest longest
returns c handles lengths links counts =
    let a = c.args in
    let left : count_at a.stocks.now a.id < places = omega (arith, c.if-stocks-id-ge-PLACES.false) in
    let pays : shares ≤ level_at a.terms.now a.id = omega (arith, c.if-terms-id-lt-SHARES.false) in
    sym (arrive_placed a.control a.id a.packet c.in_ok-check_active.ensures (omega (arith, c.if-packet-lt-SHORTEST.false)) (omega (arith, c.if-packet-gt-LONGEST.false)) _ left
    ∙ rw (sym c.has.ensures ∙ c.if-not-has.false, le-leb _ _ pays))
