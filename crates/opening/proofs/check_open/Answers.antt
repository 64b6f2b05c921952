-- `opening::check_open` meets its contract: at each return the tests that led there say which check fails first.
-- Assumes nothing.
use borrow.Author.Tests.{le-leb, lt-leb, eq-eqb, ne_eqb}
use Rattle.definitions.specs.Sizes.{shares, weighted_draw}
use Rattle.definitions.specs.Checks.{open_checks}
use Rattle.definitions.proofs.Laws.Tests.{told_within}
use Rattle.tables.specs.Numbers.{first_failed}
use Rattle.opening.proofs.check_open.Goals as goal

pub returns-then-not-contains : goal.returns-then-not-contains
unfolding first_failed open_checks shares
returns-then-not-contains c =
    let n = c.new.ensures in
    let outside =
    told_within 1 1024 c.args.threshold (rw (c.if-not-contains.true, n.start, n.end, n.exhausted) at c.contains.ensures.value) in
    simp (outside)

pub returns-then-discipline-gt-WEIGHTED_DRAW : goal.returns-then-discipline-gt-WEIGHTED_DRAW
unfolding first_failed open_checks shares weighted_draw
returns-then-discipline-gt-WEIGHTED_DRAW c =
    let n = c.new.ensures in
    let inside =
    told_within 1 1024 c.args.threshold (rw (c.if-not-contains.false, n.start, n.end, n.exhausted) at c.contains.ensures.value) in
    simp (inside, lt-leb c.args.discipline 1 c.if-discipline-gt-WEIGHTED_DRAW.true)

pub returns-then-seed-eq0 : goal.returns-then-seed-eq0
unfolding first_failed open_checks shares weighted_draw
returns-then-seed-eq0 c =
    let n = c.new.ensures in
    let inside =
    told_within 1 1024 c.args.threshold (rw (c.if-not-contains.false, n.start, n.end, n.exhausted) at c.contains.ensures.value) in
    simp (
      inside,
      le-leb c.args.discipline 1 c.if-discipline-gt-WEIGHTED_DRAW.false,
      eq-eqb c.args.seed 0 c.if-seed-eq0.true,
    )

pub returns : goal.returns
unfolding first_failed open_checks shares weighted_draw
returns c =
    let n = c.new.ensures in
    let inside =
    told_within 1 1024 c.args.threshold (rw (c.if-not-contains.false, n.start, n.end, n.exhausted) at c.contains.ensures.value) in
    simp (
      inside,
      le-leb c.args.discipline 1 c.if-discipline-gt-WEIGHTED_DRAW.false,
      ne_eqb c.args.seed 0 c.if-seed-eq0.false,
    )
