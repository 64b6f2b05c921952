-- `bench::bench_run`: each step takes up a valid core.
use Rattle.std.proofs.Common.{arith}
use Rattle.definitions.specs.Sizes.{ids}
use Rattle.bench.proofs.bench_run.Goals as goal

pub open-opened-requires : goal.open-opened-requires
open-opened-requires c = (c.unopened-shut.ensures _).1

pub run_stages-served-requires : goal.run_stages-served-requires
unfolding ids
run_stages-served-requires c = (
  c.open-opened.ensures.meets.valid,
  omega (arith, c.if-n-lt1.false),
  omega (arith, c.if-privates-gt-IDS.false, c.if-indifferents-gt-IDS.false),
)
