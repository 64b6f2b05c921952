-- Where a run on remains starts: as any long run, or on the core that an earlier history left; and when that makes no difference.
use Rattle.std.specs.Prelude.{ℕ, suc, ◌≡◌, false, cond, eqb}
use Rattle.definitions.specs.declared.Answer.TheVariants.{Accepted}
use Rattle.definitions.specs.State.{unopened}
use Rattle.definitions.specs.Event.{Open}
use Rattle.definitions.specs.Core.{step}
use Rattle.grammar.specs.Calls.{event_of}
use Rattle.tables.specs.declared.Tables.{Tables}
use Rattle.tables.specs.Invariant.{Valid}
use Rattle.runs.specs.declared.Progress.{Progress}
use Rattle.runs.specs.LongRun.{LongRun, begun_on, begun, call_from, further, after, block}
use Rattle.runs.specs.Stands.{run_of}

-- so many calls between two overwritings
abbrev pub stretch : ℕ
stretch = 1000

-- the maker of calls and the check of a seed's run, on the core that a block from another seed left
unfoldable pub behind : ℕ → ℕ → LongRun
behind earlier seed = begun_on (after earlier block).core seed

-- an earlier seed of 0 stands for no earlier history
unfoldable pub started : ℕ → ℕ → LongRun
started earlier seed = cond (eqb earlier 0) (begun seed) (behind earlier seed)

pub record Starts (earlier seed : ℕ) (p : Progress) (t : Tables) : Type 0 where
  pub run : run_of p t ≡ started earlier seed
  pub valid : Valid p.control t

-- the first call from a seed, of a busy time, is an open, and accepted
pub record OpensFirst (seed : ℕ) : Type 0 where
  pub threshold : ℕ
  pub discipline : ℕ
  pub generator : ℕ
  pub opens : event_of (call_from false seed) ≡ Open threshold discipline generator
  pub accepts : (step unopened (Open threshold discipline generator)).answer ≡ Accepted

-- from such a seed an earlier history shows in no answer: the run is that of the seed alone
abbrev pub EarlierUnseen : Type 0
EarlierUnseen = (earlier seed calls : ℕ) → OpensFirst seed → further (suc calls) (started earlier seed) ≡ after seed (suc calls)
