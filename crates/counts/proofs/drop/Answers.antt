-- Each number that has a count raises it by one.
use Rattle.std.proofs.Common.{sym, eqb, arith}
use Rattle.std.proofs.lemmas.Bool.{ne_eqb}
use Rattle.definitions.specs.Counts.{nothing, entry_of_drop}
use Rattle.definitions.proofs.Laws.Tests.{cond_same}
use Rattle.counts.proofs.CountEntries.{entered_as, entered_nothing}
use Rattle.counts.proofs.drop.Goals as goal

pub returns-in-14 : goal.returns-in-14
unfolding entry_of_drop
returns-in-14 c = rw c.in-14.is c.raise.ensures

pub returns-in-15 : goal.returns-in-15
unfolding entry_of_drop
returns-in-15 c = rw c.in-15.is c.raise-in-15.ensures

pub returns-in_default : goal.returns-in_default
unfolding entry_of_drop
returns-in_default c =
    rw (ne_eqb c.args.number 14 (λ e. omega arith), ne_eqb c.args.number 15 (λ e. omega arith))
    (entered_as (λ id. sym (cond_same (eqb c.args.id id) nothing)) (entered_nothing _))
