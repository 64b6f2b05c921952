-- `fairsheet::print_rates` meets its contract: the answer says whether the list is accepted, and then where its rates stand.
-- Assumes nothing.
use Rattle.std.proofs.Common.{arith, rules, refl, sym}
use Rattle.definitions.specs.Sizes.{ids}
use Rattle.printer.proofs.Appending.{appended_as}
use Rattle.maxmin.proofs.RatesGiven.{accepted_few}
use Rattle.fairsheet.proofs.SheetTold.{accepted-listed, shared_accepted, shared_refused, shared_lines}
use Rattle.fairsheet.proofs.SheetTold.{line_written}
use Rattle.fairsheet.proofs.print_rates.Goals as goal

pub returns-in_default : goal.returns-in_default
unfolding ids
returns-in_default c =
    appended_as (sym (shared_refused _ _ _ refl c.rates-answer.ensures c.in_default.not-Accepted))
    (line_written c.requires (rw c.number.ensures at c.print_refused.ensures))

pub put_rates-requires : goal.put_rates-requires
unfolding ids
put_rates-requires c =
    let yes = shared_accepted _ _ _ refl c.rates-answer.ensures c.in-Accepted.is in
    let few = accepted_few _ _ _ yes in
    let same = accepted-listed _ _ _ yes in
    (omega (arith, few, same), omega (arith, few, same, c.rates-answer.auto.rates), search rules)

pub returns : goal.returns
unfolding ids
returns c = appended_as (sym (shared_lines _ _ _ refl c.rates-answer.ensures c.in-Accepted.is)) c.put_rates.ensures
