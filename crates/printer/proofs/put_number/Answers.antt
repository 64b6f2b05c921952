-- `printer::put_number` meets its contract: the number goes on where the text ended, whichever way it is written. Assumes
-- nothing.
use Rattle.printer.proofs.Appending.{appended_more}
use Rattle.printer.proofs.put_number.Goals as goal

pub returns-then-n-lt100 : goal.returns-then-n-lt100
returns-then-n-lt100 c = appended_more c.put-end.ensures c.put_small.ensures

pub returns-else-n-lt100 : goal.returns-else-n-lt100
returns-else-n-lt100 c = appended_more c.put-end.ensures c.put_large.ensures
