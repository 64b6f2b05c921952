-- The measure of `printer::put_large` is n, which a division by a hundred lowers.
use Rattle.printer.proofs.+put_large.Given as goal

abbrev pub decreases-put_large : goal.decreases-put_large
decreases-put_large l = l.n
