-- `remains::stretch` meets its contract: what is overwritten is never seen. Assumes nothing.
use Rattle.remains.proofs.KeptPlaces.{goes_overwritten}
use Rattle.remains.proofs.stretch.Goals as goal

pub returns : goal.returns
returns c =
    let written = c.overwrite_unused.ensures in
    goes_overwritten _ _ c.calls-at.ensures written.handles_after written.lengths_after
