use Rattle.session_base.proofs.FillsOfQueues.{fill_done, fill_within, fill_order, fill_sends_starts}
use Rattle.session_base.proofs.IdentifiersOfFills.{fill_apart}
use Rattle.session_base.proofs.theorems.fill_takes_what_waits.Goals as goal

pub returns : goal.returns
returns c =
    record { done = fill_done; within = fill_within; order = fill_order; sends = fill_sends_starts; apart = fill_apart }
