use Rattle.std.proofs.Common.{◌≡◌, map, take}
use Rattle.play.specs.Inside.{new_recipient}
use Rattle.play.proofs.played_world.recipients_of.Given as goal

abbrev pub invariant-loop-client : goal.invariant-loop-client
invariant-loop-client l = l.recipients.items ≡ map new_recipient (take l.client-index l.clients)
