use Rattle.std.proofs.Common.{◌≡◌, take}
use Rattle.post.specs.Numbers.{peer_numbers}
use Rattle.post.proofs.cluster.peers_of.Given as goal

abbrev pub invariant-loop-number : goal.invariant-loop-number
invariant-loop-number g l = peer_numbers l.nodes.items ≡ take l.number-index l.numbers
