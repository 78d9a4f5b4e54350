use Rattle.std.proofs.Common.{refl}
use Rattle.core_tests.proofs.ranges.ranges_have_their_edges.Goals as goal

pub returns : goal.returns
returns c = λ m config lawful. (λ given. rw (lawful, given) refl, λ given. rw (lawful, given) refl)
