use Rattle.std.proofs.Common.{◌≡◌, ℕ, ◌<◌, ◌≤◌, None}
use Rattle.slab.specs.Slab.{get}
use Rattle.streams.specs.ListedConnections.{connection_listed_at}
use Rattle.streams.proofs.links.Links.first_from.Given as goal

abbrev pub invariant-loop-index : goal.invariant-loop-index
invariant-loop-index g l = (index : ℕ) → l.first ≤ index → index < l.index → connection_listed_at (get l.self.slots index) ≡ None
