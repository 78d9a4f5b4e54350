use Rattle.std.specs.Prelude.{◌≡◌, false, ℕ, List, length}
use Rattle.links.specs.Inside.{Opens}
use Rattle.links.proofs.link_reader.LinkReader.next.Given as goal

abbrev pub invariant-frames : goal.invariant-frames
invariant-frames l = record {
  open_now : l.self.failed ≡ false;
  opened : (frames : List (List ℕ)) × Opens l.initial.self frames l.self;
}

abbrev pub decreases-frames : goal.decreases-frames
decreases-frames l = length l.self.unopened
