use Rattle.std.proofs.Common.{◌≡◌, ◌++◌, drop}
use Rattle.std.specs.List.{flat_map, AllByRecursion}
use Rattle.session_base.specs.Form.{publication_bytes, HasLength}
use Rattle.session.proofs.session_queue.SessionQueue.write_waiting.Given as goal

abbrev pub invariant-loop-index : goal.invariant-loop-index
invariant-loop-index l =
    (l.bytes.items ++ flat_map publication_bytes (drop l.index l.self.waiting) ≡ l.initial.bytes.items ++ flat_map publication_bytes l.self.waiting)
    × AllByRecursion HasLength (drop l.index l.self.waiting)
