use Rattle.std.proofs.Common.{ℕ, List, take, subst, refl, ◌∙◌}
use Rattle.std.specs.Io.KnownBytes.{Appends}
use Rattle.node_base.proofs.of_connection.WritesJoin.{none_written, takes_more}
use Rattle.node_base.proofs.connection.unwritten.Unwritten.write.Goals as goal

pub loop-init : goal.loop-init
loop-init g c = record { writes = none_written _ _; faults = refl }

pub loop-preserved : goal.loop-preserved
loop-preserved g c = record {
  writes =
      takes_more _ _ _ _ c.loop.self c.skip.new.self c.in-Bytes.count c.loop.invariant.writes
      (subst
      (λ (l : List ℕ). Appends (g.W.Write.contents c.loop.device.device) (g.W.Write.contents c.write_piece.new.self.device) (take c.in-Bytes.count l))
      c.as_slice.ensures c.in-Bytes.ensures.piece.1)
      c.skip.ensures;
  faults = c.in-Bytes.ensures.faults ∙ c.loop.invariant.faults;
}
