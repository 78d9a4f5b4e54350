use Rattle.std.proofs.Common.{[], refl, subst, inl, inr}
use Rattle.world_base.specs.declared.node_connections.handed.Handed.{Handed}
use Rattle.node_base.proofs.of_connection.WritesJoin.{writes_alone, writes_behind}
use Rattle.node_base.proofs.connection.flow.write_out.Goals as goal

pub returns-in-Full-clause-flows : goal.returns-in-Full-clause-flows
returns-in-Full-clause-flows g c = record {
  bytes = [];
  handed = inr (refl, refl);
  writes = writes_alone _ _ _ _ c.write.ensures.writes;
  rests = c.in-Full.ensures.leaves;
}

pub returns-in-Fault-clause-flows : goal.returns-in-Fault-clause-flows
returns-in-Fault-clause-flows g c = record {
  bytes = [];
  handed = inr (refl, refl);
  writes = writes_alone _ _ _ _ c.write.ensures.writes;
  rests = c.in-Fault.ensures.leaves;
}

pub returns-in-Open-clause-flows : goal.returns-in-Open-clause-flows
returns-in-Open-clause-flows g c =
    let h = c.in-Ok.ensures.ok in
    record {
      bytes = h.bytes;
      handed = subst (λ (answer : Handed). g.T.Tap.hands c.args.tap.now h.bytes answer c.take_from.new.tap) c.in-Open.is h.handed;
      writes =
          writes_behind _ _ _ c.args.left.now h.bytes c.take_from.new.self c.write.new.self c.write-2.new.self
          c.write.ensures.writes c.in-Whole.ensures.leaves h.is c.write-2.ensures.writes;
      rests = c.in-Whole-write.ensures.leaves;
    }

pub returns-in-Closed-clause-flows : goal.returns-in-Closed-clause-flows
returns-in-Closed-clause-flows g c =
    let h = c.in-Ok.ensures.ok in
    record {
      bytes = h.bytes;
      handed = subst (λ (answer : Handed). g.T.Tap.hands c.args.tap.now h.bytes answer c.take_from.new.tap) c.in-Closed.is h.handed;
      writes =
          writes_behind _ _ _ c.args.left.now h.bytes c.take_from.new.self c.write.new.self c.write-2.new.self
          c.write.ensures.writes c.in-Whole.ensures.leaves h.is c.write-2.ensures.writes;
      rests = c.in-Whole-write.ensures.leaves;
    }

pub returns-in-Full-write-clause-flows : goal.returns-in-Full-write-clause-flows
returns-in-Full-write-clause-flows g c =
    let h = c.in-Ok.ensures.ok in
    record {
      bytes = h.bytes;
      handed = inl (c.in-Ok.handed, h.handed);
      writes =
          writes_behind _ _ _ c.args.left.now h.bytes c.take_from.new.self c.write.new.self c.write-2.new.self
          c.write.ensures.writes c.in-Whole.ensures.leaves h.is c.write-2.ensures.writes;
      rests = c.in-Full-write.ensures.leaves;
    }

pub returns-in-Stopped-write-clause-flows : goal.returns-in-Stopped-write-clause-flows
returns-in-Stopped-write-clause-flows g c =
    let h = c.in-Ok.ensures.ok in
    record {
      bytes = h.bytes;
      handed = inl (c.in-Ok.handed, h.handed);
      writes =
          writes_behind _ _ _ c.args.left.now h.bytes c.take_from.new.self c.write.new.self c.write-2.new.self
          c.write.ensures.writes c.in-Whole.ensures.leaves h.is c.write-2.ensures.writes;
      rests = tt;
    }

pub returns-in-Fault-write-clause-flows : goal.returns-in-Fault-write-clause-flows
returns-in-Fault-write-clause-flows g c =
    let h = c.in-Ok.ensures.ok in
    record {
      bytes = h.bytes;
      handed = inl (c.in-Ok.handed, h.handed);
      writes =
          writes_behind _ _ _ c.args.left.now h.bytes c.take_from.new.self c.write.new.self c.write-2.new.self
          c.write.ensures.writes c.in-Whole.ensures.leaves h.is c.write-2.ensures.writes;
      rests = c.in-Fault-write.ensures.leaves;
    }
