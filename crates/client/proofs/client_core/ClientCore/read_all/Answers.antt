use Rattle.std.proofs.Common.{Bool, Ok, subst}
use Rattle.client.specs.Input.{Handles}
use Rattle.client.specs.Inside.PacketSteps.{ReadsOne}
use Rattle.client.proofs.HandledBefore.{handled_more}
use Rattle.client.proofs.client_core.ClientCore.read_all.Goals as goal

pub loop-init : goal.loop-init
loop-init c = Handles.none

pub loop-preserved : goal.loop-preserved
loop-preserved c =
    handled_more c.args.self.now c.loop.self c.read_one.new.self c.loop.invariant
    (subst (λ (b : Bool). ReadsOne c.loop.self (Ok b) c.read_one.new.self) c.if-branch.true c.in_ok-read_one.ensures.one)
