use Rattle.std.proofs.Common.{sym, ap, ◌∙◌}
use Rattle.broker_spec.specs.declared.command.Command.TheVariants as commands
use Rattle.world_base.specs.node_core.Inside.{RunningStep}
use Rattle.world_base.proofs.of_node_core.Closes.{closes_refused}
use Rattle.world_base.specs.node_core.LossyPacketInput.{Shuts}
use Rattle.world_base.proofs.of_node_core.EndsRun.{ran_asked, ran_otherwise, shuts_by}
use Rattle.world_base.proofs.node_core.stepping_node.SteppingNode.propose_packet.Goals as goal

pub returns-then-not-propose-clause-exact : goal.returns-then-not-propose-clause-exact
returns-then-not-propose-clause-exact c =
    closes_refused c.args.port (commands.Packet c.args.name c.args.packet) c.args.self.now c.propose.new.self c.give_up.new.self
    c.args.effects.now.items c.propose.new.effects.items
    (λ whole. sym c.if-not-propose.true ∙ c.propose.ensures.taken
    (sym (ap (λ (r : RunningStep). r.has_lost) (c.give_up.ensures.exact whole)) ∙ whole))
    (rw (c.in-Ok.ensures.value) at c.propose.ensures.exact) c.give_up.ensures.exact

pub returns-then-not-propose-clause-lossy : goal.returns-then-not-propose-clause-lossy
returns-then-not-propose-clause-lossy c =
    ran_otherwise c.propose.result (commands.Packet c.args.name c.args.packet) (Shuts c.args.port)
    c.args.self.now.core c.propose.new.self.core c.give_up.new.self.core c.args.effects.now.items c.propose.new.effects.items c.if-not-propose.true
    (rw (c.in-Ok.ensures.value) at c.propose.ensures.lossy)
    (shuts_by c.args.port c.propose.new.self.core c.give_up.new.self.core c.give_up.ensures.lossy)

pub returns-else-not-propose-clause-lossy : goal.returns-else-not-propose-clause-lossy
returns-else-not-propose-clause-lossy c =
    ran_asked c.propose.result (commands.Packet c.args.name c.args.packet) (Shuts c.args.port)
    c.args.self.now.core c.propose.new.self.core c.args.effects.now.items c.propose.new.effects.items c.if-not-propose.false
    (rw (c.in-Ok.ensures.value) at c.propose.ensures.lossy)
