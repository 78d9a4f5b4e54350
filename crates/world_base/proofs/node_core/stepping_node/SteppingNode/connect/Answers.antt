use Rattle.std.proofs.Common.{sym, ap, ◌∙◌}
use Rattle.broker_spec.specs.declared.command.Command.TheVariants as commands
use Rattle.world_base.specs.node_core.Inside.{RunningStep}
use Rattle.world_base.proofs.of_node_core.Closes.{closes_refused}
use Rattle.world_base.specs.node_core.Lossy.{without_effects}
use Rattle.world_base.specs.node_core.LossyPacketInput.{ClosesConnection}
use Rattle.world_base.proofs.of_node_core.EndsRun.{core_of, ran_asked, ran_otherwise}
use Rattle.world_base.proofs.node_core.stepping_node.SteppingNode.connect.Goals as goal

pub returns-then-not-propose-clause-exact : goal.returns-then-not-propose-clause-exact
returns-then-not-propose-clause-exact c =
    closes_refused c.args.port (commands.Connect c.args.name c.args.connect.client c.args.connect.clean) _ _ _ _ _
    (λ whole. sym c.if-not-propose.true ∙ c.propose.ensures.taken
    (sym (ap (λ (r : RunningStep). r.has_lost) c.close.ensures) ∙ whole))
    c.propose.ensures.exact (λ _. c.close.ensures)

pub returns-then-not-propose-clause-lossy : goal.returns-then-not-propose-clause-lossy
returns-then-not-propose-clause-lossy c =
    ran_otherwise c.propose.result (commands.Connect c.args.name c.args.connect.client c.args.connect.clean) (ClosesConnection c.args.port)
    _ c.propose.new.self.core c.close.new.self.core _ _ c.if-not-propose.true c.propose.ensures.lossy
    (ap without_effects (core_of _ _ c.close.ensures))

pub returns-else-not-propose-clause-lossy : goal.returns-else-not-propose-clause-lossy
returns-else-not-propose-clause-lossy c =
    ran_asked c.propose.result (commands.Connect c.args.name c.args.connect.client c.args.connect.clean) (ClosesConnection c.args.port)
    _ _ _ _ c.if-not-propose.false c.propose.ensures.lossy
