use Rattle.std.proofs.Common.{sym, ◌∙◌}
use Rattle.world_base.proofs.of_node_core.EndsRun.{core_of}
use Rattle.world_base.proofs.of_node_core.Fronts.{turns_other}
use Rattle.world_base.proofs.of_node_core.FrontsRun.{ran_connects, ran_later, ran_other}
use Rattle.world_base.proofs.node_core.stepping_node.SteppingNode.on_packet.Goals as goal

pub returns-then-not-awaits_first_packet-clause-lossy : goal.returns-then-not-awaits_first_packet-clause-lossy
returns-then-not-awaits_first_packet-clause-lossy c =
    ran_later _ c.args.port c.args.name c.args.packet _ _ _ _ (sym c.awaits_first_packet.ensures ∙ c.if-not-awaits_first_packet.true) c.propose_packet.ensures.lossy

pub returns-in-Connect-clause-lossy : goal.returns-in-Connect-clause-lossy
returns-in-Connect-clause-lossy c =
    ran_connects _ c.args.port c.args.name c.in-Connect.connect c.args.packet _ c.note_proposed_at.new.self.core _ _ _
    (sym c.awaits_first_packet.ensures ∙ c.if-not-awaits_first_packet.false) c.in-Connect.is (core_of _ _ c.note_proposed_at.ensures) c.connect.ensures.lossy

pub returns-clause-exact : goal.returns-clause-exact
returns-clause-exact c =
    turns_other _ c.args.port c.args.name c.args.packet _ _ _ (sym c.awaits_first_packet.ensures ∙ c.if-not-awaits_first_packet.false)
    (λ connect is. c.in_default.not-Connect connect is) c.close.ensures

pub returns-clause-lossy : goal.returns-clause-lossy
returns-clause-lossy c =
    ran_other _ c.args.port c.args.name c.args.packet _ c.close.new.self.core _ (sym c.awaits_first_packet.ensures ∙ c.if-not-awaits_first_packet.false)
    (λ connect is. c.in_default.not-Connect connect is) (core_of _ _ c.close.ensures)
