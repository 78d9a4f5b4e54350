use Rattle.std.proofs.Common.{slice_set, refl, sym, ◌∙◌}
use Rattle.world_base.specs.node_connections.Connections.{is_open_at}
use Rattle.world_base.specs.node_core.Inside.{RunningStep}
use Rattle.world_base.proofs.of_node_core.Changes.{changed_there, core_changed}
use Rattle.world_base.proofs.of_node_core.Indices.{none_found, found_there}
use Rattle.world_base.proofs.of_node_core.Fronts.{nothing_open, nothing_next, more_there, more_next, packet_there, gone_there}
use Rattle.world_base.proofs.of_node_core.FrontsRun.{idle_open, idle_waits, ran_gone, ran_nothing_open, ran_packet, ran_waits, ran_out_of_memory}
use Rattle.world_base.proofs.node_core.stepping_node.SteppingNode.read_next.Goals as goal

pub returns-in_default-clause-exact : goal.returns-in_default-clause-exact
returns-in_default-clause-exact c =
    nothing_open c.args.now c.args.port _ _ (none_found (is_open_at c.args.port) _ (sym c.in_default.is ∙ c.index_at.ensures))

pub returns-in_default-clause-done : goal.returns-in_default-clause-done
returns-in_default-clause-done c = λ _ _.
    nothing_next c.args.now c.args.port _ (none_found (is_open_at c.args.port) _ (sym c.in_default.is ∙ c.index_at.ensures))

pub returns-in-More-clause-exact : goal.returns-in-More-clause-exact
returns-in-More-clause-exact c =
    more_there c.args.now c.args.port c.index_mut-connection.result.now c.next.new.self _ _ _
    (rw (← c.self.view_is) (found_there (is_open_at c.args.port) _ c.index_at.result c.in-Some.index _
    (rw (← c.self.view_is) at c.index_at.ensures) c.in-Some.is c.index_mut-connection.ensures.value))
    c.in-More.ensures
    (rw (← c.self.view_is) (changed_there c.args.port (λ _. c.next.new.self) _ c.index_at.result c.in-Some.index
    c.index_mut-connection.result.now c.next.new.self (rw (← c.self.view_is) at c.index_at.ensures) c.in-Some.is
    c.index_mut-connection.ensures.value refl))

pub returns-in-More-clause-done : goal.returns-in-More-clause-done
returns-in-More-clause-done c = λ _ _.
    let after : RunningStep = record {
      core = record {
        replica = c.self.inside.replica;
        last_name = record { ballot = c.self.inside.last_ballot; count = c.self.inside.last_count };
        connections = slice_set c.self.inside.connections.items c.in-Some.index c.next.new.self;
      };
      has_lost = c.self.inside.has_lost;
    } in
    more_next c.args.now c.args.port c.index_mut-connection.result.now c.next.new.self c.args.self.now after
    (rw (← c.self.view_is) (found_there (is_open_at c.args.port) _ c.index_at.result c.in-Some.index _
    (rw (← c.self.view_is) at c.index_at.ensures) c.in-Some.is c.index_mut-connection.ensures.value))
    c.in-More.ensures
    (rw (← c.self.view_is) (changed_there c.args.port (λ _. c.next.new.self) _ c.index_at.result c.in-Some.index
    c.index_mut-connection.result.now c.next.new.self (rw (← c.self.view_is) at c.index_at.ensures) c.in-Some.is
    c.index_mut-connection.ensures.value refl))

pub returns-in-Packet-clause-exact : goal.returns-in-Packet-clause-exact
returns-in-Packet-clause-exact c =
    packet_there c.args.now c.args.port c.index_mut-connection.result.now c.next.new.self c.in-Packet.packet _ _ _ _ _
    (rw (← c.self.view_is) (found_there (is_open_at c.args.port) _ c.index_at.result c.in-Some.index _
    (rw (← c.self.view_is) at c.index_at.ensures) c.in-Some.is c.index_mut-connection.ensures.value))
    c.in-Packet.ensures
    (rw (← c.self.view_is) (changed_there c.args.port (λ _. c.next.new.self) _ c.index_at.result c.in-Some.index
    c.index_mut-connection.result.now c.next.new.self (rw (← c.self.view_is) at c.index_at.ensures) c.in-Some.is
    c.index_mut-connection.ensures.value refl))
    c.on_packet.ensures.exact

pub returns-in-Refused-clause-exact : goal.returns-in-Refused-clause-exact
returns-in-Refused-clause-exact c =
    gone_there c.args.now c.args.port c.index_mut-connection.result.now c.next.new.self c.next.result _ _ _ _ _
    (rw (← c.self.view_is) (found_there (is_open_at c.args.port) _ c.index_at.result c.in-Some.index _
    (rw (← c.self.view_is) at c.index_at.ensures) c.in-Some.is c.index_mut-connection.ensures.value))
    c.next.ensures c.in-Refused.is
    (rw (← c.self.view_is) (changed_there c.args.port (λ _. c.next.new.self) _ c.index_at.result c.in-Some.index
    c.index_mut-connection.result.now c.next.new.self (rw (← c.self.view_is) at c.index_at.ensures) c.in-Some.is
    c.index_mut-connection.ensures.value refl))
    c.report_lost.ensures.exact

pub returns-in_default-clause-lossy : goal.returns-in_default-clause-lossy
returns-in_default-clause-lossy c =
    ran_nothing_open c.args.now c.args.port _ _ (none_found (is_open_at c.args.port) _ (sym c.in_default.is ∙ c.index_at.ensures))

pub returns-in_default-clause-idle : goal.returns-in_default-clause-idle
returns-in_default-clause-idle c = λ _.
    idle_open c.args.now c.args.port _ (none_found (is_open_at c.args.port) _ (sym c.in_default.is ∙ c.index_at.ensures))

pub returns-in-More-clause-lossy : goal.returns-in-More-clause-lossy
returns-in-More-clause-lossy c =
    ran_waits c.args.now c.args.port c.index_mut-connection.result.now c.next.new.self _ _ _
    (rw (← c.self.view_is) (found_there (is_open_at c.args.port) _ c.index_at.result c.in-Some.index _
    (rw (← c.self.view_is) at c.index_at.ensures) c.in-Some.is c.index_mut-connection.ensures.value))
    c.in-More.ensures
    (rw (← c.self.view_is) (core_changed c.args.port (λ _. c.next.new.self) _ c.index_at.result c.in-Some.index
    c.index_mut-connection.result.now c.next.new.self (rw (← c.self.view_is) at c.index_at.ensures) c.in-Some.is
    c.index_mut-connection.ensures.value refl))

pub returns-in-More-clause-idle : goal.returns-in-More-clause-idle
returns-in-More-clause-idle c = λ _.
    idle_waits c.args.now c.args.port c.index_mut-connection.result.now c.next.new.self c.args.self.now.core _
    (rw (← c.self.view_is) (found_there (is_open_at c.args.port) _ c.index_at.result c.in-Some.index _
    (rw (← c.self.view_is) at c.index_at.ensures) c.in-Some.is c.index_mut-connection.ensures.value))
    c.in-More.ensures
    (rw (← c.self.view_is) (core_changed c.args.port (λ _. c.next.new.self) _ c.index_at.result c.in-Some.index
    c.index_mut-connection.result.now c.next.new.self (rw (← c.self.view_is) at c.index_at.ensures) c.in-Some.is
    c.index_mut-connection.ensures.value refl))

pub returns-in-Packet-clause-lossy : goal.returns-in-Packet-clause-lossy
returns-in-Packet-clause-lossy c =
    ran_packet c.args.now c.args.port c.index_mut-connection.result.now c.next.new.self c.in-Packet.packet _ _ _ _ _
    (rw (← c.self.view_is) (found_there (is_open_at c.args.port) _ c.index_at.result c.in-Some.index _
    (rw (← c.self.view_is) at c.index_at.ensures) c.in-Some.is c.index_mut-connection.ensures.value))
    c.in-Packet.ensures
    (rw (← c.self.view_is) (core_changed c.args.port (λ _. c.next.new.self) _ c.index_at.result c.in-Some.index
    c.index_mut-connection.result.now c.next.new.self (rw (← c.self.view_is) at c.index_at.ensures) c.in-Some.is
    c.index_mut-connection.ensures.value refl))
    c.on_packet.ensures.lossy

pub returns-in-Refused-clause-lossy : goal.returns-in-Refused-clause-lossy
returns-in-Refused-clause-lossy c =
    ran_gone c.args.now c.args.port c.index_mut-connection.result.now c.next.new.self c.next.result _ _ _ _ _
    (rw (← c.self.view_is) (found_there (is_open_at c.args.port) _ c.index_at.result c.in-Some.index _
    (rw (← c.self.view_is) at c.index_at.ensures) c.in-Some.is c.index_mut-connection.ensures.value))
    c.next.ensures c.in-Refused.is
    (rw (← c.self.view_is) (core_changed c.args.port (λ _. c.next.new.self) _ c.index_at.result c.in-Some.index
    c.index_mut-connection.result.now c.next.new.self (rw (← c.self.view_is) at c.index_at.ensures) c.in-Some.is
    c.index_mut-connection.ensures.value refl))
    c.report_lost.ensures.lossy

pub returns-in-OutOfMemory-clause-lossy : goal.returns-in-OutOfMemory-clause-lossy
returns-in-OutOfMemory-clause-lossy c =
    ran_out_of_memory c.args.now c.args.port c.index_mut-connection.result.now c.next.new.self _ _ _ _ _
    (rw (← c.self.view_is) (found_there (is_open_at c.args.port) _ c.index_at.result c.in-Some.index _
    (rw (← c.self.view_is) at c.index_at.ensures) c.in-Some.is c.index_mut-connection.ensures.value))
    c.in-OutOfMemory.ensures
    (rw (← c.self.view_is) (core_changed c.args.port (λ _. c.next.new.self) _ c.index_at.result c.in-Some.index
    c.index_mut-connection.result.now c.next.new.self (rw (← c.self.view_is) at c.index_at.ensures) c.in-Some.is
    c.index_mut-connection.ensures.value refl))
    c.report_lost-in-OutOfMemory.ensures.lossy
