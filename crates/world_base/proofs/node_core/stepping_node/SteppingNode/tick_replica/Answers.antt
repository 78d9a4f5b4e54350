use Rattle.std.proofs.Common.{◌≡◌, [], refl, subst}
use Rattle.ballot_base.specs.Protocol.Input.{Ticks}
use Rattle.world_base.specs.node_core.Effects.{outcome_of_input}
use Rattle.world_base.specs.node_core.Inside.{NodeReplicaStepOrLost, RunningStep, StepsReplica}
use Rattle.world_base.specs.node_core.Losses.{IsIgnored}
use Rattle.world_base.proofs.of_node_core.Hearing.{ticked_quietly}
use Rattle.world_base.proofs.of_node_core.Told.{told_acts, told_hears, told_input}
use Rattle.world_base.proofs.node_core.stepping_node.SteppingNode.tick_replica.Goals as goal

pub returns-clause-hears : goal.returns-clause-hears
returns-clause-hears c =
    let old : RunningStep = record {
      core = record {
        replica = c.self.inside.replica;
        last_name = record { ballot = c.self.inside.last_ballot; count = c.self.inside.last_count };
        connections = c.self.inside.connections.items;
      };
      has_lost = c.self.inside.has_lost;
    } in
    subst (λ (r : RunningStep). StepsReplica r c.note.new.self (outcome_of_input Ticks r.core.replica.state) c.retransmit-whole.new.out.items) c.self.view_is
    (told_hears old _ c.note.new.self (outcome_of_input Ticks c.self.inside.replica.state) c.retransmit-whole.new.self _ _ c.retransmit-whole.result c.requires
    (told_input Ticks c.self.inside.replica c.retransmit-whole.new.self _ _ c.retransmit-whole.result
    c.retransmit-whole.ensures.step c.retransmit-whole.ensures.stopped) refl c.note.ensures)

pub returns-clause-acts : goal.returns-clause-acts
returns-clause-acts c =
    let old : RunningStep = record {
      core = record {
        replica = c.self.inside.replica;
        last_name = record { ballot = c.self.inside.last_ballot; count = c.self.inside.last_count };
        connections = c.self.inside.connections.items;
      };
      has_lost = c.self.inside.has_lost;
    } in
    subst (λ (r : RunningStep). NodeReplicaStepOrLost (outcome_of_input Ticks r.core.replica.state) r.core c.note.new.self.core c.retransmit-whole.new.out.items) c.self.view_is
    (told_acts old.core (outcome_of_input Ticks c.self.inside.replica.state) c.retransmit-whole.new.self _ _ c.retransmit-whole.result _ c.note.new.self c.requires
    (told_input Ticks c.self.inside.replica c.retransmit-whole.new.self _ _ c.retransmit-whole.result
    c.retransmit-whole.ensures.step c.retransmit-whole.ensures.stopped) refl c.note.ensures)

pub returns-clause-quiet : goal.returns-clause-quiet
returns-clause-quiet c =
    let old : RunningStep = record {
      core = record {
        replica = c.self.inside.replica;
        last_name = record { ballot = c.self.inside.last_ballot; count = c.self.inside.last_count };
        connections = c.self.inside.connections.items;
      };
      has_lost = c.self.inside.has_lost;
    } in
    subst (λ (r : RunningStep). IsIgnored Ticks r.core → (c.note.new.self ≡ r) × (c.retransmit-whole.new.out.items ≡ [])) c.self.view_is
    (ticked_quietly old _ c.note.new.self c.retransmit-whole.new.self _ _ c.retransmit-whole.result c.requires
    (told_input Ticks c.self.inside.replica c.retransmit-whole.new.self _ _ c.retransmit-whole.result
    c.retransmit-whole.ensures.step c.retransmit-whole.ensures.stopped)
    c.retransmit-whole.ensures.quiet c.retransmit-whole.ensures.stopped refl c.note.ensures)
