-- Proposes.antt: what comes to the replica is what it does to it, and what is given is done at
-- once.
use Rattle.std.proofs.Common.{◌≡◌, true, false, List, refl, ap, subst, ◌∙◌}
use Rattle.broker_base.specs.State.{State}
use Rattle.broker_spec.specs.declared.command.Command.{Command}
use Rattle.broker_spec.specs.declared.command.Output.{Output}
use Rattle.ballot_base.specs.declared.message.Effect.{Effect}
use Rattle.ballot_base.specs.Protocol.{Input}
use Rattle.ballot_base.specs.StepOutcome.{Outcome}
use Rattle.ballot_base.specs.Service.{proposed}
use Rattle.world_base.specs.node_core.Core.{StepOutcome, rules, serves}
use Rattle.world_base.specs.node_core.Inside.{RunningStep, StepsReplica, DoesOutcome}
use Rattle.world_base.specs.node_core.Effects.{handled_all, drives, outcome_of_input, after_replica_step, proposes}
use Rattle.world_base.proofs.of_node_core.StepsJoin.{turns_idle, has_lost_kept}

-- a step of the replica, and what it gave
turns_moved : (a b c : RunningStep) (outcome : Outcome State Command Output) (given before after : List (Effect Command Output)) →
    StepsReplica a b outcome given → DoesOutcome b c before after (handled_all given b.core) →
    DoesOutcome a c before after (after_replica_step outcome a.core)
turns_moved a b c outcome given before after hears turns =
    record {
      given = turns.given;
      appended = turns.appended;
      exact = λ whole. joined whole (turns.exact whole);
    }
  where
    joined : c.has_lost ≡ false →
        (c ≡ record b { core = (handled_all given b.core).core }) × (turns.given ≡ (handled_all given b.core).messages) →
        (c ≡ record a { core = (after_replica_step outcome a.core).core }) × (turns.given ≡ (after_replica_step outcome a.core).messages)
    joined whole did =
        let did_hear = hears (has_lost_kept b c (handled_all given b.core).core did.0 whole) in (
          did.0 ∙ ap (λ (r : RunningStep). record r { core = (handled_all given r.core).core }) did_hear.0
              ∙ ap (λ (l : List (Effect Command Output)). record a {
                core = (handled_all l (record a.core {
                  replica = record a.core.replica { state = outcome.state };
                })).core;
              }) did_hear.1,
          did.1 ∙ ap (λ (l : List (Effect Command Output)). (handled_all l b.core).messages) did_hear.1,
        )

-- a command
pub turns_refused : (r : RunningStep) (command : Command) (out : List (Effect Command Output)) →
    serves r.core ≡ false → DoesOutcome r r out out (proposes command r.core)
unfolding proposes
turns_refused r command out idle =
    subst (λ (t : StepOutcome). DoesOutcome r r out out t) (rw idle refl) (turns_idle r out)

pub turns_proposed : (a b c : RunningStep) (command : Command) (given before after : List (Effect Command Output)) →
    serves a.core ≡ true → StepsReplica a b (proposed rules a.core.replica.state command) given →
    DoesOutcome b c before after (handled_all given b.core) → DoesOutcome a c before after (proposes command a.core)
unfolding proposes
turns_proposed a b c command given before after serving hears turns =
    subst (λ (t : StepOutcome). DoesOutcome a c before after t) (rw serving refl)
    (turns_moved a b c (proposed rules a.core.replica.state command) given before after hears turns)

-- a message or a tick
pub turns_driven : (a b c : RunningStep) (input : Input Command) (given before after : List (Effect Command Output)) →
    StepsReplica a b (outcome_of_input input a.core.replica.state) given → DoesOutcome b c before after (handled_all given b.core) →
    DoesOutcome a c before after (drives input a.core)
unfolding drives
turns_driven a b c input = turns_moved a b c (outcome_of_input input a.core.replica.state)
