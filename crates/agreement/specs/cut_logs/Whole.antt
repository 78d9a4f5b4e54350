-- The replica, the messages and the effects on whole logs that correspond to those with cut logs,
-- by a record of the places below all bases.
use Rattle.std.specs.Prelude.{List, ◌++◌, map, take}
use Rattle.agreement.specs.whole_logs.Messages.{Body as WholeBody, Effect as WholeEffect}
use Rattle.agreement.specs.whole_logs.Messages.{Message as WholeMessage}
use Rattle.agreement.specs.whole_logs.Messages.{Body as bodies}
use Rattle.agreement.specs.whole_logs.Messages.{Effect as effects}
use Rattle.agreement.specs.whole_logs.Protocol.{Input as WholeInput}
use Rattle.agreement.specs.whole_logs.Protocol.{Input as inputs}
use Rattle.agreement.specs.whole_logs.Replica.{ReplicaState as WholeState}
use Rattle.ballot_base.specs.Logs.{Log}
use Rattle.ballot_base.specs.declared.message.Body.{Body}
use Rattle.ballot_base.specs.declared.message.Effect.{Effect}
use Rattle.ballot_base.specs.declared.message.Message.{Message}
use Rattle.ballot_base.specs.declared.message.Body.TheVariants.{NewBallot, Join, State}
use Rattle.ballot_base.specs.declared.message.Body.TheVariants.{Install, Installed}
use Rattle.ballot_base.specs.declared.message.Body.TheVariants.{Activate, Activated}
use Rattle.ballot_base.specs.declared.message.Body.TheVariants.{Superseded, Append}
use Rattle.ballot_base.specs.declared.message.Body.TheVariants.{Held, Commit}
use Rattle.ballot_base.specs.declared.message.Effect.TheVariants.{To, Out}
use Rattle.ballot_base.specs.Replica.{ReplicaState}
use Rattle.ballot_base.specs.Protocol.{Input}
use Rattle.ballot_base.specs.Protocol.Input.{Receives, Proposes, Ticks}

-- all commands of a log: those below its base, out of the record, and the rest
abbrev pub whole_log : {C : Type 0} → List C → Log C → List C
whole_log archive log = take log.base archive ++ log.rest

-- the replica, with all other fields as they are
abbrev pub whole : {S C : Type 0} → List C → ReplicaState S C → WholeState S C
whole archive replica =
    record {
      id = replica.id;
      joined = replica.joined;
      held_in = replica.held_in;
      log = whole_log archive replica.log;
      committed = replica.committed;
      machine = replica.machine;
      role = replica.role;
      members = replica.members;
      previous = replica.previous;
      previous_members = replica.previous_members;
      lacking = replica.lacking;
      progress = replica.progress;
      stopped = replica.stopped;
    }

-- the content and the receiver of a message
abbrev pub whole_body : {C : Type 0} → List C → Body C → WholeBody C
whole_body archive (NewBallot ballot members previous previous_members) =
    bodies.NewBallot ballot members previous previous_members
whole_body archive (Join ballot previous) = bodies.Join ballot previous
whole_body archive (State ballot log) = bodies.State ballot (whole_log archive log)
whole_body archive (Install ballot log) = bodies.Install ballot (whole_log archive log)
whole_body archive (Installed ballot held) = bodies.Installed ballot held
whole_body archive (Activate ballot) = bodies.Activate ballot
whole_body archive (Activated ballot) = bodies.Activated ballot
whole_body archive (Superseded ballot) = bodies.Superseded ballot
whole_body archive (Append ballot place command) = bodies.Append ballot place command
whole_body archive (Held ballot held) = bodies.Held ballot held
whole_body archive (Commit ballot held) = bodies.Commit ballot held

-- the message on whole logs
abbrev pub whole_message : {C : Type 0} → List C → Message C → WholeMessage C
whole_message archive message =
    record { from = message.from; body = whole_body archive message.body }

-- the effect on whole logs
abbrev pub whole_effect : {C O : Type 0} → List C → Effect C O → WholeEffect C O
whole_effect archive (To receiver message) = effects.To receiver (whole_message archive message)
whole_effect archive (Out place output) = effects.Out place output

-- the effects on whole logs
abbrev pub whole_effects : {C O : Type 0} → List C → List (Effect C O) → List (WholeEffect C O)
whole_effects archive given = map (whole_effect archive) given

-- the input of a replica
abbrev pub whole_input : {C : Type 0} → List C → Input C → WholeInput C
whole_input archive (Receives message) = inputs.Receives (whole_message archive message)
whole_input archive (Proposes command) = inputs.Proposes command
whole_input archive Ticks = inputs.Ticks
