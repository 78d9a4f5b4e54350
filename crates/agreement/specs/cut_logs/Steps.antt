-- What may happen in a group whose nodes cut their logs: a node takes its step, stops or cuts its
-- log; its master answers an Assign, or receives an Activate. Messages of the master may be lost,
-- too.
use Rattle.std.specs.Prelude.{ℕ, [], ◌∷◌, ◌++◌, Option, Some, None}
use Rattle.machine.specs.Machine.{Rules}
use Rattle.lists.specs.Lists.{In}
use Rattle.agreement.specs.MasterState.{MasterState, AssignRefusal, master_after, refusal}
use Rattle.ballot_base.specs.declared.config.Config.{Config}
use Rattle.ballot_base.specs.declared.message.Body.TheVariants.{Activate}
use Rattle.ballot_base.specs.StepOutcome.{master}
use Rattle.agreement.specs.cut_logs.Masters.{MasterOutcome, activated, assigned}
use Rattle.agreement.specs.cut_logs.World.{NodeGoes, CutGroupWorld}

-- the world once the master has sent a message: it comes after those that were sent before
abbrev pub sends_from_master : {S C O : Type 0} → CutGroupWorld S C O → MasterOutcome C →
    CutGroupWorld S C O
sends_from_master world outcome =
    record world {
      sent = world.sent
          ++ (outcome.receiver, record { from = master; body = outcome.body }) ∷ [];
    }

-- the world after an Assign: if it is not refused, the primary is sent the ballot
abbrev pub world_after : {S C O : Type 0} →
    MasterState → CutGroupWorld S C O → Config → Option AssignRefusal → CutGroupWorld S C O
world_after state world config (Some why) = world
world_after {C = C} state world config None = sends_from_master world (assigned C state config)

-- one event of such a group, from the master and the world before it to those after it
pub data MayHappen {S C O : Type 0} (rules : Rules S C O) :
    MasterState → CutGroupWorld S C O → MasterState → CutGroupWorld S C O → Type 0 where
  -- a node takes a step, stops, or cuts its log
  node_goes : {state : MasterState} {world next_world : CutGroupWorld S C O} →
      NodeGoes rules world next_world → MayHappen rules state world state next_world
  -- an Assign: the master refuses it, or sends NewBallot to the primary of the configuration
  master_assigns : {state : MasterState} {world : CutGroupWorld S C O} (config : Config) →
      MayHappen rules state world (master_after state config (refusal state config))
      (world_after state world config (refusal state config))
  -- the master receives an Activate that was sent, and answers it
  master_hears : {state : MasterState} {world : CutGroupWorld S C O} (from ballot : ℕ) →
      In (0, record { from = from; body = Activate ballot }) world.sent →
      MayHappen rules state world (activated C state ballot from state.waiting).state
      (sends_from_master world (activated C state ballot from state.waiting))
  -- an Assign, if the master's NewBallot is lost
  assignment_lost : {state : MasterState} {world : CutGroupWorld S C O} (config : Config) →
      MayHappen rules state world (master_after state config (refusal state config)) world
  -- an Activate, if the master's answer is lost
  answer_lost : {state : MasterState} {world : CutGroupWorld S C O} (from ballot : ℕ) →
      In (0, record { from = from; body = Activate ballot }) world.sent →
      MayHappen rules state world (activated C state ballot from state.waiting).state world
