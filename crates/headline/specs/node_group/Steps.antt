-- What may happen in a group: a node acts, perhaps with losses, or the master answers.
use Rattle.std.specs.Prelude.{◌≡◌, ℕ, true, List, [], ◌∷◌, ◌++◌, slice_get, Option, Some, None}
use Rattle.lists.specs.Lists.{In}
use Rattle.ballot_base.specs.declared.message.Body.TheVariants.{Activate}
use Rattle.ballot_base.specs.declared.config.Config.{Config}
use Rattle.ballot_base.specs.declared.message.Effect.{Effect}
use Rattle.ballot_base.specs.Losses.{Thinned}
use Rattle.broker_spec.specs.declared.command.Command.{Command}
use Rattle.broker_spec.specs.declared.command.Output.{Output}
use Rattle.agreement.specs.MasterState.{AssignRefusal, master_after, refusal}
use Rattle.agreement.specs.cut_logs.Masters.{activated, assigned}
use Rattle.agreement.specs.World.{can_open}
use Rattle.world_base.specs.node_core.Core.{CoreState, StepOutcome}
use Rattle.world_base.specs.declared.node_core.item.Item.{Item}
use Rattle.world_base.specs.node_core.LossyStep.{RunsOn}
use Rattle.headline.specs.node_moves.Receipts.{HearsAtFirst}
use Rattle.headline.specs.node_moves.ItemRuns.{IsRunOn, heard_with}
use Rattle.headline.specs.node_moves.Moves.{NodeCall, MoveTrace, done}
use Rattle.headline.specs.node_group.Group.{Group, group_after_outcome, opening_group, told_by_master, with_master, with_record}
use Rattle.headline.specs.node_group.Losses.{WereSent}
use Rattle.headline.specs.node_group.Losses.{all_given as given_losing, put_in_run as put_losing, recorded_in as recorded_losing}
use Rattle.headline.specs.node_group.Proposals.{recorded_in}
pub use Rattle.headline.specs.node_group.Proposals.{AllWasSent, InputWasSent, WasSent, all_given, commands_put, put_in_move, put_in_run}

-- the master after an Assign; a refused one changes nothing
abbrev pub after_assign : Group → Config → Option AssignRefusal → Group
after_assign group config (Some why) = group
after_assign group config None = told_by_master group (assigned Command group.master config)

-- the effects of a node, if only these messages are not lost
abbrev pub with_messages : List (Effect Command Output) → StepOutcome → StepOutcome
with_messages kept outcome = record outcome { messages = kept }

-- one step of a group: of one of its nodes, or of its master
pub data GroupStep (group : Group) : Group → Type 0 where
  -- a node takes an item, or hands over bytes, by these moves; what its replica receives, or a cut,
  -- comes first
  node_acts : (node : ℕ) (core : CoreState) (node_call : NodeCall) (outcome : StepOutcome)
      (run : MoveTrace core outcome) → slice_get group.nodes node ≡ Some core →
      outcome ≡ done node_call core → HearsAtFirst run → AllWasSent group node run →
      GroupStep group
      (group_after_outcome (with_record group (recorded_in group.archive run)) node outcome
      (all_given run))
  -- a node takes an item with losses, by these moves; what comes with it was sent, and some of its
  -- messages may be missing
  node_loses : (node : ℕ) (core : CoreState) (item : Item) (outcome : StepOutcome)
      (kept : List (Effect Command Output)) (by : IsRunOn item core outcome) →
      slice_get group.nodes node ≡ Some core → RunsOn item core outcome.core outcome.messages →
      WereSent group node (heard_with item) → Thinned kept outcome.messages →
      GroupStep group
      (group_after_outcome (with_record group (recorded_losing group.archive by.run)) node
      (with_messages kept outcome) (given_losing by.run))
  -- an administrator asks for another configuration
  master_assigns : (config : Config) →
      GroupStep group (with_master (after_assign group config (refusal group.master config))
      (master_after group.master config (refusal group.master config)))
  -- a primary asks for its ballot to become the active one
  master_hears : (from ballot : ℕ) →
      In (0, record { from = from; body = Activate ballot }) group.sent →
      GroupStep group (with_master
      (told_by_master group (activated Command group.master ballot from group.master.waiting))
      (activated Command group.master ballot from group.master.waiting).state)
  -- an administrator asks, and the master's NewBallot is lost
  assigns_unheard : (config : Config) →
      GroupStep group (with_master group
      (master_after group.master config (refusal group.master config)))
  -- a primary asks, and the master's answer is lost
  answers_unheard : (from ballot : ℕ) →
      In (0, record { from = from; body = Activate ballot }) group.sent →
      GroupStep group (with_master group
      (activated Command group.master ballot from group.master.waiting).state)

-- all steps of a group of this many nodes, from its opening in a configuration on
pub data GroupTrace (nodes : ℕ) (config : Config) : Group → Type 0 where
  -- the group opens; its nodes have numbers up to any greatest one
  opened : (greatest : ℕ) → can_open greatest nodes config ≡ true →
      GroupTrace nodes config (opening_group greatest nodes config)
  -- one more step
  then_went : {group next : Group} → GroupTrace nodes config group → GroupStep group next →
      GroupTrace nodes config next

-- what nodes proposed to their replicas, each command with the ballot that its node had joined, in
-- order
abbrev pub put_in_step : {group next : Group} → GroupStep group next → List (ℕ × Command)
put_in_step (node_acts node core node_call outcome run at is first sent) = put_in_run run
put_in_step (node_loses node core item outcome kept by at runs sent thinned) = put_losing by.run
put_in_step (master_assigns config) = []
put_in_step (master_hears from ballot sent) = []
put_in_step (assigns_unheard config) = []
put_in_step (answers_unheard from ballot sent) = []

-- the commands that were proposed in all steps, each with its ballot, the oldest first
abbrev pub all_proposed : {nodes : ℕ} {config : Config} {group : Group} →
    GroupTrace nodes config group → List (ℕ × Command)
all_proposed (opened greatest can) = []
all_proposed (then_went went step) = all_proposed went ++ put_in_step step

-- the group as it opened and after each step, the newest first
abbrev pub groups_on_trace : {nodes : ℕ} {config : Config} {group : Group} →
    GroupTrace nodes config group → List Group
groups_on_trace {group = group} (opened greatest can) = group ∷ []
groups_on_trace {group = group} (then_went went step) = group ∷ groups_on_trace went
