-- What a party may do by what was seen, it may do by each longer log.
use Rattle.std.proofs.Common.{ℕ, List}
use mathlib.Core.List.{IsPrefix}
use Rattle.ballot_base.specs.StepOutcome.{master}
use Rattle.ballot_base.specs.declared.message.Body.TheVariants.{Activate}
use Rattle.ballot_base.specs.declared.message.Effect.{Effect}
use Rattle.broker_spec.specs.declared.command.Command.{Command}
use Rattle.broker_spec.specs.declared.command.Output.{Output}
use Rattle.agreement.specs.MasterState.{MasterState}
use Rattle.world_base.specs.node_core.Core.{CoreState}
use Rattle.run_history.specs.declared.event.MasterAct.{MasterAct}
use Rattle.run_history.specs.declared.event.MasterAct.TheVariants.{Assigns, Answers}
use Rattle.run_history.specs.declared.event.MasterEvent.{MasterEvent}
use Rattle.run_history.specs.declared.event.NodeAct.{NodeAct}
use Rattle.run_history.specs.declared.event.NodeAct.TheVariants.{Takes, HandsOver}
use Rattle.run_history.specs.declared.event.RunEvent.{RunEvent}
use Rattle.run_history.specs.Log.{sent_in}
use Rattle.run_history.specs.Linked.{NodeMayDo}
use Rattle.run_history.specs.Rules.{MasterMayDo}
use Rattle.run_history.proofs.LongerLogs.{in_later, item_sent_later}

pub node_may_later : (node : ℕ) (core after : CoreState) (given : List (Effect Command Output)) (act : NodeAct) (seen log : List RunEvent) → IsPrefix seen log
    → NodeMayDo (sent_in seen) node core after given act → NodeMayDo (sent_in log) node core after given act
node_may_later node core after given (Takes item) seen log p may = (item_sent_later node item seen log p may.0, may.1)
node_may_later node core after given (HandsOver port) seen log p may = may

pub master_may_later : (state : MasterState) (event : MasterEvent) (act : MasterAct) (seen log : List RunEvent) → IsPrefix seen log
    → MasterMayDo (sent_in seen) state event act → MasterMayDo (sent_in log) state event act
master_may_later state event (Assigns config) seen log p may = may
master_may_later state event (Answers from ballot) seen log p may = (in_later (master, record { from = from; body = Activate ballot }) seen log p may.0, may.1)
