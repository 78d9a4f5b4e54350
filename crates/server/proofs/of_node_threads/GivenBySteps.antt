-- GivenBySteps.antt: what the steps of a node give was sent by events of the run.
use Rattle.std.proofs.Common.{List}
use Rattle.broker_spec.specs.declared.command.Command.{Command}
use Rattle.broker_spec.specs.declared.command.Output.{Output}
use Rattle.ballot_base.specs.declared.message.Effect.{Effect}
use Rattle.node.specs.State.{NodeStateView, TakesOne, on_record}
use Rattle.run_history.specs.Log.{sent_in}
use Rattle.run_history.specs.Sending.{AllSent}
use Rattle.run_history.proofs.Sent.{took_sent}

pub given_more : (old new : NodeStateView) (before after : List (Effect Command Output)) → TakesOne old new before after
    → AllSent (sent_in old.log) before → AllSent (sent_in new.log) after
given_more old new before after takes given = took_sent (on_record old) (on_record new) takes.item before after takes.in_run given
