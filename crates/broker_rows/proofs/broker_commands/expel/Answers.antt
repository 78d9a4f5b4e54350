use Rattle.broker_rows.proofs.BrokerAnswers.{expel_gives}
use Rattle.broker_rows.proofs.broker_commands.expel.Goals as goal

pub returns : goal.returns
returns c = expel_gives _ _ _ _ _ c.in_ok-client.ensures c.in_ok-done.ensures.sends c.in_ok-done.ensures.state
