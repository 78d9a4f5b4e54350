use Rattle.broker_rows.proofs.BrokerAnswers.{restart_gives}
use Rattle.broker_rows.proofs.broker_commands.restart.Goals as goal

pub returns : goal.returns
returns c = restart_gives _ _ _ _ _ c.in_ok-ballot.ensures c.in_ok-done.ensures.sends c.in_ok-done.ensures.state
