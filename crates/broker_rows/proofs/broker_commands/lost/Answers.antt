use Rattle.broker_rows.proofs.BrokerAnswers.{lost_gives}
use Rattle.broker_rows.proofs.broker_commands.lost.Goals as goal

pub returns : goal.returns
returns c =
    lost_gives _ _ _ _ _ c.in_ok-connection.ensures c.in_ok-done.ensures.sends c.in_ok-done.ensures.state
