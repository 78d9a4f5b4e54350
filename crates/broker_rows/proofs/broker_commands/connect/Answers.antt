use Rattle.broker_rows.proofs.BrokerAnswers.{connect_gives}
use Rattle.broker_rows.proofs.broker_commands.connect.Goals as goal

pub returns : goal.returns
returns c =
    connect_gives _ _ _ _ _ _ _ _ _ c.in_ok-connection.ensures c.in_ok-client.ensures c.in_ok-clean.ensures
    c.in_ok-done.ensures.sends c.in_ok-done.ensures.state
