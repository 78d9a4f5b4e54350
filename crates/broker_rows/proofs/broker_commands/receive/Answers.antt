use Rattle.broker_rows.proofs.BrokerAnswers.{receive_gives}
use Rattle.broker_rows.proofs.broker_commands.receive.Goals as goal

pub returns : goal.returns
returns c =
    receive_gives _ _ _ _ _ _ _ _ c.in_ok-connection.ensures c.as_slice.ensures c.in_ok-packet.ensures
    c.in_ok-done.ensures.sends c.in_ok-done.ensures.state
