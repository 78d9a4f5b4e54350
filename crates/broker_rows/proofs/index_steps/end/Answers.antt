use Rattle.broker_rows.proofs.IndexAnswers.{end_gives}
use Rattle.broker_rows.proofs.index_steps.end.Goals as goal

pub returns : goal.returns
returns g c = end_gives _ _ _ _ _ c.in_ok-client.ensures c.new.ensures.items c.drop_client.ensures
