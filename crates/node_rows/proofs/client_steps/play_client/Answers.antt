use Rattle.node_rows.proofs.ClientStepAnswers.{from_new}
use Rattle.node_rows.proofs.client_steps.play_client.Goals as goal

pub returns : goal.returns
returns c = λ agrees. from_new c.new.result c.args.client c.args.steps.now c.new.ensures (c.play_steps-outcome.ensures agrees)
