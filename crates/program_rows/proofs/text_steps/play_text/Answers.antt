use Rattle.program_rows.proofs.KindAnswers.{from_nothing}
use Rattle.program_rows.proofs.text_steps.play_text.Goals as goal

pub returns : goal.returns
returns c = λ agrees. from_nothing (record { text = c.new.result }) c.args.steps.now c.new.ensures.items (c.play_steps-outcome.ensures agrees)
