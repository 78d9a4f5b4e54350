use Rattle.std.proofs.Common.{◌++◌, ◌∷◌, [], List, Err, ap, ◌∙◌}
use Rattle.rows.specs.Fields.{Text}
use Rattle.packet_rows.proofs.StreamAnswers.{feed_failed, feed_piece}
use Rattle.packet_rows.proofs.stream_steps.feed.Goals as goal

pub returns-in_ok-goes_on-in-Ok : goal.returns-in_ok-goes_on-in-Ok
returns-in_ok-goes_on-in-Ok c = (
  c.in_ok-goes_on-in-Ok.ensures.0,
  feed_piece c.args.cutter.now c.feed.new.self c.take_all.new.cutter c.args.piece.now c.args.answers.now.items
      c.take_all.new.answers.items c.in-Ok.ensures.ok c.in_ok-goes_on-in-Ok.ensures.1,
)

pub returns-in_ok-push-in-Err-Failed : goal.returns-in_ok-push-in-Err-Failed
returns-in_ok-push-in-Err-Failed c =
    feed_failed c.args.cutter.now c.feed.new.self c.args.piece.now c.args.answers.now.items c.push.new.self.items
    (c.in-Err-Failed.ensures.failed.0 (ap Err c.in-Err-Failed.field-0-is)) c.in-Err-Failed.ensures.fault
    (c.in_ok-push-in-Err-Failed.ensures.items
    ∙ ap (λ (answer : List Text). c.args.answers.now.items ++ answer ∷ []) c.in_ok-counted-in-Err-Failed.ensures)
