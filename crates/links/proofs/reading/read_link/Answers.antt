use Rattle.std.proofs.Common.{sym, ◌∙◌}
use Rattle.links.proofs.HandedOver.{reads_failed, reads_lost, reads_piece}
use Rattle.links.proofs.reading.read_link.Goals as goal

pub returns-then-has_failed : goal.returns-then-has_failed
returns-then-has_failed g c = reads_failed c.args.reader.now _ _ (sym c.has_failed.ensures ∙ c.if-has_failed.true)

pub returns-in-Ok-hand_over : goal.returns-in-Ok-hand_over
returns-in-Ok-hand_over g c = reads_piece c.args.reader.now c.add.new.self c.hand_over.new.reader _ _ _ _ _ _ c.in-Ok.ensures.2 c.in-Ok-add.ensures.ok c.in-Ok-hand_over.ensures

pub returns-in-Err-hand_over : goal.returns-in-Err-hand_over
returns-in-Err-hand_over g c = reads_piece c.args.reader.now c.add.new.self c.hand_over.new.reader _ _ _ _ _ _ c.in-Ok.ensures.2 c.in-Ok-add.ensures.ok c.in-Err-hand_over.ensures

pub returns-in-Err-add : goal.returns-in-Err-add
returns-in-Err-add g c = reads_lost c.args.reader.now c.add.new.self c.in-Err-add.fault _ _ _ _ c.in-Ok.ensures.2 c.in-Err-add.ensures.fault c.in-Err-add.ensures.ended
