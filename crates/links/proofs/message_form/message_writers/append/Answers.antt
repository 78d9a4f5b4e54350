use Rattle.std.proofs.Common.{[], ◌∷◌}
use Rattle.links.specs.message_form.Messages.{body_bytes, kind_of}
use Rattle.links.specs.message_form.Room.{has_commands}
use Rattle.links.proofs.of_message_form.Appended.{on_ok}
use Rattle.links.proofs.of_message_form.Rooms.{later, on_err}
use Rattle.links.proofs.message_form.message_writers.append.Goals as goal

pub returns-clause-fits : goal.returns-clause-fits
returns-clause-fits c = on_ok c.write_body.result _ _ (λ h. (c.write_head.ensures.fits, h)) c.write_body.ensures.fits

pub returns-clause-err : goal.returns-clause-err
returns-clause-err c =
    on_err c.write_body.result _ _ (λ h.
    later c.args.bytes.now c.write_head.new.bytes c.write_body.new.bytes (kind_of c.args.message.now.body ∷ c.args.message.now.from ∷ []) (body_bytes c.args.message.now.body)
    (has_commands c.args.message.now.body) c.in_ok-write_head.ensures.ok h)
    c.write_body.ensures.err
