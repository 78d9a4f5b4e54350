use Rattle.std.proofs.Common.{length, nat_lt}
use Rattle.links.specs.message_form.Numbers.{wide_number}
use Rattle.links.specs.message_form.Messages.{log_bytes}
use Rattle.links.proofs.of_message_form.Appended.{on_ok, two}
use Rattle.links.proofs.of_message_form.Rooms.{later, on_err}
use Rattle.links.proofs.message_form.message_writers.write_ballot_log.Goals as goal

pub returns-clause-ok : goal.returns-clause-ok
returns-clause-ok c =
    on_ok c.write_log.result _ _ (λ h.
    two c.args.bytes.now.items (wide_number c.args.ballot) (log_bytes c.args.log.now) c.write_wide_number.new.bytes.items _
    c.in_ok-write_wide_number.ensures.ok.items h) c.write_log.ensures.ok

pub returns-clause-err : goal.returns-clause-err
returns-clause-err c =
    on_err c.write_log.result _ _ (λ h.
    later c.args.bytes.now c.write_wide_number.new.bytes c.write_log.new.bytes (wide_number c.args.ballot) (log_bytes c.args.log.now) (nat_lt 0 (length c.args.log.now.rest))
    c.in_ok-write_wide_number.ensures.ok h) c.write_log.ensures.err
