use Rattle.std.proofs.Common.{◌++◌, false}
use Rattle.links.specs.message_form.Commands.{command_bytes}
use Rattle.links.specs.message_form.Numbers.{wide_number}
use Rattle.links.proofs.of_message_form.Appended.{on_ok, three}
use Rattle.links.proofs.of_message_form.Rooms.{later, on_err}
use Rattle.links.proofs.message_form.message_writers.write_append.Goals as goal

pub returns-clause-ok : goal.returns-clause-ok
returns-clause-ok c =
    on_ok c.write_command.result _ _ (λ h.
    three c.args.bytes.now.items (wide_number c.args.ballot) (wide_number c.args.place) (command_bytes c.args.command.now)
    c.write_wide_number.new.bytes.items c.write_wide_number-2.new.bytes.items c.write_command.new.bytes.items
    c.in_ok-write_wide_number.ensures.ok.items c.in_ok-write_wide_number-2.ensures.ok.items h) c.write_command.ensures.ok

pub returns-clause-err : goal.returns-clause-err
returns-clause-err c =
    on_err c.write_command.result _ _ (λ h.
    later c.args.bytes.now c.write_wide_number.new.bytes c.write_command.new.bytes (wide_number c.args.ballot) (wide_number c.args.place ++ command_bytes c.args.command.now) false
    c.in_ok-write_wide_number.ensures.ok
    (later c.write_wide_number.new.bytes c.write_wide_number-2.new.bytes c.write_command.new.bytes (wide_number c.args.place) (command_bytes c.args.command.now) false
    c.in_ok-write_wide_number-2.ensures.ok h)) c.write_command.ensures.err
