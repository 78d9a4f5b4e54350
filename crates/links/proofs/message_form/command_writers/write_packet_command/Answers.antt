use Rattle.std.proofs.Common.{[], ◌∷◌, ◌++◌, false}
use Rattle.packet.specs.Spelling.{spelling}
use Rattle.links.specs.message_form.Commands.{name_bytes}
use Rattle.links.proofs.of_message_form.Appended.{on_ok, three}
use Rattle.links.proofs.of_message_form.Rooms.{later, on_err}
use Rattle.links.proofs.message_form.command_writers.write_packet_command.Goals as goal

pub returns-clause-ok : goal.returns-clause-ok
returns-clause-ok c =
    on_ok c.write_packet.result _ _ (λ h.
    three c.args.bytes.now.items (2 ∷ []) (name_bytes c.args.name) (spelling c.args.packet.now) c.write_bytes.new.bytes.items c.write_name.new.bytes.items
    c.write_packet.new.bytes.items c.in_ok-write_bytes.ensures.ok.items c.in_ok-write_name.ensures.ok.items h) c.write_packet.ensures.ok

pub returns-clause-err : goal.returns-clause-err
returns-clause-err c =
    on_err c.write_packet.result _ _ (λ h.
    later c.args.bytes.now c.write_bytes.new.bytes c.write_packet.new.bytes (2 ∷ []) (name_bytes c.args.name ++ spelling c.args.packet.now) false c.in_ok-write_bytes.ensures.ok
    (later c.write_bytes.new.bytes c.write_name.new.bytes c.write_packet.new.bytes (name_bytes c.args.name) (spelling c.args.packet.now) false c.in_ok-write_name.ensures.ok h))
    c.write_packet.ensures.err
