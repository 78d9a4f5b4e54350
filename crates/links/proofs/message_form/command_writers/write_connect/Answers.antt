use Rattle.std.proofs.Common.{[], ◌∷◌, ◌++◌, false}
use Rattle.packet_base.specs.Spelling.{bit, text}
use Rattle.links.specs.message_form.Commands.{name_bytes}
use Rattle.links.proofs.of_message_form.Appended.{on_ok}
use Rattle.links.proofs.of_message_form.Rooms.{both, later, on_err}
use Rattle.links.proofs.message_form.command_writers.write_connect.Goals as goal

pub returns-clause-ok : goal.returns-clause-ok
returns-clause-ok c =
    on_ok c.write_flag.result _ _ (λ h.
    both c.args.bytes.now c.write_bytes.new.bytes c.write_flag.new.bytes (1 ∷ []) (name_bytes c.args.name ++ (text c.args.client.now ++ bit c.args.clean ∷ [])) c.in_ok-write_bytes.ensures.ok
    (both c.write_bytes.new.bytes c.write_name.new.bytes c.write_flag.new.bytes (name_bytes c.args.name) (text c.args.client.now ++ bit c.args.clean ∷ []) c.in_ok-write_name.ensures.ok
    (both c.write_name.new.bytes c.write_client.new.bytes c.write_flag.new.bytes (text c.args.client.now) (bit c.args.clean ∷ []) c.in_ok-write_client.ensures.ok h)))
    c.write_flag.ensures.ok

pub returns-clause-err : goal.returns-clause-err
returns-clause-err c =
    on_err c.write_flag.result _ _ (λ h.
    later c.args.bytes.now c.write_bytes.new.bytes c.write_flag.new.bytes (1 ∷ []) (name_bytes c.args.name ++ (text c.args.client.now ++ bit c.args.clean ∷ [])) false c.in_ok-write_bytes.ensures.ok
    (later c.write_bytes.new.bytes c.write_name.new.bytes c.write_flag.new.bytes (name_bytes c.args.name) (text c.args.client.now ++ bit c.args.clean ∷ []) false c.in_ok-write_name.ensures.ok
    (later c.write_name.new.bytes c.write_client.new.bytes c.write_flag.new.bytes (text c.args.client.now) (bit c.args.clean ∷ []) false c.in_ok-write_client.ensures.ok h)))
    c.write_flag.ensures.err
