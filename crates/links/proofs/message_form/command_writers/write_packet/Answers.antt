use Rattle.std.proofs.Common.{◌≡◌, ℕ, ◌<◌, ◌+◌, List, ◌++◌, length, Err, ap, ◌∙◌, subst, inl}
use Rattle.packet.specs.declared.packet.Packet.{Packet}
use Rattle.packet.specs.Spelling.{spelling}
use Rattle.links.proofs.of_message_form.Rooms.{packet_full, same_kept}
use Rattle.links.proofs.message_form.command_writers.write_packet.Goals as goal

pub returns-in-Ok-clause-ok : goal.returns-in-Ok-clause-ok
returns-in-Ok-clause-ok c =
    let a = c.in-Ok.ensures.ok in
    a.2 ∙ ap (λ (z : List ℕ). c.args.bytes.now.items ++ z)
    ((c.spelling_spells.ensures c.packet.result.now c.in-Ok.ensures.fits).1 a.0 a.1 ∙ ap spelling c.packet.ensures.value)

pub returns-in-Err-Memory-clause-err : goal.returns-in-Err-Memory-clause-err
returns-in-Err-Memory-clause-err c = record {
  kept = same_kept c.args.bytes.now.items c.encode.new.out.items c.in-Err-Memory.ensures.err;
  lack = inl (subst (λ (p : Packet). c.args.bytes.now.cap < c.args.bytes.now.len + length (spelling p)) c.packet.ensures.value
      (packet_full c.packet.result.now c.args.bytes.now.len c.args.bytes.now.cap (λ room. c.encode.ensures.room room (c.in-Err-Memory.is ∙ ap Err c.in-Err-Memory.field-0-is))));
}
