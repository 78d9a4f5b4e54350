use Rattle.std.proofs.Common.{List, ℕ, bytes_eq, ap, subst, ◌∙◌}
use Rattle.packet.specs.Spelling.{AppendsSpelling}
use Rattle.packet_rows.proofs.PacketAnswers.{written_so}
use Rattle.packet_rows.proofs.packet_steps.is_written_so.Goals as goal

pub returns-in-Ok : goal.returns-in-Ok
returns-in-Ok c =
    let P : List ℕ → Type 0 = λ old. AppendsSpelling old c.encode.new.out.items c.args.packet.now in
    written_so c.spelling_spells.ensures c.args.packet.now c.encode.new.out.items c.args.bytes.now c.eq.result c.in-Ok.ensures.fits
    (subst P c.new-out.ensures.items c.in-Ok.ensures.ok)
    (c.eq.ensures ∙ ap (λ (out : List ℕ). bytes_eq out c.args.bytes.now) c.as_slice.ensures.value)
