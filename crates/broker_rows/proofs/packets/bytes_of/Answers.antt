use Rattle.std.proofs.Common.{List, ℕ, subst}
use Rattle.packet.specs.Spelling.{AppendsSpelling}
use Rattle.broker_rows.proofs.PacketAnswers.{written}
use Rattle.broker_rows.proofs.packets.bytes_of.Goals as goal

pub returns-in-Ok : goal.returns-in-Ok
returns-in-Ok c =
    let P : List ℕ → Type 0 = λ old. AppendsSpelling old c.encode.new.out.items c.args.packet.now in
    written c.spelling_spells.ensures c.args.packet.now c.encode.new.out.items c.in-Ok.ensures.fits
    (subst P c.new-out.ensures.items c.in-Ok.ensures.ok)
