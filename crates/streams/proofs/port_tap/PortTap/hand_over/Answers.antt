use Rattle.std.proofs.Common.{[], sym}
use Rattle.std.proofs.lemmas.List.{append-nil}
use Rattle.streams.specs.Taps.HandsOut.{refuses}
use Rattle.streams.proofs.port_tap.PortTap.hand_over.Goals as goal

pub returns-else-is_next-clause-ok : goal.returns-else-is_next-clause-ok
returns-else-is_next-clause-ok g c = record { bytes = []; handed = refuses; is = sym (append-nil c.args.out.now.items) }
