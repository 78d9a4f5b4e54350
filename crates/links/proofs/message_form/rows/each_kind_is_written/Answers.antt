use Rattle.std.proofs.Common.{refl}
use lib.Utf8.{encode}
use Rattle.packet.specs.Spelling.{spelling}
use Rattle.links.proofs.message_form.rows.each_kind_is_written.Goals as goal

pub returns : goal.returns
unfolding spelling encode
returns c = record {
  numbers = (refl, (refl, (refl, (refl, (refl, (refl, (refl, tt)))))));
  members = (refl, tt);
  commands = (refl, (refl, (refl, (refl, (refl, (refl, tt))))));
  logs = (refl, (refl, tt));
}
