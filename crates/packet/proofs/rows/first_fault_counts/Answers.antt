use Rattle.std.proofs.Common.{refl}
use lib.Utf8.{encode}
use Rattle.std.specs.Str.{is_utf8, chars}
use Rattle.packet_base.specs.Lists.{items_of}
use Rattle.packet_base.specs.Readers.{number_at, id_at, text_at, length_at}
use Rattle.packet_base.specs.TopicFields.{topic_at, filter_at}
use Rattle.packet.specs.Connect.{connect_of}
use Rattle.packet.specs.Delivery.{delivery_at}
use Rattle.packet.specs.IdAlone.{id_alone_of}
use Rattle.packet.specs.Publish.{publish_of}
use Rattle.packet.specs.Suback.{suback_of, granted_at}
use Rattle.packet.specs.Subscribe.{subscribe_of, subscription_at}
use Rattle.packet.specs.Unsubscribe.{unsubscribe_of}
use Rattle.packet.specs.Verdict.{verdict}
use Rattle.packet.proofs.rows.first_fault_counts.Goals as goal

pub returns : goal.returns
unfolding verdict length_at connect_of publish_of delivery_at id_alone_of subscribe_of subscription_at suback_of granted_at unsubscribe_of items_of number_at id_at text_at topic_at filter_at is_utf8 chars encode
returns c = record {
  first_byte = (refl, (refl, (refl, (refl, (refl, (refl, tt))))));
  length = (refl, (refl, (refl, (refl, (refl, (refl, tt))))));
  publish = (refl, (refl, (refl, (refl, (refl, (refl, tt))))));
  id = (refl, (refl, (refl, (refl, (refl, tt)))));
  list = (refl, (refl, (refl, (refl, (refl, (refl, (refl, (refl, tt))))))));
  connect = (refl, (refl, (refl, (refl, (refl, (refl, (refl, (refl, (refl, tt)))))))));
}
