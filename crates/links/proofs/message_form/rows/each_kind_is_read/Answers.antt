use Rattle.std.proofs.Common.{refl}
use lib.Utf8.{encode}
use Rattle.std.specs.Str.{is_utf8, chars}
use Rattle.packet_base.specs.Readers.{number_at, id_at, text_at, length_at}
use Rattle.packet_base.specs.TopicFields.{topic_at}
use Rattle.packet.specs.Connect.{connect_of}
use Rattle.packet.specs.Delivery.{delivery_at}
use Rattle.packet.specs.Publish.{publish_of}
use Rattle.packet.specs.Verdict.{verdict}
use Rattle.session_base.specs.Counted.{items_after, counted_items_at}
use Rattle.session_base.specs.Form.{flag_at, long_number_at}
use Rattle.links.specs.message_form.Numbers.{wide_number_at}
use Rattle.links.specs.message_form.CommandReading.{name_at, client_at, connect_at, packet_at, lost_at, start_at, expel_at, command_at}
use Rattle.links.specs.message_form.LogReading.{members_at, whole_command, sized_command_at, log_at}
use Rattle.links.specs.message_form.MessageReading.{pair_at, new_ballot_at, ballot_log_at, append_at, message_at, whole_message}
use Rattle.links.proofs.message_form.rows.each_kind_is_read.Goals as goal

pub returns : goal.returns
unfolding number_at id_at text_at length_at topic_at connect_of delivery_at publish_of verdict items_after counted_items_at flag_at long_number_at wide_number_at name_at client_at connect_at packet_at lost_at start_at expel_at command_at members_at whole_command sized_command_at log_at pair_at new_ballot_at ballot_log_at append_at message_at whole_message is_utf8 chars encode
returns c = record {
  numbers = (refl, (refl, (refl, (refl, (refl, (refl, (refl, tt)))))));
  members = (refl, tt);
  commands = (refl, (refl, (refl, (refl, (refl, (refl, tt))))));
  logs = (refl, (refl, tt));
}
