use Rattle.std.proofs.Common.{refl}
use lib.Utf8.{encode}
use Rattle.std.specs.Str.{is_utf8, chars}
use Rattle.packet_base.specs.Readers.{number_at, text_at}
use Rattle.session_base.specs.Form.{flag_at}
use Rattle.links.specs.message_form.Numbers.{wide_number_at}
use Rattle.links.specs.message_form.CommandReading.{client_at}
use Rattle.links.specs.message_form.MessageReading.{message_at, whole_message}
use Rattle.links.specs.ParcelReading.{whole_notice, welcome_at, report_at, expel_at, status_at, role_at}
use Rattle.links.proofs.rows.each_parcel_has_its_bytes.Goals as goal

pub returns : goal.returns
unfolding whole_notice welcome_at report_at expel_at status_at role_at wide_number_at flag_at client_at text_at number_at message_at whole_message is_utf8 chars encode
returns c = record {
  written = (refl, (refl, (refl, (refl, (refl, tt)))));
  read = (refl, (refl, (refl, (refl, (refl, tt)))));
}
