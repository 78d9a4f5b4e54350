-- What fields of steps and answers stand for.
use Rattle.std.specs.Prelude.{List, codes}
use Rattle.rows.specs.Fields.{Text}
use Rattle.rows.specs.Answers.{word}
use Rattle.packet.specs.Spelling.{spelling}
use Rattle.packet.specs.declared.packet.Packet.{Packet}
use Rattle.packet_base.specs.declared.qos.QoS.{QoS}
use Rattle.packet_base.specs.declared.qos.QoS.TheVariants as qos_levels

-- the digit of a QoS
abbrev pub qos_text : QoS → Text
qos_text qos_levels.AtMostOnce = codes "0"
qos_text qos_levels.AtLeastOnce = codes "1"
qos_text qos_levels.ExactlyOnce = codes "2"

-- the bytes of a packet
abbrev pub packet_fields : Packet → List Text
packet_fields packet = word (spelling packet)
