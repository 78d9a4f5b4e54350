-- Quality of Service (MQTT 4.3).
use Rattle.std.specs.Prelude.{ℕ, ◌==◌, nat_lt, if◌then◌else◌, Result, Ok, Option, Some, None}
use Rattle.topics.specs.declared.malformed.MalformedKind.TheVariants as kinds
use Rattle.packet_base.specs.declared.stop.Stop.{Stop}
use Rattle.packet_base.specs.Readers.{malformed}
use Rattle.packet_base.specs.declared.qos.QoS.{QoS}
use Rattle.packet_base.specs.declared.qos.QoS.TheVariants as qos_levels

-- the number of a QoS
abbrev pub qos_number : QoS → ℕ
qos_number qos_levels.AtMostOnce = 0
qos_number qos_levels.AtLeastOnce = 1
qos_number qos_levels.ExactlyOnce = 2

-- the QoS with this number; above 2 there is none
abbrev pub qos_of : ℕ → Result QoS Stop
qos_of number =
    if number == 0 then Ok qos_levels.AtMostOnce else
    if number == 1 then Ok qos_levels.AtLeastOnce else
    if number == 2 then Ok qos_levels.ExactlyOnce else malformed kinds.Qos

-- the lower of two QoS
abbrev pub lower_qos : QoS → QoS → QoS
lower_qos one other = if nat_lt (qos_number other) (qos_number one) then other else one

-- the greater of two QoS; `None` is below every QoS
abbrev pub greater_qos : QoS → Option QoS → QoS
greater_qos one None = one
greater_qos one (Some other) = if nat_lt (qos_number one) (qos_number other) then other else one
