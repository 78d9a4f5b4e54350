-- Worked examples: which publications are retained, and who is sent them (MQTT 3.3.1.3).
use Rattle.std.specs.Prelude.{ℕ, Bool, true, false, List, [], ◌∷◌, ◌++◌, codes}
use Rattle.packet_base.specs.declared.qos.QoS.{QoS}
use Rattle.packet_base.specs.declared.qos.QoS.TheVariants as qos_levels
use Rattle.packet.specs.declared.delivery.Delivery.{Delivery}
use Rattle.packet.specs.declared.delivery.Delivery.TheVariants as deliveries
use Rattle.broker_spec.specs.Commands.{usual_limits}
use Rattle.broker_spec.specs.RowWords.{AreAnswered, a, b, connect, gets, sends, publish}
use Rattle.broker_spec.specs.RowWords.{subscribe, suback}
use Rattle.broker_spec.specs.declared.command.Command.{Command}
use Rattle.broker_spec.specs.declared.command.Output.{Output}

-- a sends these publications, b then subscribes to t/# at this QoS and is sent these outputs after
-- SUBACK
abbrev pub Retains : List Command → QoS → List Output → Type 0
Retains sent asked answers =
    AreAnswered usual_limits (connect 2 a ∷ sent ++ connect 1 b ∷ [])
    (gets 1 (subscribe 3 asked) ∷ [])
    ((sends 1 (suback 3 asked) ∷ answers) ∷ [])

-- a sends a payload on connection 2
abbrev pub sent_by_a : Delivery → Bool → List ℕ → Command
sent_by_a delivery retain payload = gets 2 (publish delivery retain payload)

-- to b, with RETAIN 1
abbrev pub retained_to_b : Delivery → List ℕ → List Output
retained_to_b delivery payload = sends 1 (publish delivery true payload) ∷ []

-- a retained publication keeps its own QoS, 0 included, and is sent at the lower of that and the
-- requested one
abbrev pub RetainedAtTheLowerQos : Type 0
RetainedAtTheLowerQos =
    Retains (sent_by_a (deliveries.ExactlyOnce false 1) true (codes "x") ∷ [])
    qos_levels.AtLeastOnce (retained_to_b (deliveries.AtLeastOnce false 1) (codes "x"))
    × Retains (sent_by_a (deliveries.AtLeastOnce false 1) true (codes "x") ∷ [])
    qos_levels.ExactlyOnce (retained_to_b (deliveries.AtLeastOnce false 1) (codes "x"))
    × Retains (sent_by_a deliveries.AtMostOnce true (codes "x") ∷ []) qos_levels.ExactlyOnce
    (retained_to_b deliveries.AtMostOnce (codes "x"))
    × Retains (sent_by_a (deliveries.ExactlyOnce false 1) true (codes "x") ∷ [])
    qos_levels.AtMostOnce (retained_to_b deliveries.AtMostOnce (codes "x"))

-- the last publication with RETAIN 1 is retained, none with RETAIN 0; an empty payload removes it
abbrev pub LastPutIsRetained : Type 0
LastPutIsRetained =
    Retains (sent_by_a deliveries.AtMostOnce false (codes "x") ∷ []) qos_levels.AtMostOnce []
    × Retains (sent_by_a deliveries.AtMostOnce true (codes "x")
    ∷ sent_by_a deliveries.AtMostOnce false (codes "y") ∷ [])
    qos_levels.AtMostOnce (retained_to_b deliveries.AtMostOnce (codes "x"))
    × Retains (sent_by_a deliveries.AtMostOnce true (codes "x")
    ∷ sent_by_a deliveries.AtMostOnce true (codes "y") ∷ [])
    qos_levels.AtMostOnce (retained_to_b deliveries.AtMostOnce (codes "y"))
    × Retains (sent_by_a deliveries.AtMostOnce true (codes "x")
    ∷ sent_by_a deliveries.AtMostOnce true [] ∷ [])
    qos_levels.AtMostOnce []
