-- Worked examples: identifiers and the window of a session (MQTT 4.4, 4.6).
use Rattle.std.specs.Prelude.{ℕ, true, false, List, [], ◌∷◌, ◌++◌}
use Rattle.packet_base.specs.declared.qos.QoS.TheVariants as qos_levels
use Rattle.packet.specs.declared.packet.Packet.TheVariants as packets
use Rattle.broker_spec.specs.Commands.{usual_limits, limits_from}
use Rattle.broker_spec.specs.RowWords.{AreAnswered, b, nth, connect, gets, sends, connack, numbers, subscribed_at, publications, delivered}
use Rattle.broker_spec.specs.declared.command.Command.{Command}
use Rattle.broker_spec.specs.declared.command.Command.TheVariants as commands
use Rattle.broker_spec.specs.declared.command.Output.TheVariants.{Close}

-- b has subscribed at QoS 1, and a has sent this many publications
abbrev pub routed : ℕ → List Command
routed many = subscribed_at qos_levels.AtLeastOnce ++ publications many

-- with a window of 16 the 17th publication waits, is sent with the identifier that PUBACK frees,
-- and comes last when b reconnects (MQTT 4.4, 4.6)
abbrev pub PubackFreesItsIdentifier : Type 0
PubackFreesItsIdentifier =
    AreAnswered (limits_from 16) (routed 17) (gets 1 (packets.Puback 5) ∷ connect 3 b ∷ [])
    (delivered 1 false (5 ∷ [])
    ∷ (Close (nth 1) ∷ sends 3 (connack true)
    ∷ delivered 3 true (numbers 4 1 ++ numbers 11 6 ++ 5 ∷ [])) ∷ [])

-- with the usual window of 64 all 17 are sent at once, and PUBACK starts nothing
abbrev pub WideWindowSendsAll : Type 0
WideWindowSendsAll =
    AreAnswered usual_limits (routed 17) (gets 1 (packets.Puback 5) ∷ connect 3 b ∷ [])
    ([] ∷ (Close (nth 1) ∷ sends 3 (connack true) ∷ delivered 3 true (numbers 4 1 ++ numbers 12 6))
    ∷ [])

-- b is offline, and has 70 entries
abbrev pub seventy : List Command
seventy = subscribed_at qos_levels.AtLeastOnce ++ commands.Lost (nth 1) ∷ publications 70

-- of 70 entries 64 are sent, and PUBACK 1 sends the next with identifier 1
abbrev pub WindowOf64 : Type 0
WindowOf64 =
    AreAnswered usual_limits seventy (connect 3 b ∷ gets 3 (packets.Puback 1) ∷ [])
    ((sends 3 (connack true) ∷ delivered 3 false (numbers 64 1)) ∷ delivered 3 false (1 ∷ []) ∷ [])

-- a broker whose first window was 16 sends 16, and 64 once a new ballot has begun
abbrev pub WindowGrowsAtStart : Type 0
WindowGrowsAtStart =
    AreAnswered (limits_from 16) seventy (connect 3 b ∷ commands.Start 2 ∷ connect 4 b ∷ [])
    ((sends 3 (connack true) ∷ delivered 3 false (numbers 16 1)) ∷ []
    ∷ (sends 4 (connack true) ∷ delivered 4 true (numbers 16 1)
    ++ delivered 4 false (numbers 48 17)) ∷ [])
