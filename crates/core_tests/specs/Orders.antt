-- Which of two faults counts, what a rule leaves out, and which messages of the protocol change
-- nothing: at places that no other worked example reaches.
use Rattle.std.specs.Prelude.{◌≡◌, ◌≤◌, ◌<◌, ℕ, true, false, [], ◌∷◌, ◌++◌, Some, Err, codes, if◌then◌else◌}
use Rattle.std.specs.Prelude.{replicate}
use Rattle.std.specs.List.{AllByRecursion}
use Rattle.machine.specs.Machine.{Rules}
use Rattle.topics.specs.Matching.{is_match}
use Rattle.topics.specs.Text.{filter_fault}
use Rattle.topics.specs.declared.malformed.MalformedKind.TheVariants as kinds
use Rattle.packet_base.specs.ClientId.{client_fault}
use Rattle.packet_base.specs.declared.qos.QoS.TheVariants as qos_levels
use Rattle.packet_base.specs.declared.stop.Stop.TheVariants as stops
use Rattle.packet.specs.Verdict.{verdict}
use Rattle.packet.specs.declared.delivery.Delivery.TheVariants as deliveries
use Rattle.broker_spec.specs.RowWords.{AreAnswered, b, nth, connect, connack, gets, sends, publish, publications, small, subscribed_at}
use Rattle.broker_spec.specs.declared.command.Command.TheVariants as commands
use Rattle.broker_spec.specs.declared.command.Output.TheVariants.{Close}
use Rattle.ballot_base.specs.declared.status.Progress.{Progress}
use Rattle.ballot_base.specs.Activation.{on_installed}
use Rattle.ballot_base.specs.Logs.{places}
use Rattle.ballot_base.specs.Replica.{ReplicaState}
use Rattle.ballot_base.specs.Service.{commit, leads, on_commit, on_held}
use Rattle.ballot_base.specs.StepOutcome.{nothing_done}

-- ---- which of two faults counts

-- a `#` that is not last is told before too many levels, and an identifier of 65 zero bytes by its
-- length (MQTT 4.7.1.2, 3.1.3.1)
abbrev pub FirstFaultsOfTexts : Type 0
FirstFaultsOfTexts =
    (filter_fault (35 ∷ replicate 33 47) ≡ Some kinds.Filter)
    × (client_fault (replicate 65 0) ≡ Some kinds.Identifier)

-- a CONNECT that is shorter than the protocol's name has not that name (MQTT 3.1.2.1)
abbrev pub ShortConnectsHaveAnotherProtocol : Type 0
ShortConnectsHaveAnotherProtocol =
    (verdict (0x10 ∷ 0x00 ∷ []) ≡ Err (stops.Malformed kinds.Protocol))
    × (verdict (0x10 ∷ 0x05 ∷ 0x00 ∷ 0x04 ∷ 0x4D ∷ 0x51 ∷ 0x54 ∷ [])
    ≡ Err (stops.Malformed kinds.Protocol))

-- ---- what a rule leaves out

-- a filter that begins with a wildcard matches no topic that begins with `$` (MQTT 4.7.2)
abbrev pub WildcardsHideFromDollar : Type 0
WildcardsHideFromDollar =
    (is_match (codes "#") (codes "$b") ≡ false)
    × (is_match (codes "+/a") (codes "$b/a") ≡ false)
    × (is_match (codes "+") (codes "b") ≡ true)
    × (is_match (codes "$b/+") (codes "$b/a") ≡ true)

-- b holds two unfinished entries, which is all that fits. A publication at QoS 2 is refused. One at
-- QoS 0 takes no room: it is taken, and sent to b.
abbrev pub FullSessionTakesQoS0 : Type 0
FullSessionTakesQoS0 =
    AreAnswered (small 2 16) (subscribed_at qos_levels.ExactlyOnce ++ publications 2)
    (gets 2 (publish deliveries.AtMostOnce false (codes "x"))
    ∷ gets 2 (publish (deliveries.ExactlyOnce false 9) false (codes "y")) ∷ [])
    ((sends 1 (publish deliveries.AtMostOnce false (codes "x")) ∷ []) ∷ (Close (nth 2) ∷ []) ∷ [])

-- a clean Connect that finds a session is told that none is present, and so is the next one that is
-- not clean (MQTT 3.2.2.2)
abbrev pub CleanConnectsFindNothing : Type 0
CleanConnectsFindNothing =
    AreAnswered (small 4 16) (connect 1 b ∷ [])
    (commands.Connect (nth 2) b true ∷ connect 3 b ∷ connect 4 b ∷ [])
    ((Close (nth 1) ∷ sends 2 (connack false) ∷ [])
    ∷ (Close (nth 2) ∷ sends 3 (connack false) ∷ [])
    ∷ (Close (nth 3) ∷ sends 4 (connack true) ∷ []) ∷ [])

-- ---- which messages of the protocol change nothing

-- a Held of no more places than is known of each member raises nothing
abbrev pub LateHeldsLowerNothing : {S C O : Type 0} → Rules S C O → Type 0
LateHeldsLowerNothing {S = S} {C = C} {O = O} rules =
    (replica : ReplicaState S C) (from ballot held : ℕ) →
    AllByRecursion (λ (reached : Progress). held ≤ reached.held) replica.progress →
    on_held rules replica from ballot held
    ≡ (if leads replica ballot then commit rules replica else nothing_done O replica)

-- a Commit of more places than the log has is ignored
abbrev pub CommitsOverTheLengthAreNothing : {S C O : Type 0} → Rules S C O → Type 0
CommitsOverTheLengthAreNothing {S = S} {C = C} {O = O} rules =
    (replica : ReplicaState S C) (ballot held : ℕ) →
    places replica.log < held → on_commit rules replica ballot held ≡ nothing_done O replica

-- once all members have the log, an Installed that comes again sends no second Activate
abbrev pub InstalledAgainIsNothing : {S C O : Type 0} → Rules S C O → Type 0
InstalledAgainIsNothing {S = S} {C = C} {O = O} rules =
    (replica : ReplicaState S C) (from ballot : ℕ) →
    replica.lacking ≡ [] → on_installed O replica from ballot ≡ nothing_done O replica
