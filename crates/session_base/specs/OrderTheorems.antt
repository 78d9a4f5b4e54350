-- Theorems about acknowledgements, and about the order in flight (MQTT 4.3.2, 4.3.3, 4.4).
use Rattle.std.specs.Prelude.{◌≡◌, ℕ, true, false, ◌⊎◌, List, [], ◌∷◌, ◌++◌, length, filter}
use Rattle.std.specs.List.{list_any}
use Rattle.packet.specs.declared.packet.Packet.TheVariants as packets
use Rattle.packet_base.specs.declared.qos.QoS.TheVariants as qos_levels
use Rattle.session_base.specs.declared.publication.Publication.{Publication}
use Rattle.session_base.specs.declared.awaits.Awaits.TheVariants as waits_for
use Rattle.session_base.specs.Publication.{publish_for}
use Rattle.lists.specs.Lists.{IsDistinct}
use Rattle.session_base.specs.Queue.{Flight, ids_of, awaited, is_released, awaits_puback}
use Rattle.session_base.specs.Queue.{awaits_pubrec, awaits_pubcomp, on_puback, on_pubrec}
use Rattle.session_base.specs.Queue.{on_pubcomp, fill}
use Rattle.session_base.specs.EntryPackets.{resend}

-- none of these is released
abbrev pub NoneReleased : List Flight → Type 0
NoneReleased (flight ∷ flights) = (is_released flight ≡ false) × NoneReleased flights
NoneReleased [] = Unit {0}

-- the released entries come before all others
abbrev pub IsReleasedFirst : List Flight → Type 0
IsReleasedFirst (flight ∷ flights) =
    ((is_released flight ≡ true) × IsReleasedFirst flights) ⊎ NoneReleased (flight ∷ flights)
IsReleasedFirst [] = Unit {0}

-- ---- acknowledgements

-- an acknowledgement for which no entry waits changes nothing
abbrev pub OtherAnswersChangeNothing : Type 0
OtherAnswersChangeNothing =
    (id : ℕ) → (flights : List Flight) →
    (list_any (awaits_puback id) flights ≡ false → on_puback id flights ≡ flights)
    × (list_any (awaits_pubrec id) flights ≡ false → on_pubrec id flights ≡ flights)
    × (list_any (awaits_pubcomp id) flights ≡ false → on_pubcomp id flights ≡ flights)

-- a second PUBREC changes nothing
abbrev pub SecondPubrecChangesNothing : Type 0
SecondPubrecChangesNothing =
    (id : ℕ) → (flights : List Flight) → on_pubrec id (on_pubrec id flights) ≡ on_pubrec id flights

-- a released entry comes directly after those that were released before
abbrev pub ReleasedComesLast : Type 0
ReleasedComesLast =
    (id : ℕ) → (flights : List Flight) → list_any (awaits_pubrec id) flights ≡ true →
    filter is_released (on_pubrec id flights)
    ≡ filter is_released flights ++ (id, waits_for.Pubcomp) ∷ []

-- acknowledgements leave the identifiers distinct, and PUBREC leaves as many in flight
abbrev pub AnswersKeepApart : Type 0
AnswersKeepApart =
    (id : ℕ) → (flights : List Flight) → IsDistinct (ids_of flights) →
    IsDistinct (ids_of (on_puback id flights)) × IsDistinct (ids_of (on_pubrec id flights))
    × IsDistinct (ids_of (on_pubcomp id flights)) × (length (on_pubrec id flights) ≡ length flights)

-- ---- the order in flight

-- released entries stay first
abbrev pub KeepsReleasedFirst : Type 0
KeepsReleasedFirst =
    (flights : List Flight) → IsReleasedFirst flights →
    ((id : ℕ) → IsReleasedFirst (on_puback id flights))
    × ((id : ℕ) → IsReleasedFirst (on_pubrec id flights))
    × ((id : ℕ) → IsReleasedFirst (on_pubcomp id flights))
    × ((window : ℕ) → (waiting : List Publication)
    → IsReleasedFirst (fill window flights waiting).in_flight)

-- retransmission follows the order in flight, with PUBREL for a released entry and PUBLISH with DUP
-- 1 for any other
abbrev pub ResendsInOrder : Type 0
ResendsInOrder =
    ((flights others : List Flight) → resend (flights ++ others) ≡ resend flights ++ resend others)
    × ((id : ℕ) → resend ((id, waits_for.Pubcomp) ∷ []) ≡ packets.Pubrel id ∷ [])
    × ((id : ℕ) → (publication : Publication)
    → resend ((id, waits_for.Puback publication) ∷ [])
    ≡ packets.Publish (publish_for true id publication) ∷ [])
    × ((id : ℕ) → (publication : Publication)
    → resend ((id, waits_for.Pubrec publication) ∷ [])
    ≡ packets.Publish (publish_for true id publication) ∷ [])

-- A sent entry of QoS 1 is finished by its PUBACK, and a PUBREC does not change it. One of QoS 2 is
-- released by its PUBREC and finished by the PUBCOMP after it, and a PUBACK does not change it
-- (MQTT 4.3.2, 4.3.3).
abbrev pub AnswersFitTheQoS : Type 0
AnswersFitTheQoS =
    (id : ℕ) → (publication : Publication) →
    (publication.qos ≡ qos_levels.AtLeastOnce →
    (on_puback id ((id, awaited publication) ∷ []) ≡ [])
    × (on_pubrec id ((id, awaited publication) ∷ []) ≡ (id, awaited publication) ∷ []))
    × (publication.qos ≡ qos_levels.ExactlyOnce →
    (on_puback id ((id, awaited publication) ∷ []) ≡ (id, awaited publication) ∷ [])
    × (on_pubrec id ((id, awaited publication) ∷ []) ≡ (id, waits_for.Pubcomp) ∷ [])
    × (on_pubcomp id (on_pubrec id ((id, awaited publication) ∷ [])) ≡ []))
