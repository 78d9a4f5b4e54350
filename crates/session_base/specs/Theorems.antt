-- Theorems about a fill: what it starts, with which identifiers, and what it sends (MQTT 4.3, 4.4,
-- 4.6).
use Rattle.std.specs.Prelude.{◌≡◌, ℕ, ◌≤◌, ◌<◌, suc, true, false, ◌⊎◌, List, [], ◌∷◌, ◌++◌, length}
use Rattle.std.specs.Prelude.{map, filter, take, drop}
use Rattle.packet.specs.declared.packet.Packet.{Packet}
use Rattle.packet.specs.declared.packet.Packet.TheVariants as packets
use Rattle.session_base.specs.declared.publication.Publication.{Publication}
use Rattle.session_base.specs.declared.awaits.Awaits.{Awaits}
use Rattle.session_base.specs.declared.awaits.Awaits.TheVariants as waits_for
use Rattle.session_base.specs.Publication.{publish_for, is_answered}
use Rattle.lists.specs.Lists.{has_id, IsDistinct}
use Rattle.session_base.specs.Identifiers.{least_free}
use Rattle.session_base.specs.Queue.{Flight, ids_of, fill}
use Rattle.session_base.specs.Copies.{copies_left}
use Rattle.session_base.specs.EntryPackets.{fill_sends}

-- the publications in flight; a released entry keeps none
abbrev pub publications_in_flight : List Flight → List Publication
publications_in_flight ((id, waits_for.Puback publication) ∷ flights) =
    publication ∷ publications_in_flight flights
publications_in_flight ((id, waits_for.Pubrec publication) ∷ flights) =
    publication ∷ publications_in_flight flights
publications_in_flight ((id, waits_for.Pubcomp) ∷ flights) = publications_in_flight flights
publications_in_flight [] = []

-- the first PUBLISH of an entry, with DUP 0
abbrev pub first_sent : ℕ → Awaits → Packet
first_sent id (waits_for.Puback publication) = packets.Publish (publish_for false id publication)
first_sent id (waits_for.Pubrec publication) = packets.Publish (publish_for false id publication)
first_sent id waits_for.Pubcomp = packets.Pubrel id

-- ---- identifiers

-- the least free number is at least 1, at most one more than how many are busy, and not busy, and
-- each smaller one is busy
abbrev pub IsLeastFree : Type 0
IsLeastFree =
    (busy : List ℕ) →
    (1 ≤ least_free busy) × (least_free busy ≤ suc (length busy))
    × (has_id (least_free busy) busy ≡ false)
    × ((id : ℕ) → 1 ≤ id → id < least_free busy → has_id id busy ≡ true)

-- a fill leaves the identifiers distinct
abbrev pub FillKeepsApart : Type 0
FillKeepsApart =
    (window : ℕ) → (flights : List Flight) → (waiting : List Publication) →
    IsDistinct (ids_of flights) → IsDistinct (ids_of (fill window flights waiting).in_flight)

-- ---- a fill

-- after a fill no publication waits, or the window is full
abbrev pub FillIsDone : Type 0
FillIsDone =
    (window : ℕ) → (flights : List Flight) → (waiting : List Publication) →
    ((fill window flights waiting).waiting ≡ [])
    ⊎ (window ≤ length (fill window flights waiting).in_flight)

-- a fill does not exceed the window
abbrev pub FillStaysWithin : Type 0
FillStaysWithin =
    (window : ℕ) → (flights : List Flight) → (waiting : List Publication) →
    length flights ≤ window → length (fill window flights waiting).in_flight ≤ window

-- a fill leaves what was in flight in front; no publication is lost or overtaken
abbrev pub FillKeepsOrder : Type 0
FillKeepsOrder =
    (window : ℕ) → (flights : List Flight) → (waiting : List Publication) →
    (take (length flights) (fill window flights waiting).in_flight ≡ flights)
    × (publications_in_flight (fill window flights waiting).in_flight
    ++ (fill window flights waiting).waiting
    ≡ publications_in_flight flights ++ waiting)

-- a fill sends what it starts, with DUP 0, and nothing else
abbrev pub FillSendsWhatStarts : Type 0
FillSendsWhatStarts =
    (window : ℕ) → (flights : List Flight) → (waiting : List Publication) →
    fill_sends window flights waiting
    ≡ map (λ flight. first_sent flight.0 flight.1)
    (drop (length flights) (fill window flights waiting).in_flight)

-- two fills, with more waiting publications before the second, are one fill, and send the same
abbrev pub FillsJoin : Type 0
FillsJoin =
    (window : ℕ) → (flights : List Flight) → (waiting more : List Publication) →
    let first = fill window flights waiting in
    (fill window first.in_flight (first.waiting ++ more) ≡ fill window flights (waiting ++ more))
    × (fill_sends window flights waiting
    ++ fill_sends window first.in_flight (first.waiting ++ more)
    ≡ fill_sends window flights (waiting ++ more))

-- a filled queue: no publication waits, or the window is full
abbrev pub IsFilledQueue : ℕ → List Flight → List Publication → Type 0
IsFilledQueue window flights waiting = (waiting ≡ []) ⊎ (window ≤ length flights)

-- copies that are added one by one to a filled queue leave what one fill after all of them leaves
abbrev pub CopiesAreOneFill : Type 0
CopiesAreOneFill =
    (window : ℕ) → (flights : List Flight) → (waiting copies : List Publication) →
    IsFilledQueue window flights waiting →
    copies_left window copies (record { in_flight = flights; waiting = waiting })
    ≡ fill window flights (waiting ++ filter (λ publication. is_answered publication.qos) copies)
