-- One client's queue: entries in flight, waiting publications, and the effect of acknowledgements
-- (MQTT 4.3, 4.4, 4.6).
use Rattle.std.specs.Prelude.{ℕ, ◌+◌, ◌-◌, Bool, true, false, not, ◌&&◌, ◌==◌, nat_lt}
use Rattle.std.specs.Prelude.{if◌then◌else◌, List, [], ◌∷◌, ◌++◌, length, map, filter}
use Rattle.std.specs.List.{list_any}
use Rattle.session_base.specs.declared.publication.Publication.{Publication}
use Rattle.session_base.specs.declared.awaits.Awaits.{Awaits}
use Rattle.session_base.specs.declared.awaits.Awaits.TheVariants as waits_for
use Rattle.session_base.specs.Publication.{is_qos1}
use Rattle.session_base.specs.Identifiers.{least_free}

-- an entry in flight: its Packet Identifier, and the acknowledgement that it waits for
abbrev pub Flight : Type 0
Flight = ℕ × Awaits

-- In flight: the released entries in the order of their release, then the others in the order in
-- which they were sent. Waiting: the publications that are not sent yet, in order.
pub record Queue : Type 0 where
  pub in_flight : List Flight
  pub waiting : List Publication

-- nothing is in flight, and nothing waits
abbrev pub empty_queue : Queue
empty_queue = record { in_flight = []; waiting = [] }

-- the acknowledgement that a publication waits for once it is sent (MQTT 4.3.2, 4.3.3)
abbrev pub awaited : Publication → Awaits
awaited publication =
    if is_qos1 publication.qos then waits_for.Puback publication
    else waits_for.Pubrec publication

-- ---- acknowledgements

-- whether an entry in flight waits for PUBACK
abbrev pub is_puback : Awaits → Bool
is_puback (waits_for.Puback publication) = true
is_puback _ = false

-- whether an entry in flight waits for PUBREC
abbrev pub is_pubrec : Awaits → Bool
is_pubrec (waits_for.Pubrec publication) = true
is_pubrec _ = false

-- whether an entry in flight waits for PUBCOMP
abbrev pub is_pubcomp : Awaits → Bool
is_pubcomp waits_for.Pubcomp = true
is_pubcomp _ = false

-- whether this entry has the identifier and waits for PUBACK
abbrev pub awaits_puback : ℕ → Flight → Bool
awaits_puback id flight = (id == flight.0) && is_puback flight.1

-- whether this entry has the identifier and waits for PUBREC
abbrev pub awaits_pubrec : ℕ → Flight → Bool
awaits_pubrec id flight = (id == flight.0) && is_pubrec flight.1

-- whether this entry has the identifier and waits for PUBCOMP
abbrev pub awaits_pubcomp : ℕ → Flight → Bool
awaits_pubcomp id flight = (id == flight.0) && is_pubcomp flight.1

-- whether an entry in flight is released
abbrev pub is_released : Flight → Bool
is_released flight = is_pubcomp flight.1

-- PUBACK finishes the QoS 1 entry with this identifier (MQTT 4.3.2)
abbrev pub on_puback : ℕ → List Flight → List Flight
on_puback id = filter (λ flight. not (awaits_puback id flight))

-- the entry with this identifier is released: it moves directly after those that were released
-- before
abbrev pub released_with : ℕ → List Flight → List Flight
released_with id in_flight =
    filter is_released in_flight
    ++ (id, waits_for.Pubcomp)
    ∷ filter (λ flight. not (is_released flight) && not (awaits_pubrec id flight)) in_flight

-- PUBREC releases the QoS 2 entry with this identifier, if one waits for it (MQTT 4.3.3)
abbrev pub on_pubrec : ℕ → List Flight → List Flight
on_pubrec id in_flight =
    if list_any (awaits_pubrec id) in_flight then released_with id in_flight else in_flight

-- PUBCOMP finishes the released entry with this identifier (MQTT 4.3.3)
abbrev pub on_pubcomp : ℕ → List Flight → List Flight
on_pubcomp id = filter (λ flight. not (awaits_pubcomp id flight))

-- ---- waiting publications

-- a publication is appended
abbrev pub enqueue : Publication → Queue → Queue
enqueue publication queue =
    record { in_flight = queue.in_flight; waiting = queue.waiting ++ publication ∷ [] }

-- how many more entries fit into a queue with this limit
abbrev pub room : ℕ → Queue → ℕ
room limit queue = limit - (length queue.in_flight + length queue.waiting)

-- the identifiers in flight
abbrev pub ids_of : List Flight → List ℕ
ids_of = map (λ flight. flight.0)

-- the entry of a publication that starts: it gets the least identifier that is not in flight
abbrev pub started_flight : List Flight → Publication → Flight
started_flight in_flight publication = (least_free (ids_of in_flight), awaited publication)

-- while fewer entries are in flight than the window, the first waiting publication starts (MQTT
-- 4.6)
abbrev pub fill : ℕ → List Flight → List Publication → Queue
fill window in_flight (publication ∷ waiting) =
    if nat_lt (length in_flight) window
    then fill window (in_flight ++ started_flight in_flight publication ∷ []) waiting
    else record { in_flight = in_flight; waiting = publication ∷ waiting }
fill window in_flight [] = record { in_flight = in_flight; waiting = [] }

-- the queue after a fill
abbrev pub filled : ℕ → Queue → Queue
filled window queue = fill window queue.in_flight queue.waiting
