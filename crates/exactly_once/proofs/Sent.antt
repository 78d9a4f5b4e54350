-- The packets that a place sends for the entries that start there are the PUBLISHes of the handshake's starts.
use Rattle.std.proofs.Common.{◌≡◌, ℕ, Bool, true, false, ◌==◌, nat_lt, if◌then◌else◌, List, [], ◌∷◌, ◌++◌, length, map, refl, ap, ◌∙◌, arith}
use Rattle.packet_base.specs.declared.qos.QoS.{QoS}
use Rattle.packet_base.specs.declared.qos.QoS.TheVariants as qos_levels
use Rattle.packet.specs.declared.packet.Packet.{Packet}
use Rattle.packet.specs.declared.packet.Packet.TheVariants as packets
use Rattle.session_base.specs.declared.publication.Publication.{Publication}
use Rattle.session_base.specs.Publication.{publish_for}
use Rattle.session_base.specs.Identifiers.{least_free}
use Rattle.broker_spec.specs.Connection.{ConnectionName}
use Rattle.broker_spec.specs.Entries.{Entry}
use Rattle.broker_spec.specs.Times.{start_all}
use Rattle.broker_spec.specs.Sends.{publish_output, first_output, all_started}
use Rattle.broker_spec.specs.declared.command.Output.{Output}
use Rattle.exactly_once.specs.Handshake.{Forward, publishing}
use Rattle.exactly_once.specs.Sends.{sends_to}
use Rattle.exactly_once.specs.Carried.{is_qos2}
use Rattle.exactly_once.specs.Inside.AsSubscriber.{forward_of}
use Rattle.exactly_once.proofs.Starts.{rows_started}
use Rattle.exactly_once.proofs.Takes.{same_name_self}

-- no entry started at this place yet
abbrev pub NoneStartedAt : ℕ → List Entry → Type 0
NoneStartedAt n (Entry.Sent made p id start ∷ es) = ((start == n) ≡ false) × NoneStartedAt n es
NoneStartedAt n (_ ∷ es) = NoneStartedAt n es
NoneStartedAt n [] = Unit {0}

-- a PUBLISH of QoS 2 is of the handshake, with its publication as it was
forward_fields : (dup : Bool) (id : ℕ) (retain : Bool) (q : QoS) (topic payload : List ℕ) (rest : List Packet)
    → forward_of (packets.Publish (publish_for dup id (record { retain = retain; qos = q; topic = topic; payload = payload })) ∷ rest)
    ≡ (if is_qos2 q then Forward.Publish id (record { retain = retain; qos = q; topic = topic; payload = payload }) ∷ forward_of rest else forward_of rest)
forward_fields dup id retain qos_levels.AtMostOnce topic payload rest = refl
forward_fields dup id retain qos_levels.AtLeastOnce topic payload rest = refl
forward_fields dup id retain qos_levels.ExactlyOnce topic payload rest = refl

pub forward_publish : (dup : Bool) (id : ℕ) (p : Publication) (rest : List Packet)
    → forward_of (packets.Publish (publish_for dup id p) ∷ rest) ≡ (if is_qos2 p.qos then Forward.Publish id p ∷ forward_of rest else forward_of rest)
forward_publish dup id p rest = forward_fields dup id p.retain p.qos p.topic p.payload rest

pub sends_publish : (x : ConnectionName) (dup : Bool) (id : ℕ) (p : Publication) (more : List Output) → sends_to x (publish_output x dup id p ∷ more) ≡ packets.Publish (publish_for dup id p) ∷ sends_to x more
sends_publish x dup id p more = ap (λ b. if b then packets.Publish (publish_for dup id p) ∷ sends_to x more else sends_to x more) (same_name_self x)

same_place : (n : ℕ) → (n == n) ≡ true
same_place n = grind arith

-- an entry that starts here is sent
here_sent : (x : ConnectionName) (n made : ℕ) (p : Publication) (id : ℕ) (more : List Output) → first_output x n (Entry.Sent made p id n) ++ more ≡ publish_output x false id p ∷ more
here_sent x n made p id more = ap (λ b. (if b then publish_output x false id p ∷ [] else []) ++ more) (same_place n)

elsewhere_sent : (x : ConnectionName) (n made : ℕ) (p : Publication) (id start : ℕ) (more : List Output) → (start == n) ≡ false → first_output x n (Entry.Sent made p id start) ++ more ≡ more
elsewhere_sent x n made p id start more e = ap (λ b. (if b then publish_output x false id p ∷ [] else []) ++ more) e

-- what waits is not sent
none_sent_waiting : (x : ConnectionName) (n : ℕ) (es : List Entry) → NoneStartedAt n es → all_started x n es ≡ []
none_sent_waiting x n [] h = refl
none_sent_waiting x n (Entry.Queued made p ∷ es) h = none_sent_waiting x n es h
none_sent_waiting x n (Entry.Sent made p id start ∷ es) h = elsewhere_sent x n made p id start (all_started x n es) h.0 ∙ none_sent_waiting x n es h.1
none_sent_waiting x n (Entry.Released made p id start release ∷ es) h = none_sent_waiting x n es h
none_sent_waiting x n (Entry.Done made p id start release finish ∷ es) h = none_sent_waiting x n es h

pub forward_started : (x : ConnectionName) (w n : ℕ) (ids : List ℕ) (es : List Entry) → NoneStartedAt n es
    → forward_of (sends_to x (all_started x n (start_all w n ids es))) ≡ map publishing (rows_started w ids es)
forward_started x w n ids [] h = refl
forward_started x w n ids (Entry.Sent made p id start ∷ es) h =
    ap (λ l. forward_of (sends_to x l)) (elsewhere_sent x n made p id start (all_started x n (start_all w n (id ∷ ids) es)) h.0) ∙ forward_started x w n (id ∷ ids) es h.1
forward_started x w n ids (Entry.Released made p id start release ∷ es) h = forward_started x w n (id ∷ ids) es h
forward_started x w n ids (Entry.Done made p id start release finish ∷ es) h = forward_started x w n ids es h
forward_started x w n ids (Entry.Queued made p ∷ es) h = by (nat_lt (length ids) w) (forward_started x w n (least_free ids ∷ ids) es h)
  where
    two : (b : Bool) → forward_of (sends_to x (all_started x n (start_all w n (least_free ids ∷ ids) es))) ≡ map publishing (rows_started w (least_free ids ∷ ids) es)
        → (if b then Forward.Publish (least_free ids) p ∷ forward_of (sends_to x (all_started x n (start_all w n (least_free ids ∷ ids) es))) else forward_of (sends_to x (all_started x n (start_all w n (least_free ids ∷ ids) es))))
        ≡ map publishing (if b then (least_free ids, p) ∷ rows_started w (least_free ids ∷ ids) es else rows_started w (least_free ids ∷ ids) es)
    two true ih = ap (λ l. Forward.Publish (least_free ids) p ∷ l) ih
    two false ih = ih

    by : (room : Bool) → forward_of (sends_to x (all_started x n (start_all w n (least_free ids ∷ ids) es))) ≡ map publishing (rows_started w (least_free ids ∷ ids) es)
        → forward_of (sends_to x (all_started x n (if room then Entry.Sent made p (least_free ids) n ∷ start_all w n (least_free ids ∷ ids) es else Entry.Queued made p ∷ es)))
        ≡ map publishing (if room then (if is_qos2 p.qos then (least_free ids, p) ∷ rows_started w (least_free ids ∷ ids) es else rows_started w (least_free ids ∷ ids) es) else [])
    by false ih = ap (λ l. forward_of (sends_to x l)) (none_sent_waiting x n es h)
    by true ih =
        ap (λ l. forward_of (sends_to x l)) (here_sent x n made p (least_free ids) (all_started x n (start_all w n (least_free ids ∷ ids) es)))
        ∙ ap forward_of (sends_publish x false (least_free ids) p (all_started x n (start_all w n (least_free ids ∷ ids) es)))
        ∙ forward_publish false (least_free ids) p (sends_to x (all_started x n (start_all w n (least_free ids ∷ ids) es)))
        ∙ two (is_qos2 p.qos) ih
