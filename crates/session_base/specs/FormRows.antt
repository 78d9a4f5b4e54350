-- Worked examples. A session with something in every part, its bytes written by hand: two filters,
-- two received identifiers, an entry in flight of each kind, two waiting publications. And a
-- publication: the bytes of its PUBLISH after the header, counted by hand.
use Rattle.std.specs.Prelude.{◌≡◌, ℕ, true, false, List, [], ◌∷◌, ◌++◌, codes}
use Rattle.packet_base.specs.declared.qos.QoS.{QoS}
use Rattle.packet_base.specs.declared.qos.QoS.TheVariants as qos_levels
use Rattle.session_base.specs.declared.publication.Publication.{Publication}
use Rattle.session_base.specs.declared.awaits.Awaits.TheVariants as waits_for
use Rattle.session_base.specs.Queue.{Queue}
use Rattle.session_base.specs.Session.{SessionState}
use Rattle.session_base.specs.Form.{state_bytes}

-- a publication at QoS 1
abbrev pub at_least_once : Publication
at_least_once =
    record {
      retain = false;
      qos = qos_levels.AtLeastOnce;
      topic = codes "t/1";
      payload = codes "x";
    }

-- a publication at QoS 2
abbrev pub exactly_once : Publication
exactly_once =
    record {
      retain = false;
      qos = qos_levels.ExactlyOnce;
      topic = codes "t/1";
      payload = codes "y";
    }

-- the first waiting publication: a retained copy at QoS 1
abbrev pub retained_in_row : Publication
retained_in_row =
    record { retain = true; qos = qos_levels.AtLeastOnce; topic = codes "t/2"; payload = codes "z" }

-- the second: a publication without a payload
abbrev pub without_payload : Publication
without_payload =
    record { retain = false; qos = qos_levels.ExactlyOnce; topic = codes "t/1"; payload = [] }

-- three entries in flight and two waiting publications
abbrev pub full_queue : Queue
full_queue = record {
  in_flight =
      (3, waits_for.Pubcomp) ∷ (1, waits_for.Puback at_least_once)
      ∷ (2, waits_for.Pubrec exactly_once) ∷ [];
  waiting = retained_in_row ∷ without_payload ∷ [];
}

-- a session with something in each part
abbrev pub full_session : SessionState
full_session = record {
  subscriptions = (codes "t/#", qos_levels.AtMostOnce) ∷ (codes "t/1", qos_levels.ExactlyOnce) ∷ [];
  received = 1 ∷ 258 ∷ [];
  queue = full_queue;
}

-- `t/#` at QoS 0 and `t/1` at QoS 2; received are 1 and 258
abbrev pub filters_by_hand : List ℕ
filters_by_hand =
    2 ∷ 0 ∷ 3 ∷ 0x74 ∷ 0x2F ∷ 0x23 ∷ 0 ∷ 0 ∷ 3 ∷ 0x74 ∷ 0x2F ∷ 0x31 ∷ 2 ∷ 0 ∷ 2 ∷ 0 ∷ 1 ∷ 1 ∷ 2 ∷ []

-- 3 awaits PUBCOMP, 1 awaits PUBACK, 2 awaits PUBREC
abbrev pub flights_by_hand : List ℕ
flights_by_hand =
    0 ∷ 3 ∷ 0 ∷ 3 ∷ 2
    ∷ 0 ∷ 1 ∷ 0 ∷ 0 ∷ 1 ∷ 0 ∷ 3 ∷ 0x74 ∷ 0x2F ∷ 0x31 ∷ 0 ∷ 0 ∷ 0 ∷ 1 ∷ 0x78
    ∷ 0 ∷ 2 ∷ 1 ∷ 0 ∷ 2 ∷ 0 ∷ 3 ∷ 0x74 ∷ 0x2F ∷ 0x31 ∷ 0 ∷ 0 ∷ 0 ∷ 1 ∷ 0x79 ∷ []

-- the bytes of the two waiting publications, written by hand
abbrev pub waiting_by_hand : List ℕ
waiting_by_hand =
    0 ∷ 2
    ∷ 1 ∷ 1 ∷ 0 ∷ 3 ∷ 0x74 ∷ 0x2F ∷ 0x32 ∷ 0 ∷ 0 ∷ 0 ∷ 1 ∷ 0x7A
    ∷ 0 ∷ 2 ∷ 0 ∷ 3 ∷ 0x74 ∷ 0x2F ∷ 0x31 ∷ 0 ∷ 0 ∷ 0 ∷ 0 ∷ []

-- the bytes of all three parts
abbrev pub full_session_by_hand : List ℕ
full_session_by_hand = filters_by_hand ++ flights_by_hand ++ waiting_by_hand

-- the session is frozen to these bytes
abbrev pub FullSessionIsFrozen : Type 0
FullSessionIsFrozen = state_bytes full_session ≡ full_session_by_hand

-- a publication at this QoS: the body of its PUBLISH has 2 + 1 bytes of topic, 2 of Packet
-- Identifier at QoS 1 and 2, none at QoS 0, and 2 of payload (MQTT 3.3.2, 3.3.3)
abbrev pub one_and_two_bytes : QoS → Publication
one_and_two_bytes qos =
    record { retain = false; qos = qos; topic = codes "a"; payload = codes "xy" }
