-- What a client shows as accepted at QoS 2.
use Rattle.std.specs.Prelude.{Bool, List, filter, map}
use Rattle.session_base.specs.declared.publication.Publication.{Publication}
use Rattle.client_base.specs.declared.accepted.Accepted.{Accepted}
use Rattle.exactly_once.specs.Carried.{is_qos2}

-- what a client accepted, as a publication
abbrev pub publication_accepted : Accepted → Publication
publication_accepted accepted =
    record {
      retain = accepted.retain;
      qos = accepted.qos;
      topic = accepted.topic;
      payload = accepted.payload;
    }

-- whether a publication was accepted at QoS 2
abbrev pub is_accepted_at_qos2 : Accepted → Bool
is_accepted_at_qos2 accepted = is_qos2 accepted.qos

-- the oldest first
abbrev pub accepted_at_qos2 : List Accepted → List Publication
accepted_at_qos2 accepted = map publication_accepted (filter is_accepted_at_qos2 accepted)
