-- A client that holds no connection any more.
use Rattle.std.proofs.Common.{◌≡◌, ℕ, List, [], ap, sym, ◌∙◌, inl, inr}
use Rattle.session_base.specs.declared.publication.Publication.{Publication}
use Rattle.exactly_once.specs.Handshake.{Backward, Transit, Handshake, with_items}
use Rattle.exactly_once.specs.HandshakeSteps.HandshakeStep.{receiver_leaves, parts}
use Rattle.exactly_once.specs.HandshakeSteps.HandshakeTrace.{stays, goes_on}
use Rattle.exactly_once.specs.Inside.Projections.{GoesTo}
use Rattle.exactly_once.proofs.subscribing.Standing.{Stands}

-- the receiver leaves, if it had not: what the broker's connection still brings is received
pub gone : (h t : Handshake Publication) (b : List Backward) → Stands h.transit b
    → h.items ≡ t.items → h.accepted ≡ t.accepted → ((id : ℕ) → h.received id ≡ t.received id) → t.transit ≡ Transit.Behind b → GoesTo h t
gone h t b (inl e) i a r l = record { between = h; run = stays; like = record { items = i; accepted = a; received = r; transit = e ∙ sym l } }
gone h t b (inr (inl (f, e))) i a r l =
    record { between = with_items h.items (Transit.Behind b) h; run = goes_on stays (receiver_leaves f b e); like = record { items = i; accepted = a; received = r; transit = sym l } }
gone h t b (inr (inr (f, e, n))) i a r l =
    record { between = with_items h.items (Transit.Behind []) h; run = goes_on stays parts; like = record { items = i; accepted = a; received = r; transit = ap Transit.Behind (sym n) ∙ sym l } }
