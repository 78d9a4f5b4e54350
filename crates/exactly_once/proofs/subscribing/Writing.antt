-- The client writes what is no answer: it publishes, subscribes, unsubscribes.
use Rattle.std.proofs.Common.{◌≡◌, ℕ, zero, suc, Bool, true, false, if◌then◌else◌, List, [], ◌∷◌, ◌++◌, Option, None, refl, ap, sym}
use Rattle.packet.specs.declared.subscribe.Subscribe.{Subscribe}
use Rattle.packet.specs.declared.unsubscribe.Unsubscribe.{Unsubscribe}
use Rattle.packet.specs.declared.packet.Packet.TheVariants as packets
use Rattle.session_base.specs.declared.publication.Publication.{Publication}
use Rattle.session_base.specs.Identifiers.{least_free}
use Rattle.broker_spec.specs.Connection.{ConnectionName}
use Rattle.broker_spec.specs.Place.{Client, Past, Limits}
use Rattle.broker_spec.specs.Sessions.{current_connection}
use Rattle.lists.specs.Lists.{Each}
use Rattle.exactly_once.specs.Handshake.{Backward, Transit}
use Rattle.exactly_once.specs.HandshakeSteps.HandshakeTrace.{stays}
use Rattle.client_base.specs.Keeper.{Own, Written, Keeper, ids_in_use, next_own_number}
use Rattle.client_base.specs.declared.request.Request.{Request}
use Rattle.client_base.specs.declared.request.Request.TheVariants as requests
use Rattle.exactly_once.specs.Sides.{ClientConnection}
use Rattle.client_base.specs.Written.{plain, written_publish, writes}
use Rattle.exactly_once.specs.Story.{Story}
use Rattle.client_base.specs.Called.{adds_own, written_for}
use Rattle.client_base.specs.Written.{writes_first}
use Rattle.exactly_once.specs.Inside.Projections.{to_come, is_current, GoesTo}
use Rattle.exactly_once.specs.Inside.AsSubscriber.{forward_of, backward_of, held, if_taken, transit_to, as_subscriber}
use Rattle.exactly_once.specs.Inside.Shape.{HasShape}
use Rattle.exactly_once.specs.Inside.ConnectionShape.{ConnectionInShape}
use Rattle.exactly_once.proofs.subscribing.Written.{taken_same}
use Rattle.exactly_once.proofs.subscribing.events.Leaving.{left_writes, accepted_writes}

-- the transit stays
link_writes : (limits : Limits) (past : Past) (c : Client) (current : Option ConnectionName) (more : List Written) (keeper : Keeper) (connections : List ClientConnection)
    → Each (ConnectionInShape limits past c) connections → backward_of more ≡ []
    → transit_to limits past current (writes_first more connections) (held keeper (writes_first more connections)) ≡ transit_to limits past current connections (held keeper connections)
link_writes limits past c current more keeper [] g e = refl
link_writes limits past c current more keeper (κ ∷ others) g e = by keeper.is_open κ.taken
  where
    by : (opened : Bool) (taken : ℕ)
        → transit_to limits past current (writes more κ ∷ others) (if opened then if_taken taken (writes more κ) else None)
        ≡ transit_to limits past current (κ ∷ others) (if opened then if_taken taken κ else None)
    by false taken = ap Transit.Behind (left_writes limits past c current more (κ ∷ others) g e)
    by true zero = ap Transit.Behind (left_writes limits past c current more (κ ∷ others) g e)
    by true (suc n) =
        ap (λ (b : List Backward). if is_current current κ.name then Transit.Joined (forward_of (to_come limits past κ)) b else Transit.Ahead (forward_of (to_come limits past κ)))
        (taken_same κ.taken κ.written more g.0.within e)

-- nothing moves
writes_what : (limits : Limits) (s : Story) → HasShape limits s → (more : List Written) → backward_of more ≡ [] → (own : List Own) (requests : List Request)
    → GoesTo (as_subscriber limits s) (as_subscriber limits (record { past = s.past; connections = writes_first more s.connections; keeper = record s.keeper { own = own; requests = requests } }))
writes_what limits s shape more e own requests =
    record {
      between = as_subscriber limits s;
      run = stays;
      like = record {
        items = refl;
        accepted = sym (accepted_writes more s.connections);
        received = λ id. refl;
        transit = sym (link_writes limits s.past s.keeper.client (current_connection s.past s.keeper.client) more s.keeper s.connections shape.connections e);
      };
    }

-- a PUBLISH is no answer
publish_none : (p : Publication) (keeper : Keeper) → backward_of (written_for p keeper) ≡ []
publish_none p keeper = by keeper.is_online
  where
    by : (b : Bool) → backward_of (if b then written_publish false (next_own_number keeper) (least_free (ids_in_use keeper)) p ∷ [] else []) ≡ []
    by true = refl
    by false = refl

-- the client publishes
pub goes_published : (limits : Limits) (s : Story) → HasShape limits s → (p : Publication)
    → GoesTo (as_subscriber limits s) (as_subscriber limits (record { past = s.past; connections = writes_first (written_for p s.keeper) s.connections; keeper = adds_own p s.keeper }))
goes_published limits s shape p = writes_what limits s shape (written_for p s.keeper) (publish_none p s.keeper) (adds_own p s.keeper).own s.keeper.requests

-- it subscribes
pub goes_subscribed : (limits : Limits) (s : Story) → HasShape limits s → (p : Subscribe)
    → GoesTo (as_subscriber limits s)
    (as_subscriber limits (record {
      past = s.past;
      connections = writes_first (plain (packets.Subscribe p) ∷ []) s.connections;
      keeper = record s.keeper { requests = s.keeper.requests ++ requests.Subscribes p.id ∷ [] };
    }))
goes_subscribed limits s shape p = writes_what limits s shape (plain (packets.Subscribe p) ∷ []) refl s.keeper.own (s.keeper.requests ++ requests.Subscribes p.id ∷ [])

-- it unsubscribes
pub goes_unsubscribed : (limits : Limits) (s : Story) → HasShape limits s → (p : Unsubscribe)
    → GoesTo (as_subscriber limits s)
    (as_subscriber limits (record {
      past = s.past;
      connections = writes_first (plain (packets.Unsubscribe p) ∷ []) s.connections;
      keeper = record s.keeper { requests = s.keeper.requests ++ requests.Unsubscribes p.id ∷ [] };
    }))
goes_unsubscribed limits s shape p = writes_what limits s shape (plain (packets.Unsubscribe p) ∷ []) refl s.keeper.own (s.keeper.requests ++ requests.Unsubscribes p.id ∷ [])
