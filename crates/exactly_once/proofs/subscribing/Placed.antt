-- One place more in the list: what it adds and starts is a run of the handshake in which the client subscribes.
use Rattle.std.proofs.Common.{◌≡◌, ℕ, suc, true, false, List, ◌∷◌, ◌++◌, length, map, Option, Some, None, refl, ap, sym, ◌∙◌, append_assoc}
use Rattle.session_base.specs.declared.publication.Publication.{Publication}
use Rattle.lists.specs.Lists.{has_id}
use Rattle.broker_spec.specs.Connection.{ConnectionName}
use Rattle.broker_spec.specs.Place.{Place, Limits}
use Rattle.broker_spec.specs.Sessions.{current_connection}
use Rattle.broker_spec.specs.Entries.{Entry}
use Rattle.broker_spec.specs.Times.{started, window_at, entries_of}
use Rattle.broker_spec.proofs.SoundEntries.{Sound}
use Rattle.exactly_once.specs.Handshake.{Forward, Backward, Handshake, publishing}
use Rattle.exactly_once.specs.HandshakeSteps.{HandshakeTrace}
use Rattle.exactly_once.specs.Sides.{ClientConnection}
use Rattle.exactly_once.specs.Story.{Story}
use Rattle.exactly_once.specs.Acceptance.{accepted_on}
use Rattle.exactly_once.specs.Inside.Projections.{GoesTo}
use Rattle.exactly_once.specs.Inside.AsSubscriber.{items_of_entries, held, left_behind, transit_to, as_subscriber}
use Rattle.exactly_once.specs.Inside.Shape.{HasShape}
use Rattle.exactly_once.proofs.Starts.{sending_all}
use Rattle.exactly_once.proofs.subscribing.Adding.{rows_at, goes_started}
use Rattle.exactly_once.proofs.subscribing.Views.{View, view, link_as, link_is, grown, link_grown, SendsAt, view_grown}

-- what a place that leaves the client's connection does to its entries, and sends
pub record GoesOn (limits : Limits) (s : Story) (place : Place) (es : List Entry) (ps : List Publication) (more : List (Forward Publication)) : Type 0 where
  pub current : current_connection (place ∷ s.past) s.keeper.client ≡ current_connection s.past s.keeper.client
  pub entries : entries_of limits (place ∷ s.past) s.keeper.client
      ≡ started (window_at limits (place ∷ s.past)) (length s.past) (current_connection s.past s.keeper.client) (es ++ map (Entry.Queued (length s.past)) ps)
  pub sound : Sound (suc (length s.past)) es
  pub sends : SendsAt limits place s.past (current_connection s.past s.keeper.client) s.connections
      (more ++ map publishing (rows_at (window_at limits (place ∷ s.past)) (current_connection s.past s.keeper.client) (es ++ map (Entry.Queued (length s.past)) ps)))

-- the story with the place, and with these connections
abbrev pub placed : Story → Place → List ClientConnection → Story
placed s place connections = record { past = place ∷ s.past; connections = connections; keeper = s.keeper }

-- more, and then more
grown_twice : (more rest : List (Forward Publication)) (v : View) → grown (more ++ rest) v ≡ grown rest (grown more v)
grown_twice more rest None = refl
grown_twice more rest (Some (f, true)) = ap (λ l. Some (l, true)) (sym (append_assoc f more rest))
grown_twice more rest (Some (f, false)) = refl

-- after what is received, the place adds and starts
pub place_goes : (limits : Limits) (s : Story) (place : Place) (connections : List ClientConnection) (es : List Entry) (ps : List Publication) (more : List (Forward Publication)) (k : Handshake Publication)
    → HasShape limits s → GoesOn limits s place es ps more
    → view limits (place ∷ s.past) (current_connection s.past s.keeper.client) s.keeper connections ≡ view limits (place ∷ s.past) (current_connection s.past s.keeper.client) s.keeper s.connections
    → accepted_on connections ≡ accepted_on s.connections
    → HandshakeTrace (as_subscriber limits s) k → k.items ≡ items_of_entries es → k.accepted ≡ accepted_on s.connections → ((id : ℕ) → k.received id ≡ has_id id s.keeper.received)
    → k.transit ≡ link_as (grown more (view limits s.past (current_connection s.past s.keeper.client) s.keeper s.connections)) (left_behind (current_connection s.past s.keeper.client) connections)
    → GoesTo (as_subscriber limits s) (as_subscriber limits (placed s place connections))
place_goes limits s place connections es ps more k shape g same accepted run items accepts received transit =
    goes_started (as_subscriber limits s) k (as_subscriber limits (placed s place connections)) (window_at limits (place ∷ s.past)) (length s.past) (current_connection s.past s.keeper.client) es ps run items g.sound
    (accepts ∙ sym accepted) received (ap items_of_entries g.entries) transit'
  where
    current : Option ConnectionName
    current = current_connection s.past s.keeper.client

    rows : List (ℕ × Publication)
    rows = rows_at (window_at limits (place ∷ s.past)) current (es ++ map (Entry.Queued (length s.past)) ps)

    b : List Backward
    b = left_behind current connections

    transit' : (as_subscriber limits (placed s place connections)).transit ≡ sending_all rows k.transit
    transit' =
        ap (λ (o : Option ConnectionName). transit_to limits (place ∷ s.past) o connections (held s.keeper connections)) g.current
        ∙ link_is limits (place ∷ s.past) current s.keeper connections
        ∙ ap (λ v. link_as v b)
        (same
        ∙ view_grown limits place s.past s.keeper.client current s.keeper s.connections (more ++ map publishing rows) shape.connections g.sends
        ∙ grown_twice more (map publishing rows) (view limits s.past current s.keeper s.connections))
        ∙ link_grown rows (grown more (view limits s.past current s.keeper s.connections)) b
        ∙ ap (sending_all rows) (sym transit)
