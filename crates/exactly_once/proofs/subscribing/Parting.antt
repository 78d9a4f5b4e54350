-- A place that ends the client's connection.
use Rattle.std.proofs.Common.{◌≡◌, ℕ, zero, suc, Bool, true, false, ◌||◌, if◌then◌else◌, List, [], ◌∷◌, ◌++◌, Option, Some, None, refl, ap, ap₂, sym, ◌∙◌}
use Rattle.std.proofs.lemmas.List.{append-nil}
use Rattle.session_base.specs.declared.publication.Publication.{Publication}
use Rattle.broker_spec.specs.Connection.{ConnectionName, same_connection}
use Rattle.broker_spec.specs.Place.{Client, Place, Past, Limits}
use Rattle.broker_spec.specs.Sessions.{current_connection}
use Rattle.broker_spec.specs.Times.{entries_of}
use Rattle.broker_spec.specs.AnswersInOrder.{answers_at}
use Rattle.lists.specs.Lists.{Each}
use Rattle.exactly_once.specs.Handshake.{Backward, Transit, Handshake, with_items}
use Rattle.exactly_once.specs.HandshakeSteps.HandshakeStep.{sender_leaves, parts}
use Rattle.exactly_once.specs.HandshakeSteps.HandshakeTrace.{stays, goes_on}
use Rattle.exactly_once.specs.Sends.{sends_to}
use Rattle.exactly_once.specs.Sides.{ClientConnection}
use Rattle.client_base.specs.Keeper.{Keeper}
use Rattle.exactly_once.specs.Story.{Story}
use Rattle.exactly_once.specs.StoryCommands.{any_named}
use Rattle.exactly_once.specs.Acceptance.{accepted_on}
use Rattle.exactly_once.specs.Inside.Projections.{to_come, is_current, GoesTo}
use Rattle.exactly_once.specs.Inside.AsSubscriber.{items_of_entries, forward_of, held, left_behind, transit_to, as_subscriber}
use Rattle.exactly_once.specs.Inside.Shape.{HasShape}
use Rattle.exactly_once.specs.Inside.ConnectionShape.{ConnectionInShape}
use Rattle.exactly_once.proofs.Takes.{same_name_self}
use Rattle.exactly_once.proofs.subscribing.Views.{View, seen, view, link_as, link_is, parted, comes_after}
use Rattle.exactly_once.proofs.subscribing.Placed.{placed}

-- a client without a connection has nothing in transit on an earlier one
pub nothing_behind : (connections : List ClientConnection) → left_behind None connections ≡ []
nothing_behind [] = refl
nothing_behind (κ ∷ others) = refl

-- nothing of the handshake is sent to the client
abbrev pub SendsNone : Limits → Place → Past → List ClientConnection → Type 0
SendsNone limits place past connections = (x : ConnectionName) → any_named (same_connection x) connections ≡ true → forward_of (sends_to x (answers_at limits place past)) ≡ []

-- its connection is current no more
pub view_parted : (limits : Limits) (place : Place) (past : Past) (c : Client) (current other : Option ConnectionName) (keeper : Keeper) (connections : List ClientConnection)
    → Each (ConnectionInShape limits past c) connections → SendsNone limits place past connections
    → ((x : ConnectionName) → any_named (same_connection x) connections ≡ true → is_current other x ≡ false)
    → view limits (place ∷ past) other keeper connections ≡ parted (view limits past current keeper connections)
view_parted limits place past c current other keeper [] g sends not = refl
view_parted limits place past c current other keeper (κ ∷ others) g sends not = by keeper.is_open κ.taken
  where
    first : any_named (same_connection κ.name) (κ ∷ others) ≡ true
    first = ap (λ b. b || any_named (same_connection κ.name) others) (same_name_self κ.name)

    by : (opened : Bool) (taken : ℕ)
        → (if opened then seen limits (place ∷ past) other κ taken else None) ≡ parted (if opened then seen limits past current κ taken else None)
    by false taken = refl
    by true zero = refl
    by true (suc n) =
        ap₂ (λ l b. Some (l, b))
        (comes_after limits place past κ g.0.handled_within ∙ ap (λ l. forward_of (to_come limits past κ) ++ l) (sends κ.name first) ∙ append-nil (forward_of (to_come limits past κ)))
        (not κ.name first)

-- the sender leaves, if it had not
pub parts_view : (h t : Handshake Publication) (v : View) (b : List Backward) → h.transit ≡ link_as v b → h.items ≡ t.items → h.accepted ≡ t.accepted → ((id : ℕ) → h.received id ≡ t.received id)
    → t.transit ≡ link_as (parted v) [] → GoesTo h t
parts_view h t None b e i a r l = record { between = with_items h.items (Transit.Behind []) h; run = goes_on stays parts; like = record { items = i; accepted = a; received = r; transit = sym l } }
parts_view h t (Some (f, true)) b e i a r l =
    record { between = with_items h.items (Transit.Ahead f) h; run = goes_on stays (sender_leaves f b e); like = record { items = i; accepted = a; received = r; transit = sym l } }
parts_view h t (Some (f, false)) b e i a r l = record { between = h; run = stays; like = record { items = i; accepted = a; received = r; transit = e ∙ sym l } }

-- such a place
pub place_parts : (limits : Limits) (s : Story) (place : Place) (connections : List ClientConnection) → HasShape limits s
    → current_connection (place ∷ s.past) s.keeper.client ≡ None
    → entries_of limits (place ∷ s.past) s.keeper.client ≡ entries_of limits s.past s.keeper.client
    → SendsNone limits place s.past s.connections
    → view limits (place ∷ s.past) None s.keeper connections ≡ view limits (place ∷ s.past) None s.keeper s.connections
    → accepted_on connections ≡ accepted_on s.connections
    → GoesTo (as_subscriber limits s) (as_subscriber limits (placed s place connections))
place_parts limits s place connections shape over entries sends same accepted =
    let current = current_connection s.past s.keeper.client in
    parts_view (as_subscriber limits s) (as_subscriber limits (placed s place connections)) (view limits s.past current s.keeper s.connections) (left_behind current s.connections)
    (link_is limits s.past current s.keeper s.connections) (ap items_of_entries (sym entries)) (sym accepted) (λ id. refl)
    (ap (λ (o : Option ConnectionName). transit_to limits (place ∷ s.past) o connections (held s.keeper connections)) over
    ∙ link_is limits (place ∷ s.past) None s.keeper connections
    ∙ ap₂ link_as (same ∙ view_parted limits place s.past s.keeper.client current None s.keeper s.connections shape.connections sends (λ x h. refl)) (nothing_behind connections))
