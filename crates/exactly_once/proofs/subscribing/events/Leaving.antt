-- The client leaves its connection: it loses it, closes it, or opens another.
use Rattle.std.proofs.Common.{◌≡◌, Bool, true, false, ◌&&◌, ◌==◌, if◌then◌else◌, List, [], ◌∷◌, Option, Some, None, refl, ap, sym, ◌∙◌, ◌⊎◌, inl, inr, arith}
use Rattle.std.proofs.lemmas.List.{append-nil}
use Rattle.std.proofs.lemmas.Bool.{both_ways, cases_Bool}
use Rattle.packet.specs.declared.packet.Packet.TheVariants as packets
use Rattle.lists.specs.Lists.{has_id, Each}
use Rattle.broker_spec.specs.Connection.{ConnectionName, same_connection}
use Rattle.broker_spec.specs.Place.{Client, Past, Limits}
use Rattle.broker_spec.specs.Sessions.{current_connection}
use Rattle.broker_spec.specs.Times.{entries_of}
use Rattle.exactly_once.specs.Handshake.{Transit}
use Rattle.client_base.specs.Keeper.{Written, Keeper}
use Rattle.exactly_once.specs.Sides.{ClientConnection}
use Rattle.client_base.specs.Written.{plain}
use Rattle.client_base.specs.Handled.{lost}
use Rattle.exactly_once.specs.Story.{Story}
use Rattle.exactly_once.specs.StoryCommands.{any_named}
use Rattle.client_base.specs.Connected.{new_connection}
use Rattle.client_base.specs.Written.{writes_first}
use Rattle.exactly_once.specs.Acceptance.{accepted_on}
use Rattle.exactly_once.specs.Inside.Projections.{to_be_taken, GoesTo}
use Rattle.exactly_once.specs.Inside.AsSubscriber.{items_of_entries, backward_of, held, left_behind, transit_to, as_subscriber}
use Rattle.exactly_once.specs.Inside.Shape.{LastIsCurrent, HasShape}
use Rattle.exactly_once.specs.Inside.ConnectionShape.{ConnectionInShape}
use Rattle.exactly_once.proofs.subscribing.Written.{taken_same}
use Rattle.exactly_once.proofs.subscribing.Standing.{stands}
use Rattle.exactly_once.proofs.subscribing.Gone.{gone}

-- what a client keeps of its connections stays, and it holds none
pub leaves : (limits : Limits) (s : Story) → HasShape limits s → (connections : List ClientConnection) (keeper : Keeper) → keeper.client ≡ s.keeper.client → keeper.received ≡ s.keeper.received
    → held keeper connections ≡ None → accepted_on connections ≡ accepted_on s.connections
    → left_behind (current_connection s.past s.keeper.client) connections ≡ left_behind (current_connection s.past s.keeper.client) s.connections
    → GoesTo (as_subscriber limits s) (as_subscriber limits (record { past = s.past; connections = connections; keeper = keeper }))
leaves limits s shape connections keeper same received none accepted left =
    let current = current_connection s.past s.keeper.client in
    gone (as_subscriber limits s) (as_subscriber limits (record { past = s.past; connections = connections; keeper = keeper })) (left_behind current s.connections)
    (stands limits s.past s.keeper.client s.keeper s.connections current shape.connections shape.newest_is_served)
    (ap (λ (c : Client). items_of_entries (entries_of limits s.past c)) (sym same)) (sym accepted) (λ id. ap (has_id id) (sym received))
    (ap (λ (c : Client). transit_to limits s.past (current_connection s.past c) connections (held keeper connections)) same
    ∙ ap (transit_to limits s.past current connections) none ∙ ap Transit.Behind left)

-- a client that lost its connection holds none
lost_none : (keeper : Keeper) (connections : List ClientConnection) → held (lost keeper) connections ≡ None
lost_none keeper [] = refl
lost_none keeper (κ ∷ others) = refl

-- more that is no answer, on the first connection
pub left_writes : (limits : Limits) (past : Past) (c : Client) (current : Option ConnectionName) (more : List Written) (connections : List ClientConnection) → Each (ConnectionInShape limits past c) connections
    → backward_of more ≡ [] → left_behind current (writes_first more connections) ≡ left_behind current connections
left_writes limits past c None more [] g e = refl
left_writes limits past c None more (κ ∷ others) g e = refl
left_writes limits past c (Some x) more [] g e = refl
left_writes limits past c (Some x) more (κ ∷ others) g e =
    ap (λ b. if same_connection x κ.name then b else left_behind (Some x) others) (taken_same κ.taken κ.written more g.0.within e)

-- it accepts nothing by writing
pub accepted_writes : (more : List Written) (connections : List ClientConnection) → accepted_on (writes_first more connections) ≡ accepted_on connections
accepted_writes more [] = refl
accepted_writes more (κ ∷ others) = refl

-- ---- the events

-- the connection is lost
pub goes_lost : (limits : Limits) (s : Story) → HasShape limits s → GoesTo (as_subscriber limits s) (as_subscriber limits (record s { keeper = lost s.keeper }))
goes_lost limits s shape = leaves limits s shape s.connections (lost s.keeper) refl refl (lost_none s.keeper s.connections) refl refl

-- the client closes it
pub goes_disconnected : (limits : Limits) (s : Story) → HasShape limits s
    → GoesTo (as_subscriber limits s)
    (as_subscriber limits (record {
      past = s.past;
      connections = if s.keeper.is_online then writes_first (plain packets.Disconnect ∷ []) s.connections else s.connections;
      keeper = lost s.keeper;
    }))
goes_disconnected limits s shape = by s.keeper.is_online
  where
    by : (b : Bool)
        → GoesTo (as_subscriber limits s)
        (as_subscriber limits (record { past = s.past; connections = if b then writes_first (plain packets.Disconnect ∷ []) s.connections else s.connections; keeper = lost s.keeper }))
    by false = goes_lost limits s shape
    by true =
        leaves limits s shape (writes_first (plain packets.Disconnect ∷ []) s.connections) (lost s.keeper) refl refl (lost_none s.keeper (writes_first (plain packets.Disconnect ∷ []) s.connections))
        (accepted_writes (plain packets.Disconnect ∷ []) s.connections)
        (left_writes limits s.past s.keeper.client (current_connection s.past s.keeper.client) (plain packets.Disconnect ∷ []) s.connections shape.connections refl)

-- two names that are told apart by a test of one
pub same_name : (x y : ConnectionName) → same_connection x y ≡ true → x ≡ y
same_name x y e = by (cases_Bool (x.ballot == y.ballot)) (cases_Bool (x.count == y.count))
  where
    by : ((x.ballot == y.ballot) ≡ true) ⊎ ((x.ballot == y.ballot) ≡ false) → ((x.count == y.count) ≡ true) ⊎ ((x.count == y.count) ≡ false) → x ≡ y
    by (inl a) (inl b) =
        let p : x.ballot ≡ y.ballot = grind (arith, a) in
        let q : x.count ≡ y.count = grind (arith, b) in
        λ i. record { ballot = p i; count = q i }
    by (inr a) b = absurd (both_ways ((x.ballot == y.ballot) && (x.count == y.count)) (rw a refl) e)
    by (inl a) (inr b) = absurd (both_ways ((x.ballot == y.ballot) && (x.count == y.count)) (rw (a, b) refl) e)

-- a new connection has another name than the current one
pub left_new : (current : Option ConnectionName) (c : Client) (x : ConnectionName) (connections : List ClientConnection) → LastIsCurrent current connections → any_named (same_connection x) connections ≡ false
    → left_behind current (new_connection c x ∷ connections) ≡ left_behind current connections
left_new None c x [] l fresh = refl
left_new None c x (κ ∷ others) l fresh = refl
left_new (Some y) c x connections l fresh = by (cases_Bool (same_connection y x))
  where
    by : (same_connection y x ≡ true) ⊎ (same_connection y x ≡ false)
        → (if same_connection y x then backward_of (to_be_taken (new_connection c x)) else left_behind (Some y) connections) ≡ left_behind (Some y) connections
    by (inr e) = rw e refl
    by (inl e) = absurd (both_ways (any_named (same_connection x) connections) fresh (ap (λ (z : ConnectionName). any_named (same_connection z) connections) (sym (same_name y x e)) ∙ l.0))

-- the client opens another
pub goes_anew : (limits : Limits) (s : Story) → HasShape limits s → (x : ConnectionName) → any_named (same_connection x) s.connections ≡ false
    → GoesTo (as_subscriber limits s)
    (as_subscriber limits (record { past = s.past; connections = new_connection s.keeper.client x ∷ s.connections; keeper = record (lost s.keeper) { is_open = true } }))
goes_anew limits s shape x fresh =
    leaves limits s shape (new_connection s.keeper.client x ∷ s.connections) (record (lost s.keeper) { is_open = true }) refl refl refl (append-nil (accepted_on s.connections))
    (left_new (current_connection s.past s.keeper.client) s.keeper.client x s.connections shape.last_is_current fresh)
