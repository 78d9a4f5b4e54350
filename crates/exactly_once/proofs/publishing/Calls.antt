-- What a client's calls and losses are of the handshake in which it publishes.
use Rattle.std.proofs.Common.{◌≡◌, ℕ, Bool, true, false, if◌then◌else◌, List, [], ◌∷◌, ◌++◌, refl, ap, ap₂, sym, ◌∙◌, subst, inl, inr, ◌⊎◌}
use Rattle.std.proofs.lemmas.List.{append-nil}
use Rattle.std.proofs.lemmas.Bool.{cases_Bool}
use Rattle.packet.specs.declared.packet.Packet.TheVariants as packets
use Rattle.broker_spec.specs.Connection.{ConnectionName}
use Rattle.broker_spec.specs.Place.{Past, Limits}
use Rattle.broker_spec.specs.Sessions.{current_connection}
use Rattle.broker_spec.specs.Received.{received_of}
use Rattle.lists.specs.Lists.{has_id, Each}
use Rattle.exactly_once.specs.Handshake.{Handshake}
use Rattle.client_base.specs.Keeper.{Written, Keeper}
use Rattle.exactly_once.specs.Sides.{ClientConnection}
use Rattle.client_base.specs.Written.{plain}
use Rattle.client_base.specs.Handled.{lost}
use Rattle.exactly_once.specs.Story.{Story}
use Rattle.exactly_once.specs.StoryCommands.{packet_count}
use Rattle.client_base.specs.Connected.{new_connection}
use Rattle.client_base.specs.Written.{writes_first}
use Rattle.exactly_once.specs.Inside.Projections.{items_of_own, forward_of_own, backward_of_own, to_come, to_be_taken, is_current, transit_of_own, last_confirmed, as_publisher, GoesTo}
use Rattle.exactly_once.specs.Inside.Shape.{HeldInShape}
use Rattle.exactly_once.specs.Inside.ConnectionShape.{ConnectionInShape}
use Rattle.exactly_once.proofs.publishing.Links.{link_by, current_last, forward_last, backward_last, link_is, reaches_itself, goes_of, sender_goes}
use Rattle.exactly_once.proofs.publishing.kept.Numbers.{same_numbers, same_opened}
use Rattle.exactly_once.proofs.publishing.First.{story_by, first_link, goes_first, leaves_first}

-- the client leaves, and its confirmed connections stay as they are
pub leaves_all : (limits : Limits) (past : Past) (keeper later : Keeper) (connections after : List ClientConnection) → keeper.client ≡ later.client → keeper.own ≡ later.own → later.is_online ≡ false
    → last_confirmed connections ≡ last_confirmed after → (as_publisher limits (story_by past connections keeper)).accepted ≡ (as_publisher limits (story_by past after later)).accepted
    → GoesTo (as_publisher limits (story_by past connections keeper)) (as_publisher limits (story_by past after later))
leaves_all limits past keeper later connections after client own offline last numbers =
    let h = as_publisher limits (story_by past connections keeper) in
    let k = as_publisher limits (story_by past after later) in
    let current = current_connection past keeper.client in
    let lastly = last_confirmed connections in
    let transit = link_by (current_last current lastly) false (forward_last lastly) (backward_last limits past lastly) in
    goes_of h k h.items transit (sender_goes h (current_last current lastly) keeper.is_online (forward_last lastly) (backward_last limits past lastly) (link_is limits past current keeper.is_online lastly))
    (ap items_of_own own) numbers (λ id. ap (λ c. has_id id (received_of past c)) client)
    (sym (link_is limits past current false lastly) ∙ ap (λ c. transit_of_own limits past (current_connection past c) false lastly) client
    ∙ ap₂ (λ on l. transit_of_own limits past (current_connection past later.client) on l) (sym offline) last)

-- it loses its connection
pub loses_it : (limits : Limits) (s : Story) → GoesTo (as_publisher limits s) (as_publisher limits (record s { keeper = lost s.keeper }))
loses_it limits s = leaves_all limits s.past s.keeper (lost s.keeper) s.connections s.connections refl refl refl refl refl

-- it opens another
pub opens_another : (limits : Limits) (s : Story) (x : ConnectionName) → packet_count x s.past ≡ 0
    → GoesTo (as_publisher limits s)
    (as_publisher limits (story_by s.past (new_connection s.keeper.client x ∷ s.connections) (record (lost s.keeper) { is_open = true })))
opens_another limits s x none =
    let new = new_connection s.keeper.client x in
    leaves_all limits s.past s.keeper (record (lost s.keeper) { is_open = true }) s.connections (new ∷ s.connections) refl refl refl refl
    (sym (same_numbers s.connections (new ∷ s.connections) s.past (same_opened s.past new s.connections none)))

-- what is given of the newest connection
pub record Holds (limits : Limits) (past : Past) (keeper : Keeper) (κ : ClientConnection) : Type 0 where
  pub shape : ConnectionInShape limits past keeper.client κ
  pub confirmed : keeper.is_online ≡ true → κ.confirmed ≡ true

pub holds_of : (limits : Limits) (past : Past) (keeper : Keeper) (κ : ClientConnection) (others : List ClientConnection) → Each (ConnectionInShape limits past keeper.client) (κ ∷ others)
    → HeldInShape limits past keeper (κ ∷ others) → Holds limits past keeper κ
holds_of limits past keeper κ others each held = record { shape = each.0; confirmed = λ on. held.0 (held.1 on) ∙ on }

-- it sends DISCONNECT, if it is online
pub disconnects_it : (limits : Limits) (past : Past) (keeper : Keeper) (connections : List ClientConnection) → Each (ConnectionInShape limits past keeper.client) connections
    → HeldInShape limits past keeper connections
    → GoesTo (as_publisher limits (story_by past connections keeper))
    (as_publisher limits (story_by past (if keeper.is_online then writes_first (plain packets.Disconnect ∷ []) connections else connections) (lost keeper)))
disconnects_it limits past keeper [] each held = by keeper.is_online
  where
    by : (b : Bool) → GoesTo (as_publisher limits (story_by past [] keeper)) (as_publisher limits (story_by past (if b then [] else []) (lost keeper)))
    by true = leaves_all limits past keeper (lost keeper) [] [] refl refl refl refl refl
    by false = leaves_all limits past keeper (lost keeper) [] [] refl refl refl refl refl
disconnects_it limits past keeper (κ ∷ others) each held = by (cases_Bool keeper.is_online)
  where
    h : Handshake ℕ
    h = as_publisher limits (story_by past (κ ∷ others) keeper)

    after : Bool → Handshake ℕ
    after b = as_publisher limits (story_by past (if b then writes_first (plain packets.Disconnect ∷ []) (κ ∷ others) else κ ∷ others) (lost keeper))

    by : (keeper.is_online ≡ true) ⊎ (keeper.is_online ≡ false) → GoesTo h (after keeper.is_online)
    by (inl on) =
        let holds = holds_of limits past keeper κ others each held in
        subst (λ (b : Bool). GoesTo h (after b)) (sym on)
        (leaves_first limits past keeper (lost keeper) κ others (κ.written ++ plain packets.Disconnect ∷ []) (plain packets.Disconnect ∷ []) κ.handled κ.accepted holds.shape refl refl
        (holds.confirmed on) refl refl refl refl)
    by (inr off) =
        subst (λ (b : Bool). GoesTo h (after b)) (sym off) (leaves_all limits past keeper (lost keeper) (κ ∷ others) (κ ∷ others) refl refl refl refl refl)

-- it writes what is not of the handshake
pub writes_quietly : (limits : Limits) (past : Past) (keeper later : Keeper) (connections : List ClientConnection) (more : List Written) → Each (ConnectionInShape limits past keeper.client) connections
    → HeldInShape limits past keeper connections → keeper.is_online ≡ true → keeper.client ≡ later.client → keeper.is_online ≡ later.is_online → items_of_own keeper.own ≡ items_of_own later.own
    → forward_of_own more ≡ []
    → GoesTo (as_publisher limits (story_by past connections keeper)) (as_publisher limits (story_by past (writes_first more connections) later))
writes_quietly limits past keeper later [] more each held on client online items none =
    let h = as_publisher limits (story_by past [] keeper) in
    goes_of h (as_publisher limits (story_by past [] later)) h.items h.transit (reaches_itself h h.transit refl) items refl (λ id. ap (λ c. has_id id (received_of past c)) client) refl
writes_quietly limits past keeper later (κ ∷ others) more each held on client online items none =
    let h = as_publisher limits (story_by past (κ ∷ others) keeper) in
    let holds = holds_of limits past keeper κ others each held in
    let cur = is_current (current_connection past keeper.client) κ.name in
    let f = forward_of_own (to_be_taken κ) in
    let b = backward_of_own (to_come limits past κ) in
    goes_first limits past keeper later κ others (κ.written ++ more) more κ.handled κ.confirmed κ.accepted h.items f b holds.shape client (holds.confirmed on) refl
    (reaches_itself h (link_by cur later.is_online f b) (first_link limits past keeper κ others (holds.confirmed on) ∙ ap (λ o. link_by cur o f b) online))
    items (sym (append-nil f) ∙ ap (λ l. f ++ l) (sym none)) refl
