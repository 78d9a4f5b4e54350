-- An event of the client on its confirmed newest connection: what is to show that it is a run of the handshake.
use Rattle.std.proofs.Common.{◌≡◌, ◌≤◌, ℕ, suc, Bool, true, false, if◌then◌else◌, List, [], ◌∷◌, ◌++◌, length, drop, Some, refl, ap, ap₂, sym, ◌∙◌, subst}
use Rattle.std.specs.Prelude.{slice_get}
use Rattle.std.proofs.lemmas.List.{append-nil}
use Rattle.packet.specs.declared.packet.Packet.{Packet}
use Rattle.session_base.specs.declared.publication.Publication.{Publication}
use Rattle.lists.specs.Lists.{has_id}
use Rattle.broker_spec.specs.Place.{Past, Limits}
use Rattle.broker_spec.specs.Sessions.{current_connection}
use Rattle.broker_spec.specs.Received.{received_of}
use Rattle.exactly_once.specs.Items.{SenderItem}
use Rattle.exactly_once.specs.Handshake.{Forward, Backward}
use Rattle.exactly_once.specs.Sends.{put_to}
use Rattle.client_base.specs.Keeper.{Written, Keeper}
use Rattle.exactly_once.specs.Sides.{ClientConnection}
use Rattle.exactly_once.specs.Story.{Story}
use Rattle.exactly_once.specs.StoryCommands.{packet_count}
use Rattle.exactly_once.specs.Inside.Projections.{items_of_own, forward_of_own, backward_of_own, to_come, to_be_taken, is_current, transit_of_own, last_confirmed, as_publisher, GoesTo}
use Rattle.exactly_once.specs.Inside.ConnectionShape.{ConnectionInShape}
use Rattle.exactly_once.proofs.publishing.Links.{link_by, link_is, Reaches, reaches_itself, goes_of, sender_goes}
use Rattle.exactly_once.proofs.publishing.kept.Numbers.{same_numbers, same_written}
use Rattle.exactly_once.proofs.publishing.Written.{dropped_next, forward_more}

abbrev pub story_by : Past → List ClientConnection → Keeper → Story
story_by past connections keeper = record { past = past; connections = connections; keeper = keeper }

-- the connection after an event of the client
abbrev pub after_by : ClientConnection → List Written → ℕ → Bool → List Publication → ClientConnection
after_by κ ws handled confirmed accepted = record { name = κ.name; written = ws; taken = κ.taken; handled = handled; confirmed = confirmed; accepted = accepted }

-- the transit if the newest connection is confirmed
pub first_link : (limits : Limits) (past : Past) (keeper : Keeper) (κ : ClientConnection) (others : List ClientConnection) → κ.confirmed ≡ true
    → (as_publisher limits (story_by past (κ ∷ others) keeper)).transit
    ≡ link_by (is_current (current_connection past keeper.client) κ.name) keeper.is_online (forward_of_own (to_be_taken κ)) (backward_of_own (to_come limits past κ))
first_link limits past keeper κ others e =
    ap (λ b. transit_of_own limits past (current_connection past keeper.client) keeper.is_online (if b then Some κ else last_confirmed others)) e
    ∙ link_is limits past (current_connection past keeper.client) keeper.is_online (Some κ)

-- the packets that are taken are among those written
pub counted_within : (limits : Limits) (past : Past) (keeper : Keeper) (κ : ClientConnection) → ConnectionInShape limits past keeper.client κ → packet_count κ.name past ≤ length κ.written
counted_within limits past keeper κ shape = subst (λ n. n ≤ length κ.written) (sym shape.counted) shape.within

pub goes_first : (limits : Limits) (past : Past) (keeper later : Keeper) (κ : ClientConnection) (others : List ClientConnection) (ws more : List Written) (n : ℕ) (confirmed : Bool)
    (accepted : List Publication) (items : List (SenderItem ℕ)) (f : List (Forward ℕ)) (b : List Backward)
    → ConnectionInShape limits past keeper.client κ → keeper.client ≡ later.client → confirmed ≡ true → ws ≡ κ.written ++ more
    → Reaches (as_publisher limits (story_by past (κ ∷ others) keeper)) items (link_by (is_current (current_connection past keeper.client) κ.name) later.is_online f b)
    → items ≡ items_of_own later.own → f ≡ forward_of_own (to_be_taken κ) ++ forward_of_own more → b ≡ backward_of_own (drop n (put_to limits past κ.name))
    → GoesTo (as_publisher limits (story_by past (κ ∷ others) keeper)) (as_publisher limits (story_by past (after_by κ ws n confirmed accepted ∷ others) later))
goes_first limits past keeper later κ others ws more n confirmed accepted items f b shape client conf written reach i forward backward =
    let after = after_by κ ws n confirmed accepted in
    let cur = is_current (current_connection past keeper.client) κ.name in
    goes_of (as_publisher limits (story_by past (κ ∷ others) keeper)) (as_publisher limits (story_by past (after ∷ others) later)) items (link_by cur later.is_online f b) reach i
    (sym (same_numbers (κ ∷ others) (after ∷ others) past (same_written past κ after others more refl written (counted_within limits past keeper κ shape))))
    (λ id. ap (λ c. has_id id (received_of past c)) client)
    (ap₂ (λ g h. link_by cur later.is_online g h)
    (forward ∙ sym (ap (λ z. forward_of_own (drop κ.taken z)) written ∙ forward_more κ.taken κ.written more shape.within)) backward
    ∙ ap (λ c. link_by (is_current (current_connection past c) κ.name) later.is_online (forward_of_own (drop κ.taken ws)) (backward_of_own (drop n (put_to limits past κ.name)))) client
    ∙ sym (first_link limits past later after others conf))

-- a packet comes that is not of the handshake, and what is written is not of it either
pub quiet_first : (limits : Limits) (past : Past) (keeper later : Keeper) (κ : ClientConnection) (others : List ClientConnection) (ws more : List Written) (accepted : List Publication) (packet : Packet)
    → ConnectionInShape limits past keeper.client κ → keeper.client ≡ later.client → keeper.is_online ≡ later.is_online → κ.confirmed ≡ true → ws ≡ κ.written ++ more
    → items_of_own keeper.own ≡ items_of_own later.own → forward_of_own more ≡ [] → slice_get (put_to limits past κ.name) κ.handled ≡ Some packet
    → ((rest : List Packet) → backward_of_own (packet ∷ rest) ≡ backward_of_own rest)
    → GoesTo (as_publisher limits (story_by past (κ ∷ others) keeper)) (as_publisher limits (story_by past (after_by κ ws (suc κ.handled) κ.confirmed accepted ∷ others) later))
quiet_first limits past keeper later κ others ws more accepted packet shape client online conf written items none next quiet =
    let h = as_publisher limits (story_by past (κ ∷ others) keeper) in
    let cur = is_current (current_connection past keeper.client) κ.name in
    let f = forward_of_own (to_be_taken κ) in
    let b = backward_of_own (to_come limits past κ) in
    goes_first limits past keeper later κ others ws more (suc κ.handled) κ.confirmed accepted h.items f b shape client conf written
    (reaches_itself h (link_by cur later.is_online f b) (first_link limits past keeper κ others conf ∙ ap (λ on. link_by cur on f b) online))
    items (sym (append-nil f) ∙ ap (λ l. f ++ l) (sym none))
    (ap backward_of_own (dropped_next κ.handled (put_to limits past κ.name) packet next) ∙ quiet (drop (suc κ.handled) (put_to limits past κ.name)))

-- a packet comes for which the client leaves
pub leaves_first : (limits : Limits) (past : Past) (keeper later : Keeper) (κ : ClientConnection) (others : List ClientConnection) (ws more : List Written) (n : ℕ) (accepted : List Publication)
    → ConnectionInShape limits past keeper.client κ → keeper.client ≡ later.client → later.is_online ≡ false → κ.confirmed ≡ true → ws ≡ κ.written ++ more
    → items_of_own keeper.own ≡ items_of_own later.own → forward_of_own more ≡ []
    → backward_of_own (to_come limits past κ) ≡ backward_of_own (drop n (put_to limits past κ.name))
    → GoesTo (as_publisher limits (story_by past (κ ∷ others) keeper)) (as_publisher limits (story_by past (after_by κ ws n κ.confirmed accepted ∷ others) later))
leaves_first limits past keeper later κ others ws more n accepted shape client online conf written items none same =
    let h = as_publisher limits (story_by past (κ ∷ others) keeper) in
    let cur = is_current (current_connection past keeper.client) κ.name in
    let f = forward_of_own (to_be_taken κ) in
    let b = backward_of_own (to_come limits past κ) in
    goes_first limits past keeper later κ others ws more n κ.confirmed accepted h.items f b shape client conf written
    (subst (λ (on : Bool). Reaches h h.items (link_by cur on f b)) (sym online) (sender_goes h cur keeper.is_online f b (first_link limits past keeper κ others conf)))
    items (sym (append-nil f) ∙ ap (λ l. f ++ l) (sym none)) same
