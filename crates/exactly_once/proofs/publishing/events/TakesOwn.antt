-- The list takes a packet of the client's current connection: what is given, and the three ways in
-- which it continues.
use Rattle.std.proofs.Common.{◌≡◌, ℕ, suc, Bool, true, false, ◌&&◌, List, [], ◌∷◌, ◌++◌, drop, Option, Some, refl, ap, ap₂, sym, ◌∙◌, subst, inl, inr}
use Rattle.std.specs.Prelude.{slice_get}
use Rattle.lists.specs.Lists.{has_id}
use Rattle.broker_spec.specs.Connection.{ConnectionName, same_connection}
use Rattle.broker_spec.specs.Place.{Mark, Place, Past, Limits}
use Rattle.broker_spec.specs.Sessions.{any_connection, current_connection, clean_session_of, is_leaving}
use Rattle.broker_spec.specs.Received.{is_new, received_by, received_of}
use Rattle.broker_spec.specs.Answers.{packet_answers}
use Rattle.broker_spec.specs.declared.command.Command.TheVariants as commands
use Rattle.exactly_once.specs.Handshake.{Forward, Backward, Transit, Handshake, answer, receiver_takes, receiver_accepts}
use Rattle.exactly_once.specs.HandshakeSteps.{HandshakeTrace}
use Rattle.exactly_once.specs.HandshakeSteps.HandshakeStep.{takes, takes_alone}
use Rattle.exactly_once.specs.HandshakeSteps.HandshakeTrace.{stays, goes_on}
use Rattle.exactly_once.specs.Sends.{sends_to, put_to}
use Rattle.client_base.specs.Keeper.{Written, Keeper}
use Rattle.exactly_once.specs.Sides.{ClientConnection}
use Rattle.exactly_once.specs.StoryCommands.{with_one_counted}
use Rattle.exactly_once.specs.Inside.Projections.{forward_of_own, forward_of_one, backward_of_own, to_come, to_be_taken, is_current, last_confirmed, transit_of_own, as_publisher, GoesTo}
use Rattle.exactly_once.specs.Inside.Shape.{HasShape}
use Rattle.exactly_once.specs.Inside.ConnectionShape.{ConnectionInShape}
use Rattle.exactly_once.proofs.Packets.{at_packet, current_packet}
use Rattle.broker_spec.proofs.ConnectionNames.{same_itself}
use Rattle.exactly_once.proofs.places.After.{current_ends, received_live}
use Rattle.exactly_once.proofs.publishing.Links.{link_by, current_last, forward_last, link_is}
use Rattle.exactly_once.proofs.publishing.Written.{dropped_next}
use Rattle.exactly_once.proofs.publishing.First.{story_by}
use Rattle.exactly_once.proofs.publishing.Last.{taken_more}
use Rattle.exactly_once.proofs.publishing.Elsewhere.{NoneSent}
use Rattle.exactly_once.proofs.publishing.AtPlaces.{come_more}
use Rattle.exactly_once.proofs.publishing.Counted.{goes_counted}

-- what is sent if the connection is the client's current one
pub record OnCurrent (limits : Limits) (past : Past) (keeper : Keeper) (connections : List ClientConnection) (i : ℕ) (κ : ClientConnection) (w : Written) : Type 0 where
  pub whole : HasShape limits (story_by past connections keeper)
  pub shape : ConnectionInShape limits past keeper.client κ
  pub stands : slice_get connections i ≡ Some κ
  pub next : slice_get κ.written κ.taken ≡ Some w
  pub current : current_connection past keeper.client ≡ Some κ.name
  pub last : last_confirmed connections ≡ Some κ
  pub after : last_confirmed (with_one_counted i connections) ≡ Some (taken_more κ)
  pub live : clean_session_of past keeper.client ≡ Some false

-- the story's handshake after a place
abbrev pub after_place : Limits → Past → Keeper → List ClientConnection → ℕ → Place → Handshake ℕ
after_place limits past keeper connections i place = as_publisher limits (story_by (place ∷ past) (with_one_counted i connections) keeper)

-- the packet that is taken comes off the front
pub taken_front : (κ : ClientConnection) (w : Written) → slice_get κ.written κ.taken ≡ Some w
    → forward_of_own (to_be_taken κ) ≡ forward_of_one w.packet w.number (forward_of_own (drop (suc κ.taken) κ.written))
taken_front κ w next = ap forward_of_own (dropped_next κ.taken κ.written w next)

-- ---- it is not of the handshake

pub passes : (limits : Limits) (past : Past) (keeper : Keeper) (connections : List ClientConnection) (i : ℕ) (κ : ClientConnection) (w : Written) (mark : Mark) → OnCurrent limits past keeper connections i κ w
    → is_leaving mark ≡ false → is_new (commands.Packet κ.name w.packet) mark ≡ false
    → received_by (commands.Packet κ.name w.packet) mark keeper.client (received_of past keeper.client) ≡ received_of past keeper.client
    → NoneSent κ.name (packet_answers limits (at_packet κ.name w.packet mark) past κ.name w.packet mark)
    → ((f : List (Forward ℕ)) → forward_of_one w.packet w.number f ≡ f)
    → GoesTo (as_publisher limits (story_by past connections keeper)) (after_place limits past keeper connections i (at_packet κ.name w.packet mark))
passes limits past keeper connections i κ w mark o staying old received none quiet =
    let place = at_packet κ.name w.packet mark in
    goes_counted limits place past keeper connections i κ o.whole o.stands old (sym (received_live place past keeper.client refl refl o.live ∙ received))
    (λ μ e.
    let found : Some κ ≡ Some μ = sym o.last ∙ e in
    let same : κ ≡ μ = cc in
    subst (λ (ν : ClientConnection). NoneSent ν.name (packet_answers limits place past κ.name w.packet mark)) same none)
    (λ a. inr (
      ap (current_last (current_connection past keeper.client)) o.last ∙ sym (ap₂ current_last (current_packet past keeper.client κ.name w.packet mark staying) o.after),
      ap forward_last o.last ∙ taken_front κ w o.next ∙ quiet (forward_of_own (drop (suc κ.taken) κ.written)) ∙ sym (ap forward_last o.after),
    ))

-- ---- it ends the connection

pub ends_current : (limits : Limits) (past : Past) (keeper : Keeper) (connections : List ClientConnection) (i : ℕ) (κ : ClientConnection) (w : Written) (mark : Mark) → OnCurrent limits past keeper connections i κ w
    → is_leaving mark ≡ true → is_new (commands.Packet κ.name w.packet) mark ≡ false
    → received_by (commands.Packet κ.name w.packet) mark keeper.client (received_of past keeper.client) ≡ received_of past keeper.client
    → NoneSent κ.name (packet_answers limits (at_packet κ.name w.packet mark) past κ.name w.packet mark)
    → GoesTo (as_publisher limits (story_by past connections keeper)) (after_place limits past keeper connections i (at_packet κ.name w.packet mark))
ends_current limits past keeper connections i κ w mark o leaving old received none =
    let place = at_packet κ.name w.packet mark in
    let over = ap (any_connection (λ y. same_connection κ.name y && is_leaving mark)) o.current ∙ ap₂ (λ a b. a && b) (same_itself κ.name) leaving in
    goes_counted limits place past keeper connections i κ o.whole o.stands old (sym (received_live place past keeper.client refl refl o.live ∙ received))
    (λ μ e.
    let found : Some κ ≡ Some μ = sym o.last ∙ e in
    let same : κ ≡ μ = cc in
    subst (λ (ν : ClientConnection). NoneSent ν.name (packet_answers limits place past κ.name w.packet mark)) same none)
    (λ a. inl (ap₂ current_last (current_ends place past keeper.client refl over) o.after))

-- ---- it is of the handshake

takes_by : (h : Handshake ℕ) (on : Bool) (m : Forward ℕ) (f : List (Forward ℕ)) (b : List Backward) → h.transit ≡ link_by true on (m ∷ f) b → HandshakeTrace h (receiver_takes m h (link_by true on f (b ++ answer m ∷ [])))
takes_by h true m f b e = goes_on stays (takes m f b e)
takes_by h false m f b e = goes_on stays (takes_alone m f e)

-- what it leaves as it is
items_taken : (m : Forward ℕ) (h : Handshake ℕ) (l : Transit ℕ) → (receiver_takes m h l).items ≡ h.items
items_taken (Forward.Pubrel id) h l = refl
items_taken (Forward.Publish id v) h l = by (h.received id)
  where
    by : (b : Bool) → (receiver_accepts id v b h l).items ≡ h.items
    by true = refl
    by false = refl

link_taken : (m : Forward ℕ) (h : Handshake ℕ) (l : Transit ℕ) → (receiver_takes m h l).transit ≡ l
link_taken (Forward.Pubrel id) h l = refl
link_taken (Forward.Publish id v) h l = by (h.received id)
  where
    by : (b : Bool) → (receiver_accepts id v b h l).transit ≡ l
    by true = refl
    by false = refl

pub takes_one : (limits : Limits) (past : Past) (keeper : Keeper) (connections : List ClientConnection) (i : ℕ) (κ : ClientConnection) (w : Written) (mark : Mark) (m : Forward ℕ)
    → OnCurrent limits past keeper connections i κ w → is_leaving mark ≡ false → ((f : List (Forward ℕ)) → forward_of_one w.packet w.number f ≡ m ∷ f)
    → backward_of_own (sends_to κ.name (packet_answers limits (at_packet κ.name w.packet mark) past κ.name w.packet mark)) ≡ answer m ∷ []
    → ((l : Transit ℕ) → (receiver_takes m (as_publisher limits (story_by past connections keeper)) l).accepted ≡ (after_place limits past keeper connections i (at_packet κ.name w.packet mark)).accepted)
    → ((l : Transit ℕ) (id : ℕ) → (receiver_takes m (as_publisher limits (story_by past connections keeper)) l).received id
    ≡ has_id id (received_by (commands.Packet κ.name w.packet) mark keeper.client (received_of past keeper.client)))
    → GoesTo (as_publisher limits (story_by past connections keeper)) (after_place limits past keeper connections i (at_packet κ.name w.packet mark))
takes_one limits past keeper connections i κ w mark m o staying forward answers accepted received =
    let place = at_packet κ.name w.packet mark in
    let h = as_publisher limits (story_by past connections keeper) in
    let current = current_connection past keeper.client in
    let later = current_connection (place ∷ past) keeper.client in
    let f = forward_of_own (drop (suc κ.taken) κ.written) in
    let b = backward_of_own (to_come limits past κ) in
    let online = keeper.is_online in
    let here : is_current current κ.name ≡ true = ap (λ (z : Option ConnectionName). is_current z κ.name) o.current ∙ same_itself κ.name in
    let transit : h.transit ≡ link_by true online (m ∷ f) b =
    ap (transit_of_own limits past current online) o.last ∙ link_is limits past current online (Some κ)
    ∙ ap₂ (λ c g. link_by c online g b) here (taken_front κ w o.next ∙ forward f) in
    let there : is_current later κ.name ≡ true = ap (λ (z : Option ConnectionName). is_current z κ.name) (current_packet past keeper.client κ.name w.packet mark staying) ∙ here in
    let l = link_by true online f (b ++ answer m ∷ []) in
    let come : backward_of_own (drop κ.handled (put_to limits (place ∷ past) κ.name)) ≡ b ++ answer m ∷ [] =
    come_more limits place past κ o.shape.handled_within ∙ ap (λ g. b ++ g) answers in
    let after : (after_place limits past keeper connections i place).transit ≡ l =
    ap (transit_of_own limits (place ∷ past) later online) o.after ∙ link_is limits (place ∷ past) later online (Some (taken_more κ))
    ∙ ap₂ (λ c g. link_by c online f g) there come in
    record {
      between = receiver_takes m h l;
      run = takes_by h online m f b transit;
      like = record {
        items = items_taken m h l;
        accepted = accepted l;
        received = λ id. received l id ∙ ap (has_id id) (sym (received_live place past keeper.client refl refl o.live));
        transit = link_taken m h l ∙ sym after;
      };
    }
