-- The client handles the next packet of its connection: a packet of the handshake is taken, any
-- other leaves it as it was.
use Rattle.std.proofs.Common.{◌≡◌, ℕ, zero, suc, Bool, true, false, if◌then◌else◌, List, [], ◌∷◌, ◌++◌, drop, Option, Some, refl, ap, ap₂, sym, ◌∙◌}
use Rattle.std.specs.Prelude.{slice_get}
use Rattle.std.proofs.lemmas.List.{append-nil}
use Rattle.packet.specs.declared.packet.Packet.{Packet}
use Rattle.packet.specs.declared.packet.Packet.TheVariants as packets
use Rattle.session_base.specs.declared.publication.Publication.{Publication}
use Rattle.session_base.specs.Publication.{publication_of}
use Rattle.lists.specs.Lists.{has_id}
use Rattle.broker_spec.specs.Place.{Client, Past, Limits}
use Rattle.broker_spec.specs.Sessions.{current_connection}
use Rattle.broker_spec.specs.Times.{entries_of}
use Rattle.exactly_once.specs.Handshake.{Forward, Backward, Transit, Handshake, answer, receiver_takes}
use Rattle.exactly_once.specs.HandshakeSteps.HandshakeStep.{takes, takes_alone}
use Rattle.exactly_once.specs.HandshakeSteps.HandshakeTrace.{stays, goes_on}
use Rattle.exactly_once.specs.Sends.{put_to}
use Rattle.client_base.specs.Keeper.{Written, Keeper}
use Rattle.exactly_once.specs.Sides.{ClientConnection, Side}
use Rattle.exactly_once.specs.Story.{Story, with_side}
use Rattle.exactly_once.specs.Acceptance.{accepted_on}
use Rattle.exactly_once.specs.Inside.Projections.{to_come, to_be_taken, is_current, IsLike, GoesTo}
use Rattle.exactly_once.specs.Inside.AsSubscriber.{items_of_entries, publish_before, forward_of, backward_of, held, transit_to, as_subscriber}
use Rattle.exactly_once.specs.Inside.ConnectionShape.{ConnectionInShape}
use Rattle.exactly_once.proofs.subscribing.Written.{taken_after}

-- one packet in front
abbrev pub forward_one : Packet → List (Forward Publication) → List (Forward Publication)
forward_one (packets.Publish p) f = publish_before p.delivery (publication_of p) f
forward_one (packets.Pubrel id) f = Forward.Pubrel id ∷ f
forward_one _ f = f

-- it is read packet by packet
pub forward_first : (packet : Packet) (more : List Packet) → forward_of (packet ∷ more) ≡ forward_one packet (forward_of more)
forward_first (packets.Publish p) more = refl
forward_first (packets.Pubrel id) more = refl
forward_first _ more = refl

-- the next packet and those after it
dropped : (n : ℕ) (xs : List Packet) (x : Packet) → slice_get xs n ≡ Some x → drop n xs ≡ x ∷ drop (suc n) xs
dropped n [] x e = cc
dropped zero (y ∷ xs) x e = let h : y ≡ x = cc in ap (λ z. z ∷ xs) h
dropped (suc n) (y ∷ xs) x e = dropped n xs x e

-- what the client did not handle begins with the next packet
pub comes_first : (limits : Limits) (past : Past) (κ : ClientConnection) (packet : Packet) → slice_get (put_to limits past κ.name) κ.handled ≡ Some packet
    → forward_of (to_come limits past κ) ≡ forward_one packet (forward_of (drop (suc κ.handled) (put_to limits past κ.name)))
comes_first limits past κ packet e =
    ap forward_of (dropped κ.handled (put_to limits past κ.name) packet e) ∙ forward_first packet (drop (suc κ.handled) (put_to limits past κ.name))

-- the transit with the connection that the client holds
abbrev pub link_with : Bool → List (Forward Publication) → List Backward → Transit Publication
link_with current f b = if current then Transit.Joined f b else Transit.Ahead f

-- the side after one more handled packet: what is written, accepted and kept of it
pub record Handles (κ : ClientConnection) (keeper : Keeper) (side : Side) (more : List Written) (accepted : List Publication) (received : ℕ → Bool) : Type 0 where
  pub client : side.keeper.client ≡ keeper.client
  pub name : side.connection.name ≡ κ.name
  pub taken : side.connection.taken ≡ κ.taken
  pub handled : side.connection.handled ≡ suc κ.handled
  pub written : side.connection.written ≡ κ.written ++ more
  pub accepted_is : side.connection.accepted ≡ κ.accepted ++ accepted
  pub received_is : (id : ℕ) → received id ≡ has_id id side.keeper.received
  pub stays_open : side.keeper.is_open ≡ true

-- the connection of an open client, its Connect taken, is held
pub held_first : (keeper : Keeper) (κ : ClientConnection) (others : List ClientConnection) (n : ℕ) → keeper.is_open ≡ true → κ.taken ≡ suc n → held keeper (κ ∷ others) ≡ Some κ
held_first keeper κ others n on taken = rw (on, taken) refl

-- the transit after it
pub link_after : (limits : Limits) (s : Story) (κ : ClientConnection) (others : List ClientConnection) (n : ℕ) (side : Side) (more : List Written) (accepted : List Publication) (received : ℕ → Bool)
    → ConnectionInShape limits s.past s.keeper.client κ → κ.taken ≡ suc n → Handles κ s.keeper side more accepted received
    → (as_subscriber limits (with_side s others side)).transit
    ≡ link_with (is_current (current_connection s.past s.keeper.client) κ.name) (forward_of (drop (suc κ.handled) (put_to limits s.past κ.name))) (backward_of (to_be_taken κ) ++ backward_of more)
link_after limits s κ others n side more accepted received g taken h =
    let κ' = side.connection in
    ap₂ (λ (c : Client) (o : Option ClientConnection). transit_to limits s.past (current_connection s.past c) (κ' ∷ others) o) h.client (held_first side.keeper κ' others n h.stays_open (h.taken ∙ taken))
    ∙ ap₂ (λ x (k : ℕ). link_with (is_current (current_connection s.past s.keeper.client) x) (forward_of (drop k (put_to limits s.past x))) (backward_of (to_be_taken κ'))) h.name h.handled
    ∙ ap (link_with (is_current (current_connection s.past s.keeper.client) κ.name) (forward_of (drop (suc κ.handled) (put_to limits s.past κ.name))))
    (ap₂ (λ (k : ℕ) (ws : List Written). backward_of (drop k ws)) h.taken h.written ∙ taken_after κ.taken κ.written more g.within)

-- all fields but the transit
like_after : (limits : Limits) (s : Story) (κ : ClientConnection) (others : List ClientConnection) (side : Side) (more : List Written) (accepted : List Publication) (received : ℕ → Bool) (l : Transit Publication)
    → Handles κ s.keeper side more accepted received → s.connections ≡ κ ∷ others → l ≡ (as_subscriber limits (with_side s others side)).transit
    → IsLike (record { items = (as_subscriber limits s).items; accepted = (as_subscriber limits s).accepted ++ accepted; received = received; transit = l }) (as_subscriber limits (with_side s others side))
like_after limits s κ others side more accepted received l h e transit =
    record {
      items = ap (λ (c : Client). items_of_entries (entries_of limits s.past c)) (sym h.client);
      accepted = ap (λ ks. accepted_on ks ++ accepted) e ∙ append_all (accepted_on others) κ.accepted accepted ∙ ap (λ l. accepted_on others ++ l) (sym h.accepted_is);
      received = h.received_is;
      transit = transit;
    }
  where
    append_all : (xs ys zs : List Publication) → (xs ++ ys) ++ zs ≡ xs ++ (ys ++ zs)
    append_all [] ys zs = refl
    append_all (x ∷ xs) ys zs = ap (λ l. x ∷ l) (append_all xs ys zs)

-- the transit before it
link_before : (limits : Limits) (s : Story) (κ : ClientConnection) (others : List ClientConnection) (n : ℕ) → s.connections ≡ κ ∷ others → s.keeper.is_open ≡ true → κ.taken ≡ suc n
    → (as_subscriber limits s).transit ≡ link_with (is_current (current_connection s.past s.keeper.client) κ.name) (forward_of (to_come limits s.past κ)) (backward_of (to_be_taken κ))
link_before limits s κ others n e on taken =
    ap (λ ks. transit_to limits s.past (current_connection s.past s.keeper.client) ks (held s.keeper ks)) e
    ∙ ap (transit_to limits s.past (current_connection s.past s.keeper.client) (κ ∷ others)) (held_first s.keeper κ others n on taken)

-- a packet that is not of the handshake
pub handles_other : (limits : Limits) (s : Story) (κ : ClientConnection) (others : List ClientConnection) (n : ℕ) (packet : Packet) (side : Side) (more : List Written)
    → ConnectionInShape limits s.past s.keeper.client κ → s.connections ≡ κ ∷ others → s.keeper.is_open ≡ true → κ.taken ≡ suc n
    → slice_get (put_to limits s.past κ.name) κ.handled ≡ Some packet
    → ((f : List (Forward Publication)) → forward_one packet f ≡ f) → backward_of more ≡ [] → Handles κ s.keeper side more [] (λ id. has_id id s.keeper.received)
    → GoesTo (as_subscriber limits s) (as_subscriber limits (with_side s others side))
handles_other limits s κ others n packet side more g e on taken next none quiet h =
    let current = is_current (current_connection s.past s.keeper.client) κ.name in
    let f = forward_of (drop (suc κ.handled) (put_to limits s.past κ.name)) in
    let b = backward_of (to_be_taken κ) in
    let transit : (as_subscriber limits s).transit ≡ (as_subscriber limits (with_side s others side)).transit =
    link_before limits s κ others n e on taken
    ∙ ap (λ l. link_with current l b) (comes_first limits s.past κ packet next ∙ none f)
    ∙ ap (link_with current f) (sym (ap (λ l. b ++ l) quiet ∙ append-nil b))
    ∙ sym (link_after limits s κ others n side more [] (λ id. has_id id s.keeper.received) g taken h) in
    let like = like_after limits s κ others side more [] (λ id. has_id id s.keeper.received) (as_subscriber limits s).transit h e transit in
    record { between = as_subscriber limits s; run = stays; like = record { items = like.items; accepted = sym (append-nil (as_subscriber limits s).accepted) ∙ like.accepted; received = like.received; transit = like.transit } }

-- one that is, taken on the transit
takes_on : (h t : Handshake Publication) (m : Forward Publication) (current : Bool) (f : List (Forward Publication)) (b : List Backward) → h.transit ≡ link_with current (m ∷ f) b
    → IsLike (receiver_takes m h (link_with current f (b ++ answer m ∷ []))) t → GoesTo h t
takes_on h t m true f b e like = record { between = receiver_takes m h (Transit.Joined f (b ++ answer m ∷ [])); run = goes_on stays (takes m f b e); like = like }
takes_on h t m false f b e like = record { between = receiver_takes m h (Transit.Ahead f); run = goes_on stays (takes_alone m f e); like = like }

-- a packet that is of the handshake
pub handles_one : (limits : Limits) (s : Story) (κ : ClientConnection) (others : List ClientConnection) (n : ℕ) (packet : Packet) (side : Side) (more : List Written) (m : Forward Publication) (accepted : List Publication) (received : ℕ → Bool)
    → ConnectionInShape limits s.past s.keeper.client κ → s.connections ≡ κ ∷ others → s.keeper.is_open ≡ true → κ.taken ≡ suc n
    → slice_get (put_to limits s.past κ.name) κ.handled ≡ Some packet
    → ((f : List (Forward Publication)) → forward_one packet f ≡ m ∷ f) → backward_of more ≡ answer m ∷ [] → Handles κ s.keeper side more accepted received
    → ((l : Transit Publication) (t : Handshake Publication) → IsLike (record { items = (as_subscriber limits s).items; accepted = (as_subscriber limits s).accepted ++ accepted; received = received; transit = l }) t
    → IsLike (receiver_takes m (as_subscriber limits s) l) t)
    → GoesTo (as_subscriber limits s) (as_subscriber limits (with_side s others side))
handles_one limits s κ others n packet side more m accepted received g e on taken next one answers h taking_is =
    let current = is_current (current_connection s.past s.keeper.client) κ.name in
    let f = forward_of (drop (suc κ.handled) (put_to limits s.past κ.name)) in
    let b = backward_of (to_be_taken κ) in
    let l = link_with current f (b ++ answer m ∷ []) in
    takes_on (as_subscriber limits s) (as_subscriber limits (with_side s others side)) m current f b
    (link_before limits s κ others n e on taken ∙ ap (λ l. link_with current l b) (comes_first limits s.past κ packet next ∙ one f))
    (taking_is l (as_subscriber limits (with_side s others side))
    (like_after limits s κ others side more accepted received l h e
    (ap (λ z. link_with current f (b ++ z)) (sym answers) ∙ sym (link_after limits s κ others n side more accepted received g taken h))))
