-- A new publication that the list takes from the client's last connection is a move of the handshake in which it publishes.
use Rattle.std.proofs.Common.{◌≡◌, ◌≤◌, ℕ, zero, suc, Bool, true, false, ◌||◌, ◌==◌, if◌then◌else◌, List, [], ◌∷◌, ◌++◌, length, drop, Option, Some, refl, ap, ap₂, sym, ◌∙◌, subst, arith}
use Rattle.std.specs.Prelude.{slice_get, flat_map}
use Rattle.std.proofs.lemmas.List.{append-nil, drop-append-le}
use Rattle.std.proofs.lemmas.Bool.{both_ways}
use Rattle.packet.specs.declared.delivery.Delivery.{Delivery}
use Rattle.packet.specs.declared.delivery.Delivery.TheVariants as deliveries
use Rattle.packet.specs.declared.publish.Publish.{Publish}
use Rattle.packet.specs.declared.packet.Packet.{Packet}
use Rattle.packet.specs.declared.packet.Packet.TheVariants as packets
use Rattle.lists.specs.Lists.{has_id}
use Rattle.broker_spec.specs.Connection.{ConnectionName, same_connection}
use Rattle.broker_spec.specs.Place.{Client, Mark, Place, Past, Limits}
use Rattle.broker_spec.specs.Sessions.{current_connection, clean_session_of}
use Rattle.broker_spec.specs.Owner.{clients}
use Rattle.broker_spec.specs.Received.{receives, received_of, is_exactly_once}
use Rattle.broker_spec.specs.Sends.{deliveries_to}
use Rattle.broker_spec.specs.Answers.{acknowledged}
use Rattle.broker_spec.specs.AnswersInOrder.{answers_at}
use Rattle.broker_spec.proofs.ClientsInOrder.{same_self}
use Rattle.exactly_once.specs.Handshake.{Forward, Backward, Transit, Handshake, answer, receiver_takes, receiver_accepts}
use Rattle.exactly_once.specs.HandshakeSteps.HandshakeStep.{takes}
use Rattle.exactly_once.specs.HandshakeSteps.HandshakeTrace.{stays, goes_on}
use Rattle.exactly_once.specs.Sends.{sends_to, put_to}
use Rattle.exactly_once.specs.Sides.{ClientConnection}
use Rattle.client_base.specs.Keeper.{Keeper}
use Rattle.exactly_once.specs.Story.{Story}
use Rattle.exactly_once.specs.StoryCommands.{packet_count}
use Rattle.exactly_once.specs.Carried.{connection_named, written_number_at, written_number, more_by}
use Rattle.exactly_once.specs.Inside.Projections.{forward_of_own, carried_by, backward_of_own, to_come, is_current, as_publisher, GoesTo, IsLike}
use Rattle.exactly_once.proofs.Hears.{joined_link, numbers_more}
use Rattle.exactly_once.proofs.Packets.{at_packet, current_packet, received_packet, copies_none}
use Rattle.session_base.proofs.KeptIdentifiers.{has_with}

-- ---- lists

dropped_one : {A : Type 0} (n : ℕ) (xs : List A) (x : A) → slice_get xs n ≡ Some x → drop n xs ≡ x ∷ drop (suc n) xs
dropped_one n [] x e = cc
dropped_one zero (y ∷ xs) x e = let h : y ≡ x = cc in ap (λ z. z ∷ xs) h
dropped_one (suc n) (y ∷ xs) x e = dropped_one n xs x e

backward_append : (ps qs : List Packet) → backward_of_own (ps ++ qs) ≡ backward_of_own ps ++ backward_of_own qs
backward_append [] qs = refl
backward_append (packets.Pubrec id ∷ ps) qs = ap (λ l. Backward.Pubrec id ∷ l) (backward_append ps qs)
backward_append (packets.Pubcomp id ∷ ps) qs = ap (λ l. Backward.Pubcomp id ∷ l) (backward_append ps qs)
backward_append (packets.Publish p ∷ ps) qs = backward_append ps qs
backward_append (packets.Connect c ∷ ps) qs = backward_append ps qs
backward_append (packets.Connack c ∷ ps) qs = backward_append ps qs
backward_append (packets.Puback id ∷ ps) qs = backward_append ps qs
backward_append (packets.Pubrel id ∷ ps) qs = backward_append ps qs
backward_append (packets.Subscribe s ∷ ps) qs = backward_append ps qs
backward_append (packets.Suback s ∷ ps) qs = backward_append ps qs
backward_append (packets.Unsubscribe u ∷ ps) qs = backward_append ps qs
backward_append (packets.Unsuback id ∷ ps) qs = backward_append ps qs
backward_append (packets.Pingreq ∷ ps) qs = backward_append ps qs
backward_append (packets.Pingresp ∷ ps) qs = backward_append ps qs
backward_append (packets.Disconnect ∷ ps) qs = backward_append ps qs

-- ---- what the place gives

pub same_name_self : (x : ConnectionName) → same_connection x x ≡ true
same_name_self x = rw (same x.ballot, same x.count) refl
  where
    same : (n : ℕ) → (n == n) ≡ true
    same n = grind arith

abbrev pub taken_place : ConnectionName → Publish → Client → Place
taken_place x p c = at_packet x (packets.Publish p) (Mark.Taken c)

answers_two : (limits : Limits) (past : Past) (x : ConnectionName) (p : Publish) (c : Client) (dup : Bool) (id : ℕ) → p.delivery ≡ deliveries.ExactlyOnce dup id
    → backward_of_own (sends_to x (answers_at limits (taken_place x p c) past)) ≡ Backward.Pubrec id ∷ []
answers_two limits past x p c dup id e =
    let copies = flat_map (deliveries_to limits (taken_place x p c) past) (clients past) in
    ap (λ (d : Delivery). backward_of_own (sends_to x (acknowledged x d ++ copies))) e ∙ one (same_connection x x) (same_name_self x) (copies_none limits (taken_place x p c) past x (clients past))
  where
    one : (b : Bool) → b ≡ true → backward_of_own (sends_to x (flat_map (deliveries_to limits (taken_place x p c) past) (clients past))) ≡ []
        → backward_of_own (if b then packets.Pubrec id ∷ sends_to x (flat_map (deliveries_to limits (taken_place x p c) past) (clients past)) else sends_to x (flat_map (deliveries_to limits (taken_place x p c) past) (clients past))) ≡ Backward.Pubrec id ∷ []
    one true e h = ap (λ l. Backward.Pubrec id ∷ l) h
    one false e h = absurd (both_ways false refl e)

put_more : (limits : Limits) (place : Place) (past : Past) (x : ConnectionName) → put_to limits (place ∷ past) x ≡ put_to limits past x ++ sends_to x (answers_at limits place past)
unfolding put_to
put_more limits place past x = refl

-- ---- the event

abbrev pub taken_once : ClientConnection → ClientConnection
taken_once κ = record κ { taken = suc κ.taken }

-- the handshake after an acceptance
accepting_like : (id k : ℕ) (b : Bool) (h : Handshake ℕ) (l : Transit ℕ) (t : Handshake ℕ) → b ≡ false → h.items ≡ t.items → h.accepted ++ k ∷ [] ≡ t.accepted
    → ((j : ℕ) → ((j == id) || h.received j) ≡ t.received j) → l ≡ t.transit → IsLike (receiver_accepts id k b h l) t
accepting_like id k true h l t n i a r e = absurd (both_ways true n refl)
accepting_like id k false h l t n i a r e = record { items = i; accepted = a; received = r; transit = e }

pub takes_new : (limits : Limits) (past : Past) (keeper : Keeper) (κ : ClientConnection) (others : List ClientConnection) (p : Publish) (k : ℕ) (dup : Bool) (id : ℕ) (clean : Bool)
    → keeper.is_online ≡ true → κ.confirmed ≡ true → is_current (current_connection past keeper.client) κ.name ≡ true
    → slice_get κ.written κ.taken ≡ Some (record { packet = packets.Publish p; number = Some k }) → p.delivery ≡ deliveries.ExactlyOnce dup id
    → packet_count κ.name past ≡ κ.taken → κ.taken ≤ length κ.written → κ.handled ≤ length (put_to limits past κ.name)
    → clean_session_of past keeper.client ≡ Some clean → has_id id (received_of past keeper.client) ≡ false
    → GoesTo (as_publisher limits (record { past = past; connections = κ ∷ others; keeper = keeper }))
    (as_publisher limits (record { past = taken_place κ.name p keeper.client ∷ past; connections = taken_once κ ∷ others; keeper = keeper }))
takes_new limits past keeper κ others p k dup id clean on conf current next two counted within handled session new =
    let c = keeper.client in
    let place = taken_place κ.name p c in
    let s : Story = record { past = past; connections = κ ∷ others; keeper = keeper } in
    let t : Story = record { past = place ∷ past; connections = taken_once κ ∷ others; keeper = keeper } in
    let h = as_publisher limits s in
    let f = forward_of_own (drop (suc κ.taken) κ.written) in
    let b = backward_of_own (to_come limits past κ) in
    let m : Forward ℕ = Forward.Publish id k in
    let transit : h.transit ≡ Transit.Joined (m ∷ f) b =
    joined_link limits past (current_connection past c) keeper.is_online κ others on conf current
    ∙ ap (λ z. Transit.Joined z b) (ap forward_of_own (dropped_one κ.taken κ.written (record { packet = packets.Publish p; number = Some k }) next)
    ∙ ap (λ (d : Delivery). carried_by d (Some k) f) two) in
    let current' : is_current (current_connection (place ∷ past) c) κ.name ≡ true =
    ap (λ z. is_current z κ.name) (current_packet past c κ.name (packets.Publish p) (Mark.Taken c) refl) ∙ current in
    let come : backward_of_own (to_come limits (place ∷ past) (taken_once κ)) ≡ b ++ Backward.Pubrec id ∷ [] =
    ap (λ z. backward_of_own (drop κ.handled z)) (put_more limits place past κ.name)
    ∙ ap backward_of_own (drop-append-le κ.handled (put_to limits past κ.name) (sends_to κ.name (answers_at limits place past)) handled)
    ∙ backward_append (to_come limits past κ) (sends_to κ.name (answers_at limits place past))
    ∙ ap (λ z. b ++ z) (answers_two limits past κ.name p c dup id two) in
    let transit' : Transit.Joined f (b ++ Backward.Pubrec id ∷ []) ≡ (as_publisher limits t).transit =
    sym (joined_link limits (place ∷ past) (current_connection (place ∷ past) c) keeper.is_online (taken_once κ) others on conf current'
    ∙ ap (λ z. Transit.Joined f z) come) in
    let named : connection_named κ.name (taken_once κ ∷ others) ≡ Some (taken_once κ) = ap (λ b. if b then Some (taken_once κ) else connection_named κ.name others) (same_name_self κ.name) in
    let carried : written_number_at (packet_count κ.name past) (connection_named κ.name (taken_once κ ∷ others)) ≡ Some k =
    ap₂ (λ (n : ℕ) (o : Option ClientConnection). written_number_at n o) counted named ∙ ap written_number next in
    let accepted : h.accepted ++ k ∷ [] ≡ (as_publisher limits t).accepted =
    sym (ap₂ (λ xs n. xs ++ more_by (is_exactly_once p.delivery) n)
    (numbers_more past κ (taken_once κ) others [] refl (sym (append-nil κ.written)) (subst (λ n. n ≤ length κ.written) (sym counted) within)) carried
    ∙ ap (λ (d : Delivery). h.accepted ++ more_by (is_exactly_once d) (Some k)) two) in
    let received : received_of (place ∷ past) c ≡ receives p.delivery (received_of past c) =
    received_packet past c κ.name (packets.Publish p) (Mark.Taken c) clean refl session
    ∙ ap (λ z. if z then receives p.delivery (received_of past c) else received_of past c) (same_self c) in
    record {
      between = receiver_takes m h (Transit.Joined f (b ++ answer m ∷ []));
      run = goes_on stays (takes m f b transit);
      like = accepting_like id k (h.received id) h (Transit.Joined f (b ++ Backward.Pubrec id ∷ [])) (as_publisher limits t) new refl accepted
          (λ j. sym (ap (has_id j) received ∙ ap (λ (d : Delivery). has_id j (receives d (received_of past c))) two ∙ has_with j id (received_of past c))) transit';
    }
