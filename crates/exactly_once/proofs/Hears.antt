-- A PUBREC that the client handles is a move of the handshake in which it publishes.
use Rattle.std.proofs.Common.{◌≡◌, ◌≤◌, ◌<◌, ℕ, zero, suc, Bool, true, false, not, ◌&&◌, ◌||◌, ◌==◌, if◌then◌else◌, List, [], ◌∷◌, ◌++◌, length, map, drop, Option, Some, None, refl, ap, ap₂, sym, ◌∙◌, subst, arith, inl, inr, ◌⊎◌}
use Rattle.std.specs.Prelude.{slice_get}
use Rattle.std.proofs.lemmas.List.{drop-append-le}
use Rattle.std.proofs.lemmas.Bool.{both_ways, cases_Bool}
use Rattle.packet_base.specs.declared.qos.QoS.{QoS}
use Rattle.packet_base.specs.declared.qos.QoS.TheVariants as qos_levels
use Rattle.packet.specs.declared.delivery.Delivery.{Delivery}
use Rattle.packet.specs.declared.delivery.Delivery.TheVariants as deliveries
use Rattle.packet.specs.declared.packet.Packet.{Packet}
use Rattle.packet.specs.declared.packet.Packet.TheVariants as packets
use Rattle.session_base.specs.declared.publication.Publication.{Publication}
use Rattle.session_base.specs.Publication.{is_qos1, is_answered}
use Rattle.broker_spec.specs.Connection.{ConnectionName, same_connection}
use Rattle.broker_spec.specs.Place.{Place, Past, Limits}
use Rattle.broker_spec.specs.Received.{is_new}
use Rattle.broker_spec.specs.declared.command.Command.{Command}
use Rattle.broker_spec.specs.declared.command.Command.TheVariants as commands
use Rattle.exactly_once.specs.Items.{SenderItem, item_released, has_sent}
use Rattle.exactly_once.specs.Handshake.{Forward, Backward, Transit, with_items, sender_hears, reply}
use Rattle.exactly_once.specs.HandshakeSteps.HandshakeStep.{hears}
use Rattle.exactly_once.specs.HandshakeSteps.HandshakeTrace.{stays, goes_on}
use Rattle.lists.proofs.Tests.{or_then}
use Rattle.exactly_once.specs.HandshakeInvariant.{IsGood, IsJoined, FitsTransit}
use Rattle.broker_spec.specs.Sessions.{current_connection}
use Rattle.exactly_once.specs.Sends.{put_to}
use Rattle.client_base.specs.Keeper.{Own, Written, Keeper}
use Rattle.exactly_once.specs.Sides.{ClientConnection, Side}
use Rattle.client_base.specs.Handled.{packet_handled}
use Rattle.client_base.specs.Handshakes.{own_at_pubrec, is_sent_with}
use Rattle.client_base.specs.Written.{plain, writes}
use Rattle.exactly_once.specs.Story.{Story, with_side}
use Rattle.exactly_once.specs.StoryCommands.{is_packet_of, packet_count}
use Rattle.exactly_once.specs.Carried.{is_qos2, carries, connection_named, written_number_at, written_number, more_by, new_numbers}
use Rattle.exactly_once.specs.Inside.Projections.{items_of_own, own_item, forward_of_own, forward_of_one, carried_by, backward_of_own, to_come, to_be_taken, is_current, transit_of_own, last_confirmed, as_publisher, GoesTo}

-- ---- its publications

-- what it keeps in transit is of QoS 1 or 2
abbrev pub OwnAnswered : List Own → Type 0
OwnAnswered (Own.Queued k p id ∷ own) = (is_answered p.qos ≡ true) × OwnAnswered own
OwnAnswered (Own.Sent k p id ∷ own) = (is_answered p.qos ≡ true) × OwnAnswered own
OwnAnswered (Own.Released k p id ∷ own) = (is_answered p.qos ≡ true) × OwnAnswered own
OwnAnswered (Own.Done k p ∷ own) = OwnAnswered own
OwnAnswered [] = Unit {0}

two_not_one : (q : QoS) → is_qos2 q ≡ true → is_qos1 q ≡ false
two_not_one qos_levels.AtMostOnce e = absurd (both_ways false refl e)
two_not_one qos_levels.AtLeastOnce e = absurd (both_ways false refl e)
two_not_one qos_levels.ExactlyOnce e = refl

not_two_one : (q : QoS) → is_answered q ≡ true → is_qos2 q ≡ false → is_qos1 q ≡ true
not_two_one qos_levels.AtMostOnce a e = absurd (both_ways false refl a)
not_two_one qos_levels.AtLeastOnce a e = refl
not_two_one qos_levels.ExactlyOnce a e = absurd (both_ways true e refl)

own_map : (i : ℕ) (p : Publication) (x y : SenderItem ℕ) (es fs : List (SenderItem ℕ)) → y ≡ item_released i x → fs ≡ map (item_released i) es → own_item p y fs ≡ map (item_released i) (own_item p x es)
own_map i p x y es fs e f = by (is_qos2 p.qos)
  where
    by : (b : Bool) → (if b then y ∷ fs else fs) ≡ map (item_released i) (if b then x ∷ es else es)
    by true = ap₂ (λ z l. z ∷ l) e f
    by false = f

pub own_pubrec : (i : ℕ) (own : List Own) → OwnAnswered own → items_of_own (map (own_at_pubrec i) own) ≡ map (item_released i) (items_of_own own)
own_pubrec i [] h = refl
own_pubrec i (Own.Queued k p id ∷ own) h = own_map i p (SenderItem.Queued k) (SenderItem.Queued k) (items_of_own own) (items_of_own (map (own_at_pubrec i) own)) refl (own_pubrec i own h.1)
own_pubrec i (Own.Sent k p id ∷ own) h = by (cases_Bool (i == id)) (cases_Bool (is_qos2 p.qos)) (own_pubrec i own h.1)
  where
    by : ((i == id) ≡ true) ⊎ ((i == id) ≡ false) → (is_qos2 p.qos ≡ true) ⊎ (is_qos2 p.qos ≡ false) → items_of_own (map (own_at_pubrec i) own) ≡ map (item_released i) (items_of_own own)
        → items_of_own (own_at_pubrec i (Own.Sent k p id) ∷ map (own_at_pubrec i) own) ≡ map (item_released i) (own_item p (SenderItem.Sent k id) (items_of_own own))
    by (inl b) (inl t) ih = rw (b, t, two_not_one p.qos t) (rw t (rw b (ap (λ l. SenderItem.Released k id ∷ l) ih)))
    by (inl b) (inr t) ih = rw (b, t, not_two_one p.qos h.0 t) (rw t ih)
    by (inr b) (inl t) ih = rw (b, t) (rw b (ap (λ l. SenderItem.Sent k id ∷ l) ih))
    by (inr b) (inr t) ih = rw (b, t) ih
own_pubrec i (Own.Released k p id ∷ own) h = own_map i p (SenderItem.Released k id) (SenderItem.Released k id) (items_of_own own) (items_of_own (map (own_at_pubrec i) own)) refl (own_pubrec i own h.1)
own_pubrec i (Own.Done k p ∷ own) h = own_map i p (SenderItem.Done k) (SenderItem.Done k) (items_of_own own) (items_of_own (map (own_at_pubrec i) own)) refl (own_pubrec i own h)

-- the item that the PUBREC is of is there
skip : (i : ℕ) (b : Bool) (x : SenderItem ℕ) (items : List (SenderItem ℕ)) → has_sent i (x ∷ items) ≡ has_sent i items → has_sent i (if b then x ∷ items else items) ≡ has_sent i items
skip i true x items e = e
skip i false x items e = refl

pub sent_is : (i : ℕ) (own : List Own) → OwnAnswered own → has_sent i (items_of_own own) ≡ is_sent_with i own
sent_is i [] h = refl
sent_is i (Own.Queued k p id ∷ own) h = skip i (is_qos2 p.qos) (SenderItem.Queued k) (items_of_own own) refl ∙ sent_is i own h.1
sent_is i (Own.Sent k p id ∷ own) h = by (cases_Bool (i == id)) (cases_Bool (is_qos2 p.qos)) (sent_is i own h.1)
  where
    by : ((i == id) ≡ true) ⊎ ((i == id) ≡ false) → (is_qos2 p.qos ≡ true) ⊎ (is_qos2 p.qos ≡ false) → has_sent i (items_of_own own) ≡ is_sent_with i own
        → has_sent i (own_item p (SenderItem.Sent k id) (items_of_own own)) ≡ (((i == id) && not (is_qos1 p.qos)) || is_sent_with i own)
    by (inl b) (inl t) ih = rw (b, t, two_not_one p.qos t) (rw b refl)
    by (inl b) (inr t) ih = rw (b, t, not_two_one p.qos h.0 t) ih
    by (inr b) (inl t) ih = rw (b, t) (rw b ih)
    by (inr b) (inr t) ih = rw (b, t) ih
sent_is i (Own.Released k p id ∷ own) h = skip i (is_qos2 p.qos) (SenderItem.Released k id) (items_of_own own) refl ∙ sent_is i own h.1
sent_is i (Own.Done k p ∷ own) h = skip i (is_qos2 p.qos) (SenderItem.Done k) (items_of_own own) refl ∙ sent_is i own h

-- ---- what it writes

one_append : (packet : Packet) (number : Option ℕ) (f g : List (Forward ℕ)) → forward_of_one packet number (f ++ g) ≡ forward_of_one packet number f ++ g
one_append (packets.Publish p) number f g = by p.delivery number
  where
    by : (d : Delivery) (n : Option ℕ) → carried_by d n (f ++ g) ≡ carried_by d n f ++ g
    by deliveries.AtMostOnce n = refl
    by (deliveries.AtLeastOnce dup id) n = refl
    by (deliveries.ExactlyOnce dup id) None = refl
    by (deliveries.ExactlyOnce dup id) (Some k) = refl
one_append (packets.Pubrel id) number f g = refl
one_append (packets.Connect c) number f g = refl
one_append (packets.Connack c) number f g = refl
one_append (packets.Puback id) number f g = refl
one_append (packets.Pubrec id) number f g = refl
one_append (packets.Pubcomp id) number f g = refl
one_append (packets.Subscribe c) number f g = refl
one_append (packets.Suback c) number f g = refl
one_append (packets.Unsubscribe c) number f g = refl
one_append (packets.Unsuback id) number f g = refl
one_append packets.Pingreq number f g = refl
one_append packets.Pingresp number f g = refl
one_append packets.Disconnect number f g = refl

pub forward_append : (ws more : List Written) → forward_of_own (ws ++ more) ≡ forward_of_own ws ++ forward_of_own more
forward_append [] more = refl
forward_append (w ∷ ws) more =
    ap (forward_of_one w.packet w.number) (forward_append ws more) ∙ one_append w.packet w.number (forward_of_own ws) (forward_of_own more)

-- what is not taken yet of what was written, with more after it
pub more_to_take : (n : ℕ) (ws more : List Written) → n ≤ length ws → forward_of_own (drop n (ws ++ more)) ≡ forward_of_own (drop n ws) ++ forward_of_own more
more_to_take n ws more h = ap forward_of_own (drop-append-le n ws more h) ∙ forward_append (drop n ws) more

-- ---- which publication a place carries does not change

within_more : (ws more : List Written) (j : ℕ) → j < length ws → slice_get (ws ++ more) j ≡ slice_get ws j
within_more [] more j h = absurd (omega (arith, h))
within_more (w ∷ ws) more zero h = refl
within_more (w ∷ ws) more (suc j) h = within_more ws more j (omega (arith, h))

counted_less : (x : ConnectionName) (place : Place) (past : Past) (n : ℕ) → is_packet_of place.command x ≡ true → packet_count x (place ∷ past) ≤ n → packet_count x past < n
counted_less x place past n e h = by (is_packet_of place.command x) e h
  where
    by : (b : Bool) → b ≡ true → (if b then suc (packet_count x past) else packet_count x past) ≤ n → packet_count x past < n
    by true e h = omega (arith, h)
    by false e h = absurd (both_ways false refl e)

counted_below : (x : ConnectionName) (place : Place) (past : Past) (n : ℕ) → packet_count x (place ∷ past) ≤ n → packet_count x past ≤ n
counted_below x place past n h = by (is_packet_of place.command x) h
  where
    by : (b : Bool) → (if b then suc (packet_count x past) else packet_count x past) ≤ n → packet_count x past ≤ n
    by true h = omega (arith, h)
    by false h = h

same_name : (x y : ConnectionName) → same_connection x y ≡ true → x ≡ y
same_name x y e = by (cases_Bool (x.ballot == y.ballot)) (cases_Bool (x.count == y.count))
  where
    by : ((x.ballot == y.ballot) ≡ true) ⊎ ((x.ballot == y.ballot) ≡ false) → ((x.count == y.count) ≡ true) ⊎ ((x.count == y.count) ≡ false) → x ≡ y
    by (inl a) (inl b) =
        let p : x.ballot ≡ y.ballot = grind (arith, a) in
        let q : x.count ≡ y.count = grind (arith, b) in
        λ i. record { ballot = p i; count = q i }
    by (inr a) b = absurd (both_ways ((x.ballot == y.ballot) && (x.count == y.count)) (rw a refl) e)
    by (inl a) (inr b) = absurd (both_ways ((x.ballot == y.ballot) && (x.count == y.count)) (rw (a, b) refl) e)

same_self : (x : ConnectionName) → same_connection x x ≡ true
same_self x = rw (same x.ballot, same x.count) refl
  where
    same : (n : ℕ) → (n == n) ≡ true
    same n = grind arith

-- the connection with more written, whatever else of it changes
abbrev pub written_more : ClientConnection → List Written → ℕ → ℕ → Bool → List Publication → ClientConnection
written_more κ more taken packet_handled confirmed accepted =
    record { name = κ.name; written = κ.written ++ more; taken = taken; handled = packet_handled; confirmed = confirmed; accepted = accepted }

number_more : (x : ConnectionName) (κ κ' : ClientConnection) (others : List ClientConnection) (more : List Written) (j : ℕ) → κ'.name ≡ κ.name → κ'.written ≡ κ.written ++ more → (x ≡ κ.name → j < length κ.written)
    → written_number_at j (connection_named x (κ' ∷ others)) ≡ written_number_at j (connection_named x (κ ∷ others))
number_more x κ κ' others more j n w h = by (cases_Bool (same_connection x κ.name))
  where
    by : (same_connection x κ.name ≡ true) ⊎ (same_connection x κ.name ≡ false) → written_number_at j (connection_named x (κ' ∷ others)) ≡ written_number_at j (connection_named x (κ ∷ others))
    by (inr e) = rw (ap (same_connection x) n ∙ e, e) refl
    by (inl e) = rw (ap (same_connection x) n ∙ e, e) (ap written_number (ap (λ z. slice_get z j) w ∙ within_more κ.written more j (h (same_name x κ.name e))))

pub numbers_more : (past : Past) (κ κ' : ClientConnection) (others : List ClientConnection) (more : List Written) → κ'.name ≡ κ.name → κ'.written ≡ κ.written ++ more → packet_count κ.name past ≤ length κ.written
    → new_numbers (κ' ∷ others) past ≡ new_numbers (κ ∷ others) past
numbers_more [] κ κ' others more n w h = refl
numbers_more (place ∷ past) κ κ' others more n w h =
    ap₂ (λ xs number. xs ++ more_by (is_new place.command place.mark) number)
    (numbers_more past κ κ' others more n w (counted_below κ.name place past (length κ.written) h)) (one place.command refl)
  where
    here : (x : ConnectionName) (packet : Packet) → x ≡ κ.name → place.command ≡ commands.Packet x packet → packet_count x past < length κ.written
    here x packet s e =
        subst (λ (y : ConnectionName). packet_count y past < length κ.written) (sym s)
        (counted_less κ.name place past (length κ.written) (ap (λ c. is_packet_of c κ.name) e ∙ ap (same_connection x) (sym s) ∙ same_self x) h)

    one : (command : Command) → place.command ≡ command → carries (κ' ∷ others) command past ≡ carries (κ ∷ others) command past
    one (commands.Packet x (packets.Publish p)) e = number_more x κ κ' others more (packet_count x past) n w (λ s. here x (packets.Publish p) s e)
    one (commands.Packet x packet) e = refl
    one (commands.Connect x c clean) e = refl
    one (commands.Lost x) e = refl
    one (commands.Start b) e = refl
    one (commands.Expel d) e = refl

-- ---- the event

dropped : (n : ℕ) (xs : List Packet) (x : Packet) → slice_get xs n ≡ Some x → drop n xs ≡ x ∷ drop (suc n) xs
dropped n [] x e = cc
dropped zero (y ∷ xs) x e = let h : y ≡ x = cc in ap (λ z. z ∷ xs) h
dropped (suc n) (y ∷ xs) x e = dropped n xs x e

-- the transit of a client that is online on its newest connection, the current one
pub joined_link : (limits : Limits) (past : Past) (current : Option ConnectionName) (online : Bool) (κ : ClientConnection) (others : List ClientConnection) → online ≡ true → κ.confirmed ≡ true
    → is_current current κ.name ≡ true
    → transit_of_own limits past current online (last_confirmed (κ ∷ others)) ≡ Transit.Joined (forward_of_own (to_be_taken κ)) (backward_of_own (to_come limits past κ))
joined_link limits past current online κ others on conf e = rw (on, conf) (rw e refl)

sent_front : (i : ℕ) (old new : List (SenderItem ℕ)) → has_sent i old ≡ true → has_sent i (old ++ new) ≡ true
sent_front i [] new e = absurd (both_ways false refl e)
sent_front i (SenderItem.Queued v ∷ old) new e = sent_front i old new e
sent_front i (SenderItem.Sent v id ∷ old) new e = or_then (i == id) (has_sent i old) (has_sent i (old ++ new)) e (sent_front i old new)
sent_front i (SenderItem.Released v id ∷ old) new e = sent_front i old new e
sent_front i (SenderItem.Done v ∷ old) new e = sent_front i old new e

-- the side after the PUBREC
abbrev pub heard_pubrec : ℕ → Keeper → ClientConnection → Side
heard_pubrec i keeper κ =
    record {
      keeper = record keeper { own = map (own_at_pubrec i) keeper.own; releases = keeper.releases ++ i ∷ [] };
      connection = writes (plain (packets.Pubrel i) ∷ []) (record κ { handled = suc κ.handled });
    }

handled_is : (i : ℕ) (keeper : Keeper) (κ : ClientConnection) → keeper.is_online ≡ true → is_sent_with i keeper.own ≡ true
    → packet_handled (packets.Pubrec i) (record { keeper = keeper; connection = κ }) ≡ heard_pubrec i keeper κ
handled_is i keeper κ on has = rw (on, has) refl

pub hears_pubrec : (limits : Limits) (past : Past) (keeper : Keeper) (κ : ClientConnection) (others : List ClientConnection) (i : ℕ)
    → OwnAnswered keeper.own → keeper.is_online ≡ true → κ.confirmed ≡ true → κ.taken ≤ length κ.written → packet_count κ.name past ≤ length κ.written
    → is_current (current_connection past keeper.client) κ.name ≡ true → slice_get (put_to limits past κ.name) κ.handled ≡ Some (packets.Pubrec i)
    → IsGood (as_publisher limits (record { past = past; connections = κ ∷ others; keeper = keeper }))
    → GoesTo (as_publisher limits (record { past = past; connections = κ ∷ others; keeper = keeper }))
    (as_publisher limits (with_side (record { past = past; connections = κ ∷ others; keeper = keeper }) others (packet_handled (packets.Pubrec i) (record { keeper = keeper; connection = κ }))))
hears_pubrec limits past keeper κ others i two on conf within counted current next good =
    let s : Story = record { past = past; connections = κ ∷ others; keeper = keeper } in
    let h = as_publisher limits s in
    let f = forward_of_own (to_be_taken κ) in
    let b = backward_of_own (drop (suc κ.handled) (put_to limits past κ.name)) in
    let transit : h.transit ≡ Transit.Joined f (Backward.Pubrec i ∷ b) =
    joined_link limits past (current_connection past keeper.client) keeper.is_online κ others on conf current
    ∙ ap (λ z. Transit.Joined f (backward_of_own z)) (dropped κ.handled (put_to limits past κ.name) (packets.Pubrec i) next) in
    let due : IsJoined h.received good.old good.new f (Backward.Pubrec i ∷ b) = subst (λ (z : Transit ℕ). FitsTransit h.received good.old good.new z) transit good.transit in
    let has : is_sent_with i keeper.own ≡ true = sym (sent_is i keeper.own two) ∙ ap (has_sent i) good.sides.is ∙ sent_front i good.old good.new due.due.0 in
    let side = heard_pubrec i keeper κ in
    let t : Story = with_side s others side in
    let goes : GoesTo h (as_publisher limits t) = record {
      between = with_items (sender_hears (Backward.Pubrec i) h.items) (Transit.Joined (f ++ reply (Backward.Pubrec i)) b) h;
      run = goes_on stays (hears (Backward.Pubrec i) f b transit);
      like = record {
        items = sym (own_pubrec i keeper.own two);
        accepted = sym (numbers_more past κ side.connection others (plain (packets.Pubrel i) ∷ []) refl refl counted);
        received = λ id. refl;
        transit = sym (joined_link limits past (current_connection past keeper.client) keeper.is_online side.connection others on conf current
            ∙ ap (λ z. Transit.Joined z b) (more_to_take κ.taken κ.written (plain (packets.Pubrel i) ∷ []) within));
      };
    } in
    subst (λ (z : Side). GoesTo h (as_publisher limits (with_side s others z))) (sym (handled_is i keeper κ on has)) goes
