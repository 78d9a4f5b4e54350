-- A CONNACK 0 that the client handles is a run of the handshake in which it publishes: all is sent again, and the rest starts.
use Rattle.std.proofs.Common.{◌≡◌, ◌≤◌, ℕ, zero, suc, Bool, true, false, not, ◌&&◌, ◌==◌, if◌then◌else◌, List, [], ◌∷◌, ◌++◌, map, drop, length, Some, refl, ap, sym, ◌∙◌, subst, arith, ◌⊎◌}
use Rattle.std.specs.Prelude.{slice_get}
use Rattle.std.proofs.lemmas.Bool.{cases_Bool}
use Rattle.packet.specs.declared.connack.Connack.TheVariants as connacks
use Rattle.packet.specs.declared.packet.Packet.TheVariants as packets
use Rattle.lists.specs.Lists.{has_id, IsDistinct, Each}
use Rattle.broker_spec.specs.Place.{Past, Limits}
use Rattle.broker_spec.specs.Sessions.{current_connection}
use Rattle.exactly_once.specs.Items.{SenderItem, has_released}
use Rattle.exactly_once.specs.Handshake.{Forward, Transit, Handshake, sender_resends}
use Rattle.exactly_once.specs.HandshakeSteps.HandshakeStep.{parts, restarts}
use Rattle.lists.proofs.Tests.{eq_same, or_left, or_right}
use Rattle.lists.proofs.Identifiers.{distinct_front}
use Rattle.exactly_once.specs.Sends.{put_to}
use Rattle.client_base.specs.Keeper.{Written, Keeper, Own, ids_of_own}
use Rattle.exactly_once.specs.Sides.{ClientConnection}
use Rattle.client_base.specs.State.{id_of_request}
use Rattle.client_base.specs.Written.{sent_all, written_first, resent_written}
use Rattle.client_base.specs.Handled.{discarded, confirmed}
use Rattle.exactly_once.specs.Story.{with_side}
use Rattle.client_base.specs.Connected.{opening_connect}
use Rattle.exactly_once.specs.Inside.Projections.{items_of_own, forward_of_own, backward_of_own, is_current, as_publisher, GoesTo}
use Rattle.exactly_once.specs.Inside.OwnShape.{OwnInShape}
use Rattle.exactly_once.specs.Inside.ConnectionShape.{ConnectionInShape}
use Rattle.exactly_once.proofs.publishing.Links.{link_by, Reaches, reaches_by, reaches_then}
use Rattle.exactly_once.proofs.publishing.Written.{dropped_next}
use Rattle.exactly_once.proofs.publishing.First.{story_by, after_by, goes_first}
use Rattle.exactly_once.proofs.publishing.Answered.{counted_side}
use Rattle.exactly_once.proofs.publishing.Queued.{starts_queued}
use Rattle.exactly_once.proofs.publishing.Resent.{forward_resent}
use Rattle.exactly_once.proofs.connections.Unhandled.{connack_at_first}

-- each of these is among those
each_among : (own : List Own) (ids all : List ℕ) → ((id : ℕ) → has_id id ids ≡ true → has_id id all ≡ true) → ((id : ℕ) → has_id id all ≡ has_released id (items_of_own own))
    → Each (λ id. has_released id (items_of_own own) ≡ true) ids
each_among own [] all among same = tt
each_among own (id ∷ ids) all among same =
    (sym (same id) ∙ among id (or_left (id == id) (has_id id ids) (eq_same id)), each_among own ids all (λ j h. among j (or_right (j == id) (has_id j ids) h)) same)

-- ---- the run

-- all is sent again, if any client accepts it
restarts_by : (h : Handshake ℕ) (cur : Bool) (releases : List ℕ) → IsDistinct releases → Each (λ id. has_released id h.items ≡ true) releases
    → Reaches h h.items (link_by cur true (sender_resends releases h.items) [])
restarts_by h true releases d e = reaches_by h h.items (Transit.Joined (sender_resends releases h.items) []) (Transit.Joined (sender_resends releases h.items) []) (restarts releases d e) refl
restarts_by h false releases d e = reaches_by h h.items (Transit.Behind []) (Transit.Behind []) parts refl

pub begins_again : (h : Handshake ℕ) (cur : Bool) (keeper : Keeper) → OwnInShape keeper → h.items ≡ items_of_own keeper.own
    → Reaches h (items_of_own (sent_all keeper.own)) (link_by cur true (forward_of_own (resent_written keeper)) [])
begins_again h cur keeper shape items =
    let again = sender_resends keeper.releases (items_of_own keeper.own) in
    let all = items_of_own (sent_all keeper.own) in
    let known : Each (λ id. has_released id h.items ≡ true) keeper.releases =
    subst (λ (xs : List (SenderItem ℕ)). Each (λ id. has_released id xs ≡ true) keeper.releases) (sym items) (each_among keeper.own keeper.releases keeper.releases (λ id e. e) shape.releases_are) in
    subst (λ (f : List (Forward ℕ)). Reaches h all (link_by cur true f [])) (sym (forward_resent keeper))
    (reaches_then h h.items all (link_by cur true (sender_resends keeper.releases h.items) []) (link_by cur true (again ++ forward_of_own (written_first keeper.own)) [])
    (restarts_by h cur keeper.releases (shape.releases_apart) known)
    (λ k e l. starts_queued keeper.own [] k cur again [] (e ∙ items) tt (λ i g. refl)
    (distinct_front (ids_of_own keeper.own) (map id_of_request keeper.requests) (shape.ids_apart))
    (l ∙ ap (λ xs. link_by cur true (sender_resends keeper.releases xs) []) items)))

-- ---- the event

-- nothing of the handshake was written before
forward_opens : (n : ℕ) (ws more : List Written) (w : Written) → forward_of_own (w ∷ []) ≡ [] → ws ≡ w ∷ more → more ≡ [] → forward_of_own (drop n ws) ≡ []
forward_opens n ws more w quiet e none = ap (λ l. forward_of_own (drop n l)) (e ∙ ap (λ l. w ∷ l) none) ∙ by n
  where
    by : (n : ℕ) → forward_of_own (drop n (w ∷ [])) ≡ []
    by zero = quiet
    by (suc zero) = refl
    by (suc (suc n)) = refl

pub confirms : (limits : Limits) (past : Past) (keeper : Keeper) (κ : ClientConnection) (others : List ClientConnection) (present : Bool) → OwnInShape keeper → ConnectionInShape limits past keeper.client κ
    → κ.confirmed ≡ false → (present ≡ false → keeper.was_served ≡ false) → slice_get (put_to limits past κ.name) κ.handled ≡ Some (packets.Connack (connacks.Accepted present))
    → GoesTo (as_publisher limits (story_by past (κ ∷ others) keeper)) (as_publisher limits (with_side (story_by past (κ ∷ others) keeper) others (confirmed present (counted_side keeper κ))))
confirms limits past keeper κ others present own shape unconfirmed served next =
    let h = as_publisher limits (story_by past (κ ∷ others) keeper) in
    let put = put_to limits past κ.name in
    let none : κ.handled ≡ 0 = connack_at_first κ.taken κ.handled put (connacks.Accepted present) shape.connack_first next in
    let few : κ.taken ≤ 1 =
    let one : length κ.written ≡ 1 = ap length (shape.written ∙ ap (λ l. opening_connect keeper.client ∷ l) (shape.silent unconfirmed)) in
    let within = shape.within in
    omega (arith, one, within) in
    let come : [] ≡ backward_of_own (drop (suc κ.handled) put) =
    sym (sym (ap backward_of_own (dropped_next κ.handled put (packets.Connack (connacks.Accepted present)) next)) ∙ ap (λ n. backward_of_own (drop n put)) none ∙ shape.asks_first few) in
    let later : Keeper = record keeper { own = sent_all keeper.own; is_online = true; was_served = true } in
    let goes : GoesTo h (as_publisher limits (story_by past (after_by κ (κ.written ++ resent_written keeper) (suc κ.handled) true κ.accepted ∷ others) later)) =
    goes_first limits past keeper later κ others (κ.written ++ resent_written keeper) (resent_written keeper) (suc κ.handled) true κ.accepted (items_of_own (sent_all keeper.own))
    (forward_of_own (resent_written keeper)) [] shape refl refl refl
    (begins_again h (is_current (current_connection past keeper.client) κ.name) keeper own refl) refl
    (ap (λ l. l ++ forward_of_own (resent_written keeper)) (sym (forward_opens κ.taken κ.written shape.more (opening_connect keeper.client) refl shape.written (shape.silent unconfirmed)))) come in
    subst (λ (kept : Keeper). GoesTo h (as_publisher limits (story_by past (after_by κ (κ.written ++ resent_written kept) (suc κ.handled) true κ.accepted ∷ others)
    (record kept { own = sent_all kept.own; is_online = true; was_served = true })))) (sym (kept present (cases_Bool keeper.was_served) served)) goes
  where
    kept : (b : Bool) → (keeper.was_served ≡ true) ⊎ (keeper.was_served ≡ false) → (b ≡ false → keeper.was_served ≡ false)
        → (if not b && keeper.was_served then discarded keeper else keeper) ≡ keeper
    kept true w s = refl
    kept false w s = ap (λ b. if b then discarded keeper else keeper) (s refl)
