-- The list takes a PUBREC of the client's current connection.
use Rattle.std.proofs.Common.{◌≡◌, ℕ, suc, Bool, true, false, if◌then◌else◌, List, [], ◌∷◌, ◌++◌, length, map, Option, Some, None, refl, ap, ap₂, sym, ◌∙◌, subst, ◌⊎◌, inl, inr}
use Rattle.std.proofs.lemmas.Bool.{both_ways}
use Rattle.std.proofs.lemmas.List.{append-nil}
use Rattle.packet.specs.declared.packet.Packet.{Packet}
use Rattle.packet.specs.declared.packet.Packet.TheVariants as packets
use Rattle.lists.specs.Lists.{has_id}
use Rattle.broker_spec.specs.Connection.{ConnectionName, same_connection}
use Rattle.broker_spec.specs.Place.{Limits}
use Rattle.broker_spec.specs.Sessions.{current_connection}
use Rattle.broker_spec.specs.Entries.{Entry}
use Rattle.broker_spec.specs.Readings.{released_at, released_below}
use Rattle.broker_spec.specs.Times.{at_pubrec, started, window_at, entries_of}
use Rattle.broker_spec.specs.NobodyTheorems.{IsSteady}
use Rattle.broker_spec.specs.declared.command.Output.TheVariants.{Send}
use Rattle.broker_base.proofs.ConnectionsOfSessions.{same_turned}
use Rattle.broker_spec.proofs.NothingWaits.{IsFull, full-at}
use Rattle.broker_base.proofs.flights.StartsInFlight.{released_started}
use Rattle.exactly_once.specs.Items.{has_sent}
use Rattle.exactly_once.specs.Handshake.{Forward, Backward, publishing}
use Rattle.exactly_once.specs.HandshakeInvariant.{IsGood}
use Rattle.exactly_once.specs.Sends.{sends_to}
use Rattle.client_base.specs.Keeper.{Written}
use Rattle.exactly_once.specs.Sides.{ClientConnection}
use Rattle.exactly_once.specs.Story.{Story}
use Rattle.exactly_once.specs.StoryCommands.{with_one_counted}
use Rattle.exactly_once.specs.Inside.Projections.{is_current, GoesTo}
use Rattle.exactly_once.specs.Inside.AsSubscriber.{items_of_entries, forward_of, left_behind, as_subscriber}
use Rattle.exactly_once.proofs.Items.{items_pubrec}
use Rattle.exactly_once.proofs.subscribing.Written.{backward_one}
use Rattle.exactly_once.proofs.subscribing.Standing.{Stands, stands}
use Rattle.exactly_once.proofs.subscribing.Queued.{kept_entries}
use Rattle.exactly_once.proofs.subscribing.Adding.{rows_at}
use Rattle.exactly_once.proofs.subscribing.Views.{view, link_as, link_is}
use Rattle.exactly_once.proofs.subscribing.Placed.{placed}
use Rattle.exactly_once.proofs.subscribing.Heard.{pubrec_due}
use Rattle.exactly_once.proofs.subscribing.Elsewhere.{goes_elsewhere}
use Rattle.exactly_once.proofs.subscribing.Own.{IsOwn, own_left}
use Rattle.exactly_once.proofs.subscribing.places.Answered.{all_queued, full_pubrec, now_released, has_after}
use Rattle.exactly_once.proofs.subscribing.places.Quiet.{full_rows}
use Rattle.exactly_once.proofs.subscribing.Answers.{at_own, answered, entries_answered, answers_on, own_if}
use Rattle.exactly_once.proofs.subscribing.Answering.{own_hears}

-- the PUBREL after a PUBREC
pubrel_sends : (b : Bool) (current : Option ConnectionName) (y x : ConnectionName) (id : ℕ) → b ≡ true → current ≡ Some y
    → forward_of (sends_to x (if b then Send y (packets.Pubrel id) ∷ [] else [])) ≡ (if is_current current x then Forward.Pubrel id ∷ [] else [])
pubrel_sends false current y x id t e = absurd (both_ways false refl t)
pubrel_sends true current y x id t e = by (same_connection y x) refl ∙ ap (λ o. if is_current o x then Forward.Pubrel id ∷ [] else []) (sym e)
  where
    by : (a : Bool) → same_connection y x ≡ a → forward_of (sends_to x (Send y (packets.Pubrel id) ∷ [])) ≡ (if a then Forward.Pubrel id ∷ [] else [])
    by true g = rw (same_turned x y ∙ g) refl
    by false g = ap forward_of (goes_elsewhere x y (packets.Pubrel id) [] (same_turned x y ∙ g))

-- nothing starts at a PUBREC
pubrec_rows : (limits : Limits) (s : Story) (y : ConnectionName) (id : ℕ) → IsSteady limits → current_connection s.past s.keeper.client ≡ Some y
    → rows_at (window_at limits (at_own s y (packets.Pubrec id) ∷ s.past)) (current_connection s.past s.keeper.client) (answered s limits y (packets.Pubrec id) ++ []) ≡ []
pubrec_rows limits s y id steady e =
    ap₂ (λ o (l : List Entry). rows_at (window_at limits (at_own s y (packets.Pubrec id) ∷ s.past)) o l) e
    (append-nil (answered s limits y (packets.Pubrec id)) ∙ own_if s (map (at_pubrec (length s.past) id) (entries_of limits s.past s.keeper.client)) (entries_of limits s.past s.keeper.client))
    ∙ full_rows (window_at limits (at_own s y (packets.Pubrec id) ∷ s.past)) [] (map (at_pubrec (length s.past) id) (entries_of limits s.past s.keeper.client))
    (full_pubrec (window_at limits (at_own s y (packets.Pubrec id) ∷ s.past)) 0 (length s.past) id (entries_of limits s.past s.keeper.client)
    (subst (λ (w : ℕ). IsFull w 0 (entries_of limits s.past s.keeper.client)) (sym (steady (at_own s y (packets.Pubrec id)) s.past refl)) (by (full-at limits s.past s.keeper.client))))
  where
    by : (current_connection s.past s.keeper.client ≡ None) ⊎ IsFull (window_at limits s.past) 0 (entries_of limits s.past s.keeper.client) → IsFull (window_at limits s.past) 0 (entries_of limits s.past s.keeper.client)
    by (inl n) = absurd (let f : None ≡ Some y = sym n ∙ e in cc)
    by (inr f) = f

-- the item is released
pubrec_has : (limits : Limits) (s : Story) (y : ConnectionName) (id : ℕ) → current_connection s.past s.keeper.client ≡ Some y → has_sent id (items_of_entries (entries_of limits s.past s.keeper.client)) ≡ true
    → has_id id (released_below (suc (length s.past)) (entries_of limits (at_own s y (packets.Pubrec id) ∷ s.past) s.keeper.client)) ≡ true
pubrec_has limits s y id e sent =
    let n = length s.past in
    let es = entries_of limits s.past s.keeper.client in
    let w = window_at limits (at_own s y (packets.Pubrec id) ∷ s.past) in
    ap (λ (l : List Entry). has_id id (released_below (suc n) l))
    (entries_answered limits s y (packets.Pubrec id) e refl ∙ ap (λ o. started w n o (answered s limits y (packets.Pubrec id) ++ [])) e)
    ∙ ap (has_id id) (released_started (suc n) w n [] (answered s limits y (packets.Pubrec id) ++ []))
    ∙ ap (λ (l : List Entry). has_id id (released_below (suc n) l)) (append-nil (answered s limits y (packets.Pubrec id)) ∙ own_if s (map (at_pubrec n id) es) es)
    ∙ has_after id (released_below n (map (at_pubrec n id) es)) (released_at n (map (at_pubrec n id) es)) (now_released n id es sent)

-- a PUBREC
pub own_pubrec : (limits : Limits) (s : Story) (i : ℕ) (κ : ClientConnection) (w : Written) (id : ℕ) → IsOwn limits s i κ w → IsGood (as_subscriber limits s) → w.packet ≡ packets.Pubrec id
    → GoesTo (as_subscriber limits s) (as_subscriber limits (placed s (at_own s κ.name (packets.Pubrec id)) (with_one_counted i s.connections)))
own_pubrec limits s i κ w id o good e =
    let current = current_connection s.past s.keeper.client in
    let es = entries_of limits s.past s.keeper.client in
    let v = view limits s.past current s.keeper s.connections in
    let b = left_behind current (with_one_counted i s.connections) in
    let left : left_behind current s.connections ≡ Backward.Pubrec id ∷ b = own_left limits s i κ w o ∙ ap (λ (z : Packet). backward_one z b) e in
    let h = as_subscriber limits s in
    let sent : has_sent id h.items ≡ true =
    pubrec_due h v id b good (link_is limits s.past current s.keeper s.connections ∙ ap (link_as v) left)
    (subst (Stands h.transit) left (stands limits s.past s.keeper.client s.keeper s.connections current o.shape.connections o.shape.newest_is_served)) in
    own_hears limits s i κ w (packets.Pubrec id) (Backward.Pubrec id) o e (λ b. refl)
    (answers_on limits s κ.name (packets.Pubrec id) (Forward.Pubrel id ∷ []) o.current refl
    (λ x h. pubrel_sends (has_id id (released_below (suc (length s.past)) (entries_of limits (at_own s κ.name (packets.Pubrec id) ∷ s.past) s.keeper.client))) current κ.name x id
    (pubrec_has limits s κ.name id o.current sent) o.current
    ∙ ap (λ rows. if is_current current x then Forward.Pubrel id ∷ map publishing rows else []) (sym (pubrec_rows limits s κ.name id o.steady o.current))))
    (sym (ap items_of_entries (own_if s (map (at_pubrec (length s.past) id) es) es) ∙ items_pubrec (length s.past) id es (all_queued es (kept_entries limits s.past s.keeper.client))))
