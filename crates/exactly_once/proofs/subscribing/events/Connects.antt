-- The list takes the CONNECT of one of the client's connections.
use Rattle.std.proofs.Common.{◌≡◌, ℕ, Bool, true, false, List, [], ◌∷◌, ◌++◌, length, map, Option, Some, None, refl, ap, ap₂, sym, ◌∙◌}
use Rattle.std.specs.Prelude.{slice_get}
use Rattle.std.proofs.lemmas.List.{append-nil}
use Rattle.session_base.specs.declared.publication.Publication.{Publication}
use Rattle.broker_spec.specs.Connection.{ConnectionName}
use Rattle.broker_spec.specs.Place.{Mark, Limits}
use Rattle.broker_spec.specs.Sessions.{current_connection}
use Rattle.broker_spec.specs.Entries.{Entry}
use Rattle.broker_spec.specs.Readings.{released_below}
use Rattle.broker_spec.specs.Times.{started, window_at, entries_of}
use Rattle.broker_spec.specs.NobodyTheorems.{IsSteady}
use Rattle.broker_spec.proofs.AnswersStaySound.{sound_more}
use Rattle.broker_base.proofs.QueueAfter.{sound_entries}
use Rattle.exactly_once.specs.Handshake.{Backward, Transit, Handshake, publishing, sender_resends, with_items}
use Rattle.exactly_once.specs.HandshakeSteps.{HandshakeTrace}
use Rattle.exactly_once.specs.HandshakeSteps.HandshakeStep.{sender_leaves, parts, restarts}
use Rattle.exactly_once.specs.HandshakeSteps.HandshakeTrace.{stays, goes_on}
use Rattle.client_base.specs.Keeper.{Written}
use Rattle.exactly_once.specs.Sides.{ClientConnection}
use Rattle.exactly_once.specs.Story.{Story}
use Rattle.exactly_once.specs.StoryCommands.{with_one_counted}
use Rattle.exactly_once.specs.Inside.Projections.{GoesTo}
use Rattle.exactly_once.specs.Inside.AsSubscriber.{items_of_entries, held, left_behind, transit_to, as_subscriber}
use Rattle.exactly_once.specs.Inside.Shape.{HasShape}
use Rattle.exactly_once.specs.Inside.ConnectionShape.{ConnectionInShape}
use Rattle.exactly_once.proofs.Starts.{sending_all}
use Rattle.exactly_once.proofs.Takes.{same_name_self}
use Rattle.exactly_once.proofs.subscribing.Queued.{kept_entries}
use Rattle.exactly_once.proofs.subscribing.Releases.{each_released, distinct_released}
use Rattle.exactly_once.proofs.subscribing.Adding.{rows_at, goes_started}
use Rattle.exactly_once.proofs.subscribing.Views.{View, view, link_as, link_is, parted, sent_joined, sent_behind, sent_ahead}
use Rattle.exactly_once.proofs.subscribing.Placed.{placed}
use Rattle.exactly_once.proofs.subscribing.events.OtherConnects.{connect_elsewhere}
use Rattle.exactly_once.proofs.subscribing.Counted.{accepted_counted}
use Rattle.exactly_once.proofs.subscribing.events.Opening.{IsFresh, IsStale, IsNew, new_comes, new_left, view_stale}
use Rattle.exactly_once.proofs.subscribing.places.Accepted.{at_accepted, accepted_current, accepted_entries, accepted_sends}

-- a connection of the client whose CONNECT comes next
pub record IsOpening (limits : Limits) (s : Story) (i : ℕ) (κ : ClientConnection) (w : Written) : Type 0 where
  pub shape : HasShape limits s
  pub steady : IsSteady limits
  pub at : slice_get s.connections i ≡ Some κ
  pub taken : κ.taken ≡ 0
  pub good : ConnectionInShape limits s.past s.keeper.client κ
  pub new : IsNew limits s.past s.keeper.client κ w

-- ---- accepted

-- the transit if the sender left
parted_run : (h : Handshake Publication) (v : View) (b : List Backward) → h.transit ≡ link_as v b → (k : Handshake Publication) × (HandshakeTrace h k) × (k.items ≡ h.items) × (k.accepted ≡ h.accepted) × (k.received ≡ h.received) × (k.transit ≡ link_as (parted v) [])
parted_run h None b e = (with_items h.items (Transit.Behind []) h, goes_on stays parts, refl, refl, refl, refl)
parted_run h (Some (f, true)) b e = (with_items h.items (Transit.Ahead f) h, goes_on stays (sender_leaves f b e), refl, refl, refl, refl)
parted_run h (Some (f, false)) b e = (h, stays, refl, refl, refl, e)

-- what starts is not sent there
parted_sent : (rows : List (ℕ × Publication)) (v : View) → link_as (parted v) [] ≡ sending_all rows (link_as (parted v) [])
parted_sent rows None = sym (sent_behind rows [])
parted_sent rows (Some (f, b)) = sym (sent_ahead rows f)

-- the entries after it
started_as : (limits : Limits) (s : Story) (y : ConnectionName) → HasShape limits s
    → items_of_entries (entries_of limits (at_accepted y s.keeper.client ∷ s.past) s.keeper.client)
    ≡ items_of_entries (started (window_at limits (at_accepted y s.keeper.client ∷ s.past)) (length s.past) (Some y) (entries_of limits s.past s.keeper.client ++ []))
started_as limits s y shape =
    ap items_of_entries (accepted_entries limits s.past y s.keeper.client shape.session
    ∙ ap (λ (l : List Entry). started (window_at limits (at_accepted y s.keeper.client ∷ s.past)) (length s.past) (Some y) l) (sym (append-nil (entries_of limits s.past s.keeper.client))))

-- of a connection that the client does not hold
pub accepted_stale : (limits : Limits) (s : Story) (i : ℕ) (κ : ClientConnection) (w : Written) → IsOpening limits s i κ w → IsStale s.keeper s.connections i
    → GoesTo (as_subscriber limits s) (as_subscriber limits (placed s (at_accepted κ.name s.keeper.client) (with_one_counted i s.connections)))
accepted_stale limits s i κ w o stale =
    let c = s.keeper.client in
    let place = at_accepted κ.name c in
    let es = entries_of limits s.past c in
    let current = current_connection s.past c in
    let v = view limits s.past current s.keeper s.connections in
    let h = as_subscriber limits s in
    let t = as_subscriber limits (placed s place (with_one_counted i s.connections)) in
    let k = parted_run h v (left_behind current s.connections) (link_is limits s.past current s.keeper s.connections) in
    let rows = rows_at (window_at limits (place ∷ s.past)) (Some κ.name) (es ++ []) in
    goes_started h k.0 t (window_at limits (place ∷ s.past)) (length s.past) (Some κ.name) es [] k.1 k.2 (sound_more (length s.past) es (sound_entries limits s.past c))
    (k.3 ∙ sym (accepted_counted i s.connections)) (λ id. ap (λ (f : ℕ → Bool). f id) k.4) (started_as limits s κ.name o.shape)
    (ap (λ (z : Option ConnectionName). transit_to limits (place ∷ s.past) z (with_one_counted i s.connections) (held s.keeper (with_one_counted i s.connections))) (accepted_current s.past κ.name c)
    ∙ link_is limits (place ∷ s.past) (Some κ.name) s.keeper (with_one_counted i s.connections)
    ∙ ap₂ link_as
    (stale limits (place ∷ s.past) (Some κ.name)
    ∙ view_stale limits place s.past c current s.keeper s.connections i κ o.shape.connections o.shape.names_apart o.at o.taken (λ x e. connect_elsewhere limits s.past x κ.name c false Mark.Accepted e))
    (new_left limits s.past c s.connections i κ w o.shape.names_apart o.at o.taken o.new)
    ∙ parted_sent rows v
    ∙ ap (sending_all rows) (sym k.5))

-- of the one that the client holds
pub accepted_fresh : (limits : Limits) (s : Story) (i : ℕ) (κ : ClientConnection) (w : Written) → IsOpening limits s i κ w → IsFresh s.keeper s.connections i κ
    → GoesTo (as_subscriber limits s) (as_subscriber limits (placed s (at_accepted κ.name s.keeper.client) (with_one_counted i s.connections)))
accepted_fresh limits s i κ w o fresh =
    let c = s.keeper.client in
    let place = at_accepted κ.name c in
    let es = entries_of limits s.past c in
    let h = as_subscriber limits s in
    let t = as_subscriber limits (placed s place (with_one_counted i s.connections)) in
    let releases = released_below (length s.past) es in
    let rows = rows_at (window_at limits (place ∷ s.past)) (Some κ.name) (es ++ []) in
    let k = with_items h.items (Transit.Joined (sender_resends releases h.items) []) h in
    goes_started h k t (window_at limits (place ∷ s.past)) (length s.past) (Some κ.name) es []
    (goes_on stays (restarts releases (distinct_released (length s.past) es (sound_entries limits s.past c)) (each_released (length s.past) es (kept_entries limits s.past c))))
    refl (sound_more (length s.past) es (sound_entries limits s.past c)) (sym (accepted_counted i s.connections)) (λ id. refl) (started_as limits s κ.name o.shape)
    (ap (λ (z : Option ConnectionName). transit_to limits (place ∷ s.past) z (with_one_counted i s.connections) (held s.keeper (with_one_counted i s.connections))) (accepted_current s.past κ.name c)
    ∙ link_is limits (place ∷ s.past) (Some κ.name) s.keeper (with_one_counted i s.connections)
    ∙ ap₂ link_as
    (fresh.behind limits (place ∷ s.past) (Some κ.name)
    ∙ ap₂ (λ l b. Some (l, b))
    (new_comes limits place s.past c κ w o.good o.new
    ∙ accepted_sends limits s.past κ.name c o.shape.session
    ∙ ap (λ (l : List Entry). sender_resends releases h.items ++ map publishing (rows_at (window_at limits (place ∷ s.past)) (Some κ.name) l)) (sym (append-nil es)))
    (same_name_self κ.name))
    (new_left limits s.past c s.connections i κ w o.shape.names_apart o.at o.taken o.new)
    ∙ sym (sent_joined rows (sender_resends releases h.items) []))
