-- A place that answers none of the client's entries: it may make copies for it, and these start.
use Rattle.std.proofs.Common.{◌≡◌, ℕ, Bool, true, false, if◌then◌else◌, List, [], ◌∷◌, ◌++◌, length, map, Option, Some, None, refl, ap, ap₂, sym, ◌∙◌}
use Rattle.std.proofs.lemmas.List.{append-nil}
use Rattle.session_base.specs.declared.publication.Publication.{Publication}
use Rattle.broker_spec.specs.Connection.{ConnectionName, same_connection}
use Rattle.broker_spec.specs.Place.{Client, Place, Past, Limits}
use Rattle.broker_spec.specs.Sessions.{accepts, ends_any, current_connection, clean_session_of}
use Rattle.broker_spec.specs.Entries.{Entry, copies_at, queued}
use Rattle.broker_spec.specs.Readings.{made_at}
use Rattle.broker_spec.specs.Times.{answered_by, started, window_at, entries_of}
use Rattle.broker_spec.specs.Sends.{handed_to, deliveries_to}
use Rattle.broker_spec.specs.AnswersInOrder.{answers_at}
use Rattle.broker_spec.proofs.AnswersStaySound.{sound_more}
use Rattle.broker_base.proofs.QueueAfter.{sound_entries}
use Rattle.broker_base.proofs.QuietPasts.{no_connection, entries_next, entries_none}
use Rattle.exactly_once.specs.Handshake.{publishing}
use Rattle.exactly_once.specs.HandshakeSteps.HandshakeTrace.{stays}
use Rattle.exactly_once.specs.Sends.{sends_to}
use Rattle.exactly_once.specs.Sides.{ClientConnection}
use Rattle.exactly_once.specs.Story.{Story}
use Rattle.exactly_once.specs.StoryCommands.{any_named}
use Rattle.exactly_once.specs.Acceptance.{accepted_on}
use Rattle.exactly_once.specs.Inside.Projections.{is_current, GoesTo}
use Rattle.exactly_once.specs.Inside.AsSubscriber.{forward_of, left_behind, as_subscriber}
use Rattle.exactly_once.specs.Inside.Shape.{HasShape}
use Rattle.exactly_once.proofs.subscribing.Adding.{rows_at}
use Rattle.exactly_once.proofs.subscribing.Views.{View, view, link_as, link_is, grown}
use Rattle.exactly_once.proofs.subscribing.places.Quiet.{current_same, no_entries}
use Rattle.exactly_once.proofs.subscribing.Placed.{GoesOn, placed, place_goes}
use Rattle.exactly_once.proofs.subscribing.Delivered.{deliveries_sent}

-- it opens and ends no connection of the client, answers none of its entries, and sends it the copies that it makes
pub record IsPlain (limits : Limits) (s : Story) (place : Place) : Type 0 where
  pub opens : accepts place.command place.mark s.keeper.client ≡ None
  pub goes : ends_any place s.keeper.client (current_connection s.past s.keeper.client) ≡ false
  pub answers : answered_by place.command place.mark (length s.past) s.keeper.client (entries_of limits s.past s.keeper.client) ≡ entries_of limits s.past s.keeper.client
  pub window : window_at limits (place ∷ s.past) ≡ window_at limits s.past
  pub sends : (x : ConnectionName) → any_named (same_connection x) s.connections ≡ true
      → forward_of (sends_to x (answers_at limits place s.past)) ≡ forward_of (sends_to x (deliveries_to limits place s.past s.keeper.client))

-- a client without a connection is sent nothing
nothing_handed : (limits : Limits) (place : Place) (past : Past) (c : Client) → current_connection past c ≡ None → deliveries_to limits place past c ≡ []
nothing_handed limits place past c e = ap (λ o. handed_to o (length past) (copies_at place past c) (made_at (length past) (entries_of limits (place ∷ past) c))) e

-- what it does to the client's entries
pub plain_on : (limits : Limits) (s : Story) (place : Place) → IsPlain limits s place → (ps : List Publication) × GoesOn limits s place (entries_of limits s.past s.keeper.client) ps []
plain_on limits s place p = by (clean_session_of s.past s.keeper.client) refl
  where
    c : Client
    c = s.keeper.client

    current : Option ConnectionName
    current = current_connection s.past s.keeper.client

    w : ℕ
    w = window_at limits (place ∷ s.past)

    es : List Entry
    es = entries_of limits s.past s.keeper.client

    none_sent : (x : ConnectionName) (o : Option ConnectionName) (all : List Entry) → o ≡ None → [] ≡ (if is_current o x then map publishing (rows_at w o all) else [])
    none_sent x None all e = refl
    none_sent x (Some z) all e = absurd (cc)

    by : (session : Option Bool) → clean_session_of s.past s.keeper.client ≡ session → (ps : List Publication) × GoesOn limits s place es ps []
    by (Some clean) e =
        let entries : entries_of limits (place ∷ s.past) c ≡ started w (length s.past) current (es ++ map (Entry.Queued (length s.past)) (queued (copies_at place s.past c))) =
        entries_next limits place s.past c clean p.opens p.goes e
        ∙ ap (λ (l : List Entry). started w (length s.past) current (l ++ map (Entry.Queued (length s.past)) (queued (copies_at place s.past c)))) p.answers in (
          queued (copies_at place s.past c),
          record {
            current = current_same place s.past c p.opens p.goes;
            entries = entries;
            sound = sound_more (length s.past) es (sound_entries limits s.past c);
            sends = λ x h. p.sends x h ∙ deliveries_sent limits place s.past c x p.window entries;
          },
        )
    by None e =
        let none : current ≡ None = no_connection s.past c e in (
          [],
          record {
            current = current_same place s.past c p.opens p.goes;
            entries = entries_none limits place s.past c p.opens e ∙ sym (ap₂ (λ o (l : List Entry). started w (length s.past) o (l ++ [])) none (no_entries limits s.past c e));
            sound = sound_more (length s.past) es (sound_entries limits s.past c);
            sends = λ x h. p.sends x h ∙ ap (λ l. forward_of (sends_to x l)) (nothing_handed limits place s.past c none) ∙ none_sent x current (es ++ []) none;
          },
        )

-- no more comes
pub grown_none : (v : View) → grown [] v ≡ v
grown_none None = refl
grown_none (Some (f, true)) = ap (λ l. Some (l, true)) (append-nil f)
grown_none (Some (f, false)) = refl

-- such a place is a run of the handshake
pub plain_goes : (limits : Limits) (s : Story) (place : Place) (connections : List ClientConnection) → HasShape limits s → IsPlain limits s place
    → view limits (place ∷ s.past) (current_connection s.past s.keeper.client) s.keeper connections ≡ view limits (place ∷ s.past) (current_connection s.past s.keeper.client) s.keeper s.connections
    → accepted_on connections ≡ accepted_on s.connections
    → left_behind (current_connection s.past s.keeper.client) connections ≡ left_behind (current_connection s.past s.keeper.client) s.connections
    → GoesTo (as_subscriber limits s) (as_subscriber limits (placed s place connections))
plain_goes limits s place connections shape p same accepted left =
    let g = plain_on limits s place p in
    let v = view limits s.past (current_connection s.past s.keeper.client) s.keeper s.connections in
    place_goes limits s place connections (entries_of limits s.past s.keeper.client) g.0 [] (as_subscriber limits s) shape g.1 same accepted stays refl refl (λ id. refl)
    (link_is limits s.past (current_connection s.past s.keeper.client) s.keeper s.connections ∙ ap₂ link_as (sym (grown_none v)) (sym left))
