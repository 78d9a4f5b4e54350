-- The CONNECT of one of the client's connections, by what happens to it.
use Rattle.std.proofs.Common.{◌≡◌, ℕ, Bool, true, false, ◌||◌, nat_lt, if◌then◌else◌, [], ◌∷◌, length, Option, Some, None, is_some, refl, ap, sym, ◌∙◌, ◌⊎◌, inl, inr, arith}
use Rattle.std.proofs.lemmas.Bool.{both_ways}
use Rattle.packet_base.specs.declared.refusal_code.RefusalCode.TheVariants as refusals
use Rattle.packet.specs.declared.connack.Connack.TheVariants as connacks
use Rattle.packet.specs.declared.packet.Packet.TheVariants as packets
use Rattle.broker_spec.specs.Connection.{ConnectionName}
use Rattle.broker_spec.specs.Place.{Client, Mark, Place, Past, Limits}
use Rattle.broker_spec.specs.Sessions.{ends_any, current_connection, clean_session_of}
use Rattle.broker_spec.specs.Owner.{clients, owner_of}
use Rattle.broker_spec.specs.Marks.{connect_mark}
use Rattle.broker_spec.specs.AnswersInOrder.{answers_at}
use Rattle.broker_spec.specs.declared.command.Output.TheVariants.{Close}
use Rattle.broker_base.proofs.QuietPasts.{no_connection, entries_none}
use Rattle.exactly_once.specs.Handshake.{Transit, with_items}
use Rattle.exactly_once.specs.HandshakeSteps.HandshakeStep.{parts_ahead}
use Rattle.exactly_once.specs.HandshakeSteps.HandshakeTrace.{stays, goes_on}
use Rattle.exactly_once.specs.Sends.{sends_to}
use Rattle.client_base.specs.Keeper.{Written}
use Rattle.exactly_once.specs.Sides.{ClientConnection}
use Rattle.exactly_once.specs.Story.{Story}
use Rattle.exactly_once.specs.StoryCommands.{with_one_counted, packet_count}
use Rattle.exactly_once.specs.Inside.Projections.{GoesTo}
use Rattle.exactly_once.specs.Inside.AsSubscriber.{items_of_entries, forward_of, held, left_behind, transit_to, as_subscriber}
use Rattle.exactly_once.proofs.subscribing.Views.{link_as, link_is}
use Rattle.exactly_once.proofs.subscribing.Placed.{placed}
use Rattle.exactly_once.proofs.subscribing.Plain.{plain_goes}
use Rattle.exactly_once.proofs.subscribing.Parting.{nothing_behind}
use Rattle.exactly_once.proofs.subscribing.events.OtherConnects.{at_connect}
use Rattle.exactly_once.proofs.subscribing.Counted.{accepted_counted}
use Rattle.exactly_once.proofs.subscribing.events.Opening.{IsFresh, IsStale, fresh_or_stale, new_comes}
use Rattle.exactly_once.proofs.subscribing.events.Connects.{IsOpening, accepted_stale, accepted_fresh}
use Rattle.exactly_once.proofs.subscribing.places.Owners.{owner_is}
use Rattle.exactly_once.proofs.subscribing.places.Publishes.{none_handed, skips}
use Rattle.exactly_once.proofs.subscribing.places.Quiet.{current_same, no_entries}
use Rattle.exactly_once.proofs.subscribing.places.Accepted.{served_counted}

-- the place of a Connect that is refused because no session is left
abbrev pub at_full : ConnectionName → Client → Place
at_full y c = at_connect y c false Mark.Full

-- its answers are not of the handshake
full_sends : (limits : Limits) (past : Past) (y x : ConnectionName) (c : Client) → forward_of (sends_to x (answers_at limits (at_full y c) past)) ≡ []
full_sends limits past y x c = skips x y (packets.Connack (connacks.Refused refusals.ServerUnavailable)) (Close y ∷ []) (λ f. refl)

-- it ends nothing of a client without a connection
full_ends : (y : ConnectionName) (c : Client) (current : Option ConnectionName) → current ≡ None → ends_any (at_full y c) [] current ≡ false
full_ends y c None e = refl
full_ends y c (Some x) e = absurd (cc)

-- refused so, on a connection that the client does not hold
full_stale : (limits : Limits) (s : Story) (i : ℕ) (κ : ClientConnection) (w : Written) → IsOpening limits s i κ w → IsStale s.keeper s.connections i → current_connection s.past s.keeper.client ≡ None
    → GoesTo (as_subscriber limits s) (as_subscriber limits (placed s (at_full κ.name s.keeper.client) (with_one_counted i s.connections)))
full_stale limits s i κ w o stale none =
    let place = at_full κ.name s.keeper.client in
    let current = current_connection s.past s.keeper.client in
    plain_goes limits s place (with_one_counted i s.connections) o.shape
    (record {
      opens = refl;
      goes = full_ends κ.name s.keeper.client current none;
      answers = refl;
      window = o.steady place s.past refl;
      sends = λ x h. full_sends limits s.past κ.name x s.keeper.client ∙ sym (ap (λ l. forward_of (sends_to x l)) (none_handed limits place s.past s.keeper.client refl));
    })
    (stale limits (place ∷ s.past) current) (accepted_counted i s.connections)
    (ap (λ z. left_behind z (with_one_counted i s.connections)) none ∙ nothing_behind (with_one_counted i s.connections) ∙ sym (ap (λ z. left_behind z s.connections) none ∙ nothing_behind s.connections))

-- and on the one that it holds
full_fresh : (limits : Limits) (s : Story) (i : ℕ) (κ : ClientConnection) (w : Written) → IsOpening limits s i κ w → IsFresh s.keeper s.connections i κ → clean_session_of s.past s.keeper.client ≡ None
    → current_connection s.past s.keeper.client ≡ None
    → GoesTo (as_subscriber limits s) (as_subscriber limits (placed s (at_full κ.name s.keeper.client) (with_one_counted i s.connections)))
full_fresh limits s i κ w o fresh session none =
    let c = s.keeper.client in
    let place = at_full κ.name c in
    let h = as_subscriber limits s in
    let over : current_connection (place ∷ s.past) c ≡ None = current_same place s.past c refl (full_ends κ.name c (current_connection s.past c) none) ∙ none in
    record {
      between = with_items h.items (Transit.Ahead []) h;
      run = goes_on stays parts_ahead;
      like = record {
        items = ap items_of_entries (no_entries limits s.past c session ∙ sym (entries_none limits place s.past c refl session));
        accepted = sym (accepted_counted i s.connections);
        received = λ id. refl;
        transit = sym (ap (λ (z : Option ConnectionName). transit_to limits (place ∷ s.past) z (with_one_counted i s.connections) (held s.keeper (with_one_counted i s.connections))) over
            ∙ link_is limits (place ∷ s.past) None s.keeper (with_one_counted i s.connections)
            ∙ ap (λ v. link_as v (left_behind None (with_one_counted i s.connections)))
            (fresh.behind limits (place ∷ s.past) None ∙ ap (λ l. Some (l, false)) (new_comes limits place s.past c κ w o.good o.new ∙ full_sends limits s.past κ.name κ.name c)));
      };
    }

-- by what happens to it
pub takes_connect : (limits : Limits) (s : Story) (i : ℕ) (κ : ClientConnection) (w : Written) → IsOpening limits s i κ w
    → GoesTo (as_subscriber limits s)
    (as_subscriber limits (placed s (at_connect κ.name s.keeper.client false (connect_mark limits s.past s.keeper.client (owner_of s.past κ.name))) (with_one_counted i s.connections)))
takes_connect limits s i κ w o = by (owner_of s.past κ.name) refl (fresh_or_stale s.keeper s.connections i κ o.at o.taken)
  where
    c : Client
    c = s.keeper.client

    served : (d : Client) → owner_of s.past κ.name ≡ Some d → ⊥
    served d e =
        let f = served_counted s.past d κ.name (owner_is s.past κ.name d e) in
        let g : packet_count κ.name s.past ≡ 0 = o.good.counted ∙ o.taken in
        absurd (omega (arith, f, g))

    room : (a b : Bool) → is_some (clean_session_of s.past s.keeper.client) ≡ a → IsFresh s.keeper s.connections i κ ⊎ IsStale s.keeper s.connections i
        → GoesTo (as_subscriber limits s) (as_subscriber limits (placed s (at_connect κ.name s.keeper.client false (if a || b then Mark.Accepted else Mark.Full)) (with_one_counted i s.connections)))
    room true b e (inl fresh) = accepted_fresh limits s i κ w o fresh
    room true b e (inr stale) = accepted_stale limits s i κ w o stale
    room false true e (inl fresh) = accepted_fresh limits s i κ w o fresh
    room false true e (inr stale) = accepted_stale limits s i κ w o stale
    room false false e f = turned f (clean_session_of s.past s.keeper.client) refl e
      where
        turned : IsFresh s.keeper s.connections i κ ⊎ IsStale s.keeper s.connections i → (session : Option Bool) → clean_session_of s.past s.keeper.client ≡ session → is_some (clean_session_of s.past s.keeper.client) ≡ false
            → GoesTo (as_subscriber limits s) (as_subscriber limits (placed s (at_full κ.name s.keeper.client) (with_one_counted i s.connections)))
        turned (inl fresh) None g e = full_fresh limits s i κ w o fresh g (no_connection s.past s.keeper.client g)
        turned (inr stale) None g e = full_stale limits s i κ w o stale (no_connection s.past s.keeper.client g)
        turned f (Some clean) g e = absurd (both_ways true (sym (ap is_some g) ∙ e) refl)

    by : (owner : Option Client) → owner_of s.past κ.name ≡ owner → IsFresh s.keeper s.connections i κ ⊎ IsStale s.keeper s.connections i
        → GoesTo (as_subscriber limits s) (as_subscriber limits (placed s (at_connect κ.name s.keeper.client false (connect_mark limits s.past s.keeper.client owner)) (with_one_counted i s.connections)))
    by (Some d) e f = absurd (served d e)
    by None e f = room (is_some (clean_session_of s.past s.keeper.client)) (nat_lt (length (clients s.past)) limits.sessions) refl f
