-- The new row of shape that a client handled no more than it was given is kept by every event.
use Rattle.std.proofs.Common.{◌≡◌, ◌≤◌, ℕ, zero, suc, Bool, true, false, not, ◌&&◌, if◌then◌else◌, List, [], ◌∷◌, ◌++◌, length, Some, refl, sym, subst, ◌⊎◌, inl, inr, arith}
use Rattle.std.specs.Prelude.{slice_get}
use Rattle.std.proofs.lemmas.Bool.{cases_Bool}
use Rattle.packet.specs.declared.connack.Connack.TheVariants as connacks
use Rattle.packet.specs.declared.delivery.Delivery.{Delivery}
use Rattle.packet.specs.declared.delivery.Delivery.TheVariants as deliveries
use Rattle.packet.specs.declared.packet.Packet.{Packet}
use Rattle.packet.specs.declared.packet.Packet.TheVariants as packets
use Rattle.session_base.specs.declared.publication.Publication.{Publication}
use Rattle.session_base.specs.Publication.{publication_of}
use Rattle.lists.specs.Lists.{has_id, Each}
use Rattle.broker_spec.specs.Place.{Place, Past, Limits}
use Rattle.broker_spec.specs.AnswersInOrder.{answers_at}
use Rattle.lists.proofs.OfEach.{each_then}
use Rattle.exactly_once.specs.Sends.{sends_to, put_to}
use Rattle.client_base.specs.Keeper.{Written}
use Rattle.exactly_once.specs.Sides.{ClientConnection, Side}
use Rattle.client_base.specs.Handled.{handled_online, handled_first, packet_handled}
use Rattle.client_base.specs.Handshakes.{pubrec_answered}
use Rattle.client_base.specs.Handshakes.{takes_in}
use Rattle.client_base.specs.Handshakes.{is_sent_with}
use Rattle.exactly_once.specs.Story.{Story, StoryStep}
use Rattle.exactly_once.specs.StoryCommands.{with_one_counted}
use Rattle.client_base.specs.Written.{writes_first}
use Rattle.exactly_once.specs.Story.StoryStep.{takes, others_take, receives, opens_anew, loses, disconnects, publishes_one, subscribes, unsubscribes}
use Rattle.exactly_once.specs.Inside.Shape.{HasShape}
use Rattle.exactly_once.specs.Inside.ConnectionShape.{ConnectionInShape}

-- no more is handled than given
abbrev pub IsGiven : Limits → Past → ClientConnection → Type 0
IsGiven limits past κ = κ.handled ≤ length (put_to limits past κ.name)

-- one place more gives no less
more_given : (limits : Limits) (place : Place) (past : Past) (κ : ClientConnection) → IsGiven limits past κ → IsGiven limits (place ∷ past) κ
unfolding put_to
more_given limits place past κ h = let l = longer (put_to limits past κ.name) (sends_to κ.name (answers_at limits place past)) in omega (arith, h, l)
  where
    longer : (xs ys : List Packet) → length xs ≤ length (xs ++ ys)
    longer [] ys = omega arith
    longer (x ∷ xs) ys = let l = longer xs ys in omega (arith, l)

-- one packet more taken
given_counted : (limits : Limits) (past : Past) (i : ℕ) (connections : List ClientConnection) → Each (IsGiven limits past) connections → Each (IsGiven limits past) (with_one_counted i connections)
given_counted limits past zero [] h = tt
given_counted limits past (suc i) [] h = tt
given_counted limits past zero (κ ∷ others) h = (h.0, h.1)
given_counted limits past (suc i) (κ ∷ others) h = (h.0, given_counted limits past i others h.1)

-- more written
given_writes : (limits : Limits) (past : Past) (more : List Written) (connections : List ClientConnection) → Each (IsGiven limits past) connections → Each (IsGiven limits past) (writes_first more connections)
given_writes limits past more [] h = tt
given_writes limits past more (κ ∷ others) h = (h.0, h.1)

-- what handling a packet leaves of the connection: its name and what is taken of it stay
pub record Stays (before side : Side) : Type 0 where
  pub client : side.keeper.client ≡ before.keeper.client
  pub name : side.connection.name ≡ before.connection.name
  pub taken : side.connection.taken ≡ before.connection.taken
  pub handled : side.connection.handled ≡ before.connection.handled

-- a PUBLISH
stays_taking : (d : Delivery) (p : Publication) (side : Side) → Stays side (takes_in d p side)
stays_taking deliveries.AtMostOnce p side = record { client = refl; name = refl; taken = refl; handled = refl }
stays_taking (deliveries.AtLeastOnce dup id) p side = record { client = refl; name = refl; taken = refl; handled = refl }
stays_taking (deliveries.ExactlyOnce dup id) p side = by (cases_Bool (has_id id side.keeper.received))
  where
    by : (has_id id side.keeper.received ≡ true) ⊎ (has_id id side.keeper.received ≡ false) → Stays side (takes_in (deliveries.ExactlyOnce dup id) p side)
    by (inl e) = rw e (record { client = refl; name = refl; taken = refl; handled = refl })
    by (inr e) = rw e (record { client = refl; name = refl; taken = refl; handled = refl })

-- a PUBREC
stays_releasing : (id : ℕ) (side : Side) → Stays side (pubrec_answered id side)
stays_releasing id side = by (cases_Bool (is_sent_with id side.keeper.own)) (cases_Bool (has_id id side.keeper.releases))
  where
    by : (is_sent_with id side.keeper.own ≡ true) ⊎ (is_sent_with id side.keeper.own ≡ false) → (has_id id side.keeper.releases ≡ true) ⊎ (has_id id side.keeper.releases ≡ false) → Stays side (pubrec_answered id side)
    by (inl e) f = rw e (record { client = refl; name = refl; taken = refl; handled = refl })
    by (inr e) (inl f) = rw (e, f) (record { client = refl; name = refl; taken = refl; handled = refl })
    by (inr e) (inr f) = rw (e, f) (record { client = refl; name = refl; taken = refl; handled = refl })

-- any packet on a confirmed connection
stays_online : (packet : Packet) (side : Side) → Stays side (handled_online packet side)
stays_online (packets.Publish p) side = stays_taking p.delivery (publication_of p) side
stays_online (packets.Pubrec id) side = stays_releasing id side
stays_online (packets.Puback id) side = record { client = refl; name = refl; taken = refl; handled = refl }
stays_online (packets.Pubcomp id) side = record { client = refl; name = refl; taken = refl; handled = refl }
stays_online (packets.Pubrel id) side = record { client = refl; name = refl; taken = refl; handled = refl }
stays_online (packets.Suback p) side = record { client = refl; name = refl; taken = refl; handled = refl }
stays_online (packets.Unsuback id) side = record { client = refl; name = refl; taken = refl; handled = refl }
stays_online packets.Pingresp side = record { client = refl; name = refl; taken = refl; handled = refl }
stays_online _ side = record { client = refl; name = refl; taken = refl; handled = refl }

-- the first packet
stays_first : (packet : Packet) (side : Side) → Stays side (handled_first packet side)
stays_first (packets.Connack (connacks.Accepted present)) side = by (cases_Bool (not present && side.keeper.was_served))
  where
    by : ((not present && side.keeper.was_served) ≡ true) ⊎ ((not present && side.keeper.was_served) ≡ false) → Stays side (handled_first (packets.Connack (connacks.Accepted present)) side)
    by (inl e) = rw e (record { client = refl; name = refl; taken = refl; handled = refl })
    by (inr e) = rw e (record { client = refl; name = refl; taken = refl; handled = refl })
stays_first _ side = record { client = refl; name = refl; taken = refl; handled = refl }

-- one more is handled
abbrev pub one_handled : Side → Side
one_handled side = record side { connection = record side.connection { handled = suc side.connection.handled } }

-- whatever comes
pub stays_handled : (packet : Packet) (side : Side) → Stays (one_handled side) (packet_handled packet side)
stays_handled packet side = by side.keeper.is_online
  where
    by : (b : Bool) → Stays (one_handled side) (if b then handled_online packet (one_handled side) else handled_first packet (one_handled side))
    by true = stays_online packet (one_handled side)
    by false = stays_first packet (one_handled side)

-- what is there is within
within : (xs : List Packet) (n : ℕ) (x : Packet) → slice_get xs n ≡ Some x → suc n ≤ length xs
within [] n x e = absurd (cc)
within (y ∷ xs) zero x e = omega arith
within (y ∷ xs) (suc n) x e = let h = within xs n x e in omega (arith, h)

-- the row is kept
pub keeps_given : (limits : Limits) (s t : Story) → HasShape limits s → StoryStep limits s t → Each (IsGiven limits t.past) t.connections
keeps_given limits s t shape h = by h (each_then (ConnectionInShape limits s.past s.keeper.client) (IsGiven limits s.past) s.connections (λ κ g. g.handled_within) shape.connections)
  where
    placed : (place : Place) → Each (IsGiven limits s.past) s.connections → Each (IsGiven limits (place ∷ s.past)) s.connections
    placed place g = each_then (IsGiven limits s.past) (IsGiven limits (place ∷ s.past)) s.connections (λ κ. more_given limits place s.past κ) g

    if_online : (b : Bool) (more : List Written) → Each (IsGiven limits s.past) s.connections → Each (IsGiven limits s.past) (if b then writes_first more s.connections else s.connections)
    if_online true more g = given_writes limits s.past more s.connections g
    if_online false more g = g

    by : {t : Story} → StoryStep limits s t → Each (IsGiven limits s.past) s.connections → Each (IsGiven limits t.past) t.connections
    by (takes i κ w at next) g = given_counted limits _ i s.connections (placed _ g)
    by (others_take command other fresh) g = placed _ g
    by (receives κ others packet e is_open next) g =
        let side : Side = record { keeper = s.keeper; connection = κ } in
        let st = stays_handled packet side in
        let h = within (put_to limits s.past κ.name) κ.handled packet next in (
          subst (λ (x : _). (packet_handled packet side).connection.handled ≤ length (put_to limits s.past x)) (sym st.name) (subst (λ (n : ℕ). n ≤ length (put_to limits s.past κ.name)) (sym st.handled) h),
          (subst (Each (IsGiven limits s.past)) e g).1,
        )
    by (opens_anew x fresh put count) g = (omega arith, g)
    by loses g = g
    by disconnects g = if_online s.keeper.is_online _ g
    by (publishes_one p h) g = given_writes limits s.past _ s.connections g
    by (subscribes p on e) g = given_writes limits s.past _ s.connections g
    by (unsubscribes p on e) g = given_writes limits s.past _ s.connections g
