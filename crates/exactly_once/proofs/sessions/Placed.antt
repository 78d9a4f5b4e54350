-- What one more place leaves of a connection of a client's life: one of which nothing was taken, and one that was not opened.
use Rattle.std.proofs.Common.{◌≡◌, ℕ, suc, true, false, if◌then◌else◌, List, [], ◌∷◌, ◌++◌, None, refl, sym, ◌∙◌, ap, ap₂, subst}
use Rattle.std.specs.Prelude.{is_some}
use Rattle.std.proofs.lemmas.Bool.{both_ways}
use Rattle.packet.specs.declared.packet.Packet.{Packet}
use Rattle.packet.specs.declared.packet.Packet.TheVariants as packets
use Rattle.lists.proofs.OfEach.{each_append}
use Rattle.broker_spec.specs.Connection.{ConnectionName}
use Rattle.broker_spec.specs.Place.{Client, Mark, Place, Past, Limits}
use Rattle.broker_spec.specs.Sessions.{accepts, session_start}
use Rattle.broker_spec.specs.AnswersInOrder.{answers_at}
use Rattle.broker_spec.proofs.ConnectionNames.{same_itself}
use Rattle.exactly_once.specs.Sides.{ClientConnection}
use Rattle.exactly_once.specs.Sends.{sends_to, put_to}
use Rattle.exactly_once.specs.StoryCommands.{packet_count, is_packet_of}
use Rattle.exactly_once.specs.InStep.{opens_on, opened_in}
use Rattle.exactly_once.specs.Inside.ConnectionShape.{no_connacks}
use Rattle.exactly_once.proofs.places.After.{session_opens}
use Rattle.exactly_once.proofs.connections.Answers.{is_connect_of}
use Rattle.exactly_once.proofs.connections.GoRight.{not_its_connect, place_no_connack, place_nothing}
use Rattle.exactly_once.proofs.publishing.AtPlaces.{put_more}
use Rattle.exactly_once.proofs.subscribing.events.OtherConnects.{at_connect}
use Rattle.exactly_once.proofs.subscribing.places.Accepted.{opened}
use Rattle.exactly_once.proofs.sessions.Anew.{IsUntouched}
use Rattle.exactly_once.proofs.sessions.Openings.{session_began, opens_packet, opened_same, opened_here}
use Rattle.exactly_once.proofs.sessions.Life.{is_welcome, NoneWelcome, IsShut, IsShutUnopened}

-- ---- if the command is none of its packets

pub untouched_other : (limits : Limits) (place : Place) (past : Past) (c : Client) (κ : ClientConnection) → is_packet_of place.command κ.name ≡ false → IsUntouched limits past c κ → IsUntouched limits (place ∷ past) c κ
untouched_other limits place past c κ other u =
    record {
      is = u.is;
      queued = put_more limits place past κ.name ∙ ap₂ (λ a b. a ++ b) u.queued (place_nothing limits place past κ.name other u.uncounted);
      uncounted = ap (λ b. if b then suc (packet_count κ.name past) else packet_count κ.name past) other ∙ u.uncounted;
    }

-- what is no CONNACK is no CONNACK 0
none_welcome : (put : List Packet) → no_connacks put → NoneWelcome put
none_welcome [] h = tt
none_welcome (packets.Connack q ∷ put) h = absurd (both_ways true h.0 refl)
none_welcome (packets.Connect q ∷ put) h = (refl, none_welcome put h.1)
none_welcome (packets.Publish q ∷ put) h = (refl, none_welcome put h.1)
none_welcome (packets.Puback q ∷ put) h = (refl, none_welcome put h.1)
none_welcome (packets.Pubrec q ∷ put) h = (refl, none_welcome put h.1)
none_welcome (packets.Pubrel q ∷ put) h = (refl, none_welcome put h.1)
none_welcome (packets.Pubcomp q ∷ put) h = (refl, none_welcome put h.1)
none_welcome (packets.Subscribe q ∷ put) h = (refl, none_welcome put h.1)
none_welcome (packets.Suback q ∷ put) h = (refl, none_welcome put h.1)
none_welcome (packets.Unsubscribe q ∷ put) h = (refl, none_welcome put h.1)
none_welcome (packets.Unsuback q ∷ put) h = (refl, none_welcome put h.1)
none_welcome (packets.Pingreq ∷ put) h = (refl, none_welcome put h.1)
none_welcome (packets.Pingresp ∷ put) h = (refl, none_welcome put h.1)
none_welcome (packets.Disconnect ∷ put) h = (refl, none_welcome put h.1)

more_unwelcome : (limits : Limits) (place : Place) (past : Past) (x : ConnectionName) → NoneWelcome (put_to limits past x) → NoneWelcome (sends_to x (answers_at limits place past)) → NoneWelcome (put_to limits (place ∷ past) x)
more_unwelcome limits place past x h g =
    subst NoneWelcome (sym (put_more limits place past x)) (each_append (λ packet. is_welcome packet ≡ false) (put_to limits past x) (sends_to x (answers_at limits place past)) h g)

-- it opens none, and sends no CONNACK 0
pub shut_still : (limits : Limits) (place : Place) (past : Past) (c : Client) (κ : ClientConnection) → opens_on κ.name (accepts place.command place.mark c) ≡ false → is_connect_of place.command κ.name ≡ false
    → IsShutUnopened limits past c κ → IsShutUnopened limits (place ∷ past) c κ
shut_still limits place past c κ none other h e =
    let s = h (sym (opened_same place past c κ.name none) ∙ e) in
    record {
      unconfirmed = s.unconfirmed;
      nothing = s.nothing;
      unwelcome = more_unwelcome limits place past κ.name s.unwelcome (none_welcome (sends_to κ.name (answers_at limits place past)) (place_no_connack limits place past κ.name other));
    }

pub shut_other : (limits : Limits) (place : Place) (past : Past) (c : Client) (κ : ClientConnection) → is_packet_of place.command κ.name ≡ false → IsShutUnopened limits past c κ → IsShutUnopened limits (place ∷ past) c κ
shut_other limits place past c κ other =
    shut_still limits place past c κ (opens_packet place.command place.mark c κ.name other) (not_its_connect place.command κ.name other)

-- ---- its own Connect

pub shut_connect : (limits : Limits) (past : Past) (c : Client) (κ : ClientConnection) (n : ℕ) (mark : Mark) → IsUntouched limits past c κ → IsShutUnopened limits (at_connect κ.name c false mark ∷ past) c (record κ { taken = n })
shut_connect limits past c κ n mark u e = by mark e
  where
    shut : (m : Mark) → NoneWelcome (sends_to κ.name (answers_at limits (at_connect κ.name c false m) past)) → IsShut limits (at_connect κ.name c false m ∷ past) (record κ { taken = n })
    shut m h =
        record {
          unconfirmed = ap (λ (z : ClientConnection). z.confirmed) u.is;
          nothing = ap (λ (z : ClientConnection). z.accepted) u.is;
          unwelcome = more_unwelcome limits (at_connect κ.name c false m) past κ.name (subst NoneWelcome (sym u.queued) tt) h;
        }

    full : NoneWelcome (sends_to κ.name (answers_at limits (at_connect κ.name c false Mark.Full) past))
    full = rw (same_itself κ.name) (refl, tt)

    by : (m : Mark) → opened_in (at_connect κ.name c false m ∷ past) c κ.name ≡ None → IsShut limits (at_connect κ.name c false m ∷ past) (record κ { taken = n })
    by Mark.Accepted f =
        let place = at_connect κ.name c false Mark.Accepted in
        let here = opened_here place past c κ.name (ap (opens_on κ.name) (opened κ.name c) ∙ same_itself κ.name) in
        let there = session_began (place ∷ past) c (ap is_some (session_opens place past c (κ.name, false) (opened κ.name c))) in
        absurd (both_ways (is_some (session_start (place ∷ past) c)) (ap is_some (sym here ∙ f)) there)
    by Mark.Full f = shut Mark.Full full
    by Mark.Unmarked f = shut Mark.Unmarked tt
    by (Mark.Leaves d) f = shut (Mark.Leaves d) tt
    by (Mark.Refused d) f = shut (Mark.Refused d) tt
    by (Mark.Repeat d) f = shut (Mark.Repeat d) tt
    by (Mark.Taken d) f = shut (Mark.Taken d) tt
    by (Mark.Granted d which) f = shut (Mark.Granted d which) tt
    by (Mark.Handled d) f = shut (Mark.Handled d) tt
