-- The client receives a packet: which move of the handshake it is.
use Rattle.std.proofs.Common.{◌≡◌, ℕ, suc, true, not, ◌&&◌, ◌==◌, List, [], ◌∷◌, Some, refl, sym, ◌∙◌}
use Rattle.std.specs.Prelude.{slice_get}
use Rattle.std.proofs.lemmas.List.{append-nil}
use Rattle.packet.specs.declared.packet.Packet.{Packet}
use Rattle.packet.specs.declared.packet.Packet.TheVariants as packets
use Rattle.session_base.specs.declared.publication.Publication.{Publication}
use Rattle.lists.specs.Lists.{has_id}
use Rattle.broker_spec.specs.Place.{Limits}
use Rattle.exactly_once.specs.Handshake.{Forward}
use Rattle.exactly_once.specs.Sends.{put_to}
use Rattle.client_base.specs.Keeper.{Own, Written, Keeper}
use Rattle.client_base.specs.declared.request.Request.{Request}
use Rattle.exactly_once.specs.Sides.{ClientConnection, Side}
use Rattle.client_base.specs.Written.{plain, writing}
use Rattle.session_base.specs.Identifiers.{without_id}
use Rattle.exactly_once.specs.Story.{Story, with_side}
use Rattle.exactly_once.specs.Inside.Projections.{GoesTo}
use Rattle.exactly_once.specs.Inside.AsSubscriber.{backward_of, as_subscriber}
use Rattle.exactly_once.specs.Inside.ConnectionShape.{ConnectionInShape}
use Rattle.exactly_once.proofs.subscribing.events.Handling.{forward_one, handles_other, handles_one}
use Rattle.session_base.proofs.KeptIdentifiers.{has_without}

-- one packet more handled
abbrev pub counted : Keeper → ClientConnection → Side
counted keeper κ = record { keeper = keeper; connection = record κ { handled = suc κ.handled } }

-- what all these events have: the first connection is open, its Connect is taken, and this is its next packet
pub record IsNext (limits : Limits) (s : Story) (κ : ClientConnection) (others : List ClientConnection) (packet : Packet) : Type 0 where
  pub n : ℕ
  pub shape : ConnectionInShape limits s.past s.keeper.client κ
  pub first : s.connections ≡ κ ∷ others
  pub is_open : s.keeper.is_open ≡ true
  pub taken : κ.taken ≡ suc n
  pub next : slice_get (put_to limits s.past κ.name) κ.handled ≡ Some packet

-- what is not of the handshake: own publications and requests change, and something is written that is no answer
pub next_other : (limits : Limits) (s : Story) (κ : ClientConnection) (others : List ClientConnection) (packet : Packet) → IsNext limits s κ others packet
    → (own : List Own) (releases : List ℕ) (requests : List Request) (more : List Written)
    → ((f : List (Forward Publication)) → forward_one packet f ≡ f) → backward_of more ≡ []
    → GoesTo (as_subscriber limits s) (as_subscriber limits (with_side s others (writing more (counted (record s.keeper { own = own; releases = releases; requests = requests }) κ))))
next_other limits s κ others packet i own releases requests more none quiet =
    handles_other limits s κ others i.n packet (writing more (counted (record s.keeper { own = own; releases = releases; requests = requests }) κ)) more i.shape i.first i.is_open i.taken i.next none quiet
    (record { client = refl; name = refl; taken = refl; handled = refl; written = refl; accepted_is = sym (append-nil κ.accepted); received_is = λ id. refl; stays_open = i.is_open })

-- and nothing is written
pub next_quiet : (limits : Limits) (s : Story) (κ : ClientConnection) (others : List ClientConnection) (packet : Packet) → IsNext limits s κ others packet
    → (own : List Own) (releases : List ℕ) (requests : List Request)
    → ((f : List (Forward Publication)) → forward_one packet f ≡ f)
    → GoesTo (as_subscriber limits s) (as_subscriber limits (with_side s others (counted (record s.keeper { own = own; releases = releases; requests = requests }) κ)))
next_quiet limits s κ others packet i own releases requests none =
    handles_other limits s κ others i.n packet (counted (record s.keeper { own = own; releases = releases; requests = requests }) κ) [] i.shape i.first i.is_open i.taken i.next none refl
    (record { client = refl; name = refl; taken = refl; handled = refl; written = sym (append-nil κ.written); accepted_is = sym (append-nil κ.accepted); received_is = λ id. refl; stays_open = i.is_open })

-- ---- PUBREL

-- an identifier taken away
has_kept : (j id : ℕ) (ids : List ℕ) → (not (j == id) && has_id j ids) ≡ has_id j (without_id id ids)
has_kept j id ids = sym (has_without j id ids)

-- a PUBREL is taken
pub next_pubrel : (limits : Limits) (s : Story) (κ : ClientConnection) (others : List ClientConnection) (id : ℕ) → IsNext limits s κ others (packets.Pubrel id)
    → GoesTo (as_subscriber limits s)
    (as_subscriber limits (with_side s others (writing (plain (packets.Pubcomp id) ∷ []) (counted (record s.keeper { received = without_id id s.keeper.received }) κ))))
next_pubrel limits s κ others id i =
    handles_one limits s κ others i.n (packets.Pubrel id) (writing (plain (packets.Pubcomp id) ∷ []) (counted (record s.keeper { received = without_id id s.keeper.received }) κ)) (plain (packets.Pubcomp id) ∷ [])
    (Forward.Pubrel id) [] (λ j. not (j == id) && has_id j s.keeper.received) i.shape i.first i.is_open i.taken i.next (λ f. refl) refl
    (record { client = refl; name = refl; taken = refl; handled = refl; written = refl; accepted_is = sym (append-nil κ.accepted); received_is = λ j. has_kept j id s.keeper.received; stays_open = i.is_open })
    (λ l t like. record { items = like.items; accepted = sym (append-nil (as_subscriber limits s).accepted) ∙ like.accepted; received = like.received; transit = like.transit })
