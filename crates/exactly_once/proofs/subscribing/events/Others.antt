-- A packet that is not of this client's connections comes next in the list.
use Rattle.std.proofs.Common.{◌≡◌, true, false, List, length, Option, Some, None, refl, sym, ◌∙◌, subst, ◌⊎◌, inl, inr}
use Rattle.std.proofs.lemmas.Bool.{both_ways, cases_Bool}
use Rattle.packet.specs.declared.packet.Packet.{Packet}
use Rattle.broker_spec.specs.Connection.{ConnectionName, same_connection}
use Rattle.broker_spec.specs.Place.{Client, same_client, Mark, Limits}
use Rattle.broker_spec.specs.Sessions.{current_connection}
use Rattle.broker_spec.specs.Owner.{owner_of}
use Rattle.broker_spec.specs.Marks.{packet_mark, packet_mark_of}
use Rattle.broker_spec.specs.Times.{entries_of}
use Rattle.broker_spec.specs.NobodyTheorems.{IsSteady}
use Rattle.broker_spec.proofs.ClientsInOrder.{same_is}
use Rattle.broker_base.proofs.ConnectionsOfSessions.{same_turned}
use Rattle.exactly_once.specs.Sides.{ClientConnection}
use Rattle.exactly_once.specs.Story.{Story}
use Rattle.exactly_once.specs.StoryCommands.{any_named}
use Rattle.exactly_once.specs.Inside.Shape.{LastIsCurrent, HasShape}
use Rattle.exactly_once.proofs.Packets.{at_packet}
use Rattle.exactly_once.proofs.Takes.{same_name_self}
use Rattle.exactly_once.proofs.subscribing.events.Leaving.{same_name}
use Rattle.exactly_once.proofs.subscribing.Plain.{IsPlain}
use Rattle.exactly_once.proofs.subscribing.Elsewhere.{no_reply, nobodys_reply, nobodys_sends, ends_not, other_sends}
use Rattle.exactly_once.proofs.subscribing.places.Copies.{NoneElse}
use Rattle.exactly_once.proofs.subscribing.places.Owners.{owner_is}

-- ---- names

-- a name among the client's is not this one
pub named_not : (y x : ConnectionName) (connections : List ClientConnection) → any_named (λ z. same_connection y z) connections ≡ false → any_named (same_connection x) connections ≡ true → same_connection y x ≡ false
named_not y x connections fresh h = by (cases_Bool (same_connection y x))
  where
    by : (same_connection y x ≡ true) ⊎ (same_connection y x ≡ false) → same_connection y x ≡ false
    by (inr e) = e
    by (inl e) = absurd (both_ways (any_named (same_connection x) connections) (subst (λ (z : ConnectionName). any_named (same_connection z) connections ≡ false) (same_name y x e) fresh) h)

-- the current connection is among them
pub current_named : (current : Option ConnectionName) (connections : List ClientConnection) (x : ConnectionName) → LastIsCurrent current connections → current ≡ Some x → any_named (same_connection x) connections ≡ true
current_named None connections x l e = absurd (cc)
current_named (Some y) connections x l e = let f : y ≡ x = cc in subst (λ (z : ConnectionName). any_named (same_connection z) connections ≡ true) f l.0

-- no other client is served on one of them
pub none_else : (limits : Limits) (s : Story) → HasShape limits s → (x : ConnectionName) → any_named (same_connection x) s.connections ≡ true → NoneElse s.past x s.keeper.client
none_else limits s shape x h d e = sym (same_is d s.keeper.client (shape.nobody_else d x e h))

-- so a place of another connection does not end the client's
pub not_ended : (limits : Limits) (s : Story) → HasShape limits s → (y : ConnectionName) → any_named (λ z. same_connection y z) s.connections ≡ false
    → (x : ConnectionName) → current_connection s.past s.keeper.client ≡ Some x → same_connection y x ≡ false
not_ended limits s shape y fresh x e = named_not y x s.connections fresh (current_named (current_connection s.past s.keeper.client) s.connections x shape.last_is_current e)

-- ---- a packet

-- of no client, or of another client
pub other_packet : (limits : Limits) (s : Story) → HasShape limits s → IsSteady limits → (y : ConnectionName) (packet : Packet) → any_named (λ z. same_connection y z) s.connections ≡ false
    → (owner : Option Client) → owner_of s.past y ≡ owner → IsPlain limits s (at_packet y packet (packet_mark_of limits s.past packet owner))
other_packet limits s shape steady y packet fresh None e =
    record {
      opens = refl;
      goes = ends_not y packet Mark.Unmarked (current_connection s.past s.keeper.client) (not_ended limits s shape y fresh);
      answers = nobodys_reply y packet s.keeper.client (length s.past) (entries_of limits s.past s.keeper.client);
      window = steady (at_packet y packet Mark.Unmarked) s.past refl;
      sends = λ x h. nobodys_sends limits s.past y x packet s.keeper.client;
    }
other_packet limits s shape steady y packet fresh (Some d) e =
    record {
      opens = refl;
      goes = ends_not y packet (packet_mark limits s.past d packet) (current_connection s.past s.keeper.client) (not_ended limits s shape y fresh);
      answers = no_reply y packet d s.keeper.client limits s.past (length s.past) (entries_of limits s.past s.keeper.client) (another (cases_Bool (same_client d s.keeper.client)));
      window = steady (at_packet y packet (packet_mark limits s.past d packet)) s.past refl;
      sends = λ x h. other_sends limits s.past y x packet d s.keeper.client (none_else limits s shape x h) (same_turned x y ∙ named_not y x s.connections fresh h);
    }
  where
    self : same_connection y y ≡ true
    self = same_name_self y

    another : (same_client d s.keeper.client ≡ true) ⊎ (same_client d s.keeper.client ≡ false) → same_client d s.keeper.client ≡ false
    another (inr f) = f
    another (inl f) =
        absurd (both_ways (same_connection y y)
        (not_ended limits s shape y fresh y (subst (λ (z : Client). current_connection s.past z ≡ Some y) (same_is d s.keeper.client f) (owner_is s.past y d e))) self)
