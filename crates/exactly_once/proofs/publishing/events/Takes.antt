-- The next packet of one of the client's connections comes next in the list: a run of the handshake in which it publishes.
use Rattle.std.proofs.Common.{◌≡◌, ℕ, zero, suc, true, false, ◌∷◌, List, Option, Some, None, refl, ap, sym, ◌∙◌, subst, inl, inr, ◌⊎◌}
use Rattle.std.specs.Prelude.{slice_get}
use Rattle.std.proofs.lemmas.Bool.{both_ways, cases_Bool}
use Rattle.packet.specs.declared.packet.Packet.{Packet}
use Rattle.packet.specs.declared.packet.Packet.TheVariants as packets
use Rattle.broker_spec.specs.Connection.{ConnectionName, same_connection}
use Rattle.broker_spec.specs.Place.{Mark, Past, Limits}
use Rattle.broker_spec.specs.Sessions.{current_connection}
use Rattle.broker_spec.specs.Marks.{packet_mark_of}
use Rattle.broker_spec.specs.Commands.{place_of}
use Rattle.broker_spec.specs.declared.command.Command.{Command}
use Rattle.broker_spec.specs.declared.command.Command.TheVariants as commands
use Rattle.client_base.specs.Keeper.{Written, Keeper}
use Rattle.exactly_once.specs.Sides.{ClientConnection}
use Rattle.exactly_once.specs.StoryCommands.{with_one_counted, command_of}
use Rattle.exactly_once.specs.Inside.Projections.{as_publisher, GoesTo}
use Rattle.exactly_once.specs.Inside.Shape.{HasShape}
use Rattle.exactly_once.proofs.Packets.{at_packet}
use Rattle.broker_spec.proofs.ConnectionNames.{same_name, same_itself}
use Rattle.exactly_once.proofs.places.Owned.{own_owner}
use Rattle.exactly_once.proofs.publishing.First.{story_by}
use Rattle.exactly_once.proofs.publishing.Last.{is_named}
use Rattle.exactly_once.proofs.publishing.Counted.{takes_nobodys}
use Rattle.exactly_once.proofs.publishing.events.TakesConnect.{takes_connect}
use Rattle.exactly_once.proofs.publishing.events.TakesOwn.{after_place}
use Rattle.exactly_once.proofs.publishing.events.TakesPacket.{takes_own, on_current}

-- the current connection, or another
pub current_or_not : (o : Option ConnectionName) (x : ConnectionName) → (o ≡ Some x) ⊎ (o ≡ Some x → ⊥)
current_or_not None x = inr (λ e. cc)
current_or_not (Some y) x = by (cases_Bool (same_connection y x))
  where
    by : (same_connection y x ≡ true) ⊎ (same_connection y x ≡ false) → (Some y ≡ Some x) ⊎ (Some y ≡ Some x → ⊥)
    by (inl e) = inl (ap (λ z. Some z) (same_name y x e))
    by (inr e) = inr (λ f. let same : y ≡ x = cc in both_ways (same_connection y x) e (ap (λ z. same_connection z x) same ∙ same_itself x))

-- each packet after the first is a Packet
packet_after : (x : ConnectionName) (n : ℕ) (packet : Packet) → commands.Packet x packet ≡ command_of x (suc n) packet
packet_after x n (packets.Connect q) = refl
packet_after x n _ = refl

takes_later : (limits : Limits) (past : Past) (keeper : Keeper) (connections : List ClientConnection) (i : ℕ) (κ : ClientConnection) (n : ℕ) (w : Written) → HasShape limits (story_by past connections keeper)
    → slice_get connections i ≡ Some κ → slice_get κ.written κ.taken ≡ Some w → κ.taken ≡ suc n
    → GoesTo (as_publisher limits (story_by past connections keeper))
    (as_publisher limits (story_by (place_of limits past (commands.Packet κ.name w.packet) ∷ past) (with_one_counted i connections) keeper))
takes_later limits past keeper connections i κ n w shape stands next some = by (current_or_not (current_connection past keeper.client) κ.name)
  where
    by : (current_connection past keeper.client ≡ Some κ.name) ⊎ (current_connection past keeper.client ≡ Some κ.name → ⊥)
        → GoesTo (as_publisher limits (story_by past connections keeper))
        (as_publisher limits (story_by (place_of limits past (commands.Packet κ.name w.packet) ∷ past) (with_one_counted i connections) keeper))
    by (inl current) =
        subst (λ (m : Mark). GoesTo (as_publisher limits (story_by past connections keeper)) (after_place limits past keeper connections i (at_packet κ.name w.packet m)))
        (sym (ap (packet_mark_of limits past w.packet) (own_owner past keeper.client connections κ.name shape.nobody_else (is_named i connections κ stands) current)))
        (takes_own limits past keeper connections i κ w.packet w.number (on_current limits past keeper connections i κ n w shape stands next some current))
    by (inr not) = takes_nobodys limits past keeper connections i κ w.packet shape stands not

pub takes_it : (limits : Limits) (past : Past) (keeper : Keeper) (connections : List ClientConnection) (i : ℕ) (κ : ClientConnection) (w : Written) → HasShape limits (story_by past connections keeper)
    → slice_get connections i ≡ Some κ → slice_get κ.written κ.taken ≡ Some w
    → GoesTo (as_publisher limits (story_by past connections keeper))
    (as_publisher limits (story_by (place_of limits past (command_of κ.name κ.taken w.packet) ∷ past) (with_one_counted i connections) keeper))
takes_it limits past keeper connections i κ w shape stands next = by κ.taken refl
  where
    by : (n : ℕ) → κ.taken ≡ n
        → GoesTo (as_publisher limits (story_by past connections keeper))
        (as_publisher limits (story_by (place_of limits past (command_of κ.name n w.packet) ∷ past) (with_one_counted i connections) keeper))
    by zero e = takes_connect limits past keeper connections i κ w shape stands (ap (slice_get κ.written) (sym e) ∙ next) e
    by (suc n) e =
        subst (λ (command : Command). GoesTo (as_publisher limits (story_by past connections keeper))
        (as_publisher limits (story_by (place_of limits past command ∷ past) (with_one_counted i connections) keeper))) (packet_after κ.name n w.packet)
        (takes_later limits past keeper connections i κ n w shape stands next e)
