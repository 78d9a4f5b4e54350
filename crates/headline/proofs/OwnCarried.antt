-- Each PUBLISH on a client's current connection carries one of its publications.
use Rattle.std.proofs.Common.{◌≡◌, ℕ, zero, suc, Bool, true, false, ◌||◌, if◌then◌else◌, List, [], ◌∷◌, ◌++◌, Option, Some, None, refl, sym, ap, ◌∙◌, subst}
use Rattle.std.specs.Prelude.{slice_get}
use Rattle.std.proofs.lemmas.Bool.{both_ways}
use Rattle.packet.specs.declared.packet.Packet.{Packet}
use Rattle.packet.specs.declared.packet.Packet.TheVariants as packets
use Rattle.packet.specs.declared.publish.Publish.{Publish}
use Rattle.broker_spec.specs.declared.command.Command.{Command}
use Rattle.broker_spec.specs.declared.command.Command.TheVariants as commands
use Rattle.broker_spec.specs.Commands.{place_of}
use Rattle.broker_spec.specs.Connection.{ConnectionName, same_connection}
use Rattle.broker_spec.specs.EndingTheorems.{StandsAt}
use Rattle.broker_spec.specs.Owner.{owner_of}
use Rattle.broker_spec.specs.Sessions.{current_connection}
use Rattle.broker_spec.specs.Place.{Client, Limits, Mark, Past, Place, same_client}
use Rattle.broker_spec.proofs.ClientsInOrder.{same_self}
use Rattle.client_base.specs.Called.{written_for}
use Rattle.client_base.specs.Keeper.{Written}
use Rattle.client_base.specs.Written.{plain, writes_first}
use Rattle.lists.specs.Lists.{Each}
use Rattle.exactly_once.specs.Carried.{carries, connection_named, written_number_at}
use Rattle.exactly_once.specs.Sides.{ClientConnection}
use Rattle.exactly_once.specs.Story.{StoryStep, Story}
use Rattle.exactly_once.specs.StoryCommands.{any_named, command_of, with_one_counted, packet_count, is_packet_of, names_client}
use Rattle.exactly_once.specs.Lives.{Lived}
use Rattle.exactly_once.specs.Lives.Lived.{opens, goes_on, is_expelled}
use Rattle.exactly_once.specs.Story.StoryStep.{takes, others_take, receives, opens_anew, loses, disconnects, publishes_one, subscribes, unsubscribes}
use Rattle.exactly_once.proofs.carrying.KeepsNumbers.{numbers_keep}
use Rattle.exactly_once.proofs.keeping.CurrentOnes.{none_opened}
use Rattle.exactly_once.proofs.publishing.Grown.{handled_grows}
use Rattle.exactly_once.proofs.places.Owned.{owner_is_other}
use Rattle.exactly_once.proofs.publishing.Last.{each_there}
use Rattle.exactly_once.proofs.publishing.events.Receives.{each_at}
use Rattle.exactly_once.proofs.publishing.events.TakesTwo.{carries_it}
use Rattle.exactly_once.proofs.publishing.kept.Numbers.{SameNumbers, same_carries}
use Rattle.exactly_once.proofs.carrying.PlacesSay.{numbers_below}
use Rattle.exactly_once.proofs.sessions.EachSession.{life_opens}
use Rattle.exactly_once.proofs.sessions.Life.{IsCounted, IsLife}
use Rattle.exactly_once.proofs.sessions.LifeExpelled.{life_expelled}
use Rattle.exactly_once.proofs.sessions.LifeGoes.{life_goes}
use Rattle.exactly_once.proofs.sessions.LifePlaces.{life_command}
use Rattle.exactly_once.proofs.sessions.NumberedGoes.{counted_all_within}
use Rattle.headline.proofs.CurrentNamed.{IsCurrentNamed, stays_named, taken_named}
use Rattle.headline.proofs.AllNumbered.{AreNumbered, IsNumbered, happens_numbered, is_unnumbered}

-- if it is the client's
abbrev pub CarriesOwn : Client → List ClientConnection → Command → Past → Type 0
CarriesOwn c connections command past =
    (x : ConnectionName) (p : Publish) → command ≡ commands.Packet x (packets.Publish p) → owner_of past x ≡ Some c → (k : ℕ) × (carries connections command past ≡ Some k)

abbrev pub OwnAreCarried : Client → List ClientConnection → Past → Type 0
OwnAreCarried c connections (place ∷ past) = CarriesOwn c connections place.command past × OwnAreCarried c connections past
OwnAreCarried c connections [] = Unit {0}

pub own_at : (c : Client) (connections : List ClientConnection) (past : Past) (place : Place) (below : Past) → OwnAreCarried c connections past → StandsAt past place below → CarriesOwn c connections place.command below
own_at c connections past place below all s = by s.later (subst (OwnAreCarried c connections) s.is all)
  where
    by : (later : Past) → OwnAreCarried c connections (later ++ place ∷ below) → CarriesOwn c connections place.command below
    by [] h = h.0
    by (next ∷ later) h = by later h.1

-- in a later story
own_later : (c : Client) (connections later : List ClientConnection) (past : Past) → SameNumbers connections later past → OwnAreCarried c connections past → OwnAreCarried c later past
own_later c connections later [] same all = tt
own_later c connections later (place ∷ past) same all = (
  λ x p is own. let k = all.0 x p is own in (k.0, same_carries connections later place past same ∙ k.1),
  own_later c connections later past (numbers_below connections later place past same) all.1,
)

-- ---- one of its packets is taken

has_number : (p : Publish) (o : Option ℕ) → is_unnumbered (packets.Publish p) o ≡ false → (k : ℕ) × (o ≡ Some k)
has_number p (Some k) e = (k, refl)
has_number p None e = absurd (both_ways true e refl)

taken_carries : (i : ℕ) (limits : Limits) (c : Client) (s : Story) (κ : ClientConnection) (w : Written) → IsLife limits c s → slice_get s.connections i ≡ Some κ
    → slice_get κ.written κ.taken ≡ Some w → IsNumbered w → (n : ℕ) → CarriesOwn c (with_one_counted i s.connections) (command_of κ.name n w.packet) s.past
taken_carries i limits c s κ w life stands next numbered n x p is own = by n w.packet refl is
  where
    this : IsCounted s.past κ
    this = each_there (IsCounted s.past) i s.connections κ stands life.connections.counted

    carried : written_number_at (packet_count κ.name s.past) (connection_named κ.name (with_one_counted i s.connections)) ≡ w.number
    carried = carries_it s.past i s.connections κ w Mark.Unmarked life.connections.names stands next this.counted

    found : (q : Publish) → w.packet ≡ packets.Publish q → (k : ℕ) × (carries (with_one_counted i s.connections) (commands.Packet κ.name (packets.Publish q)) s.past ≡ Some k)
    found q e =
        let k = has_number q w.number (subst (λ (packet : Packet). is_unnumbered packet w.number ≡ false) e numbered) in
        (k.0, carried ∙ k.1)

    by : (n : ℕ) (packet : Packet) → w.packet ≡ packet → command_of κ.name n packet ≡ commands.Packet x (packets.Publish p)
        → (k : ℕ) × (carries (with_one_counted i s.connections) (command_of κ.name n packet) s.past ≡ Some k)
    by zero (packets.Publish q) e is = found q e
    by (suc n) (packets.Publish q) e is = found q e
    by zero (packets.Connect q) e is = cc
    by (suc n) (packets.Connect q) e is = cc
    by zero packet e is = cc
    by (suc n) packet e is = cc

-- ---- a command of others is

others_carry : (past : Past) (c : Client) (connections : List ClientConnection) (command : Command) → IsCurrentNamed c connections past → any_named (is_packet_of command) connections ≡ false
    → CarriesOwn c connections command past
others_carry past c connections command current none x p is own =
    let unnamed : any_named (same_connection x) connections ≡ false = subst (λ (k : Command). any_named (is_packet_of k) connections ≡ false) is none in
    absurd (both_ways (same_client c c) (owner_is_other past c c connections x current unnamed own) (same_self c))

-- ---- every life

record AllOwn (c : Client) (connections : List ClientConnection) (past : Past) : Type 0 where
  pub current : IsCurrentNamed c connections past
  pub carried : OwnAreCarried c connections past

-- the client has the same connections by name, or one more
stays_own : (limits : Limits) (c : Client) (s t : Story) → IsLife limits c s → StoryStep limits s t → t.past ≡ s.past
    → ((y : ConnectionName) → any_named (same_connection y) s.connections ≡ true → any_named (same_connection y) t.connections ≡ true) → AllOwn c s.connections s.past → AllOwn c t.connections t.past
stays_own limits c s t life h same more all =
    subst (AllOwn c t.connections) (sym same)
    (record {
      current = λ y is. more y (all.current y is);
      carried = own_later c s.connections t.connections s.past (numbers_keep limits s t (counted_all_within s.past s.connections life.connections.counted) h) all.carried;
    })

-- what is written keeps the names
written_more : (y : ConnectionName) (more : List Written) (connections : List ClientConnection) → any_named (same_connection y) connections ≡ true → any_named (same_connection y) (writes_first more connections) ≡ true
written_more y more [] e = e
written_more y more (κ ∷ others) e = e

maybe_more : (y : ConnectionName) (b : Bool) (more : List Written) (connections : List ClientConnection) → any_named (same_connection y) connections ≡ true
    → any_named (same_connection y) (if b then writes_first more connections else connections) ≡ true
maybe_more y true more connections e = written_more y more connections e
maybe_more y false more connections e = e

first_more : (y x : ConnectionName) (connections : List ClientConnection) → any_named (same_connection y) connections ≡ true → (same_connection y x || any_named (same_connection y) connections) ≡ true
first_more y x connections e = by (same_connection y x)
  where
    by : (b : Bool) → (b || any_named (same_connection y) connections) ≡ true
    by true = refl
    by false = e

happens_own : (limits : Limits) (c : Client) (s t : Story) → IsLife limits c s → StoryStep limits s t → AreNumbered s.connections → AllOwn c s.connections s.past → AllOwn c t.connections t.past
happens_own limits c s t life (takes i κ w stands next) numbered all =
    let one = each_at IsNumbered κ.taken κ.written w next (each_there (λ (μ : ClientConnection). Each IsNumbered μ.written) i s.connections κ stands numbered) in
    let within = counted_all_within s.past s.connections life.connections.counted in
    record {
      current = taken_named limits s.past c i κ w.packet (command_of κ.name κ.taken w.packet) s.connections (life_command limits c s i κ w life stands next) stands all.current;
      carried = (
        taken_carries i limits c s κ w life stands next one κ.taken,
        own_later c s.connections t.connections s.past (numbers_keep limits s t within (takes i κ w stands next)) all.carried,
      );
    }
happens_own limits c s t life (others_take command other none) numbered all =
    let place = place_of limits s.past command in
    let mine = subst (λ (d : Client). names_client s.past d command → ⊥) life.keeper.client other in
    record {
      current = stays_named place s.past c s.connections (none_opened s.past c command place.mark mine) all.current;
      carried = (others_carry s.past c s.connections command all.current none, all.carried);
    }
happens_own limits c s t life (receives κ others packet are opened next) numbered all =
    stays_own limits c s t life (receives κ others packet are opened next) refl
    (λ y e. ap (λ x. same_connection y x || any_named (same_connection y) others) (handled_grows κ s.keeper packet).name ∙ sym (ap (any_named (same_connection y)) are) ∙ e) all
happens_own limits c s t life (opens_anew x fresh none uncounted) numbered all =
    stays_own limits c s t life (opens_anew x fresh none uncounted) refl (λ y e. first_more y x s.connections e) all
happens_own limits c s t life loses numbered all = stays_own limits c s t life loses refl (λ y e. e) all
happens_own limits c s t life disconnects numbered all =
    stays_own limits c s t life disconnects refl (λ y e. maybe_more y s.keeper.is_online (plain packets.Disconnect ∷ []) s.connections e) all
happens_own limits c s t life (publishes_one p needs) numbered all =
    stays_own limits c s t life (publishes_one p needs) refl (λ y e. written_more y (written_for p s.keeper) s.connections e) all
happens_own limits c s t life (subscribes p on id) numbered all =
    stays_own limits c s t life (subscribes p on id) refl (λ y e. written_more y (plain (packets.Subscribe p) ∷ []) s.connections e) all
happens_own limits c s t life (unsubscribes p on id) numbered all =
    stays_own limits c s t life (unsubscribes p on id) refl (λ y e. written_more y (plain (packets.Unsubscribe p) ∷ []) s.connections e) all

record HasOwn (limits : Limits) (c : Client) (s : Story) : Type 0 where
  pub life : IsLife limits c s
  pub numbered : AreNumbered s.connections
  pub own : AllOwn c s.connections s.past

lived_own : (limits : Limits) (c : Client) (s : Story) → Lived limits c s → HasOwn limits c s
unfolding current_connection
lived_own limits c s opens = record { life = life_opens limits c; numbered = tt; own = record { current = λ y is. cc; carried = tt } }
lived_own limits c t (goes_on {before = s} lived h) =
    let o = lived_own limits c s lived in
    record { life = life_goes limits c s t o.life h; numbered = happens_numbered limits s t h o.numbered; own = happens_own limits c s t o.life h o.numbered o.own }
lived_own limits c t (is_expelled {before = s} lived) =
    let o = lived_own limits c s lived in
    let place = place_of limits s.past (commands.Expel c) in
    record {
      life = life_expelled limits c s o.life;
      numbered = o.numbered;
      own = record { current = stays_named place s.past c s.connections refl o.own.current; carried = (λ x p is own. absurd (cc), o.own.carried) };
    }

pub own_are_carried : (limits : Limits) (c : Client) (s : Story) → Lived limits c s → OwnAreCarried s.keeper.client s.connections s.past
own_are_carried limits c s lived =
    let o = lived_own limits c s lived in
    subst (λ (d : Client). OwnAreCarried d s.connections s.past) (sym o.life.keeper.client) o.own.carried
