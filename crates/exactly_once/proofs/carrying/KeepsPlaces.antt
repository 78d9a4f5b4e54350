-- In every story each place says what it carries, and each PUBLISH that is written is of the client's.
use Rattle.std.proofs.Common.{◌≡◌, false, if◌then◌else◌, List, [], ◌∷◌, Some, None, refl, sym, ◌∙◌, ap, subst, ◌++◌, length}
use Rattle.packet.specs.declared.packet.Packet.TheVariants as packets
use Rattle.broker_spec.specs.Connection.{ConnectionName, same_connection}
use Rattle.broker_spec.specs.Place.{Client, Past, Limits}
use Rattle.broker_spec.specs.Commands.{place_of, past_of}
use Rattle.broker_spec.specs.NobodyTheorems.{IsSteady}
use Rattle.broker_spec.specs.declared.command.Command.{Command}
use Rattle.broker_spec.specs.declared.command.Command.TheVariants as commands
use Rattle.broker_spec.proofs.MarksOfPlaces.{AreMarked, past_is_marked}
use Rattle.lists.specs.Lists.{Each}
use Rattle.lists.proofs.Tests.{or_none}
use Rattle.exactly_once.specs.Sides.{ClientConnection}
use Rattle.exactly_once.specs.Story.{Story, StoryStep}
use Rattle.exactly_once.specs.StoryCommands.{any_named, is_packet_of, with_one_counted, command_of}
use Rattle.exactly_once.specs.StoryTrace.{StoryTrace}
use Rattle.exactly_once.specs.StoryTrace.StoryTrace.{begins, goes_on, begins_at}
use Rattle.exactly_once.specs.Story.StoryStep.{takes, others_take, receives, opens_anew, loses, disconnects, publishes_one, subscribes, unsubscribes}
use Rattle.exactly_once.specs.Carried.{carries, connection_named, written_number_at, own_publications}
use Rattle.exactly_once.specs.Inside.Shape.{IsSoundStory}
use Rattle.exactly_once.proofs.keeping.KeepsShape.{same_story}
use Rattle.exactly_once.proofs.keeping.StoryTrace.{told_stories_are_sound}
use Rattle.exactly_once.proofs.publishing.Last.{each_there}
use Rattle.exactly_once.proofs.publishing.events.Receives.{each_at}
use Rattle.exactly_once.proofs.carrying.Publications.{IsOfOwn, AreOfOwn}
use Rattle.exactly_once.proofs.carrying.KeepsWritten.{events_say, events_keep_of}
use Rattle.exactly_once.proofs.carrying.KeepsNumbers.{AreWithin, numbers_keep, shape_within}
use Rattle.exactly_once.proofs.carrying.PlacesSay.{PlacesSay, says_nothing, places_later, Says}
use Rattle.exactly_once.proofs.carrying.SaysTaken.{taken_says}
use Rattle.session_base.specs.declared.publication.Publication.{Publication}
use Rattle.client_base.specs.Keeper.{all_own}
use Rattle.client_base.proofs.NumbersStay.{AreAllNumbered}
use Rattle.exactly_once.proofs.carrying.NumbersGoOn.{numbers_go_on}
use Rattle.exactly_once.proofs.carrying.Distinct.{numbers_alone}
use Rattle.exactly_once.proofs.Beginnings.{numbered}

-- what this page keeps
pub record IsCarried (limits : Limits) (s : Story) : Type 0 where
  pub written : AreOfOwn (own_publications (all_own s.keeper)) s.connections
  pub places : PlacesSay s.keeper.client (own_publications (all_own s.keeper)) s.connections s.past
  pub marked : AreMarked limits s.past
  pub numbers : AreAllNumbered s.keeper

-- ---- a command of none of them

pub none_there : (x : ConnectionName) (connections : List ClientConnection) → any_named (same_connection x) connections ≡ false → connection_named x connections ≡ None
none_there x [] e = refl
none_there x (κ ∷ connections) e =
    let h = or_none (same_connection x κ.name) (any_named (same_connection x) connections) e in
    ap (λ b. if b then Some κ else connection_named x connections) h.0 ∙ none_there x connections h.1

pub none_carried : (connections : List ClientConnection) (command : Command) (past : Past) → any_named (is_packet_of command) connections ≡ false → carries connections command past ≡ None
none_carried connections (commands.Packet x (packets.Publish p)) past e = ap (written_number_at _) (none_there x connections e)
none_carried connections (commands.Packet x _) past e = refl
none_carried connections (commands.Connect x d clean) past e = refl
none_carried connections (commands.Lost x) past e = refl
none_carried connections (commands.Start ballot) past e = refl
none_carried connections (commands.Expel d) past e = refl

-- ---- the events

-- if no place is added
stays_carried : (limits : Limits) (s t : Story) → AreWithin s.past s.connections → StoryStep limits s t → t.past ≡ s.past → IsCarried limits s → IsCarried limits t
stays_carried limits s t within h same c =
    record {
      written = events_keep_of limits s t c.numbers.1 h c.written;
      places = subst (λ (z : Past). PlacesSay t.keeper.client (own_publications (all_own t.keeper)) t.connections z) (sym same)
          (subst (λ (d : Client). PlacesSay d (own_publications (all_own t.keeper)) t.connections s.past) (sym (same_story limits s t h))
          (places_later s.keeper.client (own_publications (all_own s.keeper)) (own_publications (all_own t.keeper)) s.connections t.connections s.past (events_say limits s t c.numbers.1 h)
          (numbers_keep limits s t within h) c.places));
      marked = subst (AreMarked limits) (sym same) c.marked;
      numbers = numbers_go_on limits s t h c.numbers;
    }

-- a place that carries nothing
pub place_carried : (limits : Limits) (s : Story) (command : Command) → carries s.connections command s.past ≡ None → IsCarried limits s → IsCarried limits (record s { past = place_of limits s.past command ∷ s.past })
place_carried limits s command none c =
    record {
      written = c.written;
      places = (says_nothing s.keeper.client (own_publications (all_own s.keeper)) s.connections (place_of limits s.past command) s.past none, c.places);
      marked = (refl, c.marked);
      numbers = c.numbers;
    }

-- what is left to show: what the place says if the client's next packet is taken
abbrev pub SaysNext : {limits : Limits} {s t : Story} → StoryStep limits s t → Type 0
SaysNext {limits = limits} {s = s} (takes i κ w stands next) =
    Says s.keeper.client (own_publications (all_own s.keeper)) (with_one_counted i s.connections) (place_of limits s.past (command_of κ.name κ.taken w.packet)) s.past
SaysNext _ = Unit {0}

pub keeps_carried : (limits : Limits) (s t : Story) → AreWithin s.past s.connections → (h : StoryStep limits s t) → SaysNext h → IsCarried limits s → IsCarried limits t
keeps_carried limits s t within (takes i κ w stands next) says c =
    let ps = own_publications (all_own s.keeper) in
    record {
      written = events_keep_of limits s t c.numbers.1 (takes i κ w stands next) c.written;
      places = (says, places_later s.keeper.client ps ps s.connections t.connections s.past (events_say limits s t c.numbers.1 (takes i κ w stands next)) (numbers_keep limits s t within (takes i κ w stands next)) c.places);
      marked = (refl, c.marked);
      numbers = c.numbers;
    }
keeps_carried limits s t within (others_take command other none) says c = place_carried limits s command (none_carried s.connections command s.past none) c
keeps_carried limits s t within (receives κ others packet are opened next) says c = stays_carried limits s t within (receives κ others packet are opened next) refl c
keeps_carried limits s t within (opens_anew x fresh none uncounted) says c = stays_carried limits s t within (opens_anew x fresh none uncounted) refl c
keeps_carried limits s t within loses says c = stays_carried limits s t within loses refl c
keeps_carried limits s t within disconnects says c = stays_carried limits s t within disconnects refl c
keeps_carried limits s t within (publishes_one p needs) says c = stays_carried limits s t within (publishes_one p needs) refl c
keeps_carried limits s t within (subscribes p on id) says c = stays_carried limits s t within (subscribes p on id) refl c
keeps_carried limits s t within (unsubscribes p on id) says c = stays_carried limits s t within (unsubscribes p on id) refl c

-- in a story of one session
says_next : (limits : Limits) (s t : Story) → IsSoundStory limits s → IsCarried limits s → (h : StoryStep limits s t) → SaysNext h
says_next limits s t sound c (takes i κ w stands next) =
    let ps = own_publications (all_own s.keeper) in
    taken_says limits s.past s.keeper s.connections ps i κ w.packet w.number κ.taken sound.shape sound.publisher stands next refl
    (each_at (IsOfOwn ps) κ.taken κ.written w next (each_there (λ (μ : ClientConnection). Each (IsOfOwn ps) μ.written) i s.connections κ stands c.written))
says_next limits s t sound c (others_take command other none) = tt
says_next limits s t sound c (receives κ others packet are opened next) = tt
says_next limits s t sound c (opens_anew x fresh none uncounted) = tt
says_next limits s t sound c loses = tt
says_next limits s t sound c disconnects = tt
says_next limits s t sound c (publishes_one p needs) = tt
says_next limits s t sound c (subscribes p on id) = tt
says_next limits s t sound c (unsubscribes p on id) = tt

events_keep_carried : (limits : Limits) (s t : Story) → IsSoundStory limits s → StoryStep limits s t → IsCarried limits s → IsCarried limits t
events_keep_carried limits s t sound h c = keeps_carried limits s t (shape_within limits s sound.shape) h (says_next limits s t sound c h) c

-- without connections no place carries anything
nothing_said : (c : Client) (ps : List Publication) (past : Past) → PlacesSay c ps [] past
nothing_said c ps [] = tt
nothing_said c ps (place ∷ past) = (says_nothing c ps [] place past (none_carried [] place.command past refl), nothing_said c ps past)

-- every story
pub told_carried : (limits : Limits) → IsSteady limits → (c : Client) (s : Story) → StoryTrace limits c s → IsCarried limits s
told_carried limits steady c s begins = record { written = tt; places = tt; marked = tt; numbers = (tt, tt) }
told_carried limits steady c s (begins_at list earlier own none numbers queued apart) =
    record {
      written = tt;
      places = nothing_said c (own_publications (earlier ++ own)) (past_of limits list);
      marked = past_is_marked limits list;
      numbers = (numbers, numbers_alone (length earlier) own (numbered (length earlier) own queued));
    }
told_carried limits steady c s (goes_on {before = r} told happens) =
    events_keep_carried limits r s (told_stories_are_sound limits steady c r told) happens (told_carried limits steady c r told)
