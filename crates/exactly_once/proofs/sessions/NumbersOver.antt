-- Without a session no event brings a new publication of the client, so their numbers still rise;
-- the same when a session begins.
use Rattle.std.proofs.Common.{◌≡◌, ◌<◌, ℕ, List, [], ◌∷◌, ◌++◌, Some, None, sym, ◌∙◌, ap, ap₂, subst, arith, inl, inr}
use Rattle.std.specs.Prelude.{slice_get}
use Rattle.std.proofs.lemmas.List.{append-nil}
use Rattle.lists.specs.Lists.{Each, IsPrefixOf}
use Rattle.lists.proofs.Prefixes.{prefix_then}
use Rattle.lists.proofs.OfEach.{each_then}
use Rattle.broker_spec.specs.Connection.{ConnectionName}
use Rattle.broker_spec.specs.Place.{Client, Past, Limits}
use Rattle.broker_spec.specs.Sessions.{current_connection, clean_session_of}
use Rattle.broker_spec.specs.Received.{is_new}
use Rattle.broker_spec.specs.Marks.{mark_of}
use Rattle.broker_spec.specs.Commands.{place_of}
use Rattle.broker_spec.specs.declared.command.Command.{Command}
use Rattle.broker_base.proofs.QuietPasts.{no_connection}
use Rattle.session_base.specs.declared.publication.Publication.{Publication}
use Rattle.client_base.specs.Keeper.{Written, all_own, next_own_number}
use Rattle.exactly_once.specs.Sides.{ClientConnection}
use Rattle.exactly_once.specs.Story.{Story, StoryStep}
use Rattle.exactly_once.specs.StoryCommands.{command_of, with_one_counted}
use Rattle.exactly_once.specs.Story.StoryStep.{takes, others_take, receives, opens_anew, loses, disconnects, publishes_one, subscribes, unsubscribes}
use Rattle.exactly_once.specs.Carried.{carries, more_by, new_numbers, own_qos2_numbers, own_publications}
use Rattle.exactly_once.specs.Lives.{NumbersRise}
use Rattle.exactly_once.proofs.publishing.Last.{each_there}
use Rattle.exactly_once.proofs.publishing.events.Receives.{each_at}
use Rattle.exactly_once.proofs.publishing.kept.Numbers.{same_numbers}
use Rattle.exactly_once.proofs.carrying.KeepsNumbers.{numbers_keep}
use Rattle.exactly_once.proofs.carrying.KeepsPlaces.{IsCarried, SaysNext, none_carried}
use Rattle.exactly_once.proofs.carrying.PlacesSay.{Says, says_nothing}
use Rattle.exactly_once.proofs.carrying.Publications.{IsOfOwn}
use Rattle.exactly_once.proofs.sessions.Beside.{kept_of}
use Rattle.exactly_once.proofs.sessions.EachPlaced.{IsOwnCommand}
use Rattle.exactly_once.proofs.sessions.Life.{IsCounted, IsLife}
use Rattle.exactly_once.proofs.sessions.LifePlaces.{life_command}
use Rattle.exactly_once.proofs.sessions.BeginsAgain.{StandsAnew}
use Rattle.exactly_once.proofs.sessions.PartedGoes.{Begins}
use Rattle.exactly_once.proofs.sessions.NothingNew.{silent_nothing}
use Rattle.exactly_once.proofs.sessions.CarriedAlike.{nobodys_says, nobodys_new, none_more}
use Rattle.exactly_once.proofs.sessions.SaysLasting.{more_none}
use Rattle.exactly_once.proofs.sessions.PublishedGrows.{published_grows, next_grows}
use Rattle.exactly_once.proofs.sessions.Numbered.{RisesSoFar, Numbered}
use Rattle.exactly_once.proofs.sessions.Numbered.Numbered.{lasts, awaits}
use Rattle.exactly_once.proofs.sessions.NumberedGoes.{counted_all_within, one_below, one_before}

-- ---- nothing is new

nobody_current : (past : Past) (c : Client) (x : ConnectionName) → clean_session_of past c ≡ None → current_connection past c ≡ Some x → ⊥
nobody_current past c x none e = let f : None ≡ Some x = sym (no_connection past c none) ∙ e in cc

takes_nothing : (limits : Limits) (c : Client) (s : Story) (i : ℕ) (κ : ClientConnection) (w : Written) → IsLife limits c s → clean_session_of s.past c ≡ None → slice_get s.connections i ≡ Some κ → (command : Command)
    → IsOwnCommand c κ w.packet command → more_by (is_new command (mark_of limits s.past command)) (carries (with_one_counted i s.connections) command s.past) ≡ []
takes_nothing limits c s i κ w life none stands command (inl k) =
    ap (λ d. more_by (is_new d (mark_of limits s.past d)) (carries (with_one_counted i s.connections) d s.past)) k.1
takes_nothing limits c s i κ w life none stands command (inr k) =
    more_none (is_new command (mark_of limits s.past command)) (carries (with_one_counted i s.connections) command s.past)
    (ap (λ d. is_new d (mark_of limits s.past d)) k.1 ∙ nobodys_new limits s.past c i s.connections κ w.packet life.connections.nobody stands (nobody_current s.past c κ.name none))

over_same : (limits : Limits) (c : Client) (s t : Story) → IsLife limits c s → clean_session_of s.past c ≡ None → StoryStep limits s t → new_numbers t.connections s.past ≡ new_numbers s.connections s.past
    → new_numbers t.connections t.past ≡ new_numbers s.connections s.past
over_same limits c s t life none (takes i κ w stands next) e =
    ap₂ (λ xs ys. xs ++ ys) e (takes_nothing limits c s i κ w life none stands (command_of κ.name κ.taken w.packet) (life_command limits c s i κ w life stands next)) ∙ append-nil (new_numbers s.connections s.past)
over_same limits c s t life none (others_take command other unnamed) e =
    ap (λ o. new_numbers s.connections s.past ++ more_by (is_new command (mark_of limits s.past command)) o) (none_carried s.connections command s.past unnamed)
    ∙ ap (λ l. new_numbers s.connections s.past ++ l) (none_more (is_new command (mark_of limits s.past command))) ∙ append-nil (new_numbers s.connections s.past)
over_same limits c s t life none (receives κ others packet are opened next) e = e
over_same limits c s t life none (opens_anew x fresh queued uncounted) e = e
over_same limits c s t life none loses e = e
over_same limits c s t life none disconnects e = e
over_same limits c s t life none (publishes_one p needs) e = e
over_same limits c s t life none (subscribes p on id) e = e
over_same limits c s t life none (unsubscribes p on id) e = e

pub rises_over : (limits : Limits) (c : Client) (s t : Story) → IsLife limits c s → IsLife limits c t → clean_session_of s.past c ≡ None → (h : StoryStep limits s t) → RisesSoFar c s.past s.keeper s.connections
    → RisesSoFar c t.past t.keeper t.connections
rises_over limits c s t life later none h r =
    let within = counted_all_within s.past s.connections life.connections.counted in
    let same = over_same limits c s t life none h (same_numbers s.connections t.connections s.past (numbers_keep limits s t within h)) in
    let grows = next_grows limits s t life.keeper.numbers h in
    record {
      rising = subst NumbersRise (sym same) r.rising;
      below = subst (Each (λ n. n < next_own_number t.keeper)) (sym same)
          (each_then (λ n. n < next_own_number s.keeper) (λ n. n < next_own_number t.keeper) (new_numbers s.connections s.past) (λ n less. omega (arith, less, grows)) r.below);
      first = λ one.
          subst (λ (l : List ℕ). IsPrefixOf l (own_qos2_numbers (all_own t.keeper))) (sym same)
          (prefix_then (r.first (one_before limits c s t h one)) (published_grows limits s t life.keeper.numbers later.keeper.numbers h));
    }

-- at an Expel
pub rises_placed : (limits : Limits) (c : Client) (s : Story) (command : Command) → carries s.connections command s.past ≡ None → RisesSoFar c s.past s.keeper s.connections
    → RisesSoFar c (place_of limits s.past command ∷ s.past) s.keeper s.connections
rises_placed limits c s command none r =
    let new = is_new command (mark_of limits s.past command) in
    let same : new_numbers s.connections (place_of limits s.past command ∷ s.past) ≡ new_numbers s.connections s.past =
    ap (λ o. new_numbers s.connections s.past ++ more_by new o) none ∙ ap (λ l. new_numbers s.connections s.past ++ l) (none_more new) ∙ append-nil (new_numbers s.connections s.past) in
    record {
      rising = subst NumbersRise (sym same) r.rising;
      below = subst (Each (λ n. n < next_own_number s.keeper)) (sym same) r.below;
      first = λ one. subst (λ (l : List ℕ). IsPrefixOf l (own_qos2_numbers (all_own s.keeper))) (sym same) (r.first (one_below (place_of limits s.past command) s.past c one));
    }

-- ---- what the places say

pub says_over : (limits : Limits) (c : Client) (s t : Story) → IsLife limits c s → clean_session_of s.past c ≡ None → IsCarried limits s → (h : StoryStep limits s t) → SaysNext h
says_over limits c s t life none carried (takes i κ w stands next) =
    subst (λ (d : Client). Says d ps (with_one_counted i s.connections) (place_of limits s.past command) s.past) (sym life.keeper.client) (by (life_command limits c s i κ w life stands next))
  where
    ps : List Publication
    ps = own_publications (all_own s.keeper)

    command : Command
    command = command_of κ.name κ.taken w.packet

    by : IsOwnCommand c κ w.packet command → Says c ps (with_one_counted i s.connections) (place_of limits s.past command) s.past
    by (inl k) =
        says_nothing c ps (with_one_counted i s.connections) (place_of limits s.past command) s.past (ap (λ d. carries (with_one_counted i s.connections) d s.past) k.1)
    by (inr k) =
        subst (λ (d : Command). Says c ps (with_one_counted i s.connections) (place_of limits s.past d) s.past) (sym k.1)
        (nobodys_says limits s.past c ps i s.connections κ w life.connections.names life.connections.nobody stands next (each_there (IsCounted s.past) i s.connections κ stands life.connections.counted).counted
        (nobody_current s.past c κ.name none) (each_at (IsOfOwn ps) κ.taken κ.written w next (each_there (λ (μ : ClientConnection). Each (IsOfOwn ps) μ.written) i s.connections κ stands carried.written)))
says_over limits c s t life none carried (others_take command other unnamed) = tt
says_over limits c s t life none carried (receives κ others packet are opened next) = tt
says_over limits c s t life none carried (opens_anew x fresh queued uncounted) = tt
says_over limits c s t life none carried loses = tt
says_over limits c s t life none carried disconnects = tt
says_over limits c s t life none carried (publishes_one p needs) = tt
says_over limits c s t life none carried (subscribes p on id) = tt
says_over limits c s t life none carried (unsubscribes p on id) = tt

-- ---- a session begins

pub numbered_anew : (limits : Limits) (c : Client) (t : Story) → IsLife limits c t → RisesSoFar c t.past t.keeper t.connections → (b : Begins limits c t) → Numbered limits c b.flags t
numbered_anew limits c t life r b = by b.stands
  where
    none : new_numbers t.connections t.past ≡ new_numbers t.connections t.past ++ new_numbers (kept_of b.flags t.connections) t.past
    none = sym (ap (λ l. new_numbers t.connections t.past ++ l) b.nothing ∙ append-nil (new_numbers t.connections t.past))

    by : StandsAnew limits c b.flags t → Numbered limits c b.flags t
    by (inl a) = awaits a (record { olds = new_numbers t.connections t.past; is = none; rising = r.rising; below = r.below; alone = λ one. absurd (b.again one) }) b.again
    by (inr u) =
        lasts u.beside
        (record {
          olds = [];
          is = silent_nothing c t.connections (life.keeper.silent u.unserved) t.past ∙ sym b.nothing;
          rising = tt;
          below = tt;
          alone = λ one. absurd (b.again one);
        }) (λ one. absurd (b.again one))
