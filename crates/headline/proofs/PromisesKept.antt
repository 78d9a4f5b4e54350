-- What is promised for a client that is in step holds in each of its lives.
use Rattle.std.proofs.Common.{◌≡◌, ◌≤◌, ℕ, Bool, true, false, if◌then◌else◌, List, [], ◌∷◌, ◌++◌, filter, length, map, Option, Some, refl, sym, ap, ap₂, ◌∙◌, subst, inl, inr, ◌⊎◌, arith}
use Rattle.std.specs.Prelude.{slice_get}
use Rattle.lists.specs.Lists.{In}
use Rattle.lists.specs.Lists.In.{here, there}
use Rattle.lists.proofs.Members.{in_at, in_left, in_right}
use Rattle.packet.specs.declared.packet.Packet.{Packet}
use Rattle.packet.specs.declared.packet.Packet.TheVariants as packets
use Rattle.packet.specs.declared.publish.Publish.{Publish}
use Rattle.session_base.specs.Publication.{publication_of}
use Rattle.session_base.specs.declared.publication.Publication.{Publication}
use Rattle.broker_spec.specs.AnswersInOrder.{answers_at}
use Rattle.broker_spec.specs.declared.command.Command.{Command}
use Rattle.broker_spec.specs.declared.command.Command.TheVariants as commands
use Rattle.broker_spec.specs.Commands.{usual_limits}
use Rattle.broker_spec.specs.Connection.{ConnectionName}
use Rattle.broker_spec.specs.EndingTheorems.{EndsWithTheSession, StandsAt, connects_of}
use Rattle.broker_spec.specs.OriginTheorems.{is_from_publish}
use Rattle.broker_spec.specs.declared.command.Output.TheVariants.{Send}
use Rattle.broker_spec.specs.Place.{Client, Mark, Past, Place}
use Rattle.broker_spec.specs.Readings.{publication_in}
use Rattle.broker_spec.specs.Received.{is_exactly_once, is_new}
use Rattle.broker_spec.specs.TakenTheorems.{takes_publication}
use Rattle.broker_spec.specs.Times.{entries_of}
use Rattle.broker_spec.proofs.EntersOnce.{enters_once}
use Rattle.broker_spec.proofs.EntersWhereTaken.{enters_where_taken}
use Rattle.broker_spec.proofs.MarksOfPlaces.{AreMarked}
use Rattle.broker_spec.proofs.PacketOfNobody.{window_is_steady}
use Rattle.client_base.specs.History as history
use Rattle.client_base.specs.Keeper.{all_own}
use Rattle.client_base.specs.State.{ClientState}
use Rattle.exactly_once.specs.Carried.{carries, more_by, new_numbers, own_publications}
use Rattle.exactly_once.specs.InStep.{IsInStep, accepted_in, starts_of}
use Rattle.exactly_once.specs.Lives.{Lived}
use Rattle.exactly_once.specs.LivesAreExact.{ExactlyOnceOverSessions}
use Rattle.exactly_once.specs.Acceptance.{accepted_on}
use Rattle.exactly_once.specs.Sides.{ClientConnection}
use Rattle.exactly_once.specs.Story.{Story}
use Rattle.exactly_once.proofs.Entering.{entering_as}
use Rattle.exactly_once.proofs.Packets.{at_packet}
use Rattle.exactly_once.proofs.carrying.Acknowledging.{acknowledges, pubrec_two, says_at}
use Rattle.exactly_once.proofs.carrying.Answered.{acknowledged_is_taken}
use Rattle.exactly_once.proofs.carrying.KeepsPlaces.{IsCarried}
use Rattle.exactly_once.proofs.carrying.PlacesSay.{PlacesSay, Says, is_again}
use Rattle.exactly_once.proofs.sessions.InTurn.{flat_map_same}
use Rattle.exactly_once.proofs.sessions.LivesExact.{all_well, lives_exact}
use Rattle.headline.specs.Promise.{PromiseBy, PromiseInStep}
use Rattle.headline.specs.Shown.{AcceptsInSessionOrder, IsAnswered, new_of}
use Rattle.headline.specs.byte_world.Accepted.{accepted_at_qos2}
use Rattle.headline.proofs.NewByPlace.{all_new}
use Rattle.headline.proofs.FirstKept.{first_kept}
use Rattle.headline.proofs.NewNumbered.{new_in_order}
use Rattle.headline.proofs.OwnCarried.{OwnAreCarried, own_are_carried, own_at}
use Rattle.headline.proofs.StillKept.{some_of}

-- ---- lists

some_same : (a b : Publication) → Some a ≡ Some b → a ≡ b
some_same a b e = cc

-- what one of the numbers leads to is there
in_got : (get : ℕ → Option Publication) (ns : List ℕ) (qs : List Publication) (k : ℕ) (q : Publication) → map get ns ≡ some_of qs → In k ns → get k ≡ Some q → In q qs
in_got get [] qs k q e i is = elim i [ ]
in_got get (n ∷ ns) [] k q e i is = cc
in_got get (n ∷ ns) (r ∷ qs) k q e here is =
    let first : get n ≡ Some r = cc in
    subst (λ (z : Publication). In z (r ∷ qs)) (some_same r q (sym first ∙ is)) here
in_got get (n ∷ ns) (r ∷ qs) k q e (there i) is = let rest : map get ns ≡ some_of qs = cc in there (in_got get ns qs k q rest i is)

-- ---- the part of a list from a place on

says_below : (c : Client) (ps : List Publication) (connections : List ClientConnection) (later rest : Past) → PlacesSay c ps connections (later ++ rest) → PlacesSay c ps connections rest
says_below c ps connections [] rest all = all
says_below c ps connections (place ∷ later) rest all = says_below c ps connections later rest all.1

own_below : (c : Client) (connections : List ClientConnection) (later rest : Past) → OwnAreCarried c connections (later ++ rest) → OwnAreCarried c connections rest
own_below c connections [] rest all = all
own_below c connections (place ∷ later) rest all = own_below c connections later rest all.1

marked_below : (later rest : Past) → AreMarked usual_limits (later ++ rest) → AreMarked usual_limits rest
marked_below [] rest all = all
marked_below (place ∷ later) rest all = marked_below later rest all.1

-- ---- at one place

answered_new : (s : Story) (place : Place) (below : Past) (x : ConnectionName) (p : Publish) (id k : ℕ) → place.command ≡ commands.Packet x (packets.Publish p)
    → carries s.connections place.command below ≡ Some k → In (Send x (packets.Pubrec id)) (answers_at usual_limits place below)
    → Says s.keeper.client (own_publications (all_own s.keeper)) s.connections place below → In k (new_numbers s.connections (place ∷ below))
answered_new s place below x p id k is e i says =
    let same : place ≡ at_packet x (packets.Publish p) place.mark = ap (λ (command : Command). let z : Place = record { command = command; mark = place.mark } in z) is in
    let a = acknowledges usual_limits below x p place.mark x (packets.Pubrec id) refl (subst (λ (z : Place). In (Send x (packets.Pubrec id)) (answers_at usual_limits z below)) same i) in
    by a.0 (pubrec_two x x id p.delivery a.1)
  where
    by : (is_again place.mark ≡ true) ⊎ ((d : Client) × (place.mark ≡ Mark.Taken d)) → is_exactly_once p.delivery ≡ true → In k (new_numbers s.connections (place ∷ below))
    by (inl again) two = in_left (more_by (is_new place.command place.mark) (carries s.connections place.command below)) (says.known k e again)
    by (inr (d, taken)) two =
        let new : is_new place.command place.mark ≡ true = ap₂ is_new is taken ∙ two in
        in_right (new_numbers s.connections below) (subst (In k) (sym (ap₂ more_by new e)) here)

once_at_most : (earlier : Past) (place : Place) (below : Past) (d : Client) → StandsAt earlier place below → (takes : Bool) → takes_publication place.command place.mark ≡ takes
    → length (filter (is_from_publish (length below)) (entries_of usual_limits earlier d)) ≤ (if takes then 1 else 0)
once_at_most earlier place below d stands true e = enters_once usual_limits earlier d (length below)
once_at_most earlier place below d stands false e = let none = enters_where_taken usual_limits earlier place below d stands e in omega (arith, none)

-- ---- a life that is in step

module _ (s : Story) (lived : Lived usual_limits s.keeper.client s) (step : IsInStep s) where
  abbrev c : Client
  c = s.keeper.client

  abbrev ps : List Publication
  ps = own_publications (all_own s.keeper)

  carried : IsCarried usual_limits s
  carried = (all_well usual_limits window_is_steady.0 c s lived step).carried

  own : OwnAreCarried c s.connections s.past
  own = own_are_carried usual_limits c s lived

  -- which of its publications a place of it carries
  carries_one : (place : Place) (below : Past) (p : Publish) (packet : Packet) → IsAnswered s.past c packet place below p → (k : ℕ) × (carries s.connections place.command below ≡ Some k)
  carries_one place below p packet a = own_at c s.connections s.past place below own a.stands a.on p a.command a.own

  says : (place : Place) (below : Past) → StandsAt s.past place below → Says c ps s.connections place below
  says place below stands = says_at c ps s.connections s.past place below carried.places stands

  -- what is new up to a place
  new_up_to : (place : Place) (below : Past) → StandsAt s.past place below
      → map (slice_get ps) (new_numbers s.connections (place ∷ below)) ≡ some_of (new_of c (place ∷ below))
  new_up_to place below stands =
      all_new usual_limits c ps s.connections (place ∷ below)
      (says_below c ps s.connections stands.later (place ∷ below) (subst (PlacesSay c ps s.connections) stands.is carried.places))
      (own_below c s.connections stands.later (place ∷ below) (subst (OwnAreCarried c s.connections) stands.is own))
      (marked_below stands.later (place ∷ below) (subst (AreMarked usual_limits) stands.is carried.marked))

  is_answered : (place : Place) (below : Past) (p : Publish) (id : ℕ) → IsAnswered s.past c (packets.Pubrec id) place below p → In (publication_of p) (new_of c (place ∷ below))
  is_answered place below p id a =
      let k = carries_one place below p (packets.Pubrec id) a in
      in_got (slice_get ps) (new_numbers s.connections (place ∷ below)) (new_of c (place ∷ below)) k.0 (publication_of p) (new_up_to place below a.stands)
      (answered_new s place below a.on p id k.0 a.command k.1 a.answer (says place below a.stands)) ((says place below a.stands).of k.0 a.on p k.1 a.command)

  is_acknowledged : (place : Place) (below : Past) (p : Publish) (id : ℕ) → IsAnswered s.past c (packets.Puback id) place below p
      → In (publication_of p) ps × (place.mark ≡ Mark.Taken c)
  is_acknowledged place below p id a =
      let k = carries_one place below p (packets.Puback id) a in (
        in_at ps k.0 (publication_of p) ((says place below a.stands).of k.0 a.on p k.1 a.command),
        (acknowledged_is_taken usual_limits s carried place below a.on id k.0 a.stands k.1 a.answer).taken,
      )

  new_all : map (slice_get ps) (new_numbers s.connections s.past) ≡ some_of (new_of c s.past)
  new_all = all_new usual_limits c ps s.connections s.past carried.places own carried.marked

  -- what it accepted, session after session
  accepted : (state : ClientState) → accepted_at_qos2 state.accepted ≡ accepted_on s.connections → ExactlyOnceOverSessions usual_limits s → AcceptsInSessionOrder c s.past state
  accepted state shown exact =
      record {
        session = λ start. let a = exact.subscribers start in record { prefix = a.prefix; others = a.others; entries = a.is; rest = a.rest };
        accepted = shown ∙ exact.in_turn
            ∙ flat_map_same (λ start. accepted_in s.past c start s.connections) (λ start. map publication_in (exact.subscribers start).prefix) (λ start. (exact.subscribers start).accepted) (starts_of s.past c);
      }

  pub kept_in_step : (published : List Publication) (state : ClientState) → ps ≡ published → history.KeeperStandsFor s.keeper state
      → accepted_at_qos2 state.accepted ≡ accepted_on s.connections → ExactlyOnceOverSessions usual_limits s → PromiseInStep c published s.past state
  kept_in_step published state same stands shown exact =
      subst (λ (l : List Publication). PromiseInStep c l s.past state) same
      (record {
        rises = record { numbers = new_numbers s.connections s.past; rise = exact.publishers.rises; are = new_all };
        in_order = λ one. new_in_order s carried.numbers (new_of c s.past) (exact.publishers.in_order one) new_all;
        unacknowledged = λ first. first_kept s state lived step first stands (new_of c s.past) new_all;
        answered = is_answered;
        acknowledged = is_acknowledged;
        accepts = accepted state shown exact;
      })

-- ---- every life

pub promise_kept : (s : Story) → Lived usual_limits s.keeper.client s → (published : List Publication) (state : ClientState) → own_publications (all_own s.keeper) ≡ published
    → history.KeeperStandsFor s.keeper state → accepted_at_qos2 state.accepted ≡ accepted_on s.connections → ((x : ConnectionName) → connects_of x s.past ≤ 1)
    → EndsWithTheSession usual_limits s.past → PromiseBy s.keeper.client s.connections published s.past state
promise_kept s lived published state same stands shown names ended =
    record {
      in_step = λ step. kept_in_step s lived step published state same stands shown (lives_exact usual_limits window_is_steady.0 s.keeper.client s lived step);
      enters = λ place below x p d at. entering_as usual_limits s.keeper.client place below x p d;
      once = λ later earlier place below d is at. once_at_most earlier place below d at (takes_publication place.command place.mark) refl;
      names = names;
      ended = ended;
    }
