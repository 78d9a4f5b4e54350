-- A publication that was answered is new, or taken, at a place of the list.
use Rattle.std.proofs.Common.{◌≡◌, ℕ, Bool, true, false, List, [], ◌∷◌, Option, Some, None, refl, sym, ◌∙◌, ap, ap₂, subst, inl, inr, ◌⊎◌}
use Rattle.std.specs.Prelude.{slice_get}
use Rattle.std.proofs.lemmas.Bool.{both_ways}
use Rattle.packet.specs.declared.publish.Publish.{Publish}
use Rattle.packet.specs.declared.packet.Packet.{Packet}
use Rattle.packet.specs.declared.packet.Packet.TheVariants as packets
use Rattle.session_base.specs.declared.publication.Publication.{Publication}
use Rattle.session_base.specs.Publication.{publication_of}
use Rattle.broker_spec.specs.Connection.{ConnectionName}
use Rattle.broker_spec.specs.Place.{Client, Mark, Place, Past, Limits}
use Rattle.broker_spec.specs.Received.{is_new, is_exactly_once}
use Rattle.broker_spec.specs.Marks.{mark_of}
use Rattle.broker_spec.specs.AnswersInOrder.{answers_at}
use Rattle.broker_spec.specs.AnswerTheorems.{is_unasked}
use Rattle.broker_spec.specs.EndingTheorems.{StandsAt}
use Rattle.broker_spec.specs.declared.command.Command.{Command}
use Rattle.broker_spec.specs.declared.command.Command.TheVariants as commands
use Rattle.broker_spec.specs.declared.command.Output.TheVariants.{Send}
use Rattle.broker_spec.proofs.MarksOfPlaces.{mark_is}
use Rattle.lists.specs.Lists.{In}
use Rattle.lists.specs.Lists.In.{here, there}
use Rattle.lists.proofs.Members.{in_left, in_right, in_append}
use Rattle.exactly_once.specs.Sides.{ClientConnection}
use Rattle.exactly_once.specs.Story.{Story}
use Rattle.exactly_once.specs.Carried.{carries, more_by, new_numbers, own_publications}
use Rattle.exactly_once.specs.Headline.{IsAnsweredBy, IsTakenAt}
use Rattle.exactly_once.proofs.Packets.{at_packet}
use Rattle.exactly_once.proofs.carrying.PlacesSay.{is_again, Says, PlacesSay}
use Rattle.exactly_once.proofs.carrying.KeepsPlaces.{IsCarried}
use Rattle.exactly_once.proofs.carrying.Acknowledging.{Acknowledges, carried_publish, says_at, new_later, acknowledges, pubrec_two, puback_one, again_two}
use Rattle.client_base.specs.Keeper.{all_own}

-- ---- the claims

placed : (place : Place) (y : ConnectionName) (p : Publish) → place.command ≡ commands.Packet y (packets.Publish p) → place ≡ at_packet y (packets.Publish p) place.mark
placed place y p e = ap (λ k. let z : Place = record { command = k; mark = place.mark } in z) e

acknowledged_at : (limits : Limits) (place : Place) (below : Past) (x y : ConnectionName) (p : Publish) (q : Packet) → place.command ≡ commands.Packet y (packets.Publish p)
    → is_unasked (Send x q) ≡ false → IsAnsweredBy limits place below x q → Acknowledges x q y p place.mark
acknowledged_at limits place below x y p q e asked i =
    acknowledges limits below y p place.mark x q asked (subst (λ (z : Place). In (Send x q) (answers_at limits z below)) (placed place y p e) i)

-- PUBREC: what is answered is new
pub answered_is_new : (limits : Limits) (s : Story) → IsCarried limits s → (place : Place) (below : Past) (x : ConnectionName) (id k : ℕ) → StandsAt s.past place below
    → carries s.connections place.command below ≡ Some k → IsAnsweredBy limits place below x (packets.Pubrec id) → In k (new_numbers s.connections s.past)
answered_is_new limits s c place below x id k stands e i =
    let publish = carried_publish s.connections place.command below k e in
    let says = says_at s.keeper.client (own_publications (all_own s.keeper)) s.connections s.past place below c.places stands in
    let a = acknowledged_at limits place below x publish.on publish.publish (packets.Pubrec id) publish.is refl i in
    subst (λ (z : Past). In k (new_numbers s.connections z)) (sym stands.is) (new_later s.connections k stands.later (place ∷ below) (by says publish.on publish.publish publish.is a.0 (pubrec_two x publish.on id publish.publish.delivery a.1)))
  where
    by : Says s.keeper.client (own_publications (all_own s.keeper)) s.connections place below → (y : ConnectionName) (p : Publish) → place.command ≡ commands.Packet y (packets.Publish p)
        → (is_again place.mark ≡ true) ⊎ ((d : Client) × (place.mark ≡ Mark.Taken d)) → is_exactly_once p.delivery ≡ true → In k (new_numbers s.connections (place ∷ below))
    by says y p is (inl again) two = in_left (more_by (is_new place.command place.mark) (carries s.connections place.command below)) (says.known k e again)
    by says y p is (inr (d, taken)) two =
        let new : is_new place.command place.mark ≡ true = ap₂ is_new is taken ∙ two in
        in_right (new_numbers s.connections below) (subst (In k) (sym (ap₂ more_by new e)) here)

-- PUBACK: it is taken at this place
pub acknowledged_is_taken : (limits : Limits) (s : Story) → IsCarried limits s → (place : Place) (below : Past) (x : ConnectionName) (id k : ℕ) → StandsAt s.past place below
    → carries s.connections place.command below ≡ Some k → IsAnsweredBy limits place below x (packets.Puback id) → IsTakenAt s k place below
acknowledged_is_taken limits s c place below x id k stands e i =
    let publish = carried_publish s.connections place.command below k e in
    let says = says_at s.keeper.client (own_publications (all_own s.keeper)) s.connections s.past place below c.places stands in
    let a = acknowledged_at limits place below x publish.on publish.publish (packets.Puback id) publish.is refl i in
    record { stands = stands; carried = e; taken = by says publish.on publish.publish publish.is a.0 (puback_one x publish.on id publish.publish.delivery a.1) }
  where
    by : Says s.keeper.client (own_publications (all_own s.keeper)) s.connections place below → (y : ConnectionName) (p : Publish) → place.command ≡ commands.Packet y (packets.Publish p)
        → (is_again place.mark ≡ true) ⊎ ((d : Client) × (place.mark ≡ Mark.Taken d)) → is_exactly_once p.delivery ≡ false → place.mark ≡ Mark.Taken s.keeper.client
    by says y p is (inr (d, taken)) one = taken ∙ ap (λ z. Mark.Taken z) (says.own k e d taken)
    by says y p is (inl again) one =
        let marked : place.mark ≡ mark_of limits below (commands.Packet y (packets.Publish p)) = mark_is limits s.past place below c.marked stands ∙ ap (mark_of limits below) is in
        absurd (both_ways (is_exactly_once p.delivery) one (again_two limits below p _ (sym (ap is_again marked) ∙ again)))

-- what is new is taken at a place
more_in : (k : ℕ) (b : Bool) (o : Option ℕ) → In k (more_by b o) → (b ≡ true) × (o ≡ Some k)
more_in k true (Some j) here = (refl, refl)
more_in k true (Some j) (there i) = elim i [ ]
more_in k true None i = elim i [ ]
more_in k false (Some j) i = elim i [ ]
more_in k false None i = elim i [ ]

new_is_taken : (command : Command) (mark : Mark) → is_new command mark ≡ true → (d : Client) × (mark ≡ Mark.Taken d)
new_is_taken (commands.Packet x (packets.Publish p)) (Mark.Taken d) e = (d, refl)
new_is_taken (commands.Packet x (packets.Publish p)) _ e = absurd (both_ways false refl e)
new_is_taken (commands.Packet x _) mark e = absurd (both_ways false refl e)
new_is_taken (commands.Connect x c clean) mark e = absurd (both_ways false refl e)
new_is_taken (commands.Lost x) mark e = absurd (both_ways false refl e)
new_is_taken (commands.Start ballot) mark e = absurd (both_ways false refl e)
new_is_taken (commands.Expel d) mark e = absurd (both_ways false refl e)

-- a place of these that carries k, and is taken for the client
abbrev TakenIn : Client → List ClientConnection → ℕ → Past → Type 0
TakenIn c connections k past =
    (place : Place) × (below : Past) × StandsAt past place below × (carries connections place.command below ≡ Some k) × (place.mark ≡ Mark.Taken c)

taken_in : (c : Client) (ps : List Publication) (connections : List ClientConnection) (k : ℕ) (past : Past) → PlacesSay c ps connections past → In k (new_numbers connections past) → TakenIn c connections k past
taken_in c ps connections k [] all i = elim i [ ]
taken_in c ps connections k (place ∷ past) all i =
    by (taken_in c ps connections k past all.1) (in_append (new_numbers connections past) (more_by (is_new place.command place.mark) (carries connections place.command past)) i)
  where
    by : (In k (new_numbers connections past) → TakenIn c connections k past)
        → In k (new_numbers connections past) ⊎ In k (more_by (is_new place.command place.mark) (carries connections place.command past)) → TakenIn c connections k (place ∷ past)
    by ih (inl old) =
        let t = ih old in
        (t.0, t.1, record { later = place ∷ t.2.later; is = ap (λ z. place ∷ z) t.2.is }, t.3, t.4)
    by ih (inr new) =
        let m = more_in k (is_new place.command place.mark) (carries connections place.command past) new in
        let t = new_is_taken place.command place.mark m.0 in
        (place, past, record { later = []; is = refl }, m.1, t.1 ∙ ap (λ z. Mark.Taken z) (all.0.own k m.1 t.0 t.1))

pub new_taken : (limits : Limits) (s : Story) → IsCarried limits s → (k : ℕ) → In k (new_numbers s.connections s.past) → (place : Place) × (below : Past) × IsTakenAt s k place below
new_taken limits s c k i =
    let t = taken_in s.keeper.client (own_publications (all_own s.keeper)) s.connections k s.past c.places i in
    (t.0, t.1, record { stands = t.2; carried = t.3; taken = t.4 })

-- what is carried is the publication's own PUBLISH
pub carried_is_own : (limits : Limits) (s : Story) → IsCarried limits s → (place : Place) (below : Past) (x : ConnectionName) (p : Publish) (k : ℕ) → StandsAt s.past place below
    → carries s.connections place.command below ≡ Some k → place.command ≡ commands.Packet x (packets.Publish p) → slice_get (own_publications (all_own s.keeper)) k ≡ Some (publication_of p)
carried_is_own limits s c place below x p k stands e is =
    (says_at s.keeper.client (own_publications (all_own s.keeper)) s.connections s.past place below c.places stands).of k x p e is
