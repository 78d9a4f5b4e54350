-- WhileItLeads.antt: while a node leads a ballot it gives the answers at all places of the agreed list, from where it was to where it is.
use Rattle.std.proofs.Common.{◌≡◌, ℕ, ◌≤◌, ◌⊎◌, inl, inr, true, List, ◌∷◌, ◌++◌, length, set, Some, ap, sym, ◌∙◌, append_assoc, arith}
use Rattle.std.specs.Prelude.{Option, slice_get}
use Rattle.std.proofs.lemmas.Bool.{cases_eq}
use Rattle.std.proofs.lemmas.List.{append-nil, length-take-le}
use Rattle.machine.specs.Machine.{Rules}
use Rattle.lists.proofs.Prefixes.{prefix_length, take_prefix}
use Rattle.lists.proofs.Places.{get_set_other}
use Rattle.agreement.specs.whole_logs.Application.{applied_to, outputs_between}
use Rattle.ballot_base.specs.declared.config.Config.{Config}
use Rattle.agreement.specs.whole_logs.Replica.{ReplicaState}
use Rattle.ballot_base.specs.Replica.{is_active}
use Rattle.agreement.specs.NodeOutputs.{LeadsOn, given_in, given_of}
use Rattle.agreement.specs.NodeOutputs.LeadsOn.{leads_there, leads_still, leads_beside}
use Rattle.agreement.specs.Theorems.{AnswersWhileItLeads}
use Rattle.agreement.specs.Moments.{Learns, Moment, Moments, IsAgreed}
use Rattle.agreement.specs.Primaries.{IsPrimary}
use Rattle.agreement.specs.World.{outputs}
use Rattle.agreement.proofs.Agreed.MomentsAgree.{has_agreed, nodes_agree}
use Rattle.agreement.proofs.Agreed.MomentsGrow.{agreed_grows}
use Rattle.agreement.proofs.Agreed.MomentsKnown.{moments_known}
use Rattle.agreement.proofs.Frame.Giving.{same_outputs}
use Rattle.agreement.proofs.Given.NextPlaces.{answers_at_the_next_places}
use Rattle.agreement.proofs.Given.Places.{between_joins, none_between}
use Rattle.agreement.proofs.Given.StepGives.{from_active}

-- it leads at the last moment
leads_now : {S C O : Type 0} {rules : Rules S C O} {config : Config} {n ballot : ℕ} {a b : Moment S C O} {moments later : List (Moment S C O)}
    {came : Moments rules config (a ∷ moments)} {more : Moments rules config (b ∷ later)} → LeadsOn n ballot came b later more → IsPrimary b.world n ballot
leads_now (leads_there p) = p
leads_now (leads_still leads step p) = p
leads_now (leads_beside leads learns p) = p

-- what a node applied lies within the agreed list
applied_inside : {S C O : Type 0} (rules : Rules S C O) (config : Config) (a : Moment S C O) (moments : List (Moment S C O)) (xs : List C) →
    Moments rules config (a ∷ moments) → IsAgreed config (a ∷ moments) xs → (n : ℕ) (r : ReplicaState S C) → slice_get a.world.nodes n ≡ Some r →
    r.committed ≤ length xs
applied_inside rules config a moments xs came agreed n r stands =
    let within = ((moments_known rules config a moments came).serves.sound.nodes n r stands).within in
    let short = prefix_length ((nodes_agree rules config a moments xs came agreed).0.applied n r stands) in
    let long = length-take-le r.committed r.log within in omega (arith, short, long)

one_node : {X : Type 0} (o : Option X) (x y : X) → o ≡ Some x → o ≡ Some y → x ≡ y
one_node o x y e f = cc

-- an active primary learns nothing, so it stays as it was while another does
stays_beside : {S C O : Type 0} {rules : Rules S C O} {moments : List (Moment S C O)} {b c : Moment S C O} (n : ℕ) (old new : ReplicaState S C) →
    Learns rules moments b c → slice_get b.world.nodes n ≡ Some old → slice_get c.world.nodes n ≡ Some new → is_active old.role ≡ true →
    new ≡ old
stays_beside {S = S} {C = C} {O = O} {rules = rules} {b = b} {c = c} n old new y stood stands active = by_place (cases_eq n y.node)
  where
    there_now : slice_get (set b.world.nodes y.node (applied_to rules y.replica y.places)) n ≡ Some new
    there_now = ap (λ (u : Moment S C O). slice_get u.world.nodes n) (sym y.becomes) ∙ stands

    by_place : (n ≡ y.node) ⊎ (n ≡ y.node → ⊥) → new ≡ old
    by_place (inl e) =
        let f = one_node (slice_get b.world.nodes n) old y.replica stood (ap (slice_get b.world.nodes) e ∙ y.stands) in
        let g = ap (λ (r : ReplicaState S C). is_active r.role) f in let p = y.passive in cc
    by_place (inr other) =
        one_node (slice_get b.world.nodes n) new old (sym (get_set_other b.world.nodes y.node n (applied_to rules y.replica y.places) other) ∙ there_now) stood

-- by the moments in between
gave_between : {S C O : Type 0} (rules : Rules S C O) (config : Config) (a : Moment S C O) (moments : List (Moment S C O)) →
    (came : Moments rules config (a ∷ moments)) → (n ballot : ℕ) (old : ReplicaState S C) → slice_get a.world.nodes n ≡ Some old →
    (b : Moment S C O) (later : List (Moment S C O)) (xs : List C) (more : Moments rules config (b ∷ later)) → IsAgreed config (b ∷ later) xs →
    LeadsOn n ballot came b later more → (new : ReplicaState S C) → slice_get b.world.nodes n ≡ Some new →
    (old.committed ≤ new.committed)
    × (given_of n more ≡ given_of n came ++ outputs (outputs_between rules xs old.committed new.committed))
gave_between {S = S} {C = C} {O = O} rules config a moments came n ballot old stood b later xs more agreed (leads_there p) new stands =
    let same : new ≡ old = one_node (slice_get a.world.nodes n) new old stands stood in
    let e = ap (λ (r : ReplicaState S C). r.committed) same in (
      omega (arith, e),
      sym (ap (λ k. given_of n came ++ outputs (outputs_between rules xs old.committed k)) e
          ∙ ap (λ us. given_of n came ++ us) (none_between rules xs old.committed) ∙ append-nil (given_of n came)),
    )
gave_between {S = S} {C = C} {O = O} rules config a moments came n ballot old stood c later xs more agreed
    (leads_still {previous = b} {later = earlier} {more = before} leads step p) new stands =
    let mid = leads_now leads in
    let r = mid.replica in
    let ys = has_agreed rules config b earlier before in
    let first = gave_between rules config a moments came n ballot old stood b earlier ys.0 before ys.1 leads r mid.stands in
    let next = answers_at_the_next_places rules config b c earlier xs before agreed step n r new mid.stands stands in
    let active = ap (λ (x : ReplicaState S C). is_active x.role) (one_node (slice_get c.world.nodes n) new p.replica stands p.stands) ∙ p.active in
    let from = from_active r mid.active in
    let up = next.rising active in
    let low = first.0 in
    let inside = applied_inside rules config b earlier ys.0 before ys.1 n r mid.stands in
    let grown = agreed_grows rules config c (b ∷ earlier) ys.0 xs ys.1 agreed in
    let longer = prefix_length grown in (
      omega (arith, low, up, from),
      ap (λ us. us ++ given_in n step) first.1
          ∙ ap (λ us. (given_of n came ++ outputs us) ++ given_in n step)
          (same_outputs rules ys.0 xs old.committed r.committed low (sym (take_prefix r.committed grown inside)))
          ∙ ap (λ us. (given_of n came ++ outputs (outputs_between rules xs old.committed r.committed)) ++ us)
          (next.next active ∙ ap (λ k. outputs (outputs_between rules xs k new.committed)) from)
          ∙ append_assoc (given_of n came) (outputs (outputs_between rules xs old.committed r.committed)) (outputs (outputs_between rules xs r.committed new.committed))
          ∙ ap (λ us. given_of n came ++ us)
          (between_joins rules xs old.committed r.committed new.committed low (omega (arith, up, from)) (omega (arith, inside, longer))),
    )
gave_between {S = S} {C = C} {O = O} rules config a moments came n ballot old stood c later xs more agreed
    (leads_beside {previous = b} {later = earlier} {more = before} leads learns p) new stands =
    let mid = leads_now leads in
    let r = mid.replica in
    let ys = has_agreed rules config b earlier before in
    let first = gave_between rules config a moments came n ballot old stood b earlier ys.0 before ys.1 leads r mid.stands in
    let same = stays_beside n r new learns mid.stands stands mid.active in
    let e = ap (λ (x : ReplicaState S C). x.committed) same in
    let low = first.0 in
    let inside = applied_inside rules config b earlier ys.0 before ys.1 n r mid.stands in
    let grown = agreed_grows rules config c (b ∷ earlier) ys.0 xs ys.1 agreed in (
      omega (arith, low, e),
      first.1
          ∙ ap (λ us. given_of n came ++ outputs us)
          (same_outputs rules ys.0 xs old.committed r.committed low (sym (take_prefix r.committed grown inside)))
          ∙ ap (λ k. given_of n came ++ outputs (outputs_between rules xs old.committed k)) (sym e),
    )

-- in the terms of the law
pub answers_while_it_leads : {S C O : Type 0} (rules : Rules S C O) → AnswersWhileItLeads rules
answers_while_it_leads rules config a b moments later xs came more agreed n ballot leads old new stood stands =
    let g = gave_between rules config a moments came n ballot old stood b later xs more agreed leads new stands in
    (g.0, applied_inside rules config b later xs more agreed n new stands, g.1)
