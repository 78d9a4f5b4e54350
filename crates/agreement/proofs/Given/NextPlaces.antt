-- NextPlaces.antt: what a node gives in a step is the answers at the next places of the agreed list.
use Rattle.std.proofs.Common.{◌≡◌, ℕ, ◌≤◌, ◌⊎◌, inl, inr, true, false, cond, List, [], ◌∷◌, length, set, take, Some, refl, ap, sym, ◌∙◌, subst, arith}
use Rattle.std.specs.Prelude.{◌==◌, Option, None, slice_get}
use Rattle.std.proofs.lemmas.Bool.{cases_eq, eq-eqb, ne_eqb}
use Rattle.std.proofs.lemmas.List.{length-take-le}
use Rattle.machine.specs.Machine.{Rules, replay}
use Rattle.lists.proofs.Prefixes.{prefix_length}
use Rattle.lists.proofs.Places.{get_set, get_set_other}
use Rattle.agreement.specs.whole_logs.Application.{outputs_between}
use Rattle.agreement.specs.whole_logs.Messages.{Effect}
use Rattle.agreement.specs.whole_logs.Losses.{Loses, halted}
use Rattle.agreement.specs.whole_logs.Protocol.{Input, replica_step}
use Rattle.agreement.specs.whole_logs.Replica.{ReplicaState}
use Rattle.ballot_base.specs.Replica.{is_active}
use Rattle.agreement.specs.NodeOutputs.{GivesNext, given_in, gives_from}
use Rattle.agreement.specs.Theorems.{AnswersAtTheNextPlaces}
use Rattle.agreement.specs.MasterState.{AssignRefusal, MasterState, refusal}
use Rattle.agreement.specs.Moments.Moments.{went_on}
use Rattle.agreement.specs.Steps.{MayHappen, world_after}
use Rattle.agreement.specs.Steps.MayHappen.{node_takes, node_stops, master_assigns, master_hears, assignment_lost, answer_lost}
use Rattle.agreement.specs.World.{GroupWorld, outputs}
use Rattle.agreement.proofs.Agreed.MomentsAgree.{nodes_agree}
use Rattle.agreement.proofs.Agreed.MomentsKnown.{moments_known}
use Rattle.agreement.proofs.Effects.{thinned_outputs}
use Rattle.agreement.proofs.Frame.Roles.{role_active}
use Rattle.agreement.proofs.Given.Places.{front_between, none_between}
use Rattle.agreement.proofs.Given.StepGives.{Gives, from_active, step_gives}
use Rattle.agreement.proofs.Given.StepGives.Gives.{gives_nothing, gives_idle, gives_next}

-- nothing is given, and nothing applied
pub same_gives : {S C O : Type 0} (rules : Rules S C O) (old new : ReplicaState S C) (xs : List C) (given : List (ℕ × O)) → given ≡ [] →
    new.committed ≡ old.committed → (is_active new.role ≡ true → is_active old.role ≡ true) → new.committed ≤ length xs →
    GivesNext rules old new xs given
same_gives {S = S} {C = C} {O = O} rules old new xs given nothing same stays inside =
    record {
      idle = λ e. nothing;
      rising = λ e. let f = from_active old (stays e) in omega (arith, f, same);
      inside = inside;
      next = λ e.
          nothing ∙ sym (ap (λ k. outputs (outputs_between rules xs k new.committed)) (from_active old (stays e) ∙ sym same)
          ∙ none_between rules xs new.committed);
    }

-- a node's step, perhaps with losses
pub node_gives : {S C O : Type 0} (rules : Rules S C O) (r : ReplicaState S C) (input : Input C) (new : ReplicaState S C) (given : List (Effect C O)) →
    r.machine ≡ replay rules (take r.committed r.log) → r.committed ≤ length r.log → new.committed ≤ length new.log →
    Loses rules r (replica_step rules r input) new given → GivesNext rules r new new.log (outputs given)
node_gives {S = S} {C = C} {O = O} rules r input new given ran within inside (inr (inl (e, f))) =
    same_gives rules r new new.log (outputs given) (ap outputs f) (ap (λ (x : ReplicaState S C). x.committed) e)
    (λ a. sym (ap (λ (x : ReplicaState S C). is_active x.role) e) ∙ a) inside
node_gives {S = S} {C = C} {O = O} rules r input new given ran within inside (inr (inr (e, f))) =
    same_gives rules r new new.log (outputs given) (ap outputs f) (ap (λ (x : ReplicaState S C). x.committed) e)
    (λ a. sym (ap (λ (x : ReplicaState S C). is_active x.role) e) ∙ a) inside
node_gives {S = S} {C = C} {O = O} rules r input new given ran within inside (inl (e, thinned)) = by_step (step_gives rules r input ran within)
  where
    by_step : Gives rules r (replica_step rules r input) → GivesNext rules r new new.log (outputs given)
    by_step (gives_nothing g stays) =
        same_gives rules r new new.log (outputs given) (thinned_outputs thinned ∙ g.silent) (ap (λ (x : ReplicaState S C). x.committed) e ∙ g.same)
        (λ a. ap is_active (stays (sym (ap (λ (x : ReplicaState S C). x.role) e) ∙ role_active new.role a)).0) inside
    by_step (gives_idle silent passive) =
        record {
          idle = λ a. thinned_outputs thinned ∙ silent;
          rising = λ a. absurd (passive (sym (ap (λ (x : ReplicaState S C). x.role) e) ∙ role_active new.role a));
          inside = inside;
          next = λ a. absurd (passive (sym (ap (λ (x : ReplicaState S C). x.role) e) ∙ role_active new.role a));
        }
    by_step (gives_next active up next) =
        record {
          idle = λ a. let f = ap (λ (x : ReplicaState S C). is_active x.role) e ∙ ap is_active active in absurd cc;
          rising = λ a. let f = ap (λ (x : ReplicaState S C). x.committed) e in omega (arith, up, f);
          inside = inside;
          next = λ a. thinned_outputs thinned ∙ next
              ∙ ap (λ (x : ReplicaState S C). outputs (outputs_between rules x.log (gives_from r) x.committed)) (sym e);
        }

pub some_same : {X : Type 0} (o : Option X) (x y : X) → o ≡ Some x → o ≡ Some y → x ≡ y
some_same o x y e f = cc

-- a step of the group, of which the node at index n may be another's
group_step_gives : {S C O : Type 0} (rules : Rules S C O) (m : MasterState) (w : GroupWorld S C O) (k : MasterState) (v : GroupWorld S C O) →
    (step : MayHappen rules m w k v) → (n : ℕ) (old new : ReplicaState S C) → slice_get w.nodes n ≡ Some old → slice_get v.nodes n ≡ Some new →
    (old.stopped ≡ false → old.machine ≡ replay rules (take old.committed old.log)) → old.committed ≤ length old.log →
    new.committed ≤ length new.log → GivesNext rules old new new.log (given_in n step)
group_step_gives {S = S} {C = C} {O = O} rules m w k v step n old new stood stands ran within inside = by_step step stands
  where
    still : slice_get w.nodes n ≡ Some new → (given : List (ℕ × O)) → given ≡ [] → GivesNext rules old new new.log given
    still there given nothing =
        let e = some_same (slice_get w.nodes n) new old there stood in
        same_gives rules old new new.log given nothing (ap (λ (x : ReplicaState S C). x.committed) e)
        (λ a. sym (ap (λ (x : ReplicaState S C). is_active x.role) e) ∙ a) inside

    by_step : {k : MasterState} {v : GroupWorld S C O} (step : MayHappen rules m w k v) → slice_get v.nodes n ≡ Some new →
        GivesNext rules old new new.log (given_in n step)
    by_step (node_takes i r input {new = x} {given = given} at runs may loses) there = by_place (cases_eq n i)
      where
        by_place : (n ≡ i) ⊎ (n ≡ i → ⊥) → GivesNext rules old new new.log (cond (i == n) (outputs given) [])
        by_place (inl e) =
            let f : r ≡ old = some_same (slice_get w.nodes i) r old at (ap (slice_get w.nodes) (sym e) ∙ stood) in
            let g : x ≡ new = some_same (slice_get (set w.nodes i x) i) x new (get_set w.nodes i r x at) (ap (slice_get (set w.nodes i x)) (sym e) ∙ there) in
            subst (λ us. GivesNext rules old new new.log us) (sym (ap (λ b. cond b (outputs given) []) (eq-eqb i n (sym e))))
            (node_gives rules old input new given (ran (ap (λ (y : ReplicaState S C). y.stopped) (sym f) ∙ runs)) within inside
            (subst (λ (y : ReplicaState S C). Loses rules old (replica_step rules old input) y given) g
            (subst (λ (y : ReplicaState S C). Loses rules y (replica_step rules y input) x given) f loses)))
        by_place (inr other) =
            still (sym (get_set_other w.nodes i n x other) ∙ there) (cond (i == n) (outputs given) [])
            (ap (λ b. cond b (outputs given) []) (ne_eqb i n (λ e. other (sym e))))
    by_step (node_stops i r at) there = by_place (cases_eq n i)
      where
        by_place : (n ≡ i) ⊎ (n ≡ i → ⊥) → GivesNext rules old new new.log []
        by_place (inl e) =
            let f : r ≡ old = some_same (slice_get w.nodes i) r old at (ap (slice_get w.nodes) (sym e) ∙ stood) in
            let g : halted rules r ≡ new = some_same (slice_get (set w.nodes i (halted rules r)) i) (halted rules r) new (get_set w.nodes i r (halted rules r) at)
            (ap (slice_get (set w.nodes i (halted rules r))) (sym e) ∙ there) in
            same_gives rules old new new.log [] refl
            (sym (ap (λ (y : ReplicaState S C). y.committed) g) ∙ ap (λ (y : ReplicaState S C). y.committed) f)
            (λ a. sym (ap (λ (y : ReplicaState S C). is_active y.role) f) ∙ ap (λ (y : ReplicaState S C). is_active y.role) g ∙ a) inside
        by_place (inr other) = still (sym (get_set_other w.nodes i n (halted rules r) other) ∙ there) [] refl
    by_step (master_assigns config) there = still (ap (λ (ns : List (ReplicaState S C)). slice_get ns n) (sym (by_refusal (refusal m config))) ∙ there) [] refl
      where
        by_refusal : (o : Option AssignRefusal) → (world_after m w config o).nodes ≡ w.nodes
        by_refusal None = refl
        by_refusal (Some why) = refl
    by_step (master_hears from b sent) there = still there [] refl
    by_step (assignment_lost config) there = still there [] refl
    by_step (answer_lost from b sent) there = still there [] refl

-- in the terms of the law
pub answers_at_the_next_places : {S C O : Type 0} (rules : Rules S C O) → AnswersAtTheNextPlaces rules
answers_at_the_next_places rules config a b moments xs came agreed step n old new stood stands =
    let q = moments_known rules config a moments came in
    let p = moments_known rules config b (a ∷ moments) (went_on came step) in
    let within = (p.serves.sound.nodes n new stands).within in
    let own = group_step_gives rules a.master a.world b.master b.world step n old new stood stands (λ runs. q.serves.replays n old stood runs)
    (q.serves.sound.nodes n old stood).within within in
    let front = (nodes_agree rules config b (a ∷ moments) xs (went_on came step) agreed).0.applied n new stands in
    let long = length-take-le new.committed new.log within in
    let short = prefix_length front in
    record {
      idle = own.idle;
      rising = own.rising;
      inside = omega (arith, long, short);
      next = λ e. own.next e ∙ front_between rules new.log xs (gives_from old) new.committed (own.rising e) within front;
    }
