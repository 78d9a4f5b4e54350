-- NextPlaces.antt: what a node that cuts its log gives in a step is the answers at the next places of the agreed list.
use Rattle.std.proofs.Common.{◌≡◌, ℕ, ◌≤◌, ◌⊎◌, inl, inr, Bool, true, false, cond, List, [], ◌∷◌, length, set, take, Some, None, Option, refl, ap, sym, ◌∙◌, subst, arith}
use Rattle.std.specs.Prelude.{slice_get, ◌==◌, ◌&&◌}
use Rattle.std.proofs.lemmas.Bool.{cases_eq, eq-eqb, ne_eqb}
use Rattle.std.proofs.lemmas.List.{length-take-le}
use Rattle.machine.specs.Machine.{Rules, replay}
use Rattle.lists.proofs.Prefixes.{prefix_length}
use Rattle.lists.proofs.Places.{get_set, get_set_other}
use Rattle.ballot_base.specs.declared.config.Config.{Config}
use Rattle.ballot_base.specs.declared.message.Body.{Body}
use Rattle.ballot_base.specs.declared.message.Body.TheVariants.{NewBallot, Join, State, Install, Installed, Activate, Activated, Superseded, Append, Held, Commit}
use Rattle.ballot_base.specs.declared.message.Effect.{Effect}
use Rattle.ballot_base.specs.declared.message.Effect.TheVariants.{To, Out}
use Rattle.ballot_base.specs.declared.status.Role.TheVariants.{Installing}
use Rattle.ballot_base.specs.Transfer.{answers_installed, installs_taken, install_effects, lacks, on_install, on_state, waits_for}
use Rattle.ballot_base.specs.Logs.{Log, places}
use Rattle.ballot_base.specs.Losses.{Loses, Thinned, halted}
use Rattle.ballot_base.specs.Losses.Thinned.{none, keeps, loses}
use Rattle.ballot_base.specs.Protocol.{Input, replica_step}
use Rattle.ballot_base.specs.Protocol.Input.{Receives, Proposes, Ticks}
use Rattle.ballot_base.specs.Replica.{ReplicaState, is_active, others}
use Rattle.ballot_base.specs.StepOutcome.{Outcome, message_to, message_to_each, nothing_done}
use Rattle.ballot_base.specs.TakenLog.{taken}
use Rattle.agreement.specs.NodeOutputs.{GivesNext, gives_from}
use Rattle.agreement.specs.MasterState.{AssignRefusal, MasterState, refusal}
use Rattle.agreement.specs.Moments.{Moment as WholeMoment}
use Rattle.agreement.specs.whole_logs.Protocol.{replica_step as whole_step}
use Rattle.agreement.specs.whole_logs.Replica.{ReplicaState as WholeState}
use Rattle.agreement.proofs.Agreed.MomentsAgree as wholes
use Rattle.agreement.proofs.Agreed.MomentsKnown.{moments_known}
use Rattle.agreement.proofs.Given.NextPlaces.{node_gives, same_gives, some_same}
use Rattle.agreement.proofs.Given.Places.{front_between}
use Rattle.agreement.specs.cut_logs.NodeOutputs.{given_in}
use Rattle.agreement.specs.cut_logs.Matches.{IsBased}
use Rattle.agreement.specs.cut_logs.Orders.{AnswersAtTheNextPlaces}
use Rattle.agreement.specs.cut_logs.Moments.{whole_moment}
use Rattle.agreement.specs.cut_logs.Moments.Moments.{went_on}
use Rattle.agreement.specs.cut_logs.Steps.{MayHappen, world_after}
use Rattle.agreement.specs.cut_logs.Steps.MayHappen.{node_goes, master_assigns, master_hears, assignment_lost, answer_lost}
use Rattle.agreement.specs.cut_logs.Whole.{whole, whole_effects, whole_input, whole_log}
use Rattle.agreement.specs.cut_logs.World.{CutGroupWorld, outputs, whole_world}
use Rattle.agreement.specs.cut_logs.World.NodeGoes.{takes, stops, cuts}
use Rattle.agreement.proofs.of_cut_logs.CutsGoOn.{cuts_on}
use Rattle.agreement.proofs.of_cut_logs.Kept.{Kept}
use Rattle.agreement.proofs.of_cut_logs.MomentsKept.{moments_stand}
use Rattle.agreement.proofs.of_cut_logs.Continues.{agreed_in}
use Rattle.agreement.proofs.of_cut_logs.Plain.{IsPlain, plain_matches}
use Rattle.agreement.proofs.of_cut_logs.Views.{get_whole, outputs_whole, whole_loses}

-- only messages are missing, and messages are no outputs
thinned_outputs : {C O : Type 0} {xs ys : List (Effect C O)} → Thinned xs ys → outputs xs ≡ outputs ys
thinned_outputs none = refl
thinned_outputs (keeps {effect = To receiver m} t) = thinned_outputs t
thinned_outputs (keeps {effect = Out place o} t) = ap (λ us. (place, o) ∷ us) (thinned_outputs t)
thinned_outputs (loses t) = thinned_outputs t

each_silent : {C : Type 0} (O : Type 0) (id : ℕ) (body : Body C) (receivers : List ℕ) → outputs (message_to_each O id body receivers) ≡ []
each_silent O id body [] = refl
each_silent O id body (receiver ∷ receivers) = each_silent O id body receivers

installs_silent : {S C : Type 0} (O : Type 0) (r : ReplicaState S C) (lacking : List ℕ) → outputs (install_effects O r lacking) ≡ []
installs_silent O r [] = refl
installs_silent O r (member ∷ members) = each_silent O r.id (Install r.joined r.log) (member ∷ members)

-- if a log is handed over nothing is given: the node is as it was, or is no active primary
data IsSilent {S C O : Type 0} (r : ReplicaState S C) (o : Outcome S C O) : Type 0 where
  stays : o.state ≡ r → outputs o.effects ≡ [] → IsSilent r o
  passive : is_active o.state.role ≡ false → outputs o.effects ≡ [] → IsSilent r o

state_silent : {S C O : Type 0} (rules : Rules S C O) (r : ReplicaState S C) (b : ℕ) (log : Log C) → IsSilent {O = O} r (on_state rules r b log)
unfolding on_state
state_silent {S = S} {C = C} {O = O} rules r b log = by (waits_for r b (places log)) (taken rules r log)
  where
    by : (waits : Bool) (t : Option (ReplicaState S C)) → IsSilent {O = O} r (cond waits (installs_taken O r b t) (nothing_done O r))
    by false t = stays refl refl
    by true None = stays refl refl
    by true (Some took) =
        passive refl (installs_silent O (record took { held_in = b; role = Installing; lacking = others r.id r.members }) (others r.id r.members))

install_silent : {S C O : Type 0} (rules : Rules S C O) (r : ReplicaState S C) (from b : ℕ) (log : Log C) → IsSilent {O = O} r (on_install rules r from b log)
unfolding on_install
install_silent {S = S} {C = C} {O = O} rules r from b log = by (lacks r b (places log)) (taken rules r log) (r.joined == b && r.held_in == b)
  where
    by : (lacking : Bool) (t : Option (ReplicaState S C)) (holds : Bool) →
        IsSilent {O = O} r (cond lacking (answers_installed O r from b (places log) t)
        (cond holds (record { state = r; effects = message_to O r.id (Installed b (places log)) from ∷ [] }) (nothing_done O r)))
    by true None holds = stays refl refl
    by true (Some took) holds = passive refl refl
    by false t true = stays refl refl
    by false t false = stays refl refl

silent_gives : {S C O : Type 0} (rules : Rules S C O) (archive : List C) (r new : ReplicaState S C) (xs : List C) (given : List (Effect C O)) (o : Outcome S C O) →
    IsSilent r o → new.committed ≤ length xs → new ≡ o.state → Thinned given o.effects → GivesNext rules (whole archive r) (whole archive new) xs (outputs given)
silent_gives {S = S} {C = C} rules archive r new xs given o (stays e s) inside is thin =
    same_gives rules (whole archive r) (whole archive new) xs (outputs given) (thinned_outputs thin ∙ s) (ap (λ (x : ReplicaState S C). x.committed) (is ∙ e))
    (λ a. sym (ap (λ (x : ReplicaState S C). is_active x.role) (is ∙ e)) ∙ a) inside
silent_gives {S = S} {C = C} rules archive r new xs given o (passive p s) inside is thin =
    record {
      idle = λ a. thinned_outputs thin ∙ s;
      rising = λ a. let f = ap (λ (x : ReplicaState S C). is_active x.role) is in absurd cc;
      inside = inside;
      next = λ a. let f = ap (λ (x : ReplicaState S C). is_active x.role) is in absurd cc;
    }

-- a node's step, perhaps with losses
own_gives : {S C O : Type 0} (rules : Rules S C O) (archive : List C) (r : ReplicaState S C) (input : Input C) (new : ReplicaState S C) (given : List (Effect C O)) →
    IsBased archive r → r.machine ≡ replay rules (take r.committed (whole_log archive r.log)) → r.committed ≤ length (whole_log archive r.log) →
    new.committed ≤ length (whole_log archive new.log) → Loses rules r (replica_step rules r input) new given →
    GivesNext rules (whole archive r) (whole archive new) (whole_log archive new.log) (outputs given)
own_gives {S = S} {C = C} {O = O} rules archive r input new given based ran within inside lossy = by_input input lossy
  where
    plain : (input : Input C) → IsPlain input → Loses rules r (replica_step rules r input) new given →
        GivesNext rules (whole archive r) (whole archive new) (whole_log archive new.log) (outputs given)
    plain input p lossy =
        subst (λ us. GivesNext rules (whole archive r) (whole archive new) (whole_log archive new.log) us) (sym (outputs_whole archive given))
        (node_gives rules (whole archive r) (whole_input archive input) (whole archive new) (whole_effects archive given) ran within inside
        (whole_loses rules archive r (replica_step rules r input) (whole_step rules (whole archive r) (whole_input archive input)) new given
        (plain_matches rules archive r input based p) lossy))

    lost : (o : Outcome S C O) → IsSilent r o → Loses rules r o new given → GivesNext rules (whole archive r) (whole archive new) (whole_log archive new.log) (outputs given)
    lost o silent (inl (is, thin)) = silent_gives rules archive r new (whole_log archive new.log) given o silent inside is thin
    lost o silent (inr (inl (e, f))) =
        same_gives rules (whole archive r) (whole archive new) (whole_log archive new.log) (outputs given) (ap outputs f) (ap (λ (x : ReplicaState S C). x.committed) e)
        (λ a. sym (ap (λ (x : ReplicaState S C). is_active x.role) e) ∙ a) inside
    lost o silent (inr (inr (e, f))) =
        same_gives rules (whole archive r) (whole archive new) (whole_log archive new.log) (outputs given) (ap outputs f) (ap (λ (x : ReplicaState S C). x.committed) e)
        (λ a. sym (ap (λ (x : ReplicaState S C). is_active x.role) e) ∙ a) inside

    by_body : (from : ℕ) (body : Body C) → Loses rules r (replica_step rules r (Receives (record { from = from; body = body }))) new given →
        GivesNext rules (whole archive r) (whole archive new) (whole_log archive new.log) (outputs given)
    by_body from (State b log) lossy = lost (on_state rules r b log) (state_silent rules r b log) lossy
    by_body from (Install b log) lossy = lost (on_install rules r from b log) (install_silent rules r from b log) lossy
    by_body from (NewBallot b members a old) lossy = plain (Receives (record { from = from; body = NewBallot b members a old })) tt lossy
    by_body from (Join b a) lossy = plain (Receives (record { from = from; body = Join b a })) tt lossy
    by_body from (Installed b held) lossy = plain (Receives (record { from = from; body = Installed b held })) tt lossy
    by_body from (Activate b) lossy = plain (Receives (record { from = from; body = Activate b })) tt lossy
    by_body from (Activated b) lossy = plain (Receives (record { from = from; body = Activated b })) tt lossy
    by_body from (Superseded b) lossy = plain (Receives (record { from = from; body = Superseded b })) tt lossy
    by_body from (Append b place c) lossy = plain (Receives (record { from = from; body = Append b place c })) tt lossy
    by_body from (Held b held) lossy = plain (Receives (record { from = from; body = Held b held })) tt lossy
    by_body from (Commit b held) lossy = plain (Receives (record { from = from; body = Commit b held })) tt lossy

    by_input : (input : Input C) → Loses rules r (replica_step rules r input) new given →
        GivesNext rules (whole archive r) (whole archive new) (whole_log archive new.log) (outputs given)
    by_input (Receives m) lossy = by_body m.from m.body lossy
    by_input (Proposes c) lossy = plain (Proposes c) tt lossy
    by_input Ticks lossy = plain Ticks tt lossy

-- a step of the group, of which the node at index n may be another's
step_gives : {S C O : Type 0} (rules : Rules S C O) (config : Config) (m : MasterState) (w : CutGroupWorld S C O) (k : MasterState) (v : CutGroupWorld S C O)
    (earlier : List (WholeMoment S C O)) → Kept rules config m w earlier → (step : MayHappen rules m w k v) → (n : ℕ) (old new : ReplicaState S C) →
    slice_get w.nodes n ≡ Some old → slice_get v.nodes n ≡ Some new →
    (old.stopped ≡ false → old.machine ≡ replay rules (take old.committed (whole_log w.archive old.log))) → old.committed ≤ length (whole_log w.archive old.log) →
    new.committed ≤ length (whole_log v.archive new.log) →
    GivesNext rules (whole w.archive old) (whole v.archive new) (whole_log v.archive new.log) (given_in n step)
step_gives {S = S} {C = C} {O = O} rules config m w k v earlier kept step n old new stood stands ran within inside = by_step step stands inside
  where
    based : IsBased w.archive old
    based = let z = kept.nodes n old stood in record { within = z.0.within; low = z.1 }

    alike : (archive : List C) → whole archive new ≡ whole w.archive old → new.committed ≤ length (whole_log archive new.log) → (given : List (ℕ × O)) → given ≡ [] →
        GivesNext rules (whole w.archive old) (whole archive new) (whole_log archive new.log) given
    alike archive e inside given nothing =
        same_gives rules (whole w.archive old) (whole archive new) (whole_log archive new.log) given nothing (ap (λ (x : WholeState S C). x.committed) e)
        (λ a. sym (ap (λ (x : WholeState S C). is_active x.role) e) ∙ a) inside

    still : slice_get w.nodes n ≡ Some new → new.committed ≤ length (whole_log w.archive new.log) → (given : List (ℕ × O)) → given ≡ [] →
        GivesNext rules (whole w.archive old) (whole w.archive new) (whole_log w.archive new.log) given
    still there inside given nothing = alike w.archive (ap (whole w.archive) (some_same (slice_get w.nodes n) new old there stood)) inside given nothing

    assigned : (config : Config) (o : Option AssignRefusal) → slice_get (world_after m w config o).nodes n ≡ Some new →
        new.committed ≤ length (whole_log (world_after m w config o).archive new.log) →
        GivesNext rules (whole w.archive old) (whole (world_after m w config o).archive new) (whole_log (world_after m w config o).archive new.log) []
    assigned config None there inside = still there inside [] refl
    assigned config (Some why) there inside = still there inside [] refl

    by_step : {k : MasterState} {v : CutGroupWorld S C O} (step : MayHappen rules m w k v) → slice_get v.nodes n ≡ Some new →
        new.committed ≤ length (whole_log v.archive new.log) →
        GivesNext rules (whole w.archive old) (whole v.archive new) (whole_log v.archive new.log) (given_in n step)
    by_step (node_goes (takes i r input {new = x} {given = given} at runs may lossy)) there inside = by_place (cases_eq n i)
      where
        by_place : (n ≡ i) ⊎ (n ≡ i → ⊥) → GivesNext rules (whole w.archive old) (whole w.archive new) (whole_log w.archive new.log) (cond (i == n) (outputs given) [])
        by_place (inl e) =
            let f : r ≡ old = some_same (slice_get w.nodes i) r old at (ap (slice_get w.nodes) (sym e) ∙ stood) in
            let g : x ≡ new = some_same (slice_get (set w.nodes i x) i) x new (get_set w.nodes i r x at) (ap (slice_get (set w.nodes i x)) (sym e) ∙ there) in
            subst (λ us. GivesNext rules (whole w.archive old) (whole w.archive new) (whole_log w.archive new.log) us)
            (sym (ap (λ b. cond b (outputs given) []) (eq-eqb i n (sym e))))
            (own_gives rules w.archive old input new given based (ran (ap (λ (y : ReplicaState S C). y.stopped) (sym f) ∙ runs)) within inside
            (subst (λ (y : ReplicaState S C). Loses rules old (replica_step rules old input) y given) g
            (subst (λ (y : ReplicaState S C). Loses rules y (replica_step rules y input) x given) f lossy)))
        by_place (inr other) =
            still (sym (get_set_other w.nodes i n x other) ∙ there) inside (cond (i == n) (outputs given) [])
            (ap (λ b. cond b (outputs given) []) (ne_eqb i n (λ e. other (sym e))))
    by_step (node_goes (stops i r at)) there inside = by_place (cases_eq n i)
      where
        by_place : (n ≡ i) ⊎ (n ≡ i → ⊥) → GivesNext rules (whole w.archive old) (whole w.archive new) (whole_log w.archive new.log) []
        by_place (inl e) =
            let f : r ≡ old = some_same (slice_get w.nodes i) r old at (ap (slice_get w.nodes) (sym e) ∙ stood) in
            let g : halted rules r ≡ new = some_same (slice_get (set w.nodes i (halted rules r)) i) (halted rules r) new (get_set w.nodes i r (halted rules r) at)
            (ap (slice_get (set w.nodes i (halted rules r))) (sym e) ∙ there) in
            same_gives rules (whole w.archive old) (whole w.archive new) (whole_log w.archive new.log) [] refl
            (sym (ap (λ (y : ReplicaState S C). y.committed) g) ∙ ap (λ (y : ReplicaState S C). y.committed) f)
            (λ a. sym (ap (λ (y : ReplicaState S C). is_active y.role) f) ∙ ap (λ (y : ReplicaState S C). is_active y.role) g ∙ a) inside
        by_place (inr other) = still (sym (get_set_other w.nodes i n (halted rules r) other) ∙ there) inside [] refl
    by_step {v = v} (node_goes (cuts i r at runs over faithful)) there inside =
        let same = (cuts_on rules config m w earlier i r kept at runs faithful).0 in
        alike v.archive
        (some_same (slice_get (whole_world w).nodes n) (whole v.archive new) (whole w.archive old)
        (sym (ap (λ (u : WholeMoment S C O). slice_get u.world.nodes n) same) ∙ get_whole (whole v.archive) v.nodes n new there)
        (get_whole (whole w.archive) w.nodes n old stood)) inside [] refl
    by_step (master_assigns config) there inside = assigned config (refusal m config) there inside
    by_step (master_hears from b sent) there inside = still there inside [] refl
    by_step (assignment_lost config) there inside = still there inside [] refl
    by_step (answer_lost from b sent) there inside = still there inside [] refl

-- in the terms of the law
pub answers_at_the_next_places : {S C O : Type 0} (rules : Rules S C O) → AnswersAtTheNextPlaces rules
answers_at_the_next_places {S = S} {C = C} {O = O} rules config a b moments xs came agreed step n old new stood stands =
    let s = moments_stand rules config a moments came in
    let t = moments_stand rules config b (a ∷ moments) (went_on came step) in
    let q = moments_known rules config (whole_moment a) s.earlier s.kept.came in
    let p = moments_known rules config (whole_moment b) t.earlier t.kept.came in
    let was = get_whole (whole a.world.archive) a.world.nodes n old stood in
    let is = get_whole (whole b.world.archive) b.world.nodes n new stands in
    let within = (p.serves.sound.nodes n (whole b.world.archive new) is).within in
    let own = step_gives rules config a.master a.world b.master b.world s.earlier s.kept step n old new stood stands
    (λ runs. q.serves.replays n (whole a.world.archive old) was runs) (q.serves.sound.nodes n (whole a.world.archive old) was).within within in
    let front = (wholes.nodes_agree rules config (whole_moment b) t.earlier xs t.kept.came
    (agreed_in config _ (whole_moment b ∷ t.earlier) xs t.covers agreed)).0.applied n (whole b.world.archive new) is in
    let taken = length-take-le new.committed (whole_log b.world.archive new.log) within in
    let short = prefix_length front in
    record {
      idle = own.idle;
      rising = own.rising;
      inside = omega (arith, taken, short);
      next = λ e. own.next e ∙ front_between rules (whole_log b.world.archive new.log) xs (gives_from (whole a.world.archive old)) new.committed (own.rising e) within front;
    }
