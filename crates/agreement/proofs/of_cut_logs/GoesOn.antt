-- GoesOn.antt: whatever happens to a node of a world whose logs are cut, the whole logs have
-- continued.
use Rattle.std.proofs.Common.{◌≡◌, ℕ, ◌+◌, ◌≤◌, ◌⊎◌, inl, inr, true, false, List, [], ◌∷◌, Some, refl, ap, sym, subst, arith}
use Rattle.std.specs.Prelude.{slice_get, nat_lt, nat_le, ◌&&◌, ◌||◌, ◌==◌}
use Rattle.std.proofs.lemmas.Bool.{cases_Bool}
use Rattle.machine.specs.Machine.{Rules}
use Rattle.lists.specs.Lists.{In}
use Rattle.ballot_base.specs.declared.config.Config.{Config}
use Rattle.ballot_base.specs.Replica.{is_fetching, ReplicaState}
use Rattle.ballot_base.specs.declared.status.Role.{Role}
use Rattle.ballot_base.specs.declared.status.Role.TheVariants.{Backup, Fetching, Installing, Active}
use Rattle.agreement.specs.MasterState.{MasterState}
use Rattle.agreement.specs.Moments.{Moment, Moments}
use Rattle.agreement.specs.Moments.Moments.{went_on}
use Rattle.agreement.proofs.Agreed.MomentsKnown.{moments_known}
use Rattle.ballot_base.specs.Logs.{Log, places}
use Rattle.agreement.specs.cut_logs.Whole.{whole, whole_effects}
use Rattle.agreement.specs.cut_logs.Matches.{IsBased}
use Rattle.ballot_base.specs.declared.message.Body.{Body}
use Rattle.ballot_base.specs.declared.message.Effect.{Effect}
use Rattle.ballot_base.specs.StepOutcome.{Outcome}
use Rattle.ballot_base.specs.Losses.{Thinned, Loses}
use Rattle.agreement.specs.cut_logs.World.{messages, CutGroupWorld, MayTake, moved, whole_world}
use Rattle.ballot_base.specs.declared.message.Body.TheVariants.{NewBallot, Join, State, Install, Installed, Activate, Activated, Superseded, Append, Held, Commit}
use Rattle.ballot_base.specs.Protocol.{Input, received, replica_step, ticked}
use Rattle.ballot_base.specs.Protocol.Input.{Receives, Proposes, Ticks}
use Rattle.agreement.proofs.of_cut_logs.Bases.{KeepsBase, SaysOwn, keeps_nothing, activated_keeps, append_keeps, commits_keep, held_keeps, install_own, installed_keeps, join_keeps, new_ballot_keeps, proposed_keeps, state_own, superseded_keeps, tick_keeps, each_keeps, handed_keeps, one_keeps}
use Rattle.agreement.proofs.of_cut_logs.Fronts.{whole_long}
use Rattle.agreement.proofs.of_cut_logs.Continues.{one_more}
use Rattle.agreement.proofs.of_cut_logs.Adds.{Added, StepAdds, added_whole, adds_one}
use Rattle.agreement.proofs.of_cut_logs.Kept.{Carries, GoesOn, IsSnapshot, Kept, KeptWith, kept_moved, kept_plainly, kept_taking}
use Rattle.agreement.proofs.of_cut_logs.LogsCome.{install_answers, install_nothing, install_stays, install_takes, state_nothing, state_stays, state_takes}
use Rattle.agreement.proofs.of_cut_logs.LogsGoOn.{moment}
use Rattle.agreement.proofs.of_cut_logs.LogsLearned.{install_took, state_took}
use Rattle.agreement.proofs.of_cut_logs.Plain.{IsPlain, IsPlainBody, plain_matches}
use Rattle.agreement.proofs.of_cut_logs.Views.{get_whole, step_whole}

-- ---- the rows that take no log

plain_keeps : {S C O : Type 0} (rules : Rules S C O) (r : ReplicaState S C) (input : Input C) → r.committed ≤ places r.log → IsPlain input →
    KeepsBase {O = O} r (replica_step rules r input)
plain_keeps rules r (Proposes c) within plain = proposed_keeps rules r c
plain_keeps {S = S} {C = C} {O = O} rules r Ticks within plain = by_role r.role
  where
    by_role : (role : Role) → KeepsBase {O = O} r (ticked O r role)
    by_role Backup = keeps_nothing O r
    by_role Fetching = each_keeps O r (Join r.joined r.previous) r.previous_members tt
    by_role Installing = handed_keeps O r r.lacking
    by_role Active = tick_keeps O r
plain_keeps {S = S} {C = C} {O = O} rules r (Receives m) within plain = by_body m.body plain
  where
    by_body : (body : Body C) → IsPlainBody body → KeepsBase {O = O} r (received rules r m.from body)
    by_body (NewBallot b members a old) p = new_ballot_keeps O r b members a old
    by_body (Join b a) p = join_keeps O r m.from b a
    by_body (State b log) p = absurd p
    by_body (Install b log) p = absurd p
    by_body (Installed b held) p = installed_keeps O r m.from b
    by_body (Activate b) p = keeps_nothing O r
    by_body (Activated b) p = activated_keeps rules r b within
    by_body (Superseded b) p = superseded_keeps O r b
    by_body (Append b place c) p = append_keeps O r m.from b place c
    by_body (Held b held) p = held_keeps rules r m.from b held
    by_body (Commit b held) p = commits_keep rules r b held

-- ---- a step

-- one moment more
pub on_by_one : {S C O : Type 0} (rules : Rules S C O) (config : Config) (m : MasterState) (v : CutGroupWorld S C O) (before : List (Moment S C O))
    (came : Moments rules config before) (d : Added C O) → KeptWith rules config m v before came d → GoesOn rules config m v came d
on_by_one rules config m v before came d q = record { more = before; kept = q.kept; continues = one_more before (moment m v); adds = q.adds }

-- what a node holds at least
pub held_within : {S C O : Type 0} (rules : Rules S C O) (config : Config) (m : MasterState) (w : CutGroupWorld S C O) (earlier : List (Moment S C O)) (n : ℕ)
    (r : ReplicaState S C) → Kept rules config m w earlier → slice_get w.nodes n ≡ Some r → r.committed ≤ places r.log
held_within rules config m w earlier n r k stands =
    let a = ((moments_known rules config (moment m w) earlier k.came).serves.sound.nodes n (whole w.archive r) (get_whole (whole w.archive) w.nodes n r stands)).within in
    let b = whole_long w.archive r.log (k.nodes n r stands).0.within in omega (arith, a, b)

done : {S C O : Type 0} (rules : Rules S C O) (config : Config) (m : MasterState) (w : CutGroupWorld S C O) (earlier : List (Moment S C O)) (n : ℕ)
    (r : ReplicaState S C) (input : Input C) (new : ReplicaState S C) (given : List (Effect C O)) → (k : Kept rules config m w earlier) → slice_get w.nodes n ≡ Some r →
    r.stopped ≡ false → MayTake w n input → new ≡ (replica_step rules r input).state → Thinned given (replica_step rules r input).effects →
    GoesOn rules config m (moved w n new given) k.came (added_whole w.archive n r input new given)
done {S = S} {C = C} {O = O} rules config m w earlier n r input new given k stands runs may is thin = by_input input may is thin
  where
    old : IsSnapshot rules w.archive r.log × (r.log.base ≤ r.committed)
    old = k.nodes n r stands

    based : IsBased w.archive r
    based = record { within = old.0.within; low = old.1 }

    held : r.committed ≤ places r.log
    held = held_within rules config m w earlier n r k stands

    by_one : (input : Input C) → KeptWith rules config m (moved w n new given) (moment m w ∷ earlier) k.came (added_whole w.archive n r input new given) →
        GoesOn rules config m (moved w n new given) k.came (added_whole w.archive n r input new given)
    by_one input q = on_by_one rules config m (moved w n new given) (moment m w ∷ earlier) k.came (added_whole w.archive n r input new given) q

    plainly : (input : Input C) → IsPlain input → MayTake w n input → new ≡ (replica_step rules r input).state →
        Thinned given (replica_step rules r input).effects → GoesOn rules config m (moved w n new given) k.came (added_whole w.archive n r input new given)
    plainly input plain may is thin =
        by_one input (kept_plainly rules config m w earlier n r input new given k stands runs may
        (plain_keeps rules r input held plain) (plain_matches rules w.archive r input based plain) is thin)

    by_body : (from : ℕ) (body : Body C) → In (n + 1, record { from = from; body = body }) w.sent →
        new ≡ (received rules r from body).state → Thinned given (received rules r from body).effects →
        GoesOn rules config m (moved w n new given) k.came (added_whole w.archive n r (Receives (record { from = from; body = body })) new given)
    by_body from (NewBallot b members a x) may is thin = plainly (Receives (record { from = from; body = NewBallot b members a x })) tt may is thin
    by_body from (Join b a) may is thin = plainly (Receives (record { from = from; body = Join b a })) tt may is thin
    by_body from (Installed b held) may is thin = plainly (Receives (record { from = from; body = Installed b held })) tt may is thin
    by_body from (Activate b) may is thin = plainly (Receives (record { from = from; body = Activate b })) tt may is thin
    by_body from (Activated b) may is thin = plainly (Receives (record { from = from; body = Activated b })) tt may is thin
    by_body from (Superseded b) may is thin = plainly (Receives (record { from = from; body = Superseded b })) tt may is thin
    by_body from (Append b place c) may is thin = plainly (Receives (record { from = from; body = Append b place c })) tt may is thin
    by_body from (Held b held) may is thin = plainly (Receives (record { from = from; body = Held b held })) tt may is thin
    by_body from (Commit b held) may is thin = plainly (Receives (record { from = from; body = Commit b held })) tt may is thin
    by_body from (State b log) may is thin = by_row (cases_Bool (r.joined == b && (is_fetching r.role && nat_le r.committed (places log))))
      where
        said : Carries rules (moment m w ∷ earlier) w.archive (State b log)
        said = k.each_sent (n + 1) (record { from = from; body = State b log }) may

        by_row : ((r.joined == b && (is_fetching r.role && nat_le r.committed (places log))) ≡ true)
            ⊎ ((r.joined == b && (is_fetching r.role && nat_le r.committed (places log))) ≡ false) →
            GoesOn rules config m (moved w n new given) k.came (added_whole w.archive n r (Receives (record { from = from; body = State b log })) new given)
        by_row (inl e) =
            kept_taking rules config m w earlier n r (Receives (record { from = from; body = State b log })) b log new given k stands runs may said
            (state_takes rules w.archive r from b log said.0.within e)
            (λ took t. subst (λ (o : Outcome S C O). (o.state.log ≡ took.log) × (o.state.committed ≡ took.committed) × SaysOwn {O = O} o.state o.effects)
            (sym (state_took rules r took b log e t)) (refl, refl, state_own O r took b)) is thin
        by_row (inr e) =
            by_one (Receives (record { from = from; body = State b log }))
            (kept_plainly rules config m w earlier n r (Receives (record { from = from; body = State b log })) new given k stands runs may
            (subst (λ (o : Outcome S C O). KeepsBase r o) (sym (state_nothing rules r b log e)) (keeps_nothing O r))
            (state_stays rules w.archive r b log said.0.within e) is thin)
    by_body from (Install b log) may is thin =
        by_row (cases_Bool ((nat_lt r.joined b || (r.joined == b && nat_lt r.held_in b)) && nat_le r.committed (places log))) (cases_Bool (r.joined == b && r.held_in == b))
      where
        said : Carries rules (moment m w ∷ earlier) w.archive (Install b log)
        said = k.each_sent (n + 1) (record { from = from; body = Install b log }) may

        by_row : (((nat_lt r.joined b || (r.joined == b && nat_lt r.held_in b)) && nat_le r.committed (places log)) ≡ true)
            ⊎ (((nat_lt r.joined b || (r.joined == b && nat_lt r.held_in b)) && nat_le r.committed (places log)) ≡ false) →
            ((r.joined == b && r.held_in == b) ≡ true) ⊎ ((r.joined == b && r.held_in == b) ≡ false) →
            GoesOn rules config m (moved w n new given) k.came (added_whole w.archive n r (Receives (record { from = from; body = Install b log })) new given)
        by_row (inl e) other =
            kept_taking rules config m w earlier n r (Receives (record { from = from; body = Install b log })) b log new given k stands runs may said
            (install_takes rules w.archive r from b log said.0.within e)
            (λ took t. subst (λ (o : Outcome S C O). (o.state.log ≡ took.log) × (o.state.committed ≡ took.committed) × SaysOwn {O = O} o.state o.effects)
            (sym (install_took rules r took from b log e t)) (refl, refl, install_own O r took from b log)) is thin
        by_row (inr e) (inl g) =
            by_one (Receives (record { from = from; body = Install b log }))
            (kept_plainly rules config m w earlier n r (Receives (record { from = from; body = Install b log })) new given k stands runs may
            (subst (λ (o : Outcome S C O). KeepsBase r o) (sym (install_answers rules r from b log e g)) (one_keeps O r from (Installed b (places log)) tt))
            (install_stays rules w.archive r from b log said.0.within e) is thin)
        by_row (inr e) (inr g) =
            by_one (Receives (record { from = from; body = Install b log }))
            (kept_plainly rules config m w earlier n r (Receives (record { from = from; body = Install b log })) new given k stands runs may
            (subst (λ (o : Outcome S C O). KeepsBase r o) (sym (install_nothing rules r from b log e g)) (keeps_nothing O r))
            (install_stays rules w.archive r from b log said.0.within e) is thin)

    by_input : (input : Input C) → MayTake w n input → new ≡ (replica_step rules r input).state →
        Thinned given (replica_step rules r input).effects → GoesOn rules config m (moved w n new given) k.came (added_whole w.archive n r input new given)
    by_input (Receives x) may is thin = by_body x.from x.body may is thin
    by_input (Proposes c) may is thin = plainly (Proposes c) tt may is thin
    by_input Ticks may is thin = plainly Ticks tt may is thin

-- after a step that was lost, or in which the node stopped, its log is as it was, and nothing is sent
pub lost : {S C O : Type 0} (rules : Rules S C O) (config : Config) (m : MasterState) (w : CutGroupWorld S C O) (earlier : List (Moment S C O)) (n : ℕ)
    (r new : ReplicaState S C) (given : List (Effect C O)) (d : Added C O) → (k : Kept rules config m w earlier) → slice_get w.nodes n ≡ Some r →
    StepAdds rules m (whole_world w) m (whole_world (moved w n new given)) d → new.log ≡ r.log → new.committed ≡ r.committed → given ≡ [] →
    GoesOn rules config m (moved w n new given) k.came d
lost {S = S} {C = C} {O = O} rules config m w earlier n r new given d k stands step same applied none_given =
    let old = k.nodes n r stands in
    on_by_one rules config m (moved w n new given) (moment m w ∷ earlier) k.came d
    (kept_moved rules config m w earlier (moment m w ∷ earlier) n r new given d k stands (went_on k.came step.0) (λ c i. i)
    (subst (λ (l : Log C). IsSnapshot rules w.archive l) (sym same) old.0)
    (let a = old.1 in let b = ap (λ (l : Log C). l.base) same in omega (arith, a, b, applied))
    (λ to x i. elim (subst (λ (us : List (Effect C O)). In (to, x) (messages us)) none_given i) [ ])
    (adds_one k.came d step))

-- whatever a node takes
pub takes_on : {S C O : Type 0} (rules : Rules S C O) (config : Config) (m : MasterState) (w : CutGroupWorld S C O) (earlier : List (Moment S C O)) (n : ℕ)
    (r : ReplicaState S C) (input : Input C) (new : ReplicaState S C) (given : List (Effect C O)) → (k : Kept rules config m w earlier) → slice_get w.nodes n ≡ Some r →
    r.stopped ≡ false → MayTake w n input → Loses rules r (replica_step rules r input) new given →
    GoesOn rules config m (moved w n new given) k.came (added_whole w.archive n r input new given)
takes_on rules config m w earlier n r input new given k stands runs may (inl (is, thin)) = done rules config m w earlier n r input new given k stands runs may is thin
takes_on {S = S} {C = C} {O = O} rules config m w earlier n r input new given k stands runs may (inr (inl (e, g))) =
    lost rules config m w earlier n r new given (added_whole w.archive n r input new given) k stands
    (step_whole rules m w n r input new given stands runs may (inr (inl (ap (whole w.archive) e, ap (whole_effects w.archive) g))))
    (ap (λ (s : ReplicaState S C). s.log) e) (ap (λ (s : ReplicaState S C). s.committed) e) g
takes_on {S = S} {C = C} {O = O} rules config m w earlier n r input new given k stands runs may (inr (inr (e, g))) =
    lost rules config m w earlier n r new given (added_whole w.archive n r input new given) k stands
    (step_whole rules m w n r input new given stands runs may (inr (inr (ap (whole w.archive) e, ap (whole_effects w.archive) g))))
    (ap (λ (s : ReplicaState S C). s.log) e) (ap (λ (s : ReplicaState S C). s.committed) e) g
