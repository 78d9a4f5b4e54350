-- MomentsKept.antt: what is kept holds after each step of a group that cuts its logs, and so at each of its moments.
use Rattle.std.proofs.Common.{cond, Bool, ◌≡◌, ℕ, true, false, List, [], ◌∷◌, ◌++◌, map, None, Some, Option, refl, ap, sym, ◌∙◌, subst}
use Rattle.machine.specs.Machine.{Rules}
use Rattle.agreement.specs.whole_logs.Messages.Body.{Activated as whole_activated, Superseded as whole_superseded}
use Rattle.agreement.specs.whole_logs.Messages.{Body as WholeBody}
use Rattle.agreement.specs.MasterState.{MasterState, AssignRefusal, activating, is_granted, master_after, opening_master, refusal}
use Rattle.agreement.specs.NodeOutputs.{given_of as whole_given_of}
use Rattle.agreement.specs.Moments.{Moment as WholeMoment, Moments as WholeMoments}
use Rattle.agreement.specs.Proposals.{proposals_of as whole_proposals_of, taken_at as whole_taken_at, taken_of as whole_taken_of}
use Rattle.agreement.specs.Steps.{world_after as whole_after}
use Rattle.agreement.specs.Steps.{MayHappen as happens}
use Rattle.ballot_base.specs.declared.config.Config.{Config}
use Rattle.ballot_base.specs.declared.message.Body.TheVariants.{Activated, Superseded}
use Rattle.agreement.specs.cut_logs.Moments.{Moment, Moments, opening_world, whole_moment}
use Rattle.agreement.specs.cut_logs.Moments.Moments.{began, went_on}
use Rattle.agreement.specs.cut_logs.NodeOutputs.{given_in, given_of}
use Rattle.agreement.specs.cut_logs.Masters.{activated, assigned}
use Rattle.agreement.specs.cut_logs.Proposals.{proposal_of, proposals_of, taken_at, taken_in, taken_of, takes_at}
use Rattle.agreement.specs.cut_logs.Steps.{MayHappen, sends_from_master, world_after}
use Rattle.agreement.specs.cut_logs.Steps.MayHappen.{node_goes, master_assigns, master_hears, assignment_lost, answer_lost}
use Rattle.agreement.specs.cut_logs.Whole.{whole_body}
use Rattle.agreement.specs.cut_logs.World.{CutGroupWorld, whole_sent, whole_world}
use Rattle.agreement.proofs.of_cut_logs.Continues.{Covers, covers_first, covers_more}
use Rattle.agreement.proofs.of_cut_logs.Adds.{Added, SaysNothing, StepAdds, nothing_added}
use Rattle.agreement.proofs.of_cut_logs.CutsGoOn.{node_goes_on}
use Rattle.agreement.proofs.of_cut_logs.GoesOn.{on_by_one}
use Rattle.agreement.proofs.of_cut_logs.Kept.{GoesOn, Kept}
use Rattle.agreement.proofs.of_cut_logs.LogsGoOn.{moment}
use Rattle.agreement.proofs.of_cut_logs.Opens.{master_kept, master_unheard, opens_kept, opens_silent}
use Rattle.agreement.proofs.of_cut_logs.Plain.{IsPlainBody}
use Rattle.agreement.proofs.of_cut_logs.Views.{in_whole}

-- an Assign, by what the master answers
assigns_on : {S C O : Type 0} (rules : Rules S C O) (config : Config) (m : MasterState) (w : CutGroupWorld S C O) (earlier : List (WholeMoment S C O)) (c : Config)
    (o : Option AssignRefusal) → refusal m c ≡ o → (k : Kept rules config m w earlier) →
    GoesOn rules config (master_after m c o) (world_after m w c o) k.came (nothing_added C O)
assigns_on {S = S} {C = C} {O = O} rules config m w earlier c o e k = by_answer o step
  where
    step : StepAdds rules m (whole_world w) (master_after m c o) (whole_after m (whole_world w) c o) (nothing_added C O)
    step = subst (λ (o : Option AssignRefusal). StepAdds rules m (whole_world w) (master_after m c o) (whole_after m (whole_world w) c o) (nothing_added C O)) e
        (happens.master_assigns c, record { proposes = refl; takes = refl; takes_at = λ n. refl; gives = λ n. refl })

    by_answer : (o : Option AssignRefusal) → StepAdds rules m (whole_world w) (master_after m c o) (whole_after m (whole_world w) c o) (nothing_added C O) →
        GoesOn rules config (master_after m c o) (world_after m w c o) k.came (nothing_added C O)
    by_answer (Some why) step =
        on_by_one rules config m w (moment m w ∷ earlier) k.came (nothing_added C O) (master_unheard rules config m m w earlier k step)
    by_answer None step =
        on_by_one rules config (master_after m c None) (world_after m w c None) (moment m w ∷ earlier) k.came (nothing_added C O)
        (master_kept rules config m (master_after m c None) w earlier c.primary (assigned C m c).body k tt step)

-- what it answers to an Activate, on whole logs
answer_whole : {C : Type 0} (archive : List C) (ballot : ℕ) (granted : Bool) →
    whole_body archive (cond granted (Activated ballot) (Superseded ballot)) ≡ cond granted (whole_activated ballot) (whole_superseded ballot)
answer_whole archive ballot true = refl
answer_whole archive ballot false = refl

answer_plain : (C : Type 0) (ballot : ℕ) (granted : Bool) → IsPlainBody {C = C} (cond granted (Activated ballot) (Superseded ballot))
answer_plain C ballot true = tt
answer_plain C ballot false = tt

-- what happens, and what it adds
abbrev pub added_of : {S C O : Type 0} {rules : Rules S C O} {m : MasterState} {w : CutGroupWorld S C O} {k : MasterState} {v : CutGroupWorld S C O} →
    MayHappen rules m w k v → Added C O
added_of step = record { proposed = proposal_of step; taken = taken_in step; taken_at = λ n. takes_at n step; given = λ n. given_in n step }

pub step_goes_on : {S C O : Type 0} (rules : Rules S C O) (config : Config) (m k : MasterState) (w v : CutGroupWorld S C O) (earlier : List (WholeMoment S C O)) →
    (q : Kept rules config m w earlier) → (step : MayHappen rules m w k v) → GoesOn rules config k v q.came (added_of step)
step_goes_on rules config m k w v earlier q (node_goes goes) = node_goes_on rules config m w v earlier q goes
step_goes_on rules config m k w v earlier q (master_assigns c) = assigns_on rules config m w earlier c (refusal m c) refl q
step_goes_on {S = S} {C = C} {O = O} rules config m k w v earlier q (master_hears from b sent) =
    on_by_one rules config (activating m b m.waiting) (sends_from_master w (activated C m b from m.waiting)) (moment m w ∷ earlier) q.came (nothing_added C O)
    (master_kept rules config m (activating m b m.waiting) w earlier from (activated C m b from m.waiting).body q (answer_plain C b (is_granted m b m.waiting))
    (subst (λ (body : WholeBody C). StepAdds rules m (whole_world w) (activating m b m.waiting)
    (record (whole_world w) { sent = (whole_world w).sent ++ (from, record { from = 0; body = body }) ∷ [] }) (nothing_added C O))
    (sym (answer_whole w.archive b (is_granted m b m.waiting)))
    (happens.master_hears from b (in_whole (whole_sent w.archive) sent), record { proposes = refl; takes = refl; takes_at = λ n. refl; gives = λ n. refl })))
step_goes_on {C = C} {O = O} rules config m k w v earlier q (assignment_lost c) =
    on_by_one rules config (master_after m c (refusal m c)) w (moment m w ∷ earlier) q.came (nothing_added C O)
    (master_unheard rules config m (master_after m c (refusal m c)) w earlier q
    (happens.assignment_lost c, record { proposes = refl; takes = refl; takes_at = λ n. refl; gives = λ n. refl }))
step_goes_on {C = C} {O = O} rules config m k w v earlier q (answer_lost from b sent) =
    on_by_one rules config (activating m b m.waiting) w (moment m w ∷ earlier) q.came (nothing_added C O)
    (master_unheard rules config m (activating m b m.waiting) w earlier q
    (happens.answer_lost from b (in_whole (whole_sent w.archive) sent), record { proposes = refl; takes = refl; takes_at = λ n. refl; gives = λ n. refl }))

-- moments on whole logs to which those of a group that cuts its logs correspond
pub record StandsFor {S C O : Type 0} (rules : Rules S C O) (config : Config) (a : Moment S C O) (moments : List (Moment S C O)) : Type 0 where
  pub earlier : List (WholeMoment S C O)
  pub kept : Kept rules config a.master a.world earlier
  pub covers : Covers (map whole_moment (a ∷ moments)) (whole_moment a ∷ earlier)

-- .. with the same proposals, taken by the same nodes, and the same outputs
pub record SaysAs {S C O : Type 0} {rules : Rules S C O} {config : Config} {xs : List (Moment S C O)} {ys : List (WholeMoment S C O)}
    (came : Moments rules config xs) (whole : WholeMoments rules config ys) : Type 0 where
  pub proposes : whole_proposals_of whole ≡ proposals_of came
  pub takes : whole_taken_of whole ≡ taken_of came
  pub takes_at : (n : ℕ) → whole_taken_at n whole ≡ taken_at n came
  pub gives : (n : ℕ) → whole_given_of n whole ≡ given_of n came

pub record StandsWith {S C O : Type 0} (rules : Rules S C O) (config : Config) (a : Moment S C O) (moments : List (Moment S C O))
    (came : Moments rules config (a ∷ moments)) : Type 0 where
  pub stands : StandsFor rules config a moments
  pub says : SaysAs came stands.kept.came

pub moments_stand_with : {S C O : Type 0} (rules : Rules S C O) (config : Config) (a : Moment S C O) (moments : List (Moment S C O)) → (came : Moments rules config (a ∷ moments)) →
    StandsWith rules config a moments came
moments_stand_with {S = S} {C = C} {O = O} rules config a moments (began greatest nodes can is) =
    record { stands = z.0; says = record { proposes = z.1.proposes; takes = z.1.takes; takes_at = z.1.takes_at; gives = z.1.gives } }
  where
    z : (s : StandsFor rules config a []) × SaysNothing s.kept.came
    z = subst (λ (x : Moment S C O). (s : StandsFor rules config x []) × SaysNothing s.kept.came) (sym is) (
      record {
        earlier = [];
        kept = opens_kept rules greatest nodes config can;
        covers = covers_first (moment (opening_master greatest config) (opening_world rules nodes config));
      },
      opens_silent rules greatest nodes config can,
    )
moments_stand_with {S = S} {C = C} {O = O} rules config b (a ∷ moments) (went_on came step) =
    let q = moments_stand_with rules config a moments came in
    let z = step_goes_on rules config a.master b.master a.world b.world q.stands.earlier q.stands.kept step in
    record {
      stands = record {
        earlier = z.more;
        kept = z.kept;
        covers = covers_more (map whole_moment (a ∷ moments)) (whole_moment a ∷ q.stands.earlier) (whole_moment b) z.more q.stands.covers z.continues;
      };
      says = record {
        proposes = z.adds.proposes ∙ ap (λ us. us ++ proposal_of step) q.says.proposes;
        takes = z.adds.takes ∙ ap (λ us. us ++ taken_in step) q.says.takes;
        takes_at = λ n. z.adds.takes_at n ∙ ap (λ us. us ++ takes_at n step) (q.says.takes_at n);
        gives = λ n. z.adds.gives n ∙ ap (λ us. us ++ given_in n step) (q.says.gives n);
      };
    }

pub moments_stand : {S C O : Type 0} (rules : Rules S C O) (config : Config) (a : Moment S C O) (moments : List (Moment S C O)) →
    Moments rules config (a ∷ moments) → StandsFor rules config a moments
moments_stand rules config a moments came = (moments_stand_with rules config a moments came).stands
