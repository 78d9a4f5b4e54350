-- CallsAreSteps.antt: each call of a caller is a step, or changes nothing.
use Rattle.std.proofs.Common.{ℕ, ◌≡◌, ◌≢◌, Bool, ◌||◌, List, [], refl, sym, ap, ◌∙◌, subst}
use Rattle.std.specs.Prelude.{Result, Ok, Err}
use Rattle.client_base.specs.declared.error.ClientError.{ClientError}
use Rattle.client_base.specs.declared.error.ClientError.TheVariants as errors
use Rattle.client_base.specs.declared.accepted.Accepted.{Accepted}
use Rattle.client_base.specs.State.{ClientState, is_online, kept_count}
use Rattle.client_base.specs.declared.stage.Stage.{Stage}
use Rattle.client_base.specs.declared.stage.Stage.TheVariants as stages
use Rattle.client_base.specs.Steps.{Call, keeper_step, disconnected}
use Rattle.session_base.specs.declared.publication.Publication.{Publication}
use Rattle.client.specs.Core.{Core, AnswersCall, OpensConnection, LeavesServer, without_accepted}
use Rattle.client.specs.Input.{OnBytes}
use Rattle.user_client.specs.Answers.{Hears, no_answers}
use Rattle.user_client.specs.declared.answers.Answers.{Answers}
use Rattle.user_client.specs.Traces.{CallerView, IsAsked, Step, Trace, IsFirst}
use Rattle.user_client.proofs.TracesJoin.{one_step, steps_to, stays, taken_as}

-- a client of these parts
abbrev pub parts : Core → Bool → Answers → CallerView
parts core was said = record { core = core; was_accepted = was; answers = said }

-- the step of a client that is seen as this one
pub step_of : (core : Core) (was : Bool) (said : Answers) {seen : CallerView} (new : CallerView) → parts core was said ≡ seen → Step (parts core was said) new
    → Trace seen [] new
step_of core was said new is step = subst (λ (s : CallerView). Trace s [] new) is (one_step new step)

-- a step to a core that is this one
pub step_to : (core : Core) (was : Bool) (said : Answers) {seen : CallerView} (new next : Core) → parts core was said ≡ seen → new ≡ next
    → Step (parts core was said) (parts next was said) → Trace seen [] (parts new was said)
step_to core was said new next is same step =
    subst (λ (s : CallerView). Trace s [] (parts new was said)) is (steps_to (parts core was said) new next same step)

-- nothing changed
pub no_step : (core : Core) (was : Bool) (said : Answers) {seen : CallerView} (new : Core) → parts core was said ≡ seen → new ≡ core
    → Trace seen [] (parts new was said)
no_step core was said new is same = subst (λ (s : CallerView). Trace s [] (parts new was said)) is (stays (parts core was said) new same)

-- it took a publication
pub asked : (p : Publication) (core : Core) (was : Bool) (said : Answers) {seen : CallerView} (new : Core) → parts core was said ≡ seen
    → AnswersCall (keeper_step (Call.Publishes p) core.state) core (Ok tt) new → IsAsked p seen (parts new was said)
asked p core was said new is does = subst (λ (s : CallerView). IsAsked p s (parts new was said)) is (does, refl)

-- the client disconnected, or did not because memory ran out, or had no connection
pub left : (core : Core) (was : Bool) (said : Answers) {seen : CallerView} (new : Core) (result : Result (Unit {0}) ClientError)
    → parts core was said ≡ seen → LeavesServer (keeper_step Call.Disconnects core.state) core result new
    → Trace seen [] (parts new was said)
left core was said new (Ok tt) is leaves = step_of core was said (parts new was said) is (Step.leaves new leaves)
left core was said new (Err errors.Memory) is lacks = no_step core was said new is lacks.1
left core was said new (Err (errors.Malformed kind)) is refused = no_step core was said new is refused.1
left core was said new (Err errors.Protocol) is refused = no_step core was said new is refused.1
left core was said new (Err errors.NotActive) is refused = no_step core was said new is refused.1
left core was said new (Err errors.TooLarge) is refused = no_step core was said new is refused.1
left core was said new (Err errors.WindowFull) is refused = no_step core was said new is refused.1
left core was said new (Err errors.SessionLost) is refused = no_step core was said new is refused.1

-- bytes came
pub heard : (core : Core) (was now : Bool) (said later : Answers) {seen : CallerView} (piece : List ℕ)
    (result : Result (Unit {0}) ClientError) (new : Core)
    → parts core was said ≡ seen → Hears piece said later → OnBytes piece core.state.stage core result new
    → result ≢ Err errors.SessionLost
    → IsFirst (parts core was said) new → now ≡ (was || is_online new.state.stage)
    → Trace seen [] (parts new now later)
heard core was now said later {seen} piece result new is hears reads lasts first same =
    subst (λ (w : Bool). Trace seen [] (parts new w later)) (sym same)
    (step_of core was said (parts new (was || is_online new.state.stage) later) is
    (Step.hears piece result new later hears reads lasts first))

-- it opened a connection
pub begun : (core : Core) (was : Bool) (said fresh : Answers) {seen : CallerView} (new : Core) → parts core was said ≡ seen
    → fresh ≡ no_answers → OpensConnection (keeper_step Call.Opens core.state) core (Ok tt) new
    → Trace seen [] (parts new was fresh)
begun core was said fresh {seen} new is none does =
    subst (λ (a : Answers). Trace seen [] (parts new was a)) (sym none)
    (step_of core was said (parts new was no_answers) is (Step.opens new does))

-- what is kept stays
pub disconnected_keeps : (stage : Stage) (state : ClientState) → kept_count (disconnected stage state).state ≡ kept_count state
disconnected_keeps stages.Closed state = refl
disconnected_keeps stages.Opened state = refl
disconnected_keeps stages.Online state = refl

pub left_keeps : (core : Core) (new : Core) (result : Result (Unit {0}) ClientError)
    → LeavesServer (keeper_step Call.Disconnects core.state) core result new
    → kept_count new.state ≡ kept_count core.state
left_keeps core new (Ok tt) leaves = ap kept_count leaves.1 ∙ disconnected_keeps core.state.stage core.state
left_keeps core new (Err errors.Memory) lacks = ap (λ (c : Core). kept_count c.state) lacks.1
left_keeps core new (Err (errors.Malformed kind)) refused = ap (λ (c : Core). kept_count c.state) refused.1
left_keeps core new (Err errors.Protocol) refused = ap (λ (c : Core). kept_count c.state) refused.1
left_keeps core new (Err errors.NotActive) refused = ap (λ (c : Core). kept_count c.state) refused.1
left_keeps core new (Err errors.TooLarge) refused = ap (λ (c : Core). kept_count c.state) refused.1
left_keeps core new (Err errors.WindowFull) refused = ap (λ (c : Core). kept_count c.state) refused.1
left_keeps core new (Err errors.SessionLost) refused = ap (λ (c : Core). kept_count c.state) refused.1

-- what was accepted is taken out
pub taken_out : (core : Core) (was : Bool) (said : Answers) {seen : CallerView} (new : Core) (taken : List Accepted) → parts core was said ≡ seen
    → taken ≡ core.state.accepted → new ≡ without_accepted core → Trace seen taken (parts new was said)
taken_out core was said new taken is all same =
    subst (λ (s : CallerView). Trace s taken (parts new was said)) is
    (subst (λ (c : Core). Trace (parts core was said) taken (parts c was said)) (sym same)
    (taken_as (sym all) (Trace.takes Trace.starts)))
