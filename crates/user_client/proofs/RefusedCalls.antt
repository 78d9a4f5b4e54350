-- RefusedCalls.antt: a call that is refused has changed nothing, and its error says why.
use Rattle.std.proofs.Common.{◌≡◌, Bool, Some, sym, ap, subst, ◌∙◌, inl, inr}
use Rattle.std.specs.Prelude.{Result, Ok, Err, IfErr, IsErrAnd, OnErr, option_map}
use Rattle.client_base.specs.declared.error.ClientError.{ClientError}
use Rattle.client_base.specs.declared.error.ClientError.TheVariants as errors
use Rattle.client_base.specs.Answered.{ClientOutcome}
use Rattle.client_base.specs.Steps.{Call, keeper_step}
use Rattle.client.specs.Core.{Core, AnswersCall}
use Rattle.user_client.specs.declared.user_client_error.UserClientError.{UserClientError}
use Rattle.user_client.specs.Refusals.{IsRefusedFor, error_of_call}
use Rattle.user_client.specs.declared.answers.Answers.{Answers}
use Rattle.user_client.specs.Traces.{CallerView}
use Rattle.user_client.proofs.CallsAreSteps.{parts}

-- the error for the step's own cause
caused : (outcome : ClientOutcome) (cause : ClientError) (it : UserClientError) → it ≡ error_of_call cause
    → outcome.refusal ≡ Some cause → IsRefusedFor outcome.refusal it
caused outcome cause it is refused = inl (ap (option_map error_of_call) refused ∙ ap Some (sym is))

-- the error says why
refused_for : (outcome : ClientOutcome) (old new : Core) (cause : ClientError) (it : UserClientError) → it ≡ error_of_call cause
    → AnswersCall outcome old (Err cause) new → IsRefusedFor outcome.refusal it
refused_for outcome old new errors.Memory it is lacks = inr is
refused_for outcome old new (errors.Malformed kind) it is refused = caused outcome (errors.Malformed kind) it is refused.0
refused_for outcome old new errors.Protocol it is refused = caused outcome errors.Protocol it is refused.0
refused_for outcome old new errors.NotActive it is refused = caused outcome errors.NotActive it is refused.0
refused_for outcome old new errors.TooLarge it is refused = caused outcome errors.TooLarge it is refused.0
refused_for outcome old new errors.WindowFull it is refused = caused outcome errors.WindowFull it is refused.0
refused_for outcome old new errors.SessionLost it is refused = caused outcome errors.SessionLost it is refused.0

-- nothing changed
unchanged : (outcome : ClientOutcome) (old new : Core) (cause : ClientError) → AnswersCall outcome old (Err cause) new → new ≡ old
unchanged outcome old new errors.Memory lacks = lacks.1
unchanged outcome old new (errors.Malformed kind) refused = refused.1
unchanged outcome old new errors.Protocol refused = refused.1
unchanged outcome old new errors.NotActive refused = refused.1
unchanged outcome old new errors.TooLarge refused = refused.1
unchanged outcome old new errors.WindowFull refused = refused.1
unchanged outcome old new errors.SessionLost refused = refused.1

-- the same of a client that is seen as this one
pub refused_seen : (call : Call) (core : Core) (was : Bool) (said : Answers) {seen : CallerView} (new : Core) (cause : ClientError) (it : UserClientError)
    → parts core was said ≡ seen → it ≡ error_of_call cause → AnswersCall (keeper_step call core.state) core (Err cause) new
    → IsRefusedFor (keeper_step call seen.core.state).refusal it
refused_seen call core was said new cause it seen_so is does =
    subst (λ (s : CallerView). IsRefusedFor (keeper_step call s.core.state).refusal it) seen_so
    (refused_for (keeper_step call core.state) core new cause it is does)

pub unchanged_seen : (call : Call) (core : Core) (was : Bool) (said : Answers) {seen : CallerView} (new : Core) (cause : ClientError)
    → parts core was said ≡ seen → AnswersCall (keeper_step call core.state) core (Err cause) new → parts new was said ≡ seen
unchanged_seen call core was said new cause seen_so does =
    ap (λ (c : Core). parts c was said) (unchanged (keeper_step call core.state) core new cause does) ∙ seen_so

-- what follows for an error that is known to be so
pub told : {T E : Type 0} (r : Result T E) (Q P : E → Type 0) → IsErrAnd r Q → ((e : E) → Q e → P e) → IfErr r P
told (Ok x) Q P fails so = tt
told (Err e) Q P fails so = so e fails

-- what holds whatever the result is
pub in_any_case : {T E : Type 0} (r : Result T E) {P : Type 0} → P → OnErr r P
in_any_case (Ok x) it = tt
in_any_case (Err e) it = it
