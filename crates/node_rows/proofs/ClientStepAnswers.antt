-- ClientStepAnswers.antt: a step of a client, by its word, and a row of a client.
use Rattle.std.proofs.Common.{◌≡◌, true, List, [], ◌∷◌, codes, bytes_eq, map, refl, subst, ◌∙◌, ap}
use Rattle.rows.specs.Fields.{Text}
use Rattle.rows.specs.Playing.{Agrees, Answers}
use Rattle.rows.specs.declared.line.Line.{Line}
use Rattle.client.specs.Core.{Core, new_core, without_accepted}
use Rattle.node_rows.specs.ClientAnswers.{accepted_fields, call_fields, state_fields}
use Rattle.node_rows.specs.ClientCalls.{Calls, Ended}
use Rattle.node_rows.specs.ClientSteps.{ClientAgrees, ClientDoes, StepDoes, without_out}

pub call_step : (old called new : Core) (step answer : List Text) (answers : Answers) (ended : Ended)
    → Calls step old ended called → answer ≡ call_fields ended called → new ≡ without_out called
    → answers ≡ answer ∷ [] → ClientDoes old step answers new
call_step old called new step answer answers ended calls gives taken alone =
    ClientDoes.calls ended called calls (alone ∙ ap (λ (a : List Text). a ∷ []) gives) taken

pub state_step : (old : Core) (word : Text) (answer : List Text) (answers : Answers) → bytes_eq word (codes "state") ≡ true
    → answer ≡ state_fields old → answers ≡ answer ∷ [] → ClientDoes old (word ∷ []) answers old
state_step old word answer answers is gives alone =
    ClientDoes.shows is (alone ∙ ap (λ (a : List Text). a ∷ []) gives) refl

pub take_step : (old new : Core) (word : Text) (answers : Answers) → bytes_eq word (codes "take") ≡ true
    → answers ≡ map accepted_fields old.state.accepted → new ≡ without_accepted old
    → ClientDoes old (word ∷ []) answers new
take_step old new word answers is gives taken = ClientDoes.takes is gives taken

-- a client `a` that was never connected
pub of_client : (client : Text) (steps : List Line) → client ≡ codes "a"
    → Agrees StepDoes (record { core = new_core client 0 }) steps → ClientAgrees steps
of_client client steps same agrees =
    subst (λ (c : Text). Agrees StepDoes (record { core = new_core c 0 }) steps) same agrees

-- a client that was never connected
pub from_new : (core : Core) (client : Text) (steps : List Line) → core ≡ new_core client 0
    → Agrees StepDoes (record { core = core }) steps → Agrees StepDoes (record { core = new_core client 0 }) steps
from_new core client steps same agrees =
    subst (λ (c : Core). Agrees StepDoes (record { core = c }) steps) same agrees
