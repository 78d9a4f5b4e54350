-- The broker's machine gives what the model answers, after each list of commands.
use Rattle.std.proofs.Common.{◌≡◌, ℕ, Bool, true, false, if◌then◌else◌, List, [], ◌∷◌, refl, ap, ◌∙◌}
use Rattle.machine.specs.Machine.{replay, replay_from}
use Rattle.broker_spec.specs.Commands.{is_start, past_of, usual_limits}
use Rattle.broker_spec.specs.AnswersInOrder.{answers_of}
use Rattle.broker_spec.specs.declared.command.Command.{Command}
use Rattle.broker_spec.specs.declared.command.Output.{Output}
use Rattle.broker_base.specs.State.{State, empty_state}
use Rattle.broker_base.specs.Step.{IsWindow, state_from, step}
use Rattle.broker_base.proofs.StepByStep.{step_stands, usual_lists_stand}
use Rattle.broker_base.specs.form.BrokerRules.{broker_rules}

replayed : (state : State) (xs : List Command) → replay_from broker_rules state xs ≡ state_from usual_limits 64 state xs
replayed state [] = refl
replayed state (command ∷ xs) = replayed (step usual_limits 64 state command).0 xs

steady : (n : ℕ) (b : Bool) → n ≡ (if b then n else n)
steady n true = refl
steady n false = refl

usual_window : IsWindow usual_limits 64
usual_window place past = steady 64 (is_start place.command)

pub gives_answers : (xs : List Command) (command : Command)
    → (step usual_limits 64 (replay broker_rules xs) command).1 ≡ answers_of usual_limits (past_of usual_limits xs) command
gives_answers xs command =
    ap (λ (state : State). (step usual_limits 64 state command).1) (replayed (empty_state 64) xs ∙ (usual_lists_stand xs).0)
    ∙ ap (λ (r : State × List Output). r.1) (step_stands usual_limits 64 usual_window (past_of usual_limits xs) command)
