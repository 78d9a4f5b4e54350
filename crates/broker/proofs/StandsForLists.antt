-- StandsForLists.antt: command by command a state corresponds to the list of those that were done.
use Rattle.std.proofs.Common.{◌≡◌, ◌∙◌, ap, sym, refl, Bool, true, false, if◌then◌else◌, List, [], ◌∷◌, ◌++◌}
use Rattle.std.specs.Prelude.{ℕ}
use Rattle.broker_spec.specs.Place.{Past, Limits}
use Rattle.broker_spec.specs.AnswersInOrder.{answers_of}
use Rattle.broker_spec.specs.Commands.{is_start, past_from, past_of, place_of, limits_with, limits_from, window_from}
use Rattle.broker_spec.specs.declared.command.Command.{Command}
use Rattle.broker_base.specs.State.{state_of}
use Rattle.broker_base.specs.Step.{step, IsWindow}
use Rattle.broker_base.proofs.StepByStep.{step_stands, growing_lists_stand}
use Rattle.broker_base.proofs.of_form.Thawing.{frozen_before_is_thawed}
use Rattle.broker.specs.StandsFor.{BeginsEmpty, GoesOnStanding, GoesOnFromFormOne, UsualIsWide}

-- one more command at the end of a list
past_more : (limits : Limits) (past : Past) (commands : List Command) (command : Command) →
    past_from limits past (commands ++ command ∷ []) ≡ place_of limits (past_from limits past commands) command ∷ past_from limits past commands
unfolding past_from
past_more limits past [] command = refl
past_more limits past (first ∷ commands) command = past_more limits (place_of limits past first ∷ past) commands command

-- the window of such a broker
growing_window : (first : ℕ) → IsWindow (limits_from first) 64
growing_window first place past = refl

pub begins_empty : BeginsEmpty
begins_empty = (growing_lists_stand 64 []).0

pub goes_on_standing : GoesOnStanding
goes_on_standing first state commands command stands =
    let limits = limits_from first in
    let past = past_of limits commands in
    let whole : step limits 64 state command
    ≡ (state_of limits (place_of limits past command ∷ past), answers_of limits past command)
    = ap (λ s. step limits 64 s command) stands ∙ step_stands limits 64 (growing_window first) past command in
    (ap (λ p. p.0) whole ∙ ap (state_of limits) (sym (past_more limits [] commands command)), ap (λ p. p.1) whole)

pub goes_on_from_form_one : GoesOnFromFormOne
goes_on_from_form_one state commands usual narrow stands =
    (state, frozen_before_is_thawed state usual narrow, stands)

-- with 64 at first every window is 64
wide : (past : Past) → window_from 64 past ≡ 64
wide [] = refl
wide (place ∷ past) = by (is_start place.command) (wide past)
  where
    by : (b : Bool) → window_from 64 past ≡ 64 → (if b then 64 else window_from 64 past) ≡ 64
    by true e = refl
    by false e = e

pub usual_is_wide : UsualIsWide
usual_is_wide = λ i. limits_with (λ past. wide past i)
