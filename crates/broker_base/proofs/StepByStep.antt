-- The step of the state that a past corresponds to; and so, command by command, of every list.
use Rattle.std.proofs.Common.{◌≡◌, ℕ, Bool, true, false, if◌then◌else◌, Option, Some, None, List, [], ◌∷◌, length, refl, ap, ap₂, ◌∙◌, sym}
use Rattle.broker_spec.specs.Place.{Mark, Place, Past, Limits}
use Rattle.broker_spec.specs.Sessions.{current_connection, clean_session_of}
use Rattle.broker_spec.specs.Owner.{named}
use Rattle.broker_spec.specs.Subscriptions.{subscriptions_of}
use Rattle.broker_spec.specs.Received.{received_of}
use Rattle.broker_spec.specs.Retained.{retained_publications}
use Rattle.broker_spec.specs.Times.{window_at, entries_of}
use Rattle.broker_spec.specs.Commands.{place_of, past_from, is_start, limits_from, usual_limits}
use Rattle.broker_spec.specs.AnswersInOrder.{answers_at, answers_of, answers_from}
use Rattle.broker_base.specs.ClientSession.{ClientSession, client_session}
use Rattle.broker_base.specs.SessionStep.{session_touched}
use Rattle.broker_base.specs.State.{State, empty_state, state_of}
use Rattle.broker_base.specs.Step.{touches, step, step_at, state_from, steps_from, IsWindow}
use Rattle.broker_base.specs.StepTheorems.{OthersStay, NoneBegins, StepStandsFor, ListStandsFor, UsualListStandsFor, GrowingListStandsFor}
use Rattle.broker_spec.specs.declared.command.Command.{Command}
use Rattle.broker_spec.specs.declared.command.Output.{Output}
use Rattle.broker_base.proofs.KeptAfter.{kept_with, kept_now, filled_step}
use Rattle.broker_base.proofs.flights.FillingAlways.{filled_by}
use Rattle.broker_base.proofs.PastsAtRest.{kept_step}
use Rattle.broker_base.proofs.OthersStay.{stays_with}
use Rattle.broker_base.proofs.SessionsAfter.{sessions_are}
use Rattle.broker_base.proofs.DecisionsStand.{mark_is}
use Rattle.broker_base.proofs.AnswersStand.{answers_are}

-- ---- one session

pub others : OthersStay
others limits later follows place past c kept is untouched = by (clean_session_of past c) refl
  where
    by : (session : Option Bool) → clean_session_of past c ≡ session → client_session limits (place ∷ past) c ≡ Some kept
    by None e = absurd (let none : client_session limits past c ≡ None
        = ap (λ o. kept_with (length past) o (current_connection past c) (subscriptions_of past c) (received_of past c) (entries_of limits past c)) e in cc)
    by (Some clean) e =
        let now : client_session limits past c ≡ kept_with (length past) (Some clean) (current_connection past c) (subscriptions_of past c) (received_of past c) (entries_of limits past c)
        = ap (λ o. kept_with (length past) o (current_connection past c) (subscriptions_of past c) (received_of past c) (entries_of limits past c)) e in
        let same : kept_now limits past c clean ≡ kept = value_same (kept_now limits past c clean) kept (sym now ∙ is) in
        kept_step limits later follows place past c
        ∙ ap (session_touched (window_at limits (place ∷ past)) place (retained_publications past) c) now
        ∙ stays_with limits later follows place past c clean (ap (touches place c) same ∙ untouched)
        ∙ sym now ∙ is
      where
        value_same : (k : ClientSession) (kept : ClientSession) → Some k ≡ Some kept → k ≡ kept
        value_same k kept e = cc

pub none_begins : NoneBegins
none_begins limits place past c none not_accepted =
    filled_step limits place past c
    ∙ ap₂ (filled_by (window_at limits (place ∷ past)) place (retained_publications past) c) not_accepted none

-- ---- the state

state_next : (limits : Limits) (later : ℕ) → IsWindow limits later → (place : Place) (past : Past) →
    step_at (window_at limits (place ∷ past)) place (state_of limits past) ≡ (state_of limits (place ∷ past), answers_at limits place past)
unfolding retained_publications
state_next limits later follows place past =
    ap₂ (λ rows answers. (record { window = window_at limits (place ∷ past); sessions = rows; retained = retained_publications (place ∷ past) }, answers))
    (sessions_are limits later follows place past) (answers_are limits later follows place past)

pub step_stands : StepStandsFor
step_stands limits later follows past command =
    ap₂ (λ (window : ℕ) (mark : Mark). step_at window (record { command = command; mark = mark }) (state_of limits past))
    (sym (follows (place_of limits past command) past)) (mark_is limits past command)
    ∙ state_next limits later follows (place_of limits past command) past

-- ---- lists

states_from : (limits : Limits) (later : ℕ) → IsWindow limits later → (past : Past) (commands : List Command) →
    state_from limits later (state_of limits past) commands ≡ state_of limits (past_from limits past commands)
unfolding past_from
states_from limits later follows past [] = refl
states_from limits later follows past (command ∷ commands) =
    ap (λ state. state_from limits later state commands) (ap (λ (r : State × List Output). r.0) (step_stands limits later follows past command))
    ∙ states_from limits later follows (place_of limits past command ∷ past) commands

answers_all : (limits : Limits) (later : ℕ) → IsWindow limits later → (past : Past) (commands : List Command) →
    steps_from limits later (state_of limits past) commands ≡ answers_from limits past commands
unfolding answers_from
answers_all limits later follows past [] = refl
answers_all limits later follows past (command ∷ commands) =
    ap (λ (r : State × List Output). r.1 ∷ steps_from limits later r.0 commands) (step_stands limits later follows past command)
    ∙ ap (λ rest. answers_of limits past command ∷ rest) (answers_all limits later follows (place_of limits past command ∷ past) commands)

empty_stands : (limits : Limits) → state_of limits [] ≡ empty_state (limits.window [])
unfolding named retained_publications
empty_stands limits = refl

pub lists_stand : ListStandsFor
lists_stand limits later follows commands = (
  ap (λ state. state_from limits later state commands) (sym (empty_stands limits)) ∙ states_from limits later follows [] commands,
  ap (λ state. steps_from limits later state commands) (sym (empty_stands limits)) ∙ answers_all limits later follows [] commands,
)

growing_window : (first : ℕ) → IsWindow (limits_from first) 64
growing_window first place past = refl

steady : (n : ℕ) (b : Bool) → n ≡ (if b then n else n)
steady n true = refl
steady n false = refl

-- the step asks of the limits no window
same_states : (first : ℕ) (state : State) (commands : List Command) → state_from usual_limits 64 state commands ≡ state_from (limits_from first) 64 state commands
same_states first state [] = refl
same_states first state (command ∷ commands) = same_states first (step (limits_from first) 64 state command).0 commands

same_answers : (first : ℕ) (state : State) (commands : List Command) → steps_from usual_limits 64 state commands ≡ steps_from (limits_from first) 64 state commands
same_answers first state [] = refl
same_answers first state (command ∷ commands) =
    ap (λ rest. (step (limits_from first) 64 state command).1 ∷ rest) (same_answers first (step (limits_from first) 64 state command).0 commands)

pub growing_lists_stand : GrowingListStandsFor
growing_lists_stand first commands =
    let stands = lists_stand (limits_from first) 64 (growing_window first) commands in
    (same_states first (empty_state first) commands ∙ stands.0, same_answers first (empty_state first) commands ∙ stands.1)

pub steady_window : IsWindow usual_limits 64
steady_window place past = steady 64 (is_start place.command)

pub usual_lists_stand : UsualListStandsFor
usual_lists_stand commands = lists_stand usual_limits 64 steady_window commands
