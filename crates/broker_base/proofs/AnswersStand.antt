-- The answers that the state gives at a place are those that the past gives.
use Rattle.std.proofs.Common.{◌≡◌, ℕ, Bool, not, Option, Some, None, ◌∷◌, ◌++◌, refl, ap, ap₂, ◌∙◌, sym}
use Rattle.std.specs.Prelude.{option_map}
use Rattle.broker_spec.specs.Connection.{ConnectionName}
use Rattle.broker_spec.specs.Place.{Client, Mark, Place, Past, Limits, only_if}
use Rattle.broker_spec.specs.Sessions.{clean_session_of, is_beginning, begins_session}
use Rattle.broker_spec.specs.Times.{window_at}
use Rattle.broker_spec.specs.Answers.{close_outputs, welcome, connect_answers, answers_by}
use Rattle.broker_spec.specs.AnswersInOrder.{answers_at}
use Rattle.broker_base.specs.ClientSession.{ClientSession, client_session}
use Rattle.broker_base.specs.State.{state_of}
use Rattle.broker_base.specs.Step.{IsWindow}
use Rattle.broker_base.specs.StepAnswers.{connection_of, connect_answers_in, answers_by_state}
use Rattle.broker_spec.specs.declared.command.Command.{Command}
use Rattle.broker_spec.specs.declared.command.Command.TheVariants as commands
use Rattle.broker_spec.proofs.ClientsInOrder.{same_self}
use Rattle.broker_base.proofs.SessionsAfter.{at, session_is}
use Rattle.broker_base.proofs.ComingBack.{closed_is, resumed_is}
use Rattle.broker_base.proofs.KeptAfter.{kept_now}
use Rattle.broker_base.proofs.PacketAnswersStand.{packet_answers_are}

-- ---- a Connect

flag_is : (limits : Limits) (past : Past) (c : Client) → option_map (λ (kept : ClientSession). kept.clean) (client_session limits past c) ≡ clean_session_of past c
flag_is limits past c = by (clean_session_of past c)
  where
    by : (session : Option Bool) → option_map (λ (kept : ClientSession). kept.clean) (option_map (kept_now limits past c) session) ≡ session
    by None = refl
    by (Some clean) = refl

accepted_are : (limits : Limits) (past : Past) (x : ConnectionName) (c : Client) (clean : Bool) →
    connect_answers_in (window_at limits (at (commands.Connect x c clean) Mark.Accepted ∷ past)) x clean (client_session limits past c) Mark.Accepted
    ≡ connect_answers limits (at (commands.Connect x c clean) Mark.Accepted) past x c Mark.Accepted
accepted_are limits past x c clean =
    ap₂ (λ first rest. first ++ rest) (sym (closed_is limits past c))
    (ap₂ (λ begun rest. welcome x (not begun) ∷ rest)
    (ap (begins_session clean) (flag_is limits past c)
    ∙ ap (λ b. is_beginning (only_if b (Some (x, clean))) (clean_session_of past c)) (sym (same_self c)))
    (sym (resumed_is limits past c x clean (at (commands.Connect x c clean) Mark.Accepted) (ap (λ b. only_if b (Some (x, clean))) (same_self c)) refl refl)))

connect_answers_are : (limits : Limits) (past : Past) (x : ConnectionName) (c : Client) (clean : Bool) (mark : Mark) →
    connect_answers_in (window_at limits (at (commands.Connect x c clean) mark ∷ past)) x clean (client_session limits past c) mark
    ≡ connect_answers limits (at (commands.Connect x c clean) mark) past x c mark
connect_answers_are limits past x c clean Mark.Accepted = accepted_are limits past x c clean
connect_answers_are limits past x c clean mark = refl

-- ---- every place

answers_are_by : (limits : Limits) (later : ℕ) → IsWindow limits later → (past : Past) (command : Command) (mark : Mark) →
    answers_by_state (window_at limits (at command mark ∷ past)) (at command mark) (state_of limits past) command mark ≡ answers_by limits (at command mark) past command mark
answers_are_by limits later follows past (commands.Packet x packet) mark = packet_answers_are limits later follows past x packet mark
answers_are_by limits later follows past (commands.Connect x c clean) mark =
    ap (λ old. connect_answers_in (window_at limits (at (commands.Connect x c clean) mark ∷ past)) x clean old mark) (session_is limits past c)
    ∙ connect_answers_are limits past x c clean mark
answers_are_by limits later follows past (commands.Lost x) mark = refl
answers_are_by limits later follows past (commands.Start ballot) mark = refl
answers_are_by limits later follows past (commands.Expel c) mark =
    ap (λ old. close_outputs (connection_of old)) (session_is limits past c) ∙ sym (closed_is limits past c)

pub answers_are : (limits : Limits) (later : ℕ) → IsWindow limits later → (place : Place) (past : Past) →
    answers_by_state (window_at limits (place ∷ past)) place (state_of limits past) place.command place.mark ≡ answers_at limits place past
answers_are limits later follows place past = answers_are_by limits later follows past place.command place.mark
