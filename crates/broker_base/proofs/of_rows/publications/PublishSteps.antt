-- The step at a PUBLISH of a served client that is no repeat.
use Rattle.std.proofs.Common.{◌≡◌, Bool, true, false, ◌||◌, if◌then◌else◌, ◌++◌, ap, ap₂, ◌∙◌}
use Rattle.packet.specs.declared.publish.Publish.{Publish}
use Rattle.packet.specs.declared.packet.Packet.TheVariants as packets
use Rattle.session_base.specs.Publication.{publication_of}
use Rattle.broker_spec.specs.Place.{Client, Mark, Limits}
use Rattle.broker_spec.specs.Answers.{acknowledged}
use Rattle.broker_spec.specs.Retained.{retains}
use Rattle.broker_spec.specs.Sessions.{is_leaving}
use Rattle.broker_base.specs.ClientSession.{ClientSession}
use Rattle.broker_base.specs.State.{State}
use Rattle.broker_base.specs.Decisions.{is_one_topic_over, is_refused_in, repeats_taken, owned_mark, packet_mark_in}
use Rattle.broker_base.specs.Step.{step_at}
use Rattle.broker_base.specs.StateTheorems.{AreByClient}
use Rattle.broker_spec.specs.declared.command.Command.TheVariants as commands
use Rattle.broker_base.specs.rows.PublishTheorems.{is_refused_by_rows, RefusedStep, TakenStep}
use Rattle.broker_base.proofs.of_rows.publications.RoomOfGranted.{full_of_granted}
use Rattle.broker_base.proofs.of_rows.publications.AnswersOfGranted.{answers_of_granted}
use Rattle.broker_base.proofs.of_rows.publications.PublishLeft.{publish_left}
use Rattle.broker_base.proofs.of_rows.publications.AnswersInTurn.{answered_from_noted}
use Rattle.broker_base.proofs.of_rows.LeavingSteps.{leaving_step}

-- what happens to it
publish_mark : (limits : Limits) (state : State) (c : Client) (kept : ClientSession) (p : Publish) (refused : Bool) → AreByClient state.sessions →
    repeats_taken kept p.delivery ≡ false → is_refused_by_rows limits state (publication_of p) ≡ refused →
    owned_mark limits state (c, kept) (packets.Publish p) ≡ (if refused then Mark.Refused c else Mark.Taken c)
publish_mark limits state c kept p refused by_client new is =
    ap (λ b. if b then Mark.Repeat c else if is_refused_in limits state (publication_of p) then Mark.Refused c else Mark.Taken c) new
    ∙ ap (λ full. if full || is_one_topic_over limits state.retained (publication_of p) then Mark.Refused c else Mark.Taken c)
    (full_of_granted limits (publication_of p) state.sessions by_client)
    ∙ ap (λ b. if b then Mark.Refused c else Mark.Taken c) is

-- it is refused
pub refused_step : RefusedStep
refused_step limits later state x c kept served p new refused =
    leaving_step limits later state x c kept served (packets.Publish p)
    (ap is_leaving (publish_mark limits state c kept p true served.sound.by_client new refused))

-- it is taken
pub taken_step : TakenStep
taken_step limits later state x c kept served p new room =
    ap (λ mark. step_at state.window (record { command = commands.Packet x (packets.Publish p); mark = mark }) state)
    (ap (packet_mark_in limits state (packets.Publish p)) served.owner ∙ publish_mark limits state c kept p false served.sound.by_client new room)
    ∙ ap₂ (λ sessions answers. (
      record { window = state.window; sessions = sessions; retained = retains (publication_of p) state.retained },
      acknowledged x p.delivery ++ answers,
    ))
    (publish_left state.window x p c state.retained state.sessions served.sound.by_client)
    (answers_of_granted state.window x p c state.retained state.sessions served.sound.by_client
    ∙ answered_from_noted state.window (publication_of p) c p.delivery state.sessions served.sound.by_client)
