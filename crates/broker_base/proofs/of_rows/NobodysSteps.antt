-- The step at a packet of a connection without a client, and at its loss, leaves the state.
use Rattle.std.proofs.Common.{◌≡◌, [], refl, ap, ap₂, ◌∙◌}
use Rattle.packet.specs.declared.packet.Packet.{Packet}
use Rattle.packet.specs.declared.packet.Packet.TheVariants as packets
use Rattle.broker_spec.specs.Place.{Mark}
use Rattle.broker_base.specs.State.{State}
use Rattle.broker_base.specs.StepAnswers.{answers_by_state}
use Rattle.broker_base.specs.Decisions.{packet_mark_in, mark_in}
use Rattle.broker_spec.specs.declared.command.Command.TheVariants as commands
use Rattle.broker_base.specs.rows.Touched.{is_taken, is_accepted}
use Rattle.broker_base.specs.rows.IdlePacketTheorems.{NobodysPacketStep}
use Rattle.broker_base.specs.rows.LeavingTheorems.{NobodysLossStep}
use Rattle.broker_base.proofs.of_rows.CommandOfNobody.{nobody_stays}
use Rattle.broker_base.proofs.of_rows.ServedStep.{retained_same}

-- a packet
pub nobodys_packet_step : NobodysPacketStep
nobodys_packet_step limits later state x packet none =
    ap₂ (λ (s : State) a. (s, a))
    (ap₂ (λ sessions retained. record { window = state.window; sessions = sessions; retained = retained })
    (nobody_stays limits later state (commands.Packet x packet) x refl none (ap is_accepted marked))
    (retained_same (commands.Packet x packet) (mark_in limits state (commands.Packet x packet)) state.retained (ap is_taken marked)))
    (ap (λ m. answers_by_state state.window (record { command = commands.Packet x packet; mark = m }) state (commands.Packet x packet) m) marked ∙ unanswered packet)
  where
    marked : mark_in limits state (commands.Packet x packet) ≡ Mark.Unmarked
    marked = ap (packet_mark_in limits state packet) none

    unanswered : (packet : Packet) → answers_by_state state.window (record { command = commands.Packet x packet; mark = Mark.Unmarked }) state (commands.Packet x packet) Mark.Unmarked ≡ []
    unanswered (packets.Publish p) = refl
    unanswered _ = refl

-- its loss
pub nobodys_loss_step : NobodysLossStep
nobodys_loss_step limits later state x none =
    ap (λ sessions. (record { window = state.window; sessions = sessions; retained = state.retained }, []))
    (nobody_stays limits later state (commands.Lost x) x refl none refl)
