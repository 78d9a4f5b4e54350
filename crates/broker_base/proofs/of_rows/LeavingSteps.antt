-- The step at what ends a served client's connection: its row is written, or goes.
use Rattle.std.proofs.Common.{◌≡◌, ℕ, true, false, ◌==◌, ◌&&◌, [], ◌∷◌, refl, ap, ap₂, ◌∙◌, arith}
use Rattle.packet.specs.declared.packet.Packet.{Packet}
use Rattle.packet.specs.declared.packet.Packet.TheVariants as packets
use Rattle.broker_spec.specs.Connection.{ConnectionName, same_connection}
use Rattle.broker_spec.specs.Place.{Mark, Place}
use Rattle.broker_spec.specs.Sessions.{is_leaving, ends_any}
use Rattle.broker_base.specs.State.{State}
use Rattle.broker_base.specs.StepAnswers.{answers_by_state}
use Rattle.broker_base.specs.Decisions.{owned_mark, packet_mark_in, connect_mark_in}
use Rattle.broker_spec.specs.declared.command.Command.TheVariants as commands
use Rattle.broker_spec.specs.declared.command.Output.TheVariants.{Close}
use Rattle.broker_base.specs.rows.Touched.{is_taken}
use Rattle.broker_base.specs.rows.Served.{left_off}
use Rattle.broker_base.specs.rows.LeavingTheorems.{LeavingStep, FurtherConnectStep, LostStep}
use Rattle.broker_base.proofs.of_rows.SessionParted.{IsParting, parted_is}
use Rattle.broker_base.proofs.of_rows.ServedStep.{served_on, served_step}

-- a connection is itself
pub same_own : (x : ConnectionName) → same_connection x x ≡ true
same_own x = ap₂ (λ a b. a && b) (own x.ballot) (own x.count)
  where
    own : (n : ℕ) → (n == n) ≡ true
    own n = grind arith

-- a mark that leaves is not that of a taken PUBLISH
not_taken : (mark : Mark) → is_leaving mark ≡ true → is_taken mark ≡ false
not_taken (Mark.Taken c) e = absurd (cc)
not_taken _ e = refl

-- and does nothing but end
parting : (mark : Mark) → is_leaving mark ≡ true → IsParting mark
parting (Mark.Leaves c) e = tt
parting (Mark.Refused c) e = tt
parting _ e = absurd (cc)

-- it closes the connection
closes : (w : ℕ) (place : Place) (state : State) (x : ConnectionName) (packet : Packet) (mark : Mark) → is_leaving mark ≡ true →
    answers_by_state w place state (commands.Packet x packet) mark ≡ Close x ∷ []
closes w place state x (packets.Publish p) (Mark.Leaves c) e = refl
closes w place state x (packets.Publish p) (Mark.Refused c) e = refl
closes w place state x _ (Mark.Leaves c) e = refl
closes w place state x _ (Mark.Refused c) e = refl
closes w place state x _ _ e = absurd (cc)

-- DISCONNECT, a violation, a refused PUBLISH
pub leaving_step : LeavingStep
leaving_step limits later state x c kept served packet leaving =
    let mark = owned_mark limits state (c, kept) packet in
    let place : Place = record { command = commands.Packet x packet; mark = mark } in
    served_step limits later state (commands.Packet x packet) x c kept mark (left_off kept) (Close x ∷ []) served refl refl
    (ap (packet_mark_in limits state packet) served.owner) (not_taken mark leaving)
    (parted_is state.window place state.retained c kept (parting mark leaving) refl
    (ap (ends_any place c) (served_on state x c kept served) ∙ ap₂ (λ a b. a && b) (same_own x) leaving))
    (closes state.window place state x packet mark leaving)

-- a further Connect
pub further_connect_step : FurtherConnectStep
further_connect_step limits later state x c kept served named clean =
    let place : Place = record { command = commands.Connect x named clean; mark = Mark.Leaves c } in
    served_step limits later state (commands.Connect x named clean) x c kept (Mark.Leaves c) (left_off kept) (Close x ∷ []) served refl refl
    (ap (connect_mark_in limits state named) served.owner) refl
    (parted_is state.window place state.retained c kept tt refl (ap (ends_any place c) (served_on state x c kept served) ∙ same_own x)) refl

-- its loss
pub lost_step : LostStep
lost_step limits later state x c kept served =
    let place : Place = record { command = commands.Lost x; mark = Mark.Unmarked } in
    served_step limits later state (commands.Lost x) x c kept Mark.Unmarked (left_off kept) [] served refl refl refl refl
    (parted_is state.window place state.retained c kept tt refl (ap (ends_any place c) (served_on state x c kept served) ∙ same_own x)) refl
