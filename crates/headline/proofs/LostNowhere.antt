-- The loss of a connection whose name none can have leaves a broker as it is, so it stays in its ranges at every loss.
use Rattle.std.proofs.Common.{◌≡◌, Bool, true, false, if◌then◌else◌, ◌||◌, [], ◌∷◌, Option, Some, None, refl, ap, ap₂, sym, ◌∙◌, subst, arith}
use Rattle.std.specs.List.{AllByRecursion}
use Rattle.std.proofs.lemmas.Bool.{both_ways}
use Rattle.broker_spec.specs.declared.command.Command.TheVariants as commands
use Rattle.broker_spec.specs.Commands.{usual_limits}
use Rattle.broker_spec.specs.Connection.{ConnectionName, is_connection_name, same_connection}
use Rattle.broker_spec.specs.Place.{Mark, Place}
use Rattle.broker_base.specs.ClientSession.{ClientSession}
use Rattle.broker_base.specs.SessionStep.{session_touched}
use Rattle.broker_base.specs.State.{Sessions, State, keyed}
use Rattle.broker_base.specs.Step.{sessions_left, step}
use Rattle.broker_spec.proofs.ConnectionNames.{same_name}
use Rattle.broker_spec.specs.Sessions.{any_connection}
use Rattle.broker_base.specs.form.InRange.{IsBrokerState, IsNamed, IsSession}
use Rattle.broker_base.proofs.of_form.States.{stays_in_range}

abbrev lost_place : ConnectionName → Place
lost_place x = record { command = commands.Lost x; mark = Mark.Unmarked }

-- no session has it
no_session : (x : ConnectionName) (o : Option ConnectionName) → is_connection_name x ≡ false → IsNamed o → any_connection (same_connection x) o ≡ false
no_session x None none named = refl
no_session x (Some y) none named = by (same_connection x y) refl
  where
    by : (b : Bool) → same_connection x y ≡ b → b ≡ false
    by false e = refl
    by true e = absurd (both_ways (is_connection_name x) none (ap is_connection_name (same_name x y e) ∙ named))

all_stay : (x : ConnectionName) (state : State) (rows : Sessions) → is_connection_name x ≡ false
    → AllByRecursion (λ row. IsSession usual_limits row.0 row.1) rows → sessions_left state.window (lost_place x) state.retained rows ≡ rows
all_stay x state [] none named = refl
all_stay x state (row ∷ rows) none named =
    ap₂ (λ (o : Option ClientSession) (l : Sessions). keyed row.0 o l)
    (stays (any_connection (same_connection x) row.1.connection) (no_session x row.1.connection none named.0.connection)) (all_stay x state rows none named.1)
  where
    stays : (b : Bool) → b ≡ false → (if b || false then session_touched state.window (lost_place x) state.retained row.0 (Some row.1) else Some row.1) ≡ Some row.1
    stays false e = refl
    stays true e = absurd cc

pub loss_in_range : (state : State) (x : ConnectionName) → IsBrokerState usual_limits state → IsBrokerState usual_limits (step usual_limits 64 state (commands.Lost x)).0
loss_in_range state x h = by (is_connection_name x) refl
  where
    by : (b : Bool) → is_connection_name x ≡ b → IsBrokerState usual_limits (step usual_limits 64 state (commands.Lost x)).0
    by true e = stays_in_range usual_limits 64 state (commands.Lost x) (omega arith) e h
    by false e =
        subst (λ (rows : Sessions). IsBrokerState usual_limits (record { window = state.window; sessions = rows; retained = state.retained }))
        (sym (all_stay x state state.sessions e h.sessions)) h
