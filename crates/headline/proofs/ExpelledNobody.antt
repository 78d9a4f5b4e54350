-- An Expel of a text that is no identifier leaves a broker as it is, so it stays in its ranges at every Expel.
use Rattle.std.proofs.Common.{◌≡◌, Bool, true, false, if◌then◌else◌, ◌||◌, [], ◌∷◌, Option, Some, None, refl, ap, ap₂, sym, ◌∙◌, subst, arith}
use Rattle.std.specs.List.{AllByRecursion}
use Rattle.std.proofs.lemmas.Bool.{both_ways}
use Rattle.packet_base.specs.ClientId.{is_client}
use Rattle.broker_spec.specs.declared.command.Command.TheVariants as commands
use Rattle.broker_spec.specs.Commands.{usual_limits}
use Rattle.broker_spec.specs.Connection.{ConnectionName}
use Rattle.broker_spec.specs.Place.{Client, Mark, Place, same_client}
use Rattle.broker_base.specs.ClientSession.{ClientSession}
use Rattle.broker_base.specs.SessionStep.{session_touched}
use Rattle.broker_base.specs.State.{Sessions, State, keyed}
use Rattle.broker_base.specs.Step.{sessions_left, step}
use Rattle.broker_spec.proofs.ClientsInOrder.{same_is}
use Rattle.broker_spec.specs.Sessions.{any_connection, ends}
use Rattle.broker_base.specs.form.InRange.{IsBrokerState, IsSession}
use Rattle.broker_base.proofs.of_form.States.{stays_in_range}

abbrev expel_place : Client → Place
expel_place d = record { command = commands.Expel d; mark = Mark.Unmarked }

-- it names no connection
none_ends : (d : Client) (o : Option ConnectionName) → any_connection (ends (commands.Expel d) Mark.Unmarked) o ≡ false
none_ends d (Some x) = refl
none_ends d None = refl

-- no session is of such a client
no_session : (d c : Client) → is_client d ≡ false → is_client c ≡ true → same_client d c ≡ false
no_session d c none named = by (same_client d c) refl
  where
    by : (b : Bool) → same_client d c ≡ b → b ≡ false
    by false e = refl
    by true e = absurd (both_ways (is_client d) none (ap is_client (same_is d c e) ∙ named))

all_stay : (d : Client) (state : State) (rows : Sessions) → is_client d ≡ false
    → AllByRecursion (λ row. IsSession usual_limits row.0 row.1) rows → sessions_left state.window (expel_place d) state.retained rows ≡ rows
all_stay d state [] none named = refl
all_stay d state (row ∷ rows) none named =
    ap₂ (λ (o : Option ClientSession) (l : Sessions). keyed row.0 o l)
    (stays (same_client d row.0) (any_connection (ends (commands.Expel d) Mark.Unmarked) row.1.connection)
    (no_session d row.0 none named.0.client) (none_ends d row.1.connection)) (all_stay d state rows none named.1)
  where
    stays : (a b : Bool) → a ≡ false → b ≡ false
        → (if (a || b) || false then session_touched state.window (expel_place d) state.retained row.0 (Some row.1) else Some row.1) ≡ Some row.1
    stays false false e f = refl
    stays false true e f = absurd cc
    stays true b e f = absurd cc

pub expel_in_range : (state : State) (d : Client) → IsBrokerState usual_limits state → IsBrokerState usual_limits (step usual_limits 64 state (commands.Expel d)).0
expel_in_range state d h = by (is_client d) refl
  where
    by : (b : Bool) → is_client d ≡ b → IsBrokerState usual_limits (step usual_limits 64 state (commands.Expel d)).0
    by true e = stays_in_range usual_limits 64 state (commands.Expel d) (omega arith) e h
    by false e =
        subst (λ (rows : Sessions). IsBrokerState usual_limits (record { window = state.window; sessions = rows; retained = state.retained }))
        (sym (all_stay d state state.sessions e h.sessions)) h
