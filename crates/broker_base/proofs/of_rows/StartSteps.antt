-- A Start leaves off every session: a clean one was connected, and goes.
use Rattle.std.proofs.Common.{◌≡◌, ℕ, Bool, true, false, ◌||◌, if◌then◌else◌, Option, Some, None, [], ◌∷◌, refl, ap, ap₂, ◌∙◌}
use Rattle.std.specs.Prelude.{is_some}
use Rattle.retained.specs.Retained.{RetainedTopics}
use Rattle.broker_spec.specs.Connection.{ConnectionName}
use Rattle.broker_spec.specs.Place.{Client, Mark, Place}
use Rattle.broker_spec.specs.Sessions.{ends_any}
use Rattle.broker_base.specs.ClientSession.{ClientSession}
use Rattle.broker_base.specs.SessionStep.{session_touched}
use Rattle.broker_base.specs.State.{Sessions, keyed}
use Rattle.broker_base.specs.StateTheorems.{AllSound}
use Rattle.broker_base.specs.Step.{session_after, sessions_left}
use Rattle.broker_spec.specs.declared.command.Command.TheVariants as commands
use Rattle.broker_base.specs.rows.Served.{left_off}
use Rattle.broker_base.specs.rows.ConnectTheorems.{all_left_off, StartStep}
use Rattle.broker_base.proofs.of_rows.SessionParted.{parted_is}

-- the place of a Start
abbrev pub start : ℕ → Place
start ballot = record { command = commands.Start ballot; mark = Mark.Unmarked }

-- a session without a connection that is not clean is left off already
off_already : (kept : ClientSession) → kept.connection ≡ None → (clean : Bool) → kept.clean ≡ clean → (clean ≡ true → is_some kept.connection ≡ true) →
    Some kept ≡ (if clean then None else Some (record { clean = kept.clean; connection = None; state = kept.state }))
off_already kept none true e served = let on : is_some kept.connection ≡ true = served refl in absurd (cc)
off_already kept none false e served = ap (λ connection. Some (record { clean = kept.clean; connection = connection; state = kept.state })) none

-- one session
pub row_left : (w ballot : ℕ) (content : RetainedTopics) (c : Client) (kept : ClientSession) → (kept.clean ≡ true → is_some kept.connection ≡ true) →
    session_after w (start ballot) content c kept ≡ left_off kept
row_left w ballot content c kept served = by kept.connection refl
  where
    by : (connection : Option ConnectionName) → kept.connection ≡ connection → session_after w (start ballot) content c kept ≡ left_off kept
    by (Some x) e = parted_is w (start ballot) content c kept tt refl (ap (ends_any (start ballot) c) e)
    by None e =
        ap (λ connection. if ends_any (start ballot) c connection || false then session_touched w (start ballot) content c (Some kept) else Some kept) e
        ∙ off_already kept e kept.clean refl served

-- all sessions
pub start_left : (w ballot : ℕ) (content : RetainedTopics) (rows : Sessions) → AllSound rows → sessions_left w (start ballot) content rows ≡ all_left_off rows
start_left w ballot content [] sound = refl
start_left w ballot content (row ∷ rows) sound =
    ap₂ (λ o rest. keyed row.0 o rest) (row_left w ballot content row.0 row.1 sound.0.served) (start_left w ballot content rows sound.1)

-- the state
pub start_step : StartStep
start_step limits later state ballot sound =
    ap (λ sessions. (record { window = later; sessions = sessions; retained = state.retained }, []))
    (start_left later ballot state.retained state.sessions sound.sessions)
