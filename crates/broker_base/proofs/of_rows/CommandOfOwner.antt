-- A command of a connection's owner, except a taken PUBLISH, leaves every row but the owner's.
use Rattle.std.proofs.Common.{◌≡◌, ℕ, false, Some, refl, ◌∙◌}
use Rattle.retained.specs.Retained.{RetainedTopics}
use Rattle.broker_spec.specs.Connection.{ConnectionName}
use Rattle.broker_spec.specs.Place.{Client, Mark, Place, Limits}
use Rattle.broker_base.specs.ClientSession.{ClientSession}
use Rattle.broker_base.specs.State.{Sessions, State, owner_in}
use Rattle.broker_base.specs.Decisions.{mark_in, place_in}
use Rattle.broker_base.specs.Step.{session_after, sessions_left, sessions_with, window_after, step}
use Rattle.broker_base.specs.StateTheorems.{AreByClient, ConnectionsAreApart}
use Rattle.broker_spec.specs.declared.command.Command.{Command}
use Rattle.broker_spec.specs.declared.command.Command.TheVariants as commands
use Rattle.broker_base.specs.rows.Touched.{comes_on, is_taken, is_accepted, IsMarkOf, written}
use Rattle.broker_base.proofs.of_rows.OneRow.{left_one}
use Rattle.broker_base.proofs.of_rows.OwnersRow.{owner_found, owner_only}
use Rattle.broker_base.proofs.of_rows.OneCommand.{owners_mark, ones_owned}

-- only an accepted Connect adds a row
pub only_left : (w : ℕ) (place : Place) (content : RetainedTopics) (rows : Sessions) (command : Command) (mark : Mark) → is_accepted mark ≡ false →
    sessions_with w place content rows command mark ≡ sessions_left w place content rows
only_left w place content rows (commands.Connect x c clean) Mark.Accepted e = absurd (cc)
only_left w place content rows _ _ e = refl

-- a mark of one client is not that of an accepted Connect
not_accepted : (d : Client) (mark : Mark) → IsMarkOf d mark → is_accepted mark ≡ false
not_accepted d Mark.Accepted of = absurd of
not_accepted d _ of = refl

-- the owner's row is written, or goes, and every other stays
pub owner_written : (limits : Limits) (later : ℕ) (state : State) (command : Command) (x : ConnectionName) (owner : Client × ClientSession) →
    AreByClient state.sessions → ConnectionsAreApart state.sessions → comes_on command ≡ Some x → owner_in x state.sessions ≡ Some owner →
    is_taken (mark_in limits state command) ≡ false →
    (step limits later state command).0.sessions
    ≡ written owner.0 (session_after (window_after later command state.window) (place_in limits state command) state.retained owner.0 owner.1) state.sessions
owner_written limits later state command x owner by_client apart on found e =
    only_left (window_after later command state.window) (place_in limits state command) state.retained state.sessions command (mark_in limits state command)
    (not_accepted owner.0 (mark_in limits state command) (owners_mark limits state command x owner on found e))
    ∙ left_one (window_after later command state.window) (place_in limits state command) state.retained owner.0 owner.1 state.sessions
    (owner_only (place_in limits state command) x owner state.sessions (ones_owned limits state command x owner on found e) by_client apart found)
    (owner_found x owner state.sessions by_client found)
