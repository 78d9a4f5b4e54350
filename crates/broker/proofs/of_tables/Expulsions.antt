-- Expulsions.antt: the step at an Expel, by the tables.
use Rattle.std.proofs.Common.{◌≡◌, if◌then◌else◌, [], Option, Some, None, ap, ◌∙◌, sym}
use Rattle.broker_spec.specs.Connection.{ConnectionName, same_connection}
use Rattle.broker_spec.specs.Place.{Client}
use Rattle.broker_spec.specs.Commands.{usual_limits}
use Rattle.broker_spec.specs.Answers.{close_outputs}
use Rattle.broker_spec.specs.declared.command.Command.TheVariants as commands
use Rattle.broker_base.specs.ClientSession.{ClientSession}
use Rattle.broker_base.specs.State.{session_in}
use Rattle.subs_base.specs.Content.{Content, without_client}
use Rattle.subs_base.specs.ListIndex.{content_of}
use Rattle.broker_base.specs.rows.Touched.{written}
use Rattle.broker_base.specs.rows.Served.{with_session}
use Rattle.broker_base.specs.rows.Owners.{Owners, owners_in, without_owner}
use Rattle.broker_base.proofs.of_rows.ExpelSteps.{expel_step, nobodys_expel_step}
use Rattle.broker_base.proofs.of_rows.maps.ExpelledMaps.{expel_removes_the_owner, expel_drops_the_client}
use Rattle.broker.specs.declared.tables.tables.Tables.{Tables}
use Rattle.broker.specs.tables.Tables.{owners_at, state_in, stepped, IsTied, IsConsistent}
use Rattle.broker.proofs.of_tables.TiesOfRows.{tied_to}

-- of a client with a session
pub expelled : (tables : Tables) (c : Client) (kept : ClientSession) → IsConsistent tables → session_in c tables.sessions.entries ≡ Some kept →
    stepped tables (commands.Expel c) ≡ (with_session c None (state_in tables), close_outputs kept.connection)
unfolding stepped
expelled tables c kept step held = expel_step usual_limits 64 (state_in tables) c kept step.sound held

-- of one without
pub nobody_expelled : (tables : Tables) (c : Client) → session_in c tables.sessions.entries ≡ None → stepped tables (commands.Expel c) ≡ (state_in tables, [])
unfolding stepped
nobody_expelled tables c none = nobodys_expel_step usual_limits 64 (state_in tables) c none

-- the map of connections without one, if there is one
abbrev pub IsWithoutAny : Tables → Option ConnectionName → Tables → Type 0
IsWithoutAny tables left after = (q : ConnectionName) → owners_at after.owners.entries q ≡ without_owner left (owners_at tables.owners.entries) q

without_same : (left : Option ConnectionName) (a b : Owners) (q : ConnectionName) → a q ≡ b q → without_owner left a q ≡ without_owner left b q
without_same None a b q e = e
without_same (Some x) a b q e = ap (λ (o : Option Client). if same_connection x q then None else o) e

-- the ties after it
pub ties_expelled : (tables after : Tables) (c : Client) (kept : ClientSession) (left : Option ConnectionName) → IsConsistent tables → session_in c tables.sessions.entries ≡ Some kept →
    left ≡ kept.connection → IsWithoutAny tables left after → after.sessions.entries ≡ written c None tables.sessions.entries →
    content_of after.index ≡ without_client (content_of tables.index) c → IsTied after
ties_expelled tables after c kept left step held same without is index =
    tied_to after (written c None tables.sessions.entries) is
    (λ q.
    without q
    ∙ without_same left (owners_at tables.owners.entries) (owners_in tables.sessions.entries) q (step.tied.owners q)
    ∙ ap (λ o. without_owner o (owners_in tables.sessions.entries) q) same
    ∙ sym (expel_removes_the_owner (state_in tables) c kept step.sound held q))
    (index ∙ ap (λ (content : Content). without_client content c) step.tied.index ∙ sym (expel_drops_the_client c kept tables.sessions.entries step.sound.by_client held))
