-- Losses.antt: the step at the loss of a connection, by the tables.
use Rattle.std.proofs.Common.{◌≡◌, Bool, true, false, [], Option, Some, None, ap, ap₂, ◌∙◌, sym, cond}
use Rattle.std.specs.BTreeMap.{is_at}
use Rattle.std.specs.Map.{lookup}
use Rattle.broker_spec.specs.Connection.{ConnectionName}
use Rattle.broker_spec.specs.Place.{Client}
use Rattle.broker_spec.specs.Commands.{usual_limits}
use Rattle.broker_spec.specs.declared.command.Command.TheVariants as commands
use Rattle.broker_base.specs.ClientSession.{ClientSession}
use Rattle.subs_base.specs.Content.{Content, without_client}
use Rattle.subs_base.specs.ListIndex.{content_of}
use Rattle.broker_base.specs.rows.Touched.{written}
use Rattle.broker_base.specs.rows.Served.{ServesClient, with_session, left_off}
use Rattle.broker_base.specs.rows.Owners.{owners_in}
use Rattle.broker_base.proofs.of_rows.LeavingSteps.{lost_step}
use Rattle.broker_base.proofs.of_rows.NobodysSteps.{nobodys_loss_step}
use Rattle.broker_base.proofs.of_rows.ServedStep.{served_found}
use Rattle.broker_base.proofs.of_rows.maps.OwnersLeave.{leaving_removes_the_owner}
use Rattle.broker_base.proofs.of_rows.maps.ContentOfSteps.{leaving_drops_the_clean}
use Rattle.broker.specs.declared.tables.tables.Tables.{Tables}
use Rattle.broker.specs.tables.Tables.{by_connection, state_in, stepped, IsTied}
use Rattle.broker.proofs.of_tables.Connections.{at_is_same}
use Rattle.broker.proofs.of_tables.FoundByMaps.{is_nobodys}
use Rattle.broker.proofs.of_tables.TiesOfRows.{tied_to}

-- the map without a connection
abbrev pub IsWithout : Tables → ConnectionName → Tables → Type 0
IsWithout tables x after =
    (q : ConnectionName) →
    lookup (is_at (by_connection q)) after.owners.entries
    ≡ cond (is_at (by_connection x) q) None (lookup (is_at (by_connection q)) tables.owners.entries)

-- of a client that is served
pub loss_step : (tables : Tables) (x : ConnectionName) (c : Client) (kept : ClientSession) → ServesClient (state_in tables) x c kept →
    stepped tables (commands.Lost x) ≡ (with_session c (left_off kept) (state_in tables), [])
unfolding stepped
loss_step tables x c kept served = lost_step usual_limits 64 (state_in tables) x c kept served

-- of no client
pub nobodys_loss : (tables : Tables) (x : ConnectionName) → owners_in tables.sessions.entries x ≡ None →
    stepped tables (commands.Lost x) ≡ (state_in tables, [])
unfolding stepped
nobodys_loss tables x none = nobodys_loss_step usual_limits 64 (state_in tables) x (is_nobodys tables x none)

-- the ties after it
pub ties_after : (tables after : Tables) (x : ConnectionName) (c : Client) (kept : ClientSession) → ServesClient (state_in tables) x c kept →
    IsTied tables → IsWithout tables x after → after.sessions.entries ≡ written c (left_off kept) tables.sessions.entries →
    content_of after.index ≡ (cond kept.clean (without_client (content_of tables.index) c) (content_of tables.index)) → IsTied after
ties_after tables after x c kept served tied without is index =
    tied_to after (written c (left_off kept) tables.sessions.entries) is
    (λ q.
    without q
    ∙ ap₂ (λ (b : Bool) (o : Option Client). cond b None o) (at_is_same x q) (tied.owners q)
    ∙ sym (leaving_removes_the_owner (state_in tables) x c kept served q))
    (index
    ∙ ap (λ (content : Content). cond kept.clean (without_client content c) content) tied.index
    ∙ sym (leaving_drops_the_clean c kept tables.sessions.entries served.sound.by_client (served_found (state_in tables) x c kept served)))

-- the session of a client that is clean goes, and any other is left
pub left_clean : (kept : ClientSession) → kept.clean ≡ true → left_off kept ≡ None
left_clean kept clean = ap (λ b. cond b None (Some (record { clean = kept.clean; connection = None; state = kept.state }))) clean

pub left_other : (kept : ClientSession) → kept.clean ≡ false →
    left_off kept ≡ Some (record { clean = kept.clean; connection = None; state = kept.state })
left_other kept other = ap (λ b. cond b None (Some (record { clean = kept.clean; connection = None; state = kept.state }))) other
