-- Starts.antt: the step at a Start, by the tables.
use Rattle.std.proofs.Common.{◌≡◌, ◌∙◌, ap, ap₂, sym, subst, refl, true, false, Bool, [], ◌∷◌, Option, Some, None, cond}
use Rattle.std.specs.BTreeMap.{is_at}
use Rattle.std.specs.Map.{lookup}
use Rattle.std.specs.Map.Calls.{RetainsPairs}
use Rattle.subs_base.specs.ListIndex.{content_of}
use Rattle.broker_spec.specs.Place.{Client}
use Rattle.broker_spec.specs.Commands.{usual_limits}
use Rattle.broker_spec.specs.declared.command.Command.TheVariants as commands
use Rattle.broker_base.specs.ClientSession.{ClientSession}
use Rattle.broker_base.specs.State.{Sessions, keyed}
use Rattle.broker_base.specs.rows.Served.{left_off}
use Rattle.broker_base.specs.rows.ConnectTheorems.{all_left_off}
use Rattle.broker_base.specs.rows.Indexed.{all_dropped, clean_clients}
use Rattle.broker_base.proofs.of_rows.StartSteps.{start_step}
use Rattle.broker_base.proofs.of_rows.maps.OwnersLeave.{start_removes_the_owners}
use Rattle.broker_base.proofs.of_rows.maps.ContentOfStart.{start_drops_the_clean}
use Rattle.broker.specs.declared.tables.tables.Tables.{Tables}
use Rattle.broker.specs.tables.Tables.{by_connection, state_in, stepped, IsTied, IsConsistent}
use Rattle.broker.proofs.of_tables.TiesOfRows.{tied_to}

pub start_of : (tables : Tables) (ballot : _) → IsConsistent tables →
    stepped tables (commands.Start ballot)
    ≡ (record { window = 64; sessions = all_left_off tables.sessions.entries; retained = tables.retained }, [])
unfolding stepped
start_of tables ballot step = start_step usual_limits 64 (state_in tables) ballot step.sound

pub ties_of_start : (tables after : Tables) → IsConsistent tables → after.sessions.entries ≡ all_left_off tables.sessions.entries →
    after.owners.entries ≡ [] → content_of after.index ≡ all_dropped (clean_clients tables.sessions.entries) (content_of tables.index) → IsTied after
ties_of_start tables after step is owners index =
    tied_to after (all_left_off tables.sessions.entries) is
    (λ q. ap (lookup (is_at (by_connection q))) owners ∙ sym (start_removes_the_owners tables.sessions.entries q))
    (index ∙ ap (all_dropped (clean_clients tables.sessions.entries)) step.tied.index
    ∙ sym (start_drops_the_clean tables.sessions.entries step.sound.by_client))

-- ---- what `retain` leaves

kept_row : (c : Client) (new : ClientSession) (rest : Sessions) (b : Bool) → cond b ((c, new) ∷ rest) rest ≡ keyed c (cond b (Some new) None) rest
kept_row c new rest true = refl
kept_row c new rest false = refl

-- a closure that leaves each session off, and stays as it was
pub left_rows : {F : Type 0} (T : F → Client → ClientSession → Bool → ClientSession → F → Type 0) (f : F) →
    ((c : Client) (old : ClientSession) (b : Bool) (new : ClientSession) (f' : F) → T f c old b new f' → (left_off old ≡ cond b (Some new) None) × (f' ≡ f)) →
    (rows kept : Sessions) → RetainsPairs T f rows kept → kept ≡ all_left_off rows
left_rows T f facts [] kept r = r
left_rows T f facts (row ∷ rows) kept (b, new, f', rest, call, more, is) =
    let h = facts row.0 row.1 b new f' call in
    let ih : rest ≡ all_left_off rows = left_rows T f facts rows rest (subst (λ g. RetainsPairs T g rows rest) h.1 more) in
    is ∙ kept_row row.0 new rest b ∙ ap₂ (λ (o : Option ClientSession) (others : Sessions). keyed row.0 o others) (sym h.0) ih
