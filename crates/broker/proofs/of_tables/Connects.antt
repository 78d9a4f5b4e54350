-- Connects.antt: the step at a Connect, by the tables.
use Rattle.std.proofs.Common.{◌≡◌, ◌∙◌, ◌++◌, ap, sym, refl, true, false, Bool, [], ◌∷◌, Option, Some, None, true≢false}
use Rattle.std.specs.Prelude.{map, not, ◌||◌, if◌then◌else◌, option_map, is_some}
use Rattle.std.specs.BTreeMap.{insert_entry}
use Rattle.subs_base.specs.Content.{without_client}
use Rattle.subs_base.specs.ListIndex.{content_of}
use Rattle.broker_spec.specs.Connection.{ConnectionName}
use Rattle.broker_spec.specs.Place.{Client, by_bytes}
use Rattle.broker_spec.specs.Answers.{close_outputs, welcome, turned_away}
use Rattle.broker_spec.specs.Commands.{usual_limits}
use Rattle.broker_spec.specs.declared.command.Command.TheVariants as commands
use Rattle.broker_spec.specs.declared.command.Output.TheVariants as outputs
use Rattle.broker_spec.specs.Sessions.{begins_session}
use Rattle.broker_base.specs.ClientSession.{ClientSession}
use Rattle.broker_base.specs.SessionStep.{session_anew, session_resumed}
use Rattle.broker_base.specs.State.{State, session_in, owner_in}
use Rattle.broker_base.specs.StepAnswers.{connection_of}
use Rattle.broker_base.specs.rows.Served.{ServesClient}
use Rattle.broker_base.specs.rows.Published.{session_changed}
use Rattle.broker_base.specs.rows.ConnectTheorems.{may_have_session, begins_in}
use Rattle.broker_base.specs.rows.Owners.{owners_in, with_owner, without_owner}
use Rattle.broker_base.proofs.of_rows.ConnectSteps.{beginning_step, resuming_step, full_step}
use Rattle.broker_base.proofs.of_rows.LeavingSteps.{further_connect_step}
use Rattle.broker_base.proofs.of_rows.maps.OwnersConnect.{connecting_sets_the_owner, resuming_sets_the_owner}
use Rattle.broker_base.proofs.of_rows.maps.ContentOfSteps.{beginning_drops, writing_keeps_content}
use Rattle.broker_base.specs.rows.Touched.{written}
use Rattle.broker.specs.declared.tables.tables.Tables.{Tables}
use Rattle.broker.specs.declared.tables.connect.ConnectOutcome.TheVariants as outcomes
use Rattle.broker.specs.tables.Tables.{owners_at, state_in, stepped, IsTied, IsConsistent}
use Rattle.broker.specs.one_session.OneSession.{sent_to_resumed}
use Rattle.broker.specs.tables.Connect.{TakesOver, connect_outcome}
use Rattle.broker.proofs.of_tables.FoundByMaps.{is_nobodys}
use Rattle.broker.proofs.of_tables.Losses.{loss_step}
use Rattle.broker.proofs.of_tables.TiesOfRows.{tied_to}

-- by what the map of connections had
takes_over : (tables : Tables) (x : ConnectionName) (c : Client) (left : Option ConnectionName) (q : ConnectionName) → IsTied tables →
    with_owner x c (without_owner left (owners_at tables.owners.entries)) q
    ≡ with_owner x c (without_owner left (owners_in tables.sessions.entries)) q
takes_over tables x c left q tied =
    ap (λ owners. with_owner x c (without_owner left owners) q) (λ i y. tied.owners y i)

-- ---- on a connection of a client

pub further_of : (tables : Tables) (x : ConnectionName) (c : Client) (kept : ClientSession) (named : Client) (clean : Bool) →
    ServesClient (state_in tables) x c kept →
    stepped tables (commands.Connect x named clean) ≡ ((stepped tables (commands.Lost x)).0, outputs.Close x ∷ [])
unfolding stepped
further_of tables x c kept named clean served =
    further_connect_step usual_limits 64 (state_in tables) x c kept served named clean
    ∙ ap (λ s. (s, outputs.Close x ∷ [])) (sym (ap (λ q. q.0) (loss_step tables x c kept served)))

-- ---- on a connection without a client

module _ (tables : Tables) (x : ConnectionName) (c : Client) (clean : Bool) (step : IsConsistent tables) (none : owners_in tables.sessions.entries x ≡ None) where
  -- a session begins
  pub beginning_of : may_have_session usual_limits (state_in tables) c ≡ true → begins_in (state_in tables) c clean ≡ true →
      stepped tables (commands.Connect x c clean)
      ≡ (
        record {
          window = tables.window;
          sessions = insert_entry by_bytes tables.sessions.entries c (session_anew (x, clean));
          retained = tables.retained;
        },
        close_outputs (connection_of (session_in c tables.sessions.entries)) ++ welcome x false ∷ [],
      )
  unfolding stepped
  beginning_of admitted begins = beginning_step usual_limits 64 (state_in tables) x c clean step.sound (is_nobodys tables x none) admitted begins

  pub ties_of_beginning : (after : Tables) → after.sessions.entries ≡ insert_entry by_bytes tables.sessions.entries c (session_anew (x, clean)) →
      TakesOver tables x c after → content_of after.index ≡ without_client (content_of tables.index) c → IsTied after
  ties_of_beginning after is owners index =
      tied_to after (insert_entry by_bytes tables.sessions.entries c (session_anew (x, clean))) is
      (λ q.
      owners q ∙ takes_over tables x c (connection_of (session_in c tables.sessions.entries)) q step.tied
      ∙ sym (connecting_sets_the_owner (state_in tables) x c (session_anew (x, clean)) step.sound (is_nobodys tables x none) refl q))
      (index ∙ ap (λ content. without_client content c) step.tied.index
      ∙ sym (beginning_drops c (x, clean) tables.sessions.entries step.sound.by_client))

  -- there are too many
  pub full_of : may_have_session usual_limits (state_in tables) c ≡ false →
      stepped tables (commands.Connect x c clean) ≡ (state_in tables, turned_away x ∷ outputs.Close x ∷ [])
  unfolding stepped
  full_of full = full_step usual_limits 64 (state_in tables) x c clean (is_nobodys tables x none) full

  -- a session continues
  resuming_by : (session : Option ClientSession) → session_in c tables.sessions.entries ≡ session → begins_session clean (option_map (λ (kept : ClientSession). kept.clean) session) ≡ false →
      stepped tables (commands.Connect x c clean)
      ≡ (
        record {
          window = tables.window;
          sessions = session_changed c (session_resumed tables.window (x, false)) tables.sessions.entries;
          retained = tables.retained;
        },
        close_outputs (connection_of (session_in c tables.sessions.entries)) ++ welcome x true
            ∷ map (outputs.Send x) (sent_to_resumed tables.window (session_in c tables.sessions.entries)),
      )
  unfolding stepped
  resuming_by None held e = absurd (cc)
  resuming_by (Some kept) held e = by clean kept.clean refl refl e
    where
      by : (a b : Bool) → clean ≡ a → kept.clean ≡ b → (a || b) ≡ false →
          stepped tables (commands.Connect x c clean)
          ≡ (
            record {
              window = tables.window;
              sessions = session_changed c (session_resumed tables.window (x, false)) tables.sessions.entries;
              retained = tables.retained;
            },
            close_outputs (connection_of (session_in c tables.sessions.entries)) ++ welcome x true
                ∷ map (outputs.Send x) (sent_to_resumed tables.window (session_in c tables.sessions.entries)),
          )
      by true b p q h = absurd (cc)
      by false true p q h = absurd (cc)
      by false false p q h =
          ap (λ flag. stepped tables (commands.Connect x c flag)) p
          ∙ resuming_step usual_limits 64 (state_in tables) x c kept step.sound (is_nobodys tables x none) held q
          ∙ (λ i. (
            record {
              window = tables.window;
              sessions = written c (option_map (session_resumed tables.window (x, false)) (sym held i)) tables.sessions.entries;
              retained = tables.retained;
            },
            close_outputs (connection_of (sym held i)) ++ welcome x true ∷ map (outputs.Send x) (sent_to_resumed tables.window (sym held i)),
          ))

  pub resuming_of : begins_in (state_in tables) c clean ≡ false →
      stepped tables (commands.Connect x c clean)
      ≡ (
        record {
          window = tables.window;
          sessions = session_changed c (session_resumed tables.window (x, false)) tables.sessions.entries;
          retained = tables.retained;
        },
        close_outputs (connection_of (session_in c tables.sessions.entries)) ++ welcome x true
            ∷ map (outputs.Send x) (sent_to_resumed tables.window (session_in c tables.sessions.entries)),
      )
  resuming_of on = resuming_by (session_in c tables.sessions.entries) refl on

  pub ties_of_resuming : (after : Tables) → begins_in (state_in tables) c clean ≡ false →
      after.sessions.entries ≡ session_changed c (session_resumed tables.window (x, false)) tables.sessions.entries →
      TakesOver tables x c after → content_of after.index ≡ content_of tables.index → IsTied after
  ties_of_resuming after on is owners index = by (session_in c tables.sessions.entries) refl on
    where
      by : (session : Option ClientSession) → session_in c tables.sessions.entries ≡ session → begins_session clean (option_map (λ (kept : ClientSession). kept.clean) session) ≡ false → IsTied after
      by None held e = absurd (cc)
      by (Some kept) held e =
          tied_to after (written c (Some (session_resumed tables.window (x, false) kept)) tables.sessions.entries)
          (is ∙ ap (λ session. written c (option_map (session_resumed tables.window (x, false)) session) tables.sessions.entries) held)
          (λ q.
          owners q ∙ takes_over tables x c (connection_of (session_in c tables.sessions.entries)) q step.tied
          ∙ ap (λ session. with_owner x c (without_owner (connection_of session) (owners_in tables.sessions.entries)) q) held
          ∙ sym (resuming_sets_the_owner (state_in tables) x c kept (session_resumed tables.window (x, false) kept) step.sound (is_nobodys tables x none) held refl q))
          (index ∙ step.tied.index
          ∙ sym (writing_keeps_content c kept (session_resumed tables.window (x, false) kept) tables.sessions.entries step.sound.by_client held refl))

-- ---- by what a Connect does

-- a session that is resumed does not begin
pub resumes_so : (state : State) (c : Client) (clean : Bool) → connect_outcome state c clean ≡ outcomes.Resumes → begins_in state c clean ≡ false
resumes_so state c clean is = by (begins_in state c clean) (may_have_session usual_limits state c) is
  where
    by : (begins room : Bool) → (if not begins then outcomes.Resumes else if room then outcomes.Begins else outcomes.Full) ≡ outcomes.Resumes → begins ≡ false
    by false room e = refl
    by true true e = absurd (cc)
    by true false e = absurd (cc)

-- one that begins has room
pub begins_so : (state : State) (c : Client) (clean : Bool) → connect_outcome state c clean ≡ outcomes.Begins
    → (begins_in state c clean ≡ true) × (may_have_session usual_limits state c ≡ true)
begins_so state c clean is = by (begins_in state c clean) (may_have_session usual_limits state c) is
  where
    by : (begins room : Bool) → (if not begins then outcomes.Resumes else if room then outcomes.Begins else outcomes.Full) ≡ outcomes.Begins → (begins ≡ true) × (room ≡ true)
    by false room e = absurd (cc)
    by true true e = (refl, refl)
    by true false e = absurd (cc)

-- and one that is turned away has none
pub turned_so : (state : State) (c : Client) (clean : Bool) → connect_outcome state c clean ≡ outcomes.Full → may_have_session usual_limits state c ≡ false
turned_so state c clean is = by (begins_in state c clean) (may_have_session usual_limits state c) is
  where
    by : (begins room : Bool) → (if not begins then outcomes.Resumes else if room then outcomes.Begins else outcomes.Full) ≡ outcomes.Full → room ≡ false
    by false room e = absurd (cc)
    by true true e = absurd (cc)
    by true false e = refl

-- ---- by what the map of connections has

pub further_by : (tables : Tables) (x : ConnectionName) (named : Client) (clean : Bool) → IsConsistent tables →
    is_some (owners_at tables.owners.entries x) ≡ true →
    stepped tables (commands.Connect x named clean) ≡ ((stepped tables (commands.Lost x)).0, outputs.Close x ∷ [])
further_by tables x named clean step there = by (owner_in x tables.sessions.entries) refl
  where
    by : (o : Option (Client × ClientSession)) → owner_in x tables.sessions.entries ≡ o →
        stepped tables (commands.Connect x named clean) ≡ ((stepped tables (commands.Lost x)).0, outputs.Close x ∷ [])
    by (Some owner) e = further_of tables x owner.0 owner.1 named clean (record { sound = step.sound; owner = e })
    by None e =
        let none : owners_at tables.owners.entries x ≡ None
        = step.tied.owners x ∙ ap (option_map (λ (row : Client × ClientSession). row.0)) e in
        let not : is_some (owners_at tables.owners.entries x) ≡ false = ap is_some none in
        absurd (true≢false (sym there ∙ not))

pub not_there : (tables : Tables) (x : ConnectionName) → IsConsistent tables → is_some (owners_at tables.owners.entries x) ≡ false →
    owners_in tables.sessions.entries x ≡ None
not_there tables x step out = sym (step.tied.owners x) ∙ by (owners_at tables.owners.entries x) out
  where
    by : (o : Option Client) → is_some o ≡ false → o ≡ None
    by (Some c) e = absurd (true≢false e)
    by None e = refl
