-- The step at an Expel: the client's row goes, and no other is touched.
use Rattle.std.proofs.Common.{◌≡◌, ℕ, Bool, true, false, not, ◌&&◌, ◌||◌, if◌then◌else◌, List, [], ◌∷◌, Option, Some, None, refl, ap, ap₂, ◌∙◌, sym, subst, inl, inr, ◌⊎◌}
use Rattle.std.specs.List.Sorted.{IsStrictlySortedBy}
use Rattle.std.specs.Ordering.{is_eq}
use Rattle.retained.specs.Retained.{RetainedTopics}
use Rattle.broker_spec.specs.Connection.{ConnectionName}
use Rattle.broker_spec.specs.Place.{Client, same_client, Mark, Place, only_if}
use Rattle.broker_spec.specs.Sessions.{any_connection, ends, expels, ends_any}
use Rattle.broker_spec.specs.Answers.{close_outputs}
use Rattle.broker_base.specs.ClientSession.{ClientSession}
use Rattle.broker_base.specs.SessionStep.{session_on}
use Rattle.broker_base.specs.State.{Sessions, State, session_in}
use Rattle.broker_base.specs.StateTheorems.{AreByClient}
use Rattle.broker_base.specs.StepAnswers.{connection_of}
use Rattle.broker_base.specs.Step.{touches, is_about, session_after}
use Rattle.broker_spec.specs.declared.command.Command.TheVariants as commands
use Rattle.broker_spec.specs.declared.command.Output.{Output}
use Rattle.broker_spec.proofs.ClientsInOrder.{same_is, same_self}
use Rattle.broker_base.proofs.SessionsStayByClient.{ComesBefore}
use Rattle.broker_base.specs.rows.Touched.{Untouched, TouchesOnly, written}
use Rattle.broker_base.specs.rows.ExpelTheorems.{ExpelStep, NobodysExpelStep}
use Rattle.broker_base.proofs.of_rows.OneRow.{left_untouched, left_one}

-- the place
abbrev pub at_expel : Client → Place
at_expel c = record { command = commands.Expel c; mark = Mark.Unmarked }

-- it ends no connection by its name
never_ends : (c : Client) (o : Option ConnectionName) → any_connection (ends (commands.Expel c) Mark.Unmarked) o ≡ false
never_ends c None = refl
never_ends c (Some x) = refl

-- another client is not touched
spares_other : (c d : Client) (kept : ClientSession) → same_client c d ≡ false → touches (at_expel c) d kept ≡ false
spares_other c d kept other = ap₂ (λ a b. (a || b) || false) other (never_ends c kept.connection)

none_after : (c : Client) (rows : Sessions) → ComesBefore c rows → Untouched (at_expel c) rows
none_after c [] before = tt
none_after c (row ∷ rows) before = (spares_other c row.0 row.1 (ap is_eq before.0), none_after c rows before.1)

-- it touches the client's row at most
expel_only : (c : Client) (rows : Sessions) → AreByClient rows → TouchesOnly (at_expel c) c rows
unfolding IsStrictlySortedBy
expel_only c [] by_client = tt
expel_only c (row ∷ rows) by_client = by (same_client c row.0) refl (expel_only c rows by_client.1)
  where
    by : (b : Bool) → same_client c row.0 ≡ b → TouchesOnly (at_expel c) c rows → TouchesOnly (at_expel c) c (row ∷ rows)
    by true same later = inl (same, none_after c rows (subst (λ (d : Client). ComesBefore d rows) (sym (same_is c row.0 same)) by_client.0))
    by false other later = inr (other, spares_other c row.0 row.1 other, later)

-- or none, if the client has none
none_there : (c : Client) (rows : Sessions) → session_in c rows ≡ None → Untouched (at_expel c) rows
none_there c [] none = tt
none_there c (row ∷ rows) none = by (same_client c row.0) refl none (none_there c rows)
  where
    by : (b : Bool) → same_client c row.0 ≡ b → (if b then Some row.1 else session_in c rows) ≡ None → (session_in c rows ≡ None → Untouched (at_expel c) rows) → Untouched (at_expel c) (row ∷ rows)
    by true same e later = absurd (let f : Some row.1 ≡ None = e in cc)
    by false other e later = (spares_other c row.0 row.1 other, later e)

-- nothing is left of the client's session
goes : (w : ℕ) (content : RetainedTopics) (c : Client) (kept : ClientSession) → session_after w (at_expel c) content c kept ≡ None
goes w content c kept =
    ap (λ b. if (b || any_connection (ends (commands.Expel c) Mark.Unmarked) kept.connection) || false
    then only_if (not (b || (kept.clean && ends_any (at_expel c) c kept.connection)))
    (Some (session_on w (at_expel c) content c (only_if (not (ends_any (at_expel c) c kept.connection)) kept.connection) kept))
    else Some kept) (same_self c)

pub expel_step : ExpelStep
expel_step limits later state c kept sound found =
    ap₂ (λ (sessions : Sessions) (answers : List Output). (let s : State = record { window = state.window; sessions = sessions; retained = state.retained } in s, answers))
    (left_one state.window (at_expel c) state.retained c kept state.sessions (expel_only c state.sessions sound.by_client) found
    ∙ ap (λ o. written c o state.sessions) (goes state.window state.retained c kept))
    (ap (λ o. close_outputs (connection_of o)) found)

pub nobodys_expel_step : NobodysExpelStep
nobodys_expel_step limits later state c none =
    ap₂ (λ (sessions : Sessions) (answers : List Output). (let s : State = record { window = state.window; sessions = sessions; retained = state.retained } in s, answers))
    (left_untouched state.window (at_expel c) state.retained state.sessions (none_there c state.sessions none))
    (ap (λ o. close_outputs (connection_of o)) none)
