-- The step at a served client's command that is no taken PUBLISH, with the mark that it has.
use Rattle.std.proofs.Common.{◌≡◌, ℕ, Bool, true, false, if◌then◌else◌, List, [], ◌∷◌, Option, Some, refl, ap, ap₂, ◌∙◌, sym, subst}
use Rattle.packet.specs.declared.packet.Packet.TheVariants as packets
use Rattle.retained.specs.Retained.{RetainedTopics}
use Rattle.broker_spec.specs.Connection.{ConnectionName, same_connection}
use Rattle.broker_spec.specs.Place.{Client, same_client, Mark, Limits}
use Rattle.broker_spec.specs.Sessions.{any_connection}
use Rattle.broker_spec.specs.Retained.{retained_by}
use Rattle.broker_base.specs.ClientSession.{ClientSession}
use Rattle.broker_base.specs.State.{Sessions, State, session_in, owner_in}
use Rattle.broker_base.specs.StepAnswers.{answers_by_state}
use Rattle.broker_base.specs.Decisions.{mark_in, place_in}
use Rattle.broker_base.specs.Step.{session_after, window_after, step_at, step}
use Rattle.broker_spec.specs.declared.command.Command.{Command}
use Rattle.broker_spec.specs.declared.command.Command.TheVariants as commands
use Rattle.broker_spec.specs.declared.command.Output.{Output}
use Rattle.broker_base.specs.rows.Touched.{comes_on, is_taken, written}
use Rattle.broker_base.specs.rows.Served.{ServesClient, IsOnItsConnection, with_session}
use Rattle.broker_base.proofs.of_rows.OwnersRow.{on_is, owner_found}
use Rattle.broker_base.proofs.of_rows.CommandOfOwner.{owner_written}

-- ---- the client

-- the owner's session is on the connection
on_owner : (x : ConnectionName) (owner : Client × ClientSession) (rows : Sessions) → owner_in x rows ≡ Some owner → any_connection (same_connection x) owner.1.connection ≡ true
on_owner x owner [] found = absurd (cc)
on_owner x owner (row ∷ rows) found = by (any_connection (same_connection x) row.1.connection) refl (λ e. on_owner x owner rows e) found
  where
    by : (b : Bool) → any_connection (same_connection x) row.1.connection ≡ b →
        (owner_in x rows ≡ Some owner → any_connection (same_connection x) owner.1.connection ≡ true) →
        (if b then Some row else owner_in x rows) ≡ Some owner → any_connection (same_connection x) owner.1.connection ≡ true
    by true on more e =
        let same : row ≡ owner = cc in
        subst (λ (r : Client × ClientSession). any_connection (same_connection x) r.1.connection ≡ true) same on
    by false off more e = more e

-- so a served client's is
pub served_on : (state : State) (x : ConnectionName) (c : Client) (kept : ClientSession) → ServesClient state x c kept → kept.connection ≡ Some x
served_on state x c kept served = on_is x kept.connection (on_owner x (c, kept) state.sessions served.owner)

-- and it is found by its client
pub served_found : (state : State) (x : ConnectionName) (c : Client) (kept : ClientSession) → ServesClient state x c kept → session_in c state.sessions ≡ Some kept
served_found state x c kept served = owner_found x (c, kept) state.sessions served.sound.by_client served.owner

-- both
pub on_its_connection : IsOnItsConnection
on_its_connection state x c kept served = (served_on state x c kept served, served_found state x c kept served)

-- a session is replaced by an equal one
pub written_same : (d : Client) (kept : ClientSession) (rows : Sessions) → session_in d rows ≡ Some kept → written d (Some kept) rows ≡ rows
written_same d kept [] found = refl
written_same d kept (row ∷ rows) found = by (same_client d row.0) found (λ e. written_same d kept rows e)
  where
    by : (b : Bool) → (if b then Some row.1 else session_in d rows) ≡ Some kept → (session_in d rows ≡ Some kept → written d (Some kept) rows ≡ rows) →
        (if b then (row.0, kept) ∷ rows else row ∷ written d (Some kept) rows) ≡ row ∷ rows
    by true e more = let same : kept ≡ row.1 = cc in ap (λ k. (row.0, k) ∷ rows) same
    by false e more = ap (λ rest. row ∷ rest) (more e)

-- ---- the step

-- only a taken PUBLISH changes what is retained
pub retained_same : (command : Command) (mark : Mark) (content : RetainedTopics) → is_taken mark ≡ false → retained_by command mark content ≡ content
retained_same (commands.Packet x (packets.Publish p)) (Mark.Taken c) content e = absurd (cc)
retained_same _ _ content e = refl

-- with the mark, and what that does to the client's session
pub served_step : (limits : Limits) (later : ℕ) (state : State) (command : Command) (x : ConnectionName) (c : Client) (kept : ClientSession) (mark : Mark) (after : Option ClientSession)
    (answers : List Output) → ServesClient state x c kept → comes_on command ≡ Some x → window_after later command state.window ≡ state.window →
    mark_in limits state command ≡ mark → is_taken mark ≡ false →
    session_after state.window (record { command = command; mark = mark }) state.retained c kept ≡ after →
    answers_by_state state.window (record { command = command; mark = mark }) state command mark ≡ answers →
    step limits later state command ≡ (with_session c after state, answers)
served_step limits later state command x c kept mark after answers served on window marked e left answered =
    ap (λ w. step_at w (place_in limits state command) state) window
    ∙ ap₂ (λ (s : State) (a : List Output). (s, a))
    (ap₂ (λ sessions retained. record { window = state.window; sessions = sessions; retained = retained })
    (sym (ap (λ w. (step_at w (place_in limits state command) state).0.sessions) window)
    ∙ owner_written limits later state command x (c, kept) served.sound.by_client served.sound.apart on served.owner (ap is_taken marked ∙ e)
    ∙ ap (λ w. written c (session_after w (place_in limits state command) state.retained c kept) state.sessions) window
    ∙ ap (λ m. written c (session_after state.window (record { command = command; mark = m }) state.retained c kept) state.sessions) marked
    ∙ ap (λ session. written c session state.sessions) left)
    (retained_same command (mark_in limits state command) state.retained (ap is_taken marked ∙ e)))
    (ap (λ m. answers_by_state state.window (record { command = command; mark = m }) state command m) marked ∙ answered)
