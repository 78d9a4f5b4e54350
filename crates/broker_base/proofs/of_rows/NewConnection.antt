-- An accepted Connect on a connection without a client writes its client's row, and leaves every
-- other.
use Rattle.std.proofs.Common.{◌≡◌, ℕ, Bool, ◌||◌, [], ◌∷◌, Option, Some, None, refl, ap, ap₂, ◌∙◌, sym, subst}
use Rattle.std.specs.declared.cmp.Ordering.{Ordering}
use Rattle.std.specs.declared.cmp.Ordering.TheVariants.{Less, Equal, Greater}
use Rattle.std.specs.List.Sorted.{IsStrictlySortedBy}
use Rattle.std.specs.Ordering.{is_eq, match_ordering}
use Rattle.retained.specs.Retained.{RetainedTopics}
use Rattle.broker_spec.specs.Connection.{ConnectionName}
use Rattle.broker_spec.specs.Place.{Client, by_bytes, Mark, Place}
use Rattle.broker_base.specs.ClientSession.{ClientSession}
use Rattle.broker_base.specs.State.{Sessions, keyed, put_session}
use Rattle.broker_base.specs.Step.{session_after, sessions_left}
use Rattle.broker_base.specs.StateTheorems.{AreByClient, IsNobodys}
use Rattle.broker_spec.specs.declared.command.Command.TheVariants as commands
use Rattle.broker_spec.proofs.ClientsInOrder.{equal_is}
use Rattle.broker_base.proofs.SessionsStayByClient.{ComesBefore, before_more, put_first}
use Rattle.broker_base.specs.rows.Touched.{Untouched}
use Rattle.broker_base.proofs.of_rows.OneRow.{left_untouched}
use Rattle.broker_base.proofs.of_rows.OneCommand.{ends_none}

-- the place of an accepted Connect
abbrev pub accepted : ConnectionName → Client → Bool → Place
accepted x c clean = record { command = commands.Connect x c clean; mark = Mark.Accepted }

-- the rows after the client's are not touched
others_untouched : (x : ConnectionName) (c : Client) (clean : Bool) (rows : Sessions) → ComesBefore c rows → IsNobodys x rows → Untouched (accepted x c clean) rows
others_untouched x c clean [] before nobodys = tt
others_untouched x c clean (row ∷ rows) before nobodys = (
  ap₂ (λ a b. a || b) (ends_none (commands.Connect x c clean) Mark.Accepted x row.1.connection refl nobodys.0) (ap is_eq before.0),
  others_untouched x c clean rows before.1 nobodys.1,
)

-- whatever is written to the client's row before goes
pub put_left : (w : ℕ) (x : ConnectionName) (c : Client) (clean : Bool) (content : RetainedTopics) (kept : ClientSession) (rows : Sessions) → AreByClient rows → IsNobodys x rows →
    put_session c kept (sessions_left w (accepted x c clean) content rows) ≡ put_session c kept rows
unfolding IsStrictlySortedBy
put_left w x c clean content kept [] by_client nobodys = refl
put_left w x c clean content kept (row ∷ rows) by_client nobodys =
    by (by_bytes c row.0) refl (put_left w x c clean content kept rows by_client.1 nobodys.1)
  where
    -- at the client's own row
    here : by_bytes c row.0 ≡ Equal → ComesBefore c rows → (o : Option ClientSession) → put_session c kept (keyed row.0 o rows) ≡ (row.0, kept) ∷ rows
    here e before None = put_first c kept rows before ∙ ap (λ d. (d, kept) ∷ rows) (equal_is c row.0 e)
    here e before (Some other) = ap (λ r. match_ordering r ((c, kept) ∷ (row.0, other) ∷ rows) ((row.0, kept) ∷ rows) ((row.0, other) ∷ put_session c kept rows)) e

    -- by where the client comes
    by : (o : Ordering) → by_bytes c row.0 ≡ o → put_session c kept (sessions_left w (accepted x c clean) content rows) ≡ put_session c kept rows →
        put_session c kept (sessions_left w (accepted x c clean) content (row ∷ rows)) ≡ put_session c kept (row ∷ rows)
    by Less e later =
        ap (put_session c kept) (left_untouched w (accepted x c clean) content (row ∷ rows) (others_untouched x c clean (row ∷ rows) (e, before_more c row.0 rows e by_client.0) nobodys))
    by Equal e later =
        let before : ComesBefore c rows = subst (λ (b : Client). ComesBefore b rows) (sym (equal_is c row.0 e)) by_client.0 in
        ap (λ rest. put_session c kept (keyed row.0 (session_after w (accepted x c clean) content row.0 row.1) rest))
        (left_untouched w (accepted x c clean) content rows (others_untouched x c clean rows before nobodys.1))
        ∙ here e before (session_after w (accepted x c clean) content row.0 row.1)
        ∙ sym (here e before (Some row.1))
    by Greater e later =
        let stays : session_after w (accepted x c clean) content row.0 row.1 ≡ Some row.1 =
        rw (ends_none (commands.Connect x c clean) Mark.Accepted x row.1.connection refl nobodys.0, ap is_eq e) refl in
        ap (λ o. put_session c kept (keyed row.0 o (sessions_left w (accepted x c clean) content rows))) stays
        ∙ ap (λ o. match_ordering o ((c, kept) ∷ row ∷ sessions_left w (accepted x c clean) content rows) ((row.0, kept) ∷ sessions_left w (accepted x c clean) content rows) (row ∷ put_session c kept (sessions_left w (accepted x c clean) content rows))) e
        ∙ ap (λ rest. row ∷ rest) later
        ∙ sym (ap (λ o. match_ordering o ((c, kept) ∷ row ∷ rows) ((row.0, kept) ∷ rows) (row ∷ put_session c kept rows)) e)
