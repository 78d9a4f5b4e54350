-- A command on a connection without a client leaves every row, except an accepted Connect.
use Rattle.std.proofs.Common.{◌≡◌, ℕ, Bool, true, false, ◌||◌, nat_lt, if◌then◌else◌, List, [], ◌∷◌, length, Some, None, refl, ap, ap₂, ◌∙◌, sym, subst}
use Rattle.std.specs.Prelude.{is_some}
use Rattle.session_base.specs.Subscriptions.{GrantedSubscription}
use Rattle.packet.specs.declared.packet.Packet.TheVariants as packets
use Rattle.broker_spec.specs.Connection.{ConnectionName, same_connection}
use Rattle.broker_spec.specs.Place.{Client, Mark, Limits}
use Rattle.broker_spec.specs.Sessions.{any_connection}
use Rattle.broker_base.specs.State.{Sessions, State, session_in, owner_in}
use Rattle.broker_base.specs.Decisions.{packet_mark_in, connect_mark_in, mark_in, place_in}
use Rattle.broker_base.specs.Step.{is_about, window_after, step}
use Rattle.broker_base.specs.StateTheorems.{IsNobodys}
use Rattle.broker_spec.specs.declared.command.Command.{Command}
use Rattle.broker_spec.specs.declared.command.Command.TheVariants as commands
use Rattle.broker_base.specs.rows.Touched.{Untouched, comes_on, is_accepted, TouchesNoRow}
use Rattle.broker_base.proofs.of_rows.OneRow.{left_untouched}
use Rattle.broker_base.proofs.of_rows.OneCommand.{ends_none, spares}
use Rattle.broker_base.proofs.of_rows.CommandOfOwner.{only_left}

-- a connection without an owner has no client
pub nobody_owns : (x : ConnectionName) (rows : Sessions) → owner_in x rows ≡ None → IsNobodys x rows
nobody_owns x [] e = tt
nobody_owns x (row ∷ rows) e = by (any_connection (same_connection x) row.1.connection) refl (λ later. nobody_owns x rows later) e
  where
    by : (t : Bool) → any_connection (same_connection x) row.1.connection ≡ t → (owner_in x rows ≡ None → IsNobodys x rows) →
        (if t then Some row else owner_in x rows) ≡ None → IsNobodys x (row ∷ rows)
    by true on later f = absurd (cc)
    by false off later f = (off, later f)

-- a command without a part is about no client
about_nobody : (command : Command) (mark : Mark) (c : Client) (held : List GrantedSubscription) → TouchesNoRow mark → is_about command mark c held ≡ false
about_nobody (commands.Connect x d clean) Mark.Accepted c held idle = absurd idle
about_nobody (commands.Packet x (packets.Publish p)) (Mark.Taken d) c held idle = absurd idle
about_nobody command (Mark.Granted d which) c held idle = absurd idle
about_nobody command (Mark.Handled d) c held idle = absurd idle
about_nobody _ _ c held idle = refl

-- nor does it touch any client's row
none_touched : (command : Command) (mark : Mark) (x : ConnectionName) (rows : Sessions) → comes_on command ≡ Some x → TouchesNoRow mark → IsNobodys x rows →
    Untouched (record { command = command; mark = mark }) rows
none_touched command mark x [] on idle nobodys = tt
none_touched command mark x (row ∷ rows) on idle nobodys = (
  ap₂ (λ a b. a || b) (ap₂ (λ a b. a || b) (spares command x row.0 on) (ends_none command mark x row.1.connection on nobodys.0)) (about_nobody command mark row.0 row.1.state.subscriptions idle),
  none_touched command mark x rows on idle nobodys.1,
)

-- the mark of a Connect that is not accepted
full_mark : (b : Bool) → is_accepted (if b then Mark.Accepted else Mark.Full) ≡ false → TouchesNoRow (if b then Mark.Accepted else Mark.Full)
full_mark true e = absurd (cc)
full_mark false e = tt

-- the mark of any command without a client that is not an accepted Connect
nobodys_mark : (limits : Limits) (state : State) (command : Command) (x : ConnectionName) → comes_on command ≡ Some x → owner_in x state.sessions ≡ None →
    is_accepted (mark_in limits state command) ≡ false → TouchesNoRow (mark_in limits state command)
nobodys_mark limits state (commands.Packet y packet) x on none e =
    let same : y ≡ x = cc in
    subst (λ o. TouchesNoRow (packet_mark_in limits state packet o)) (sym (ap (λ n. owner_in n state.sessions) same ∙ none)) tt
nobodys_mark limits state (commands.Connect y c clean) x on none e =
    let same : y ≡ x = cc in
    let here : owner_in y state.sessions ≡ None = ap (λ n. owner_in n state.sessions) same ∙ none in
    subst (λ o. TouchesNoRow (connect_mark_in limits state c o)) (sym here)
    (full_mark (is_some (session_in c state.sessions) || nat_lt (length state.sessions) limits.sessions)
    (ap (λ o. is_accepted (connect_mark_in limits state c o)) (sym here) ∙ e))
nobodys_mark limits state (commands.Lost y) x on none e = tt
nobodys_mark limits state (commands.Start ballot) x on none e = absurd (cc)
nobodys_mark limits state (commands.Expel c) x on none e = absurd (cc)

-- every row stays
pub nobody_stays : (limits : Limits) (later : ℕ) (state : State) (command : Command) (x : ConnectionName) → comes_on command ≡ Some x →
    owner_in x state.sessions ≡ None → is_accepted (mark_in limits state command) ≡ false → (step limits later state command).0.sessions ≡ state.sessions
nobody_stays limits later state command x on none e =
    only_left (window_after later command state.window) (place_in limits state command) state.retained state.sessions command (mark_in limits state command) e
    ∙ left_untouched (window_after later command state.window) (place_in limits state command) state.retained state.sessions
    (none_touched command (mark_in limits state command) x state.sessions on (nobodys_mark limits state command x on none e) (nobody_owns x state.sessions none))
