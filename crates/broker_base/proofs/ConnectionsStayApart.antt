-- A step keeps a connection that of one session at most.
use Rattle.std.proofs.Common.{◌≡◌, ℕ, Bool, true, false, ◌||◌, if◌then◌else◌, Option, Some, None, [], ◌∷◌, refl, ap, ◌∙◌, sym, subst}
use Rattle.std.specs.declared.cmp.Ordering.{Ordering}
use Rattle.std.specs.declared.cmp.Ordering.TheVariants.{Less, Equal, Greater}
use Rattle.std.specs.Ordering.{is_eq, match_ordering}
use Rattle.retained.specs.Retained.{RetainedTopics}
use Rattle.broker_spec.specs.Connection.{ConnectionName, same_connection}
use Rattle.broker_spec.specs.Place.{Client, by_bytes, same_client, Mark, Place, Limits, only_if}
use Rattle.broker_spec.specs.Sessions.{accepts, any_connection}
use Rattle.broker_base.specs.ClientSession.{ClientSession}
use Rattle.broker_base.specs.SessionStep.{session_anew, session_resumed, session_connected}
use Rattle.broker_base.specs.State.{Sessions, State, keyed, session_in, put_session, owner_in}
use Rattle.broker_base.specs.Decisions.{connect_mark_in, mark_in}
use Rattle.broker_base.specs.Step.{session_after, sessions_left, sessions_with}
use Rattle.broker_base.specs.StateTheorems.{AreByClient, IsNobodys, ConnectionsAreApart}
use Rattle.broker_spec.specs.declared.command.Command.{Command}
use Rattle.broker_spec.specs.declared.command.Command.TheVariants as commands
use Rattle.std.specs.List.Sorted.{IsStrictlySortedBy}
use Rattle.broker_base.proofs.SessionsStayByClient.{ComesBefore, before_more, before_left, put_first}
use Rattle.broker_spec.proofs.ClientsInOrder.{equal_is}
use Rattle.broker_base.proofs.ConnectionsOfSessions.{same_turned, nobodys_left, nobodys_put, OnOld, old_after, apart_keyed}
use Rattle.broker_base.proofs.NoneOpensApart.{NoneOpens, nobodys_kept, apart_left}

-- ---- an accepted Connect

none_opens : (x : ConnectionName) (c : Client) (clean : Bool) (place : Place) (rows : Sessions) → ((d : Client) → accepts place.command place.mark d ≡ only_if (same_client c d) (Some (x, clean))) →
    ComesBefore c rows → NoneOpens place rows
none_opens x c clean place [] is h = tt
none_opens x c clean place (row ∷ rows) is h =
    (is row.0 ∙ ap (λ o. only_if (is_eq o) (Some (x, clean))) h.0, none_opens x c clean place rows is h.1)

other_opens : (x y : ConnectionName) (clean b : Bool) (opened : Option (ConnectionName × Bool)) (a : ConnectionName × Bool) → opened ≡ only_if b (Some (x, clean)) → opened ≡ Some a → same_connection y x ≡ false →
    same_connection y a.0 ≡ false
other_opens x y clean true opened a is e h = ap (same_connection y) (ap_first (sym e ∙ is)) ∙ h
  where
    ap_first : Some a ≡ Some (x, clean) → a.0 ≡ x
    ap_first f = cc
other_opens x y clean false opened a is e h = absurd (let f : None ≡ Some a = sym is ∙ e in cc)

pub apart_put : (x : ConnectionName) (c : Client) (clean : Bool) (kept : ClientSession) (w : ℕ) (place : Place) (content : RetainedTopics) (rows : Sessions) →
    ((d : Client) → accepts place.command place.mark d ≡ only_if (same_client c d) (Some (x, clean))) → kept.connection ≡ Some x →
    AreByClient rows → ConnectionsAreApart rows → IsNobodys x rows → ConnectionsAreApart (put_session c kept (sessions_left w place content rows))
unfolding IsStrictlySortedBy
apart_put x c clean kept w place content [] is on by_client apart nobodys = (λ y e. tt, tt)
apart_put x c clean kept w place content (row ∷ rows) is on by_client apart nobodys =
    by (by_bytes c row.0) refl (apart_put x c clean kept w place content rows is on by_client.1 apart.1 nobodys.1)
  where
    own : (y : ConnectionName) → kept.connection ≡ Some y → x ≡ y
    own y e = name_same (sym on ∙ e)
      where
        name_same : Some x ≡ Some y → x ≡ y
        name_same f = cc

    first : (others : Sessions) → ComesBefore c others → ConnectionsAreApart others → IsNobodys x others → ConnectionsAreApart (put_session c kept (sessions_left w place content others))
    first others before others_apart others_nobodys =
        subst ConnectionsAreApart (sym (put_first c kept (sessions_left w place content others) (before_left c w place content others before))) (
          λ y e. subst (λ (z : ConnectionName). IsNobodys z (sessions_left w place content others)) (own y e)
              (nobodys_kept x w place content others (none_opens x c clean place others is before) others_nobodys),
          apart_left w place content others (none_opens x c clean place others is before) others_apart,
        )

    replaced : by_bytes c row.0 ≡ Equal → (o : Option ClientSession) → ComesBefore c rows → ConnectionsAreApart (put_session c kept (sessions_left w place content rows)) →
        ConnectionsAreApart (put_session c kept (keyed row.0 o (sessions_left w place content rows)))
    replaced e None before k = k
    replaced e (Some other) before k =
        subst (λ (o : Ordering). ConnectionsAreApart (match_ordering o ((c, kept) ∷ (row.0, other) ∷ sessions_left w place content rows) ((row.0, kept) ∷ sessions_left w place content rows) ((row.0, other) ∷ put_session c kept (sessions_left w place content rows)))) (sym e)
        (subst ConnectionsAreApart (put_first c kept (sessions_left w place content rows) (before_left c w place content rows before)) k)

    after : by_bytes c row.0 ≡ Greater → (o : Option ClientSession) → OnOld row.1.connection o → ConnectionsAreApart (put_session c kept (sessions_left w place content rows)) →
        ConnectionsAreApart (put_session c kept (keyed row.0 o (sessions_left w place content rows)))
    after e None old k = k
    after e (Some other) old k =
        subst (λ (o : Ordering). ConnectionsAreApart (match_ordering o ((c, kept) ∷ (row.0, other) ∷ sessions_left w place content rows) ((row.0, kept) ∷ sessions_left w place content rows) ((row.0, other) ∷ put_session c kept (sessions_left w place content rows)))) (sym e)
        (apart_keyed row.1.connection row.0 (Some other) (put_session c kept (sessions_left w place content rows)) old
        (λ y on_y. let apart_y : same_connection y x ≡ false = same_turned y x ∙ sym (ap (any_connection (same_connection x)) on_y) ∙ nobodys.0 in
        nobodys_put y c kept (sessions_left w place content rows) (ap (any_connection (same_connection y)) on ∙ apart_y)
        (nobodys_left y w place content rows (λ d a opens. other_opens x y clean (same_client c d) (accepts place.command place.mark d) a (is d) opens apart_y) (apart.0 y on_y)))
        k)

    by : (o : Ordering) → by_bytes c row.0 ≡ o → ConnectionsAreApart (put_session c kept (sessions_left w place content rows)) →
        ConnectionsAreApart (put_session c kept (keyed row.0 (session_after w place content row.0 row.1) (sessions_left w place content rows)))
    by Less e more = first (row ∷ rows) (e, before_more c row.0 rows e by_client.0) apart nobodys
    by Equal e more = replaced e (session_after w place content row.0 row.1) (subst (λ (b : Client). ComesBefore b rows) (sym (equal_is c row.0 e)) by_client.0) more
    by Greater e more = after e (session_after w place content row.0 row.1)
        (old_after w place content row.0 row.1 (is row.0 ∙ ap (λ o. only_if (is_eq o) (Some (x, clean))) e)) more

-- ---- every command

owner_none : (x : ConnectionName) (rows : Sessions) → owner_in x rows ≡ None → IsNobodys x rows
owner_none x [] e = tt
owner_none x (row ∷ rows) e =
    elim (any_connection (same_connection x) row.1.connection) as (λ (b : Bool). any_connection (same_connection x) row.1.connection ≡ b → (if b then Some row else owner_in x rows) ≡ None → IsNobodys x (row ∷ rows)) [
      | true ↦ λ same f. absurd (cc)
      | false ↦ λ same f. (same, owner_none x rows f)
    ] refl e

accepted_none : (limits : Limits) (state : State) (c : Client) (owner : Option (Client × ClientSession)) → Mark.Accepted ≡ connect_mark_in limits state c owner → owner ≡ None
accepted_none limits state c None e = refl
accepted_none limits state c (Some row) e = absurd (cc)

on_opened : (w : ℕ) (opened : ConnectionName × Bool) (old : Option ClientSession) → (session_connected w opened old).connection ≡ Some opened.0
on_opened w opened None = refl
on_opened w opened (Some old) =
    elim (opened.1 || old.clean) as (λ (b : Bool). (if b then session_anew opened else session_resumed w opened old).connection ≡ Some opened.0) [ true ↦ refl | false ↦ refl ]

all_none : (place : Place) (rows : Sessions) → ((c : Client) → accepts place.command place.mark c ≡ None) → NoneOpens place rows
all_none place [] none = tt
all_none place (row ∷ rows) none = (none row.0, all_none place rows none)

pub stays_apart : (limits : Limits) (state : State) (w : ℕ) (command : Command) (mark : Mark) → mark ≡ mark_in limits state command → AreByClient state.sessions → ConnectionsAreApart state.sessions →
    ConnectionsAreApart (sessions_with w (record { command = command; mark = mark }) state.retained state.sessions command mark)
stays_apart limits state w (commands.Connect x c clean) Mark.Accepted e by_client apart =
    apart_put x c clean (session_connected w (x, clean) (session_in c state.sessions)) w
    (record { command = commands.Connect x c clean; mark = Mark.Accepted }) state.retained state.sessions (λ d. refl)
    (on_opened w (x, clean) (session_in c state.sessions))
    by_client apart (owner_none x state.sessions (accepted_none limits state c (owner_in x state.sessions) e))
stays_apart limits state w command mark e by_client apart =
    apart_left w (record { command = command; mark = mark }) state.retained state.sessions (all_none (record { command = command; mark = mark }) state.sessions (λ c. refl)) apart
