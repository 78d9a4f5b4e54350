-- An index and a map of owners that are made again from the sessions are in step with them.
use Rattle.std.proofs.Common.{◌≡◌, ℕ, Bool, true, false, ◌&&◌, if◌then◌else◌, List, [], ◌∷◌, Option, Some, None, refl, ap, ap₂, ◌∙◌, sym, subst}
use Rattle.std.specs.Prelude.{bytes_eq}
use Rattle.std.specs.List.Sorted.{IsStrictlySortedBy}
use Rattle.std.specs.Cmp.Lexicographic.{bytes_decides}
use Rattle.session_base.specs.Subscriptions.{GrantedSubscription}
use Rattle.session_base.specs.KeepingTheorems.{AreFiltersApart}
use Rattle.broker_spec.specs.Connection.{ConnectionName, same_connection}
use Rattle.broker_spec.specs.Place.{Client, same_client}
use Rattle.broker_spec.specs.Sessions.{any_connection}
use Rattle.broker_base.specs.State.{Sessions, session_in}
use Rattle.broker_base.specs.StateTheorems.{AllSound, AreByClient, ConnectionsAreApart}
use Rattle.broker_spec.proofs.ClientsInOrder.{same_is}
use Rattle.broker_base.proofs.ConnectionsOfSessions.{same_turned}
use Rattle.broker_base.proofs.SessionsStayByClient.{ComesBefore}
use Rattle.subs_base.specs.Content.{Content, no_subscriptions, with_row}
use Rattle.broker_base.specs.rows.Owners.{Owners, owners_in, no_owners, owned_by, all_owned}
use Rattle.broker_base.specs.rows.Indexed.{subscribed_in, all_set, all_subscribed}
use Rattle.broker_spec.specs.Subscriptions.{qos_asked}
use Rattle.broker_base.specs.rows.OwnerTheorems.{OwnersMadeAnew}
use Rattle.broker_base.specs.rows.IndexTheorems.{IndexMadeAnew}
use Rattle.broker_base.proofs.of_rows.OwnersRow.{on_is}
use Rattle.broker_base.proofs.of_rows.ConnectSteps.{no_session}
use Rattle.broker_base.proofs.of_rows.publications.GreatestGranted.{none_held}
use Rattle.broker_base.proofs.of_rows.maps.FiltersHeld.{bytes_back}
use Rattle.broker_base.proofs.of_rows.maps.OwnersStay.{owners_row}
use Rattle.broker_base.proofs.of_rows.maps.OwnersLeave.{no_owner}
use Rattle.broker_base.proofs.of_rows.maps.ContentOfStart.{same_bytes}

-- the first of two that is there
abbrev first_of : {A : Type 0} → Option A → Option A → Option A
first_of (Some a) other = Some a
first_of None other = other

-- before nothing it is the one
first_alone : {A : Type 0} (o : Option A) → first_of o None ≡ o
first_alone (Some a) = refl
first_alone None = refl

-- ---- the index

-- the content if one client's filters, each held once, are set
set_at : (d : Client) (held : List GrantedSubscription) (content : Content) (c f : List ℕ) → AreFiltersApart held →
    all_set d held content c f ≡ (if bytes_eq d c then first_of (qos_asked f held) (content c f) else content c f)
set_at d [] content c f apart = by (bytes_eq d c)
  where
    by : (b : Bool) → content c f ≡ (if b then content c f else content c f)
    by true = refl
    by false = refl
set_at d (new ∷ more) content c f apart =
    set_at d more (with_row content d new.0 new.1) c f apart.1 ∙ by (bytes_eq d c) (bytes_eq f new.0) refl (bytes_back new.0 f)
  where
    -- the filter is held once
    once : bytes_eq f new.0 ≡ true → qos_asked f more ≡ None
    once e = ap (λ x. qos_asked x more) ((bytes_decides f new.0).0 e) ∙ none_held new.0 more apart.0

    by : (mine same : Bool) → bytes_eq f new.0 ≡ same → bytes_eq new.0 f ≡ bytes_eq f new.0 →
        (if mine then first_of (qos_asked f more) (if mine && bytes_eq new.0 f then Some new.1 else content c f)
        else if mine && bytes_eq new.0 f then Some new.1 else content c f)
        ≡ (if mine then first_of (if same then Some new.1 else qos_asked f more) (content c f) else content c f)
    by true true e back =
        ap₂ (λ b o. first_of o (if b then Some new.1 else content c f)) (back ∙ e) (once e)
    by true false e back = ap (λ b. first_of (qos_asked f more) (if b then Some new.1 else content c f)) (back ∙ e)
    by false same e back = refl

-- the content if all sessions' filters are set
told_at : (rows : Sessions) (content : Content) (c f : List ℕ) → AreByClient rows → AllSound rows →
    all_subscribed rows content c f ≡ first_of (subscribed_in f (session_in c rows)) (content c f)
unfolding IsStrictlySortedBy
told_at [] content c f by_client sound = refl
told_at (row ∷ rows) content c f by_client sound =
    told_at rows (all_set row.0 row.1.state.subscriptions content) c f by_client.1 sound.1
    ∙ ap (first_of (subscribed_in f (session_in c rows))) (set_at row.0 row.1.state.subscriptions content c f sound.0.filters)
    ∙ by (same_client c row.0) refl (same_bytes c row.0)
  where
    by : (b : Bool) → same_client c row.0 ≡ b → bytes_eq row.0 c ≡ same_client c row.0 →
        first_of (subscribed_in f (session_in c rows)) (if bytes_eq row.0 c then first_of (qos_asked f row.1.state.subscriptions) (content c f) else content c f)
        ≡ first_of (subscribed_in f (if b then Some row.1 else session_in c rows)) (content c f)
    by true e same =
        ap₂ (λ o b. first_of (subscribed_in f o) (if b then first_of (qos_asked f row.1.state.subscriptions) (content c f) else content c f))
        (no_session c rows (subst (λ (z : Client). ComesBefore z rows) (sym (same_is c row.0 e)) by_client.0)) (same ∙ e)
    by false e same =
        ap (λ b. first_of (subscribed_in f (session_in c rows)) (if b then first_of (qos_asked f row.1.state.subscriptions) (content c f) else content c f)) (same ∙ e)

-- from nothing
pub index_made_anew : IndexMadeAnew
index_made_anew rows by_client sound =
    λ i c f. sym (told_at rows no_subscriptions c f by_client sound ∙ first_alone (subscribed_in f (session_in c rows))) i

-- ---- the owners

-- what one session's connection makes
owned_at : (connection : Option ConnectionName) (c : Client) (owners : Owners) (y : ConnectionName) →
    owned_by connection c owners y ≡ (if any_connection (same_connection y) connection then Some c else owners y)
owned_at None c owners y = refl
owned_at (Some x) c owners y = ap (λ b. if b then Some c else owners y) (same_turned x y)

-- what all sessions' make
all_owned_at : (rows : Sessions) (owners : Owners) (y : ConnectionName) → ConnectionsAreApart rows → all_owned rows owners y ≡ first_of (owners_in rows y) (owners y)
all_owned_at [] owners y apart = refl
all_owned_at (row ∷ rows) owners y apart =
    all_owned_at rows (owned_by row.1.connection row.0 owners) y apart.1
    ∙ ap (first_of (owners_in rows y)) (owned_at row.1.connection row.0 owners y)
    ∙ by (any_connection (same_connection y) row.1.connection) refl
    ∙ ap (λ o. first_of o (owners y)) (sym (owners_row y row rows))
  where
    by : (b : Bool) → any_connection (same_connection y) row.1.connection ≡ b →
        first_of (owners_in rows y) (if b then Some row.0 else owners y) ≡ first_of (if b then Some row.0 else owners_in rows y) (owners y)
    by true on = ap (λ o. first_of o (Some row.0)) (no_owner y rows (apart.0 y (on_is y row.1.connection on)))
    by false off = refl

-- from nothing
pub owners_made_anew : OwnersMadeAnew
owners_made_anew rows apart y = sym (all_owned_at rows no_owners y apart ∙ first_alone (owners_in rows y))
