-- An index into which each session's subscriptions were put holds those of the sessions.
use Rattle.std.proofs.Common.{◌≡◌, ℕ, Bool, true, false, cond, if◌then◌else◌, List, [], ◌∷◌, Option, Some, None, refl, ap, ap₂, ◌∙◌, sym, subst}
use Rattle.std.specs.Prelude.{bytes_eq}
use Rattle.std.specs.Map.{update, update_all}
use Rattle.std.specs.List.Sorted.{IsStrictlySortedBy}
use Rattle.std.specs.Cmp.Lexicographic.{bytes_decides}
use Rattle.packet_base.specs.declared.qos.QoS.{QoS}
use Rattle.session_base.specs.Subscriptions.{GrantedSubscription}
use Rattle.session_base.specs.KeepingTheorems.{AreFiltersApart}
use Rattle.broker_spec.specs.Place.{Client, same_client}
use Rattle.broker_base.specs.ClientSession.{ClientSession}
use Rattle.broker_base.specs.State.{Sessions, session_in}
use Rattle.broker_base.specs.StateTheorems.{AllSound, AreByClient}
use Rattle.broker_spec.proofs.ClientsInOrder.{same_is}
use Rattle.broker_base.proofs.SessionsStayByClient.{ComesBefore}
use Rattle.subs_base.specs.Content.{Content, last_qos_in, no_subscriptions, with_client_filters}
use Rattle.broker_base.specs.rows.Indexed.{subscribed_in, content_in}
use Rattle.broker_spec.specs.Subscriptions.{qos_asked}
use Rattle.broker_base.proofs.of_rows.ConnectSteps.{no_session}
use Rattle.broker_base.proofs.of_rows.publications.GreatestGranted.{none_held}
use Rattle.broker_base.proofs.of_rows.maps.FiltersHeld.{bytes_back}
use Rattle.broker_base.proofs.of_rows.maps.ContentOfStart.{same_bytes}
use Rattle.broker.specs.Inside.{all_put}

-- the first of two that is there
abbrev first_of : {A : Type 0} → Option A → Option A → Option A
first_of (Some a) other = Some a
first_of None other = other

-- each filter is subscribed once
last_once : (subscriptions : List GrantedSubscription) (g : List ℕ → Option QoS) (f : List ℕ) → AreFiltersApart subscriptions → update_all bytes_eq g subscriptions f ≡ first_of (qos_asked f subscriptions) (g f)
last_once [] g f apart = refl
last_once (new ∷ more) g f apart = last_once more (update bytes_eq g new.0 (Some new.1)) f apart.1 ∙ by (bytes_eq f new.0) refl
  where
    once : bytes_eq f new.0 ≡ true → qos_asked f more ≡ None
    once e = ap (λ x. qos_asked x more) ((bytes_decides f new.0).0 e) ∙ none_held new.0 more apart.0

    by : (same : Bool) → bytes_eq f new.0 ≡ same →
        first_of (qos_asked f more) (cond (bytes_eq new.0 f) (Some new.1) (g f)) ≡ first_of (cond same (Some new.1) (qos_asked f more)) (g f)
    by true e = ap₂ (λ b o. first_of o (cond b (Some new.1) (g f))) (bytes_back new.0 f ∙ e) (once e)
    by false e = ap (λ b. first_of (qos_asked f more) (cond b (Some new.1) (g f))) (bytes_back new.0 f ∙ e)

last_is : (subscriptions : List GrantedSubscription) (f : List ℕ) → AreFiltersApart subscriptions → last_qos_in subscriptions f ≡ qos_asked f subscriptions
last_is subscriptions f apart = last_once subscriptions (λ _. None) f apart ∙ alone (qos_asked f subscriptions)
  where
    alone : (o : Option QoS) → first_of o None ≡ o
    alone (Some q) = refl
    alone None = refl

-- of the session that there may be, or what was there
abbrev pick : List ℕ → Option ClientSession → Option QoS → Option QoS
pick f (Some kept) o = qos_asked f kept.state.subscriptions
pick f None o = o

put_at : (rows : Sessions) (content : Content) (c f : List ℕ) → AreByClient rows → AllSound rows →
    all_put rows content c f ≡ pick f (session_in c rows) (content c f)
unfolding IsStrictlySortedBy
put_at [] content c f by_client sound = refl
put_at (row ∷ rows) content c f by_client sound =
    put_at rows (with_client_filters content row.0 (last_qos_in row.1.state.subscriptions)) c f by_client.1 sound.1
    ∙ by (same_client c row.0) refl (same_bytes c row.0)
  where
    by : (b : Bool) → same_client c row.0 ≡ b → bytes_eq row.0 c ≡ same_client c row.0 →
        pick f (session_in c rows) (cond (bytes_eq row.0 c) (last_qos_in row.1.state.subscriptions f) (content c f))
        ≡ pick f (if b then Some row.1 else session_in c rows) (content c f)
    by true e same =
        ap₂ (λ o b. pick f o (cond b (last_qos_in row.1.state.subscriptions f) (content c f)))
        (no_session c rows (subst (λ (z : Client). ComesBefore z rows) (sym (same_is c row.0 e)) by_client.0)) (same ∙ e)
        ∙ last_is row.1.state.subscriptions f sound.0.filters
    by false e same =
        ap (λ b. pick f (session_in c rows) (cond b (last_qos_in row.1.state.subscriptions f) (content c f))) (same ∙ e)

pub put_anew : (rows : Sessions) → AreByClient rows → AllSound rows → all_put rows no_subscriptions ≡ content_in rows
put_anew rows by_client sound = λ i c f. go c f i
  where
    go : (c f : List ℕ) → all_put rows no_subscriptions c f ≡ content_in rows c f
    go c f = put_at rows no_subscriptions c f by_client sound ∙ ends (session_in c rows)
      where
        ends : (o : Option ClientSession) → pick f o None ≡ subscribed_in f o
        ends (Some kept) = refl
        ends None = refl
