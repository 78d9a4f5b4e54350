-- An index that holds the sessions' subscriptions grants a topic the rows of those that match it.
use Rattle.std.proofs.Common.{◌≡◌, ℕ, ◌≤◌, true, false, cond, List, [], ◌∷◌, ◌++◌, Option, Some, None, refl, sym, ◌∙◌, ap, subst, arith, All, Contains}
use Rattle.std.specs.List.{AllByRecursion}
use Rattle.std.specs.List.Sorted.{IsStrictlySortedBy}
use Rattle.std.specs.declared.cmp.Ordering.TheVariants.{Less}
use Rattle.std.proofs.lemmas.List.Elements.{All-nil, All-cons, Contains-append_right}
use Rattle.topics.specs.Matching.{is_match}
use Rattle.topics.proofs.MatchingIsTested.{tested}
use Rattle.packet_base.specs.declared.qos.QoS.{QoS}
use Rattle.packet_base.specs.QoS.{qos_number}
use Rattle.broker_spec.specs.Place.{Client, by_bytes, same_client}
use Rattle.session_base.specs.Subscriptions.{granted_qos}
use Rattle.broker_base.specs.ClientSession.{ClientSession}
use Rattle.broker_base.specs.State.{Sessions, session_in}
use Rattle.broker_base.proofs.SessionsStayByClient.{ComesBefore}
use Rattle.broker_base.specs.StateTheorems.{AreByClient}
use Rattle.broker_spec.proofs.ClientsInOrder.{same_is}
use Rattle.subs_base.specs.Content.{Content}
use Rattle.subs_base.specs.Granted.{Row, clients_of_rows, IsGreatest, IsGranted, row_of}
use Rattle.subs_base.proofs.GrantsOneList.{one_list}
use Rattle.broker_base.specs.rows.Published.{granted_rows}
use Rattle.broker_base.specs.rows.Indexed.{subscribed_in, content_in}
use Rattle.session_base.specs.KeepingTheorems.{AreFiltersApart}
use Rattle.broker_base.specs.StateTheorems.{AllSound}
use Rattle.broker_base.proofs.of_rows.FindsEach.{Finds, finds_each}
use Rattle.broker_base.proofs.of_rows.publications.GreatestGranted.{reaches, comes}

-- ---- the rows rise

-- a client before all sessions comes before each granted row
below_rows : (topic : List ℕ) (c : Client) (rows : Sessions) → ComesBefore c rows → AllByRecursion (λ y. by_bytes c y ≡ Less) (clients_of_rows (granted_rows topic rows))
below_rows topic c [] before = tt
below_rows topic c (row ∷ rows) before =
    elim (granted_qos topic row.1.state.subscriptions) as (λ v. AllByRecursion (λ y. by_bytes c y ≡ Less) (clients_of_rows (row_of row.0 v ++ granted_rows topic rows))) [
      | None ↦ below_rows topic c rows before.1
      | Some q ↦ (before.0, below_rows topic c rows before.1)
    ]

-- so the granted rows rise
rising : (topic : List ℕ) (rows : Sessions) → AreByClient rows → IsStrictlySortedBy by_bytes (clients_of_rows (granted_rows topic rows))
unfolding IsStrictlySortedBy
rising topic [] by_client = tt
rising topic (row ∷ rows) by_client =
    elim (granted_qos topic row.1.state.subscriptions) as (λ v. IsStrictlySortedBy by_bytes (clients_of_rows (row_of row.0 v ++ granted_rows topic rows))) [
      | None ↦ rising topic rows by_client.1
      | Some q ↦ (below_rows topic row.0 rows by_client.0, rising topic rows by_client.1)
    ]

-- ---- each row has the greatest QoS

-- of one session that is found
is_greatest : (topic : List ℕ) (look : Client → Option ClientSession) (c : Client) (kept : ClientSession) (q : QoS) → look c ≡ Some kept → AreFiltersApart kept.state.subscriptions →
    granted_qos topic kept.state.subscriptions ≡ Some q → IsGreatest (λ client filter. subscribed_in filter (look client)) topic c q
is_greatest topic look c kept q found apart granted = record {
  asked =
      let h = comes topic kept.state.subscriptions q apart granted in
      (h.0, ap (subscribed_in h.0) found ∙ h.1, (tested h.0 topic).0 h.2);
  greatest = λ f other asked is.
      let r = reaches topic kept.state.subscriptions f other (sym (ap (subscribed_in f) found) ∙ asked) ((tested f topic).1 is) in
      let e : Some r.0 ≡ Some q = sym r.1 ∙ granted in
      let n : r.0 ≡ q = cc in
      subst (λ (p : QoS). qos_number other ≤ qos_number p) n r.2;
}

-- of all sessions, with any look-up that finds each
all_greatest : (topic : List ℕ) (look : Client → Option ClientSession) (rows : Sessions) → Finds look rows → AllSound rows →
    All (λ row. IsGreatest (λ client filter. subscribed_in filter (look client)) topic row.0 row.1) (granted_rows topic rows)
all_greatest topic look [] finds apart = All-nil (λ row. IsGreatest (λ client filter. subscribed_in filter (look client)) topic row.0 row.1)
all_greatest topic look (row ∷ rows) finds apart =
    elim (granted_qos topic row.1.state.subscriptions) as (λ v. granted_qos topic row.1.state.subscriptions ≡ v →
    All (λ row. IsGreatest (λ client filter. subscribed_in filter (look client)) topic row.0 row.1) (row_of row.0 v ++ granted_rows topic rows)) [
      | None ↦ λ e. all_greatest topic look rows finds.1 apart.1
      | Some q ↦ λ e.
          All-cons (λ row. IsGreatest (λ client filter. subscribed_in filter (look client)) topic row.0 row.1) (row.0, q) (granted_rows topic rows)
          (is_greatest topic look row.0 row.1 q finds.0 apart.0.filters e) (all_greatest topic look rows finds.1 apart.1)
    ] refl

-- ---- each client with a matching filter has a row

-- a list has its head
head_is : (x : List ℕ) (xs : List (List ℕ)) → Contains (x ∷ xs) x
head_is x xs = (0, omega arith, refl)

-- a client that asked for a matching filter is among the rows
complete : (topic : List ℕ) (rows : Sessions) (c f : List ℕ) (q : QoS) → content_in rows c f ≡ Some q → is_match f topic ≡ true → Contains (clients_of_rows (granted_rows topic rows)) c
complete topic [] c f q found is = absurd (cc)
complete topic (row ∷ rows) c f q found is =
    elim (same_client c row.0) as (λ v. same_client c row.0 ≡ v → subscribed_in f (cond v (Some row.1) (session_in c rows)) ≡ Some q → Contains (clients_of_rows (granted_rows topic (row ∷ rows))) c) [
      | true ↦ λ t s.
          let r = reaches topic row.1.state.subscriptions f q s is in
          let here : granted_rows topic (row ∷ rows) ≡ (row.0, r.0) ∷ granted_rows topic rows = ap (λ v. row_of row.0 v ++ granted_rows topic rows) r.1 in
          subst (λ (granted : List Row). Contains (clients_of_rows granted) c) (sym here)
          (subst (λ (x : List ℕ). Contains (row.0 ∷ clients_of_rows (granted_rows topic rows)) x) (sym (same_is c row.0 t)) (head_is row.0 (clients_of_rows (granted_rows topic rows))))
      | false ↦ λ t s.
          elim (granted_qos topic row.1.state.subscriptions) as (λ v. Contains (clients_of_rows (row_of row.0 v ++ granted_rows topic rows)) c) [
            | None ↦ complete topic rows c f q s is
            | Some p ↦ Contains-append_right (row.0 ∷ []) (clients_of_rows (granted_rows topic rows)) c (complete topic rows c f q s is)
          ]
    ] refl found

-- ---- what the index grants

-- the rows of the sessions that match
pub sessions_grant : (topic : List ℕ) (sessions : Sessions) → AreByClient sessions → AllSound sessions → IsGranted (content_in sessions) topic (granted_rows topic sessions)
sessions_grant topic sessions by_client apart = record {
  rising = rising topic sessions by_client;
  greatest = all_greatest topic (λ c. session_in c sessions) sessions (finds_each sessions by_client) apart;
  complete = λ c f q found is. complete topic sessions c f q found ((tested f topic).1 is);
}

-- so the rows that it grants are those, and no others
pub rows_are : (content : Content) (topic : List ℕ) (sessions : Sessions) (rows : List Row) → AreByClient sessions → AllSound sessions →
    content ≡ content_in sessions → IsGranted content topic rows → rows ≡ granted_rows topic sessions
rows_are content topic sessions rows by_client apart holds granted =
    one_list (content_in sessions) topic rows (granted_rows topic sessions)
    (subst (λ (shown : Content). IsGranted shown topic rows) holds granted) (sessions_grant topic sessions by_client apart)
