-- In rows by client, each once, the look-up finds each row's session.
use Rattle.std.proofs.Common.{◌≡◌, [], ◌∷◌, Option, Some, if◌then◌else◌, ap, ◌∙◌}
use Rattle.std.specs.Ordering.{is_eq}
use Rattle.std.specs.List.Sorted.{IsStrictlySortedBy}
use Rattle.broker_spec.specs.Place.{Client}
use Rattle.broker_base.specs.ClientSession.{ClientSession}
use Rattle.broker_base.specs.State.{Sessions, session_in}
use Rattle.broker_base.proofs.SessionsStayByClient.{ComesBefore}
use Rattle.broker_base.specs.StateTheorems.{AreByClient}
use Rattle.broker_spec.proofs.ClientsInOrder.{same_self, less_turned}

-- this look-up finds each row's session
abbrev pub Finds : (Client → Option ClientSession) → Sessions → Type 0
Finds look (row ∷ rows) = (look row.0 ≡ Some row.1) × Finds look rows
Finds look [] = Unit {0}

-- also after one more row, of an earlier client
finds_after : (first : Client × ClientSession) (all rows : Sessions) → ComesBefore first.0 rows → Finds (λ c. session_in c all) rows → Finds (λ c. session_in c (first ∷ all)) rows
finds_after first all [] before finds = tt
finds_after first all (row ∷ rows) before finds = (
  ap (λ o. if is_eq o then Some first.1 else session_in row.0 all) (less_turned first.0 row.0 before.0) ∙ finds.0,
  finds_after first all rows before.1 finds.1,
)

-- the look-up in the rows themselves
pub finds_each : (rows : Sessions) → AreByClient rows → Finds (λ c. session_in c rows) rows
unfolding IsStrictlySortedBy
finds_each [] by_client = tt
finds_each (row ∷ rows) by_client = (
  ap (λ b. if b then Some row.1 else session_in row.0 rows) (same_self row.0),
  finds_after row rows rows by_client.0 (finds_each rows by_client.1),
)
