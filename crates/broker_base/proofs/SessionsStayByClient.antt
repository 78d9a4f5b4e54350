-- A step keeps the sessions in the order of their clients' bytes, each client once.
use Rattle.std.proofs.Common.{◌≡◌, ℕ, Option, Some, None, [], ◌∷◌, refl, ap}
use Rattle.std.specs.declared.cmp.Ordering.{Ordering}
use Rattle.std.specs.declared.cmp.Ordering.TheVariants.{Less, Equal, Greater}
use Rattle.std.specs.Ordering.{match_ordering}
use Rattle.std.specs.List.{AllByRecursion}
use Rattle.std.specs.List.Sorted.{IsStrictlySortedBy}
use Rattle.std.specs.Map.{keys_of}
use Rattle.std.proofs.lemmas.Cmp.{nat_list_cmp_total}
use Rattle.retained.specs.Retained.{RetainedTopics}
use Rattle.broker_spec.specs.Place.{Client, by_bytes, Mark, Place}
use Rattle.broker_base.specs.ClientSession.{ClientSession}
use Rattle.broker_base.specs.SessionStep.{session_connected}
use Rattle.broker_base.specs.State.{Sessions, keyed, session_in, put_session}
use Rattle.broker_base.specs.Step.{session_after, sessions_left, sessions_with}
use Rattle.broker_base.specs.StateTheorems.{AreByClient}
use Rattle.broker_spec.specs.declared.command.Command.{Command}
use Rattle.broker_spec.specs.declared.command.Command.TheVariants as commands
use Rattle.broker_spec.proofs.ClientsInOrder.{greater_turned}

-- the client comes before each of these by its bytes
abbrev pub ComesBefore : Client → Sessions → Type 0
ComesBefore c rows = AllByRecursion (λ d. by_bytes c d ≡ Less) (keys_of rows)

pub before_more : (b c : Client) (rows : Sessions) → by_bytes b c ≡ Less → ComesBefore c rows → ComesBefore b rows
before_more b c [] less h = tt
before_more b c (row ∷ rows) less h = (nat_list_cmp_total.trans b c row.0 less h.0, before_more b c rows less h.1)

before_keyed : (b c : Client) (o : Option ClientSession) (rows : Sessions) → by_bytes b c ≡ Less → ComesBefore b rows → ComesBefore b (keyed c o rows)
before_keyed b c None rows less h = h
before_keyed b c (Some kept) rows less h = (less, h)

pub before_left : (b : Client) (w : ℕ) (place : Place) (content : RetainedTopics) (rows : Sessions) → ComesBefore b rows → ComesBefore b (sessions_left w place content rows)
before_left b w place content [] h = tt
before_left b w place content (row ∷ rows) h =
    before_keyed b row.0 (session_after w place content row.0 row.1) (sessions_left w place content rows) h.0 (before_left b w place content rows h.1)

keyed_by_client : (c : Client) (o : Option ClientSession) (rows : Sessions) → ComesBefore c rows → AreByClient rows → AreByClient (keyed c o rows)
unfolding IsStrictlySortedBy
keyed_by_client c None rows h k = k
keyed_by_client c (Some kept) rows h k = (h, k)

pub left_by_client : (w : ℕ) (place : Place) (content : RetainedTopics) (rows : Sessions) → AreByClient rows → AreByClient (sessions_left w place content rows)
unfolding IsStrictlySortedBy
left_by_client w place content [] h = tt
left_by_client w place content (row ∷ rows) h =
    keyed_by_client row.0 (session_after w place content row.0 row.1) (sessions_left w place content rows)
    (before_left row.0 w place content rows h.0) (left_by_client w place content rows h.1)

before_put : (b c : Client) (kept : ClientSession) (rows : Sessions) → by_bytes b c ≡ Less → ComesBefore b rows → ComesBefore b (put_session c kept rows)
before_put b c kept [] less h = (less, tt)
before_put b c kept (row ∷ rows) less h = by (by_bytes c row.0) (before_put b c kept rows less h.1)
  where
    by : (o : Ordering) → ComesBefore b (put_session c kept rows) → ComesBefore b (match_ordering o ((c, kept) ∷ row ∷ rows) ((row.0, kept) ∷ rows) (row ∷ put_session c kept rows))
    by Less more = (less, h)
    by Equal more = h
    by Greater more = (h.0, more)

pub put_by_client : (c : Client) (kept : ClientSession) (rows : Sessions) → AreByClient rows → AreByClient (put_session c kept rows)
unfolding IsStrictlySortedBy
put_by_client c kept [] h = (tt, tt)
put_by_client c kept (row ∷ rows) h = by (by_bytes c row.0) refl (put_by_client c kept rows h.1)
  where
    by : (o : Ordering) → by_bytes c row.0 ≡ o → AreByClient (put_session c kept rows) →
        AreByClient (match_ordering o ((c, kept) ∷ row ∷ rows) ((row.0, kept) ∷ rows) (row ∷ put_session c kept rows))
    by Less e more = ((e, before_more c row.0 rows e h.0), h)
    by Equal e more = h
    by Greater e more = (before_put row.0 c kept rows (greater_turned c row.0 e) h.0, more)

pub stays_by_client : (w : ℕ) (place : Place) (content : RetainedTopics) (rows : Sessions) (command : Command) (mark : Mark) → AreByClient rows →
    AreByClient (sessions_with w place content rows command mark)
unfolding IsStrictlySortedBy
stays_by_client w place content rows (commands.Connect x c clean) Mark.Accepted h =
    put_by_client c (session_connected w (x, clean) (session_in c rows)) (sessions_left w place content rows) (left_by_client w place content rows h)
stays_by_client w place content rows command mark h = left_by_client w place content rows h

-- a client before all others comes first
pub put_first : (c : Client) (kept : ClientSession) (rows : Sessions) → ComesBefore c rows → put_session c kept rows ≡ (c, kept) ∷ rows
put_first c kept [] h = refl
put_first c kept (row ∷ rows) h = ap (λ o. match_ordering o ((c, kept) ∷ row ∷ rows) ((row.0, kept) ∷ rows) (row ∷ put_session c kept rows)) h.0
