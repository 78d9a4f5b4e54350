-- In rows by client whose connections are distinct, each row may be where it is, and the other way
-- round.
use Rattle.std.proofs.Common.{◌≡◌, ℕ, Bool, true, false, not, ◌&&◌, if◌then◌else◌, Option, Some, None, List, [], ◌∷◌, ◌++◌, refl, sym, ap, ◌∙◌}
use Rattle.std.specs.Prelude.{is_some}
use Rattle.std.specs.declared.cmp.Ordering.{Ordering}
use Rattle.std.specs.declared.cmp.Ordering.TheVariants.{Less, Equal, Greater}
use Rattle.std.specs.Ordering.{is_lt}
use Rattle.std.specs.Map.{keys_of}
use Rattle.std.specs.List.{AllByRecursion}
use Rattle.std.specs.List.Sorted.{IsStrictlySortedBy}
use Rattle.std.proofs.lemmas.Cmp.{nat_list_cmp_total}
use Rattle.session_base.specs.Counted.{last_of}
use Rattle.session_base.proofs.Counted.{AllFollow}
use Rattle.session_base.proofs.Follows.{last_is}
use Rattle.broker_spec.specs.Connection.{ConnectionName, same_connection}
use Rattle.broker_spec.specs.Place.{Client, by_bytes}
use Rattle.broker_spec.specs.Sessions.{any_connection}
use Rattle.broker_base.specs.ClientSession.{ClientSession}
use Rattle.broker_base.specs.State.{Sessions, owner_in}
use Rattle.broker_base.specs.StateTheorems.{IsNobodys, ConnectionsAreApart, AreByClient}
use Rattle.broker_base.proofs.ConnectionsOfSessions.{same_turned}
use Rattle.broker_base.specs.form.Follows.{is_after, is_owned, row_follows}
use Rattle.lists.proofs.Tables.{Table, Rises}

both : (a b : Bool) → (a && b) ≡ true → (a ≡ true) × (b ≡ true)
both true b e = (refl, e)
both false b e = absurd (cc)

off : (b : Bool) → not b ≡ true → b ≡ false
off true e = absurd (cc)
off false e = refl

less_of : (o : Ordering) → is_lt o ≡ true → o ≡ Less
less_of Less e = refl
less_of Equal e = absurd (cc)
less_of Greater e = absurd (cc)

-- ---- keys

-- each key comes after the last one before it
abbrev pub After : {X : Type 0} → Table X → Table X → Type 0
After front [] = Unit {0}
After front (row ∷ rows) = (is_after (last_of front) row.0 ≡ true) × After (front ++ row ∷ []) rows

abbrev MayBegin : {X : Type 0} → Table X → Table X → Type 0
MayBegin front (row ∷ rows) = is_after (last_of front) row.0 ≡ true
MayBegin front [] = Unit {0}

after_from : {X : Type 0} (front rows : Table X) → MayBegin front rows → Rises rows → After front rows
unfolding IsStrictlySortedBy
after_from front [] first h = tt
after_from {X} front (row ∷ rows) first h = (first, after_from (front ++ row ∷ []) rows (next rows h.0) h.1)
  where
    next : (rows : Table X) → AllByRecursion (λ other. by_bytes row.0 other ≡ Less) (keys_of rows) → MayBegin (front ++ row ∷ []) rows
    next [] h = tt
    next (other ∷ rows) h = ap (λ (o : Option (List ℕ × X)). is_after o other.0) (last_is None front row) ∙ ap is_lt h.0

pub rows_after : {X : Type 0} (rows : Table X) → Rises rows → After [] rows
rows_after [] h = tt
rows_after (row ∷ rows) h = after_from [] (row ∷ rows) refl h

all_above : {X : Type 0} (last : List ℕ × X) (front rows : Table X) → last_of front ≡ Some last → After front rows →
    AllByRecursion (λ key. by_bytes last.0 key ≡ Less) (keys_of rows)
all_above last front [] e h = tt
all_above {X} last front (row ∷ rows) e h =
    let here = less_of (by_bytes last.0 row.0) (ap (λ (o : Option (List ℕ × X)). is_after o row.0) (sym e) ∙ h.0) in
    (here, further rows (all_above row (front ++ row ∷ []) rows (last_is None front row) h.1) here)
  where
    further : (rows : Table X) → AllByRecursion (λ key. by_bytes row.0 key ≡ Less) (keys_of rows) → by_bytes last.0 row.0 ≡ Less →
        AllByRecursion (λ key. by_bytes last.0 key ≡ Less) (keys_of rows)
    further [] h e = tt
    further (other ∷ rows) h e = (nat_list_cmp_total.trans last.0 row.0 other.0 e h.0, further rows h.1 e)

rises_from : {X : Type 0} (front rows : Table X) → After front rows → Rises rows
unfolding IsStrictlySortedBy
rises_from front [] h = tt
rises_from front (row ∷ rows) h = (all_above row (front ++ row ∷ []) rows (last_is None front row) h.1, rises_from (front ++ row ∷ []) rows h.1)

pub rows_rise : {X : Type 0} (rows : Table X) → After [] rows → Rises rows
rows_rise rows h = rises_from [] rows h

-- ---- connections

-- none of these owns the connection
abbrev NotOwned : Sessions → Option ConnectionName → Type 0
NotOwned rows connection = is_owned rows connection ≡ false

owned_after : (x : ConnectionName) (front : Sessions) (one : Client × ClientSession) → is_some (owner_in x front) ≡ false →
    any_connection (same_connection x) one.1.connection ≡ false → is_some (owner_in x (front ++ one ∷ [])) ≡ false
owned_after x [] one e f = rw f refl
owned_after x (row ∷ front) one e f =
    elim (any_connection (same_connection x) row.1.connection) as (λ (b : Bool). is_some (if b then Some row else owner_in x front) ≡ false →
    is_some (if b then Some row else owner_in x (front ++ one ∷ [])) ≡ false) [
      | true ↦ λ e. e
      | false ↦ λ e. owned_after x front one e f
    ] e

-- none of these has a connection that one in front has
abbrev NoneOwned : Sessions → Sessions → Type 0
NoneOwned front rows = AllByRecursion (λ (row : Client × ClientSession). NotOwned front row.1.connection) rows

none_owned : (front : Sessions) (one : Client × ClientSession) (rows : Sessions) → ((x : ConnectionName) → one.1.connection ≡ Some x → IsNobodys x rows) →
    NoneOwned front rows → NoneOwned (front ++ one ∷ []) rows
none_owned front one [] apart h = tt
none_owned front one (row ∷ rows) apart h =
    (by row.1.connection one.1.connection refl refl h.0, none_owned front one rows (λ x e. (apart x e).1) h.1)
  where
    by : (o own : Option ConnectionName) → row.1.connection ≡ o → one.1.connection ≡ own → NotOwned front o → NotOwned (front ++ one ∷ []) o
    by None own e f h = refl
    by (Some x) None e f h = owned_after x front one h (ap (any_connection (same_connection x)) f)
    by (Some x) (Some y) e f h =
        owned_after x front one h (ap (any_connection (same_connection x)) f ∙ same_turned x y ∙ (sym (ap (any_connection (same_connection y)) e) ∙ (apart y f).0))

rows_follow_from : (front rows : Sessions) → After front rows → ConnectionsAreApart rows → NoneOwned front rows → AllFollow row_follows front rows
rows_follow_from front [] after apart none = tt
rows_follow_from front (row ∷ rows) after apart none = (
  and_true (is_after (last_of front) row.0) (not (is_owned front row.1.connection)) after.0 (ap not none.0),
  rows_follow_from (front ++ row ∷ []) rows after.1 apart.1 (none_owned front row rows apart.0 none.1),
)
  where
    and_true : (a b : Bool) → a ≡ true → b ≡ true → (a && b) ≡ true
    and_true true b e f = f
    and_true false b e f = absurd (cc)

none_at_first : (rows : Sessions) → NoneOwned [] rows
none_at_first [] = tt
none_at_first (row ∷ rows) = (nothing row.1.connection, none_at_first rows)
  where
    nothing : (o : Option ConnectionName) → NotOwned [] o
    nothing (Some x) = refl
    nothing None = refl

pub sessions_follow : (rows : Sessions) → AreByClient rows → ConnectionsAreApart rows → AllFollow row_follows [] rows
sessions_follow rows by_client apart = rows_follow_from [] rows (rows_after rows by_client) apart (none_at_first rows)

-- ---- and the other way round

pub clients_after : (front rows : Sessions) → AllFollow row_follows front rows → After front rows
clients_after front [] h = tt
clients_after front (row ∷ rows) h = ((both (is_after (last_of front) row.0) _ h.0).0, clients_after (front ++ row ∷ []) rows h.1)

split_owned : (x : ConnectionName) (front : Sessions) (one : Client × ClientSession) → is_some (owner_in x (front ++ one ∷ [])) ≡ false →
    (is_some (owner_in x front) ≡ false) × (any_connection (same_connection x) one.1.connection ≡ false)
split_owned x [] one e =
    elim (any_connection (same_connection x) one.1.connection) as (λ (b : Bool). is_some (if b then Some one else None) ≡ false → (false ≡ false) × (b ≡ false)) [
      | true ↦ λ e. absurd (cc)
      | false ↦ λ e. (refl, refl)
    ] e
split_owned x (row ∷ front) one e =
    elim (any_connection (same_connection x) row.1.connection) as (λ (b : Bool). is_some (if b then Some row else owner_in x (front ++ one ∷ [])) ≡ false →
    (is_some (if b then Some row else owner_in x front) ≡ false) × (any_connection (same_connection x) one.1.connection ≡ false)) [
      | true ↦ λ e. absurd (cc)
      | false ↦ λ e. split_owned x front one e
    ] e

none_taken : (front rows : Sessions) → AllFollow row_follows front rows → NoneOwned front rows
none_taken front [] h = tt
none_taken front (row ∷ rows) h = (
  off (is_owned front row.1.connection) (both (is_after (last_of front) row.0) (not (is_owned front row.1.connection)) h.0).1,
  shorter rows (none_taken (front ++ row ∷ []) rows h.1),
)
  where
    less : (o : Option ConnectionName) → NotOwned (front ++ row ∷ []) o → NotOwned front o
    less (Some x) h = (split_owned x front row h).0
    less None h = refl

    shorter : (rows : Sessions) → NoneOwned (front ++ row ∷ []) rows → NoneOwned front rows
    shorter [] h = tt
    shorter (next ∷ rows) h = (less next.1.connection h.0, shorter rows h.1)

apart_from : (front rows : Sessions) → AllFollow row_follows front rows → ConnectionsAreApart rows
apart_from front [] h = tt
apart_from front (row ∷ rows) h = ((λ x e. nobodys x e rows (none_taken (front ++ row ∷ []) rows h.1)), apart_from (front ++ row ∷ []) rows h.1)
  where
    nobodys : (x : ConnectionName) → row.1.connection ≡ Some x → (rows : Sessions) → NoneOwned (front ++ row ∷ []) rows → IsNobodys x rows
    nobodys x e [] h = tt
    nobodys x e (next ∷ rows) h = (other next.1.connection h.0, nobodys x e rows h.1)
      where
        other : (o : Option ConnectionName) → NotOwned (front ++ row ∷ []) o → any_connection (same_connection x) o ≡ false
        other None k = refl
        other (Some y) k =
            same_turned x y ∙ (sym (ap (any_connection (same_connection y)) e) ∙ (split_owned y front row k).1)

pub sessions_are : (rows : Sessions) → AllFollow row_follows [] rows → AreByClient rows × ConnectionsAreApart rows
sessions_are rows h = (rows_rise rows (clients_after [] rows h), apart_from [] rows h)
