-- OwnersOfLast.antt: a row after the others, whose connection is none of theirs, becomes its
-- connection's owner.
use Rattle.std.proofs.Common.{◌≡◌, Bool, true, false, not, ◌&&◌, Option, Some, None, [], ◌∷◌, ◌++◌, refl, sym, ap, ◌∙◌, if◌then◌else◌}
use Rattle.std.specs.Prelude.{option_map, is_some}
use Rattle.broker_spec.specs.Connection.{ConnectionName, same_connection}
use Rattle.broker_spec.specs.Place.{Client}
use Rattle.broker_spec.specs.Sessions.{any_connection}
use Rattle.broker_base.specs.ClientSession.{ClientSession}
use Rattle.broker_base.specs.State.{Sessions, owner_in}
use Rattle.broker_base.proofs.ConnectionsOfSessions.{same_turned}
use Rattle.broker_base.specs.rows.Owners.{owners_in, owned_by}
use Rattle.broker_base.proofs.of_rows.OwnersRow.{on_is}
use Rattle.session_base.specs.Counted.{last_of}
use Rattle.broker_base.specs.form.Follows.{is_after, is_owned, row_follows}

abbrev Row : Type 0
Row = Client × ClientSession

-- the last row, if it is on the connection
abbrev last_on : ConnectionName → Row → Option Client
last_on y one = if any_connection (same_connection y) one.1.connection then Some one.0 else None

abbrev first_of : Option Client → Option Client → Option Client
first_of (Some c) other = Some c
first_of None other = other

client : Row → Client
client row = row.0

-- the owner is found among the others, or is the last
found : (y : ConnectionName) (front : Sessions) (one : Row) →
    owners_in (front ++ one ∷ []) y ≡ first_of (owners_in front y) (last_on y one)
found y [] one =
    elim (any_connection (same_connection y) one.1.connection) as (λ (b : Bool).
    option_map (λ (row : Row). row.0) (if b then Some one else None) ≡ (if b then Some one.0 else None)) [
      | true ↦ refl
      | false ↦ refl
    ]
found y (row ∷ front) one =
    elim (any_connection (same_connection y) row.1.connection) as (λ (b : Bool).
    option_map (λ (row : Row). row.0) (if b then Some row else owner_in y (front ++ one ∷ []))
    ≡ first_of (option_map (λ (row : Row). row.0) (if b then Some row else owner_in y front)) (last_on y one)) [
      | true ↦ refl
      | false ↦ found y front one
    ]

-- a connection that is not taken has no client
nobodys : (front : Sessions) (x : ConnectionName) → is_some (owner_in x front) ≡ false → owners_in front x ≡ None
nobodys front x free = by (owner_in x front) free
  where
    by : (o : Option Row) → is_some o ≡ false → option_map (λ (row : Row). row.0) o ≡ None
    by (Some row) e = absurd (cc)
    by None e = refl

alone : (o : Option Client) → first_of o None ≡ o
alone (Some c) = refl
alone None = refl

pub owners_of_last : (front : Sessions) (c : Client) (kept : ClientSession) (y : ConnectionName) → is_owned front kept.connection ≡ false →
    owners_in (front ++ (c, kept) ∷ []) y ≡ owned_by kept.connection c (owners_in front) y
owners_of_last front c kept y free = found y front (c, kept) ∙ by kept.connection free
  where
    mine : (x : ConnectionName) → is_some (owner_in x front) ≡ false → (b : Bool) → same_connection y x ≡ b →
        first_of (owners_in front y) (if b then Some c else None) ≡ (if b then Some c else owners_in front y)
    mine x free true e =
        ap (λ o. first_of o (Some c))
        (ap (λ (o : Option ConnectionName). owned o) (sym (on_is y (Some x) e)) ∙ nobodys front x free)
      where
        owned : Option ConnectionName → Option Client
        owned (Some z) = owners_in front z
        owned None = None
    mine x free false e = alone (owners_in front y)

    by : (o : Option ConnectionName) → is_owned front o ≡ false →
        first_of (owners_in front y) (if any_connection (same_connection y) o then Some c else None) ≡ owned_by o c (owners_in front) y
    by None free = alone (owners_in front y)
    by (Some x) free =
        mine x free (same_connection y x) refl
        ∙ ap (λ b. if b then Some c else owners_in front y) (same_turned y x)

-- what may come after the others is after the last, and its connection is none of theirs
pub may_stand : (front : Sessions) (one : Row) → row_follows front one ≡ true →
    (is_after (last_of front) one.0 ≡ true) × (is_owned front one.1.connection ≡ false)
may_stand front one e = by (is_after (last_of front) one.0) (is_owned front one.1.connection) e
  where
    by : (a b : Bool) → (a && not b) ≡ true → (a ≡ true) × (b ≡ false)
    by true false e = (refl, refl)
    by true true e = absurd (cc)
    by false b e = absurd (cc)
