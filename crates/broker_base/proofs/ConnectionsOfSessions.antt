-- After a step a session is on the connection that it had, on none, or on one that opened.
use Rattle.std.proofs.Common.{◌≡◌, ℕ, Bool, true, false, not, ◌&&◌, ◌||◌, ◌⊎◌, inl, inr, ◌==◌, if◌then◌else◌, Option, Some, None, [], ◌∷◌, refl, ap₂, ◌∙◌, sym, arith}
use Rattle.std.specs.declared.cmp.Ordering.{Ordering}
use Rattle.std.specs.declared.cmp.Ordering.TheVariants.{Less, Equal, Greater}
use Rattle.std.specs.Ordering.{match_ordering}
use Rattle.retained.specs.Retained.{RetainedTopics}
use Rattle.broker_spec.specs.Connection.{ConnectionName, same_connection}
use Rattle.broker_spec.specs.Place.{Client, by_bytes, Place, only_if}
use Rattle.broker_spec.specs.Sessions.{accepts, any_connection, expels, ends_any}
use Rattle.broker_base.specs.ClientSession.{ClientSession}
use Rattle.broker_base.specs.SessionStep.{session_anew, session_resumed, session_connected, session_by, session_touched}
use Rattle.broker_base.specs.State.{Sessions, keyed, put_session}
use Rattle.broker_base.specs.Step.{touches, session_after, sessions_left}
use Rattle.broker_base.specs.StateTheorems.{IsNobodys, ConnectionsAreApart}

-- ---- connections without a client

turned : (i j : ℕ) → (i == j) ≡ (j == i)
turned i j = grind arith

pub same_turned : (x y : ConnectionName) → same_connection x y ≡ same_connection y x
same_turned x y = ap₂ (λ a b. a && b) (turned x.ballot y.ballot) (turned x.count y.count)

-- a session, if one is left, is not on y
abbrev pub NotOn : ConnectionName → Option ClientSession → Type 0
NotOn y (Some kept) = any_connection (same_connection y) kept.connection ≡ false
NotOn y None = Unit {0}

not_only : (y : ConnectionName) (b : Bool) (kept : ClientSession) → NotOn y (Some kept) → NotOn y (only_if b (Some kept))
not_only y true kept h = h
not_only y false kept h = tt

not_left : (y : ConnectionName) (b : Bool) (connection : Option ConnectionName) → any_connection (same_connection y) connection ≡ false →
    any_connection (same_connection y) (only_if b connection) ≡ false
not_left y true connection h = h
not_left y false connection h = refl

not_connected : (y : ConnectionName) (w : ℕ) (opened : ConnectionName × Bool) (old : Option ClientSession) →
    same_connection y opened.0 ≡ false → NotOn y (Some (session_connected w opened old))
not_connected y w opened None h = h
not_connected y w opened (Some old) h =
    elim (opened.1 || old.clean) as (λ (b : Bool). NotOn y (Some (if b then session_anew opened else session_resumed w opened old))) [ true ↦ h | false ↦ h ]

not_by : (y : ConnectionName) (w : ℕ) (place : Place) (content : RetainedTopics) (c : Client) (opened : Option (ConnectionName × Bool)) (old : ClientSession) →
    ((a : ConnectionName × Bool) → opened ≡ Some a → same_connection y a.0 ≡ false) → any_connection (same_connection y) old.connection ≡ false →
    NotOn y (session_by w place content c opened (Some old))
not_by y w place content c (Some a) old other h = not_connected y w a (Some old) (other a refl)
not_by y w place content c None old other h =
    not_only y (not (expels place.command c || (old.clean && ends_any place c old.connection))) _ (not_left y (not (ends_any place c old.connection)) old.connection h)

pub not_after : (y : ConnectionName) (w : ℕ) (place : Place) (content : RetainedTopics) (c : Client) (old : ClientSession) →
    ((a : ConnectionName × Bool) → accepts place.command place.mark c ≡ Some a → same_connection y a.0 ≡ false) → any_connection (same_connection y) old.connection ≡ false →
    NotOn y (session_after w place content c old)
not_after y w place content c old other h =
    elim (touches place c old) as (λ (b : Bool). NotOn y (if b then session_touched w place content c (Some old) else Some old)) [
      | true ↦ not_by y w place content c (accepts place.command place.mark c) old other h
      | false ↦ h
    ]

pub nobodys_keyed : (y : ConnectionName) (c : Client) (o : Option ClientSession) (rows : Sessions) → NotOn y o → IsNobodys y rows → IsNobodys y (keyed c o rows)
nobodys_keyed y c None rows h k = k
nobodys_keyed y c (Some kept) rows h k = (h, k)

pub nobodys_left : (y : ConnectionName) (w : ℕ) (place : Place) (content : RetainedTopics) (rows : Sessions) →
    ((c : Client) (a : ConnectionName × Bool) → accepts place.command place.mark c ≡ Some a → same_connection y a.0 ≡ false) → IsNobodys y rows →
    IsNobodys y (sessions_left w place content rows)
nobodys_left y w place content [] other h = tt
nobodys_left y w place content (row ∷ rows) other h =
    nobodys_keyed y row.0 (session_after w place content row.0 row.1) (sessions_left w place content rows)
    (not_after y w place content row.0 row.1 (other row.0) h.0) (nobodys_left y w place content rows other h.1)

pub nobodys_put : (y : ConnectionName) (c : Client) (kept : ClientSession) (rows : Sessions) → NotOn y (Some kept) → IsNobodys y rows → IsNobodys y (put_session c kept rows)
nobodys_put y c kept [] h k = (h, tt)
nobodys_put y c kept (row ∷ rows) h k = by (by_bytes c row.0) (nobodys_put y c kept rows h k.1)
  where
    by : (o : Ordering) → IsNobodys y (put_session c kept rows) → IsNobodys y (match_ordering o ((c, kept) ∷ row ∷ rows) ((row.0, kept) ∷ rows) (row ∷ put_session c kept rows))
    by Less more = (h, k)
    by Equal more = (h, k.1)
    by Greater more = (k.0, more)

-- ---- connections come from where they were

-- a session, if one is left, is on the connection that it had, or on none
abbrev pub OnOld : Option ConnectionName → Option ClientSession → Type 0
OnOld connection (Some kept) = (kept.connection ≡ None) ⊎ (kept.connection ≡ connection)
OnOld connection None = Unit {0}

old_only : (connection : Option ConnectionName) (b : Bool) (kept : ClientSession) → OnOld connection (Some kept) → OnOld connection (only_if b (Some kept))
old_only connection true kept h = h
old_only connection false kept h = tt

old_left : (b : Bool) (connection : Option ConnectionName) → (only_if b connection ≡ None) ⊎ (only_if b connection ≡ connection)
old_left true connection = inr refl
old_left false connection = inl refl

old_by : (w : ℕ) (place : Place) (content : RetainedTopics) (c : Client) (opened : Option (ConnectionName × Bool)) (old : ClientSession) → opened ≡ None →
    OnOld old.connection (session_by w place content c opened (Some old))
old_by w place content c (Some a) old e = absurd (cc)
old_by w place content c None old e =
    old_only old.connection (not (expels place.command c || (old.clean && ends_any place c old.connection))) _ (old_left (not (ends_any place c old.connection)) old.connection)

pub old_after : (w : ℕ) (place : Place) (content : RetainedTopics) (c : Client) (old : ClientSession) → accepts place.command place.mark c ≡ None → OnOld old.connection (session_after w place content c old)
old_after w place content c old e =
    elim (touches place c old) as (λ (b : Bool). OnOld old.connection (if b then session_touched w place content c (Some old) else Some old)) [
      | true ↦ old_by w place content c (accepts place.command place.mark c) old e
      | false ↦ inr refl
    ]

pub apart_keyed : (connection : Option ConnectionName) (c : Client) (o : Option ClientSession) (rows : Sessions) → OnOld connection o →
    ((y : ConnectionName) → connection ≡ Some y → IsNobodys y rows) → ConnectionsAreApart rows → ConnectionsAreApart (keyed c o rows)
apart_keyed connection c None rows h other k = k
apart_keyed connection c (Some kept) rows (inl none) other k = (λ y e. absurd (let f : None ≡ Some y = sym none ∙ e in cc), k)
apart_keyed connection c (Some kept) rows (inr same) other k = (λ y e. other y (sym same ∙ e), k)
