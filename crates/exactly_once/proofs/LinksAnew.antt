-- What is in transit on a new connection.
use Rattle.std.proofs.Common.{◌≡◌, ℕ, Bool, true, false, ◌||◌, ◌==◌, List, [], ◌∷◌, ◌++◌, map, refl, ap, sym, ◌∙◌, subst, inl, inr, ◌⊎◌}
use Rattle.std.proofs.lemmas.List.{append-nil}
use Rattle.std.proofs.lemmas.Bool.{or_cases, both_ways}
use Rattle.lists.specs.Lists.{In, has_id, IsDistinct, Each}
use Rattle.lists.specs.Lists.In.{here, there}
use Rattle.exactly_once.specs.Items.{SenderItem, busy, sent, has_sent, has_released}
use Rattle.exactly_once.specs.Handshake.{Forward, sender_resends, publishing}
use Rattle.exactly_once.specs.HandshakeInvariant.{IsNew, AreSides, publishes_in_transit, forward_id, IsMeant, IsJoined}
use Rattle.lists.proofs.Tests.{or_none, none_or, eq_is}
use Rattle.lists.proofs.Identifiers.{distinct_joined}
use Rattle.lists.proofs.OfEach.{each_then}
use Rattle.exactly_once.proofs.BusyIdentifiers.{sent_append}
use Rattle.exactly_once.proofs.ItemsKnown.{released_not_sent}

-- ---- a new connection

publishes_releases : {V : Type 0} (ids : List ℕ) (f : List (Forward V)) → publishes_in_transit (map (λ id. Forward.Pubrel id) ids ++ f) ≡ publishes_in_transit f
publishes_releases [] f = refl
publishes_releases (id ∷ ids) f = publishes_releases ids f

publishes_rows : {V : Type 0} (rows : List (ℕ × V)) → publishes_in_transit (map publishing rows) ≡ rows
publishes_rows [] = refl
publishes_rows ((id, v) ∷ rows) = ap (λ z. (id, v) ∷ z) (publishes_rows rows)

all_in : {X : Type 0} (xs : List X) → Each (λ (x : X). In x xs) xs
all_in [] = tt
all_in {X = Y} (x ∷ xs) = (here, each_then (λ (y : Y). In y xs) (λ (y : Y). In y (x ∷ xs)) xs (λ y. there) (all_in xs))

none_released : {V : Type 0} (received : ℕ → Bool) (i : ℕ) (new : List (SenderItem V)) → Each (IsNew received) new → has_released i new ≡ false
none_released received i [] h = refl
none_released received i (SenderItem.Queued v ∷ new) h = none_released received i new h.1
none_released received i (SenderItem.Sent v id ∷ new) h = none_released received i new h.1
none_released received i (SenderItem.Released v id ∷ new) h = elim h.0 [ ]
none_released received i (SenderItem.Done v ∷ new) h = elim h.0 [ ]

or_last : (x y : Bool) → y ≡ false → (x || y) ≡ true → x ≡ true
or_last true y n e = refl
or_last false y n e = absurd (both_ways y n e)

released_append : {V : Type 0} (i : ℕ) (xs ys : List (SenderItem V)) → has_released i (xs ++ ys) ≡ (has_released i xs || has_released i ys)
released_append i [] ys = refl
released_append i (SenderItem.Queued v ∷ xs) ys = released_append i xs ys
released_append i (SenderItem.Sent v id ∷ xs) ys = released_append i xs ys
released_append i (SenderItem.Released v id ∷ xs) ys = ap (λ b. (i == id) || b) (released_append i xs ys) ∙ sym (assoc (i == id) (has_released i xs) (has_released i ys))
  where
    assoc : (x y z : Bool) → ((x || y) || z) ≡ (x || (y || z))
    assoc true y z = refl
    assoc false y z = refl
released_append i (SenderItem.Done v ∷ xs) ys = released_append i xs ys

released_old : {V : Type 0} (received : ℕ → Bool) (i : ℕ) (old new : List (SenderItem V)) → Each (IsNew received) new → has_released i (old ++ new) ≡ true → has_released i old ≡ true
released_old received i old new h e = or_last (has_released i old) (has_released i new) (none_released received i new h) (sym (released_append i old new) ∙ e)

releases_meant : {V : Type 0} (old : List (SenderItem V)) (ids : List ℕ) (rows : List (ℕ × V)) → Each (λ i. has_released i old ≡ true) ids → Each (IsMeant old) (map (λ id. Forward.Pubrel id) ids ++ map publishing rows)
releases_meant old [] [] h = tt
releases_meant old [] (row ∷ rows) h = (tt, releases_meant old [] rows tt)
releases_meant old (id ∷ ids) rows h = (h.0, releases_meant old ids rows h.1)

abbrev pub row_ids : {V : Type 0} → List (ℕ × V) → List ℕ
row_ids (row ∷ rows) = row.0 ∷ row_ids rows
row_ids [] = []

rows_less : {V : Type 0} (i : ℕ) (items : List (SenderItem V)) → has_id i (busy items) ≡ false → has_id i (row_ids (sent items)) ≡ false
rows_less i [] n = refl
rows_less i (SenderItem.Queued v ∷ items) n = rows_less i items n
rows_less i (SenderItem.Sent v id ∷ items) n = let h = or_none (i == id) (has_id i (busy items)) n in none_or (i == id) (has_id i (row_ids (sent items))) h.0 (rows_less i items h.1)
rows_less i (SenderItem.Released v id ∷ items) n = let h = or_none (i == id) (has_id i (busy items)) n in rows_less i items h.1
rows_less i (SenderItem.Done v ∷ items) n = rows_less i items n

rows_apart : {V : Type 0} (items : List (SenderItem V)) → IsDistinct (busy items) → IsDistinct (row_ids (sent items))
rows_apart [] d = tt
rows_apart (SenderItem.Queued v ∷ items) d = rows_apart items d
rows_apart (SenderItem.Sent v id ∷ items) d = (rows_less id items d.0, rows_apart items d.1)
rows_apart (SenderItem.Released v id ∷ items) d = rows_apart items d.1
rows_apart (SenderItem.Done v ∷ items) d = rows_apart items d

rows_not_sent : {V : Type 0} (i : ℕ) (items : List (SenderItem V)) → has_sent i items ≡ false → has_id i (row_ids (sent items)) ≡ false
rows_not_sent i [] n = refl
rows_not_sent i (SenderItem.Queued v ∷ items) n = rows_not_sent i items n
rows_not_sent i (SenderItem.Sent v id ∷ items) n = let h = or_none (i == id) (has_sent i items) n in none_or (i == id) (has_id i (row_ids (sent items))) h.0 (rows_not_sent i items h.1)
rows_not_sent i (SenderItem.Released v id ∷ items) n = rows_not_sent i items n
rows_not_sent i (SenderItem.Done v ∷ items) n = rows_not_sent i items n

resend_ids : {V : Type 0} (ids : List ℕ) (rows : List (ℕ × V)) → map forward_id (map (λ id. let m : Forward V = Forward.Pubrel id in m) ids ++ map publishing rows) ≡ ids ++ row_ids rows
resend_ids [] [] = refl
resend_ids [] ((id, v) ∷ rows) = ap (λ z. id ∷ z) (resend_ids [] rows)
resend_ids (i ∷ ids) rows = ap (λ z. i ∷ z) (resend_ids ids rows)

has_each : (ids : List ℕ) (i : ℕ) (P : ℕ → Type 0) → Each P ids → has_id i ids ≡ true → P i
has_each [] i P h e = absurd (both_ways false refl e)
has_each (j ∷ ids) i P h e = by (or_cases (i == j) (has_id i ids) e) (has_each ids i P h.1)
  where
    by : ((i == j) ≡ true) ⊎ (has_id i ids ≡ true) → (has_id i ids ≡ true → P i) → P i
    by (inl g) ih = subst P (sym (eq_is i j g)) h.0
    by (inr g) ih = ih g

pub joined_anew : {V : Type 0} (items : List (SenderItem V)) (accepted : List V) (received : ℕ → Bool) (old new : List (SenderItem V)) (ids : List ℕ) → AreSides items accepted received old new
    → IsDistinct ids → Each (λ id. has_released id items ≡ true) ids → IsJoined received old new (sender_resends ids items) []
joined_anew {V = X} items accepted received old new ids s d r =
    let apart : IsDistinct (busy items) = subst (λ z. IsDistinct (busy z)) (sym s.is) s.apart in
    let r' = each_then (λ id. has_released id items ≡ true) (λ id. has_released id old ≡ true) ids
    (λ i h. released_old received i old new s.news (subst (λ (z : List (SenderItem X)). has_released i z ≡ true) s.is h)) r in
    record {
      comes = record {
        again = sent old;
        is = publishes_releases ids (map publishing (sent items)) ∙ publishes_rows (sent items) ∙ ap sent s.is ∙ sent_append old new;
        known = all_in (sent old);
        meant = releases_meant old ids (sent items) r';
      };
      due = tt;
      apart = subst IsDistinct (sym (append-nil (map forward_id (sender_resends ids items)) ∙ resend_ids ids (sent items)))
          (distinct_joined ids (row_ids (sent items)) d (rows_apart items apart)
          (λ i h. rows_not_sent i items (released_not_sent i items apart (has_each ids i (λ k. has_released k items ≡ true) r h))));
    }
