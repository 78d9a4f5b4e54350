-- A list that was written with its count is read again, if each item is read again and may be where
-- it was.
use Rattle.std.proofs.Common.{◌≡◌, ℕ, suc, ◌≤◌, Bool, true, List, [], ◌∷◌, ◌++◌, length, Ok, refl, ap, ◌∙◌, append_assoc, append-nil}
use Rattle.std.specs.Prelude.{flat_map}
use Rattle.std.specs.List.{AllByRecursion}
use Rattle.std.proofs.lemmas.Bool.{le-leb}
use Rattle.packet_base.specs.Lists.{ItemAt}
use Rattle.session_base.specs.Counted.{counted_bytes, counted_items_at, items_after}

-- each of these may be where it is
abbrev pub AllFollow : {A : Type 0} → (List A → A → Bool) → List A → List A → Type 0
AllFollow follows front [] = Unit {0}
AllFollow follows front (one ∷ more) = (follows front one ≡ true) × AllFollow follows (front ++ one ∷ []) more

-- an item is read again, whatever follows it
abbrev pub IsReadAgain : {A : Type 0} → (A → List ℕ) → ItemAt A → A → Type 0
IsReadAgain bytes item one = (rest : List ℕ) → item (bytes one ++ rest) ≡ Ok (one, rest)

items_again : {A : Type 0} (follows : List A → A → Bool) (bytes : A → List ℕ) (item : ItemAt A) (front items : List A) (rest : List ℕ) →
    AllByRecursion (IsReadAgain bytes item) items → AllFollow follows front items →
    items_after follows item (length items) front (flat_map bytes items ++ rest) ≡ Ok (front ++ items, rest)
unfolding items_after
items_again follows bytes item front [] rest again follow = rw (append-nil front) refl
items_again follows bytes item front (one ∷ more) rest again follow =
    ap (λ (z : List ℕ). items_after follows item (suc (length more)) front z) (append_assoc (bytes one) (flat_map bytes more) rest)
    ∙ rw (
      again.0 (flat_map bytes more ++ rest),
      follow.0,
      items_again follows bytes item (front ++ one ∷ []) more rest again.1 follow.1,
      append_assoc front (one ∷ []) more,
    ) refl

pub counted_again : {A : Type 0} (count : ℕ → List ℕ) (count_at : ItemAt ℕ) (follows : List A → A → Bool) (bytes : A → List ℕ) (item : ItemAt A) (most : ℕ)
    (items : List A) (rest : List ℕ) → ((n : ℕ) → n ≤ most → IsReadAgain count count_at n) → length items ≤ most →
    AllByRecursion (IsReadAgain bytes item) items → AllFollow follows [] items →
    counted_items_at count_at follows item most (counted_bytes count bytes items ++ rest) ≡ Ok (items, rest)
unfolding counted_items_at
counted_again count count_at follows bytes item most items rest numbered few again follow =
    ap (λ (z : List ℕ). counted_items_at count_at follows item most z) (append_assoc (count (length items)) (flat_map bytes items) rest)
    ∙ rw (numbered (length items) few (flat_map bytes items ++ rest), le-leb _ _ few, items_again follows bytes item [] items rest again follow) refl
