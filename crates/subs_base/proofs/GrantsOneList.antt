-- Two lists of rows that a content grants are one.
use Rattle.std.proofs.Common.{◌≡◌, ℕ, zero, suc, ◌≤◌, List, [], ◌∷◌, refl, sym, ◌∙◌, subst, arith, ◌⊎◌, inl, inr, All, Contains}
use Rattle.std.specs.List.Sorted.{IsStrictlySortedBy}
use Rattle.std.specs.Cmp.Lexicographic.{slice_cmp, nat_list_cmp_total}
use Rattle.std.specs.Cmp.{tied_itself}
use Rattle.std.specs.Ordering.{nat_cmp}
use Rattle.std.specs.declared.cmp.Ordering.TheVariants.{Less, Equal}
use Rattle.std.proofs.lemmas.Map.Keys.{sorted_head, sorted_tail}
use Rattle.std.proofs.lemmas.List.Elements.{All-head, All-tail, All-contains, All-from_recursion, Contains-append_right, All-map, All-weaker}
use Rattle.packet_base.specs.declared.qos.QoS.{QoS}
use Rattle.packet_base.specs.declared.qos.QoS.TheVariants as qos_levels
use Rattle.packet_base.specs.QoS.{qos_number}
use Rattle.subs_base.specs.Content.{Content}
use Rattle.subs_base.specs.Granted.{Row, clients_of_rows, IsGreatest, IsGranted}
use Rattle.subs_base.specs.Theorems.{GrantsOneList}

same_qos : (p q : QoS) → qos_number p ≡ qos_number q → p ≡ q
same_qos qos_levels.AtMostOnce qos_levels.AtMostOnce e = refl
same_qos qos_levels.AtMostOnce qos_levels.AtLeastOnce e = absurd (omega arith)
same_qos qos_levels.AtMostOnce qos_levels.ExactlyOnce e = absurd (omega arith)
same_qos qos_levels.AtLeastOnce qos_levels.AtMostOnce e = absurd (omega arith)
same_qos qos_levels.AtLeastOnce qos_levels.AtLeastOnce e = refl
same_qos qos_levels.AtLeastOnce qos_levels.ExactlyOnce e = absurd (omega arith)
same_qos qos_levels.ExactlyOnce qos_levels.AtMostOnce e = absurd (omega arith)
same_qos qos_levels.ExactlyOnce qos_levels.AtLeastOnce e = absurd (omega arith)
same_qos qos_levels.ExactlyOnce qos_levels.ExactlyOnce e = refl

-- a client has one greatest QoS
same_greatest : (content : Content) (topic c : List ℕ) (p q : QoS) → IsGreatest content topic c p → IsGreatest content topic c q → p ≡ q
same_greatest content topic c p q h k =
    let a : qos_number q ≤ qos_number p = h.greatest k.asked.0 q k.asked.1 k.asked.2 in
    let b : qos_number p ≤ qos_number q = k.greatest h.asked.0 p h.asked.1 h.asked.2 in
    let e : qos_number p ≡ qos_number q = omega arith in
    same_qos p q e

-- what is in a list is its head or in its tail
parted : (x : List ℕ) (xs : List (List ℕ)) (c : List ℕ) → Contains (x ∷ xs) c → (x ≡ c) ⊎ Contains xs c
parted x xs c (zero, l, e) = inl e
parted x xs c (suc k, l, e) = inr (k, omega arith, e)

head_is : (x : List ℕ) (xs : List (List ℕ)) → Contains (x ∷ xs) x
head_is x xs = (0, omega arith, refl)

-- the order is strict
not_below : (c : List ℕ) → slice_cmp nat_cmp c c ≡ Less → ⊥
not_below c e = let t : slice_cmp nat_cmp c c ≡ Equal = tied_itself nat_list_cmp_total c in cc

not_both : (c d : List ℕ) → slice_cmp nat_cmp c d ≡ Less → slice_cmp nat_cmp d c ≡ Less → ⊥
not_both c d e f = not_below c (nat_list_cmp_total.trans c d c e f)

-- a text further back is above the head
above_head : (x : List ℕ) (xs : List (List ℕ)) (c : List ℕ) → IsStrictlySortedBy (slice_cmp nat_cmp) (x ∷ xs) → Contains xs c → slice_cmp nat_cmp x c ≡ Less
above_head x xs c sorted h =
    All-contains (λ y. slice_cmp nat_cmp x y ≡ Less) xs c
    (All-from_recursion (λ y. slice_cmp nat_cmp x y ≡ Less) xs (sorted_head (slice_cmp nat_cmp) x xs sorted))
    h

-- of two rising lists with the same texts the heads are the same
same_heads : (x y : List ℕ) (xs ys : List (List ℕ)) → IsStrictlySortedBy (slice_cmp nat_cmp) (x ∷ xs) → IsStrictlySortedBy (slice_cmp nat_cmp) (y ∷ ys) → Contains (y ∷ ys) x → Contains (x ∷ xs) y → x ≡ y
same_heads x y xs ys sx sy to back =
    elim (parted y ys x to) as (λ _. x ≡ y) [
      | inl e ↦ sym e
      | inr h ↦
          elim (parted x xs y back) as (λ _. x ≡ y) [
            | inl e ↦ e
            | inr k ↦ absurd (not_both x y (above_head x xs y sx k) (above_head y ys x sy h))
          ]
    ]

-- and so are the tails' texts
same_tails : (x y : List ℕ) (xs ys : List (List ℕ)) → x ≡ y → IsStrictlySortedBy (slice_cmp nat_cmp) (x ∷ xs) → ((c : List ℕ) → Contains (x ∷ xs) c → Contains (y ∷ ys) c) → (c : List ℕ) → Contains xs c → Contains ys c
same_tails x y xs ys e sorted to c h =
    elim (parted y ys c (to c (Contains-append_right (x ∷ []) xs c h))) as (λ _. Contains ys c) [
      | inl f ↦ absurd (not_below c (subst (λ (z : List ℕ). slice_cmp nat_cmp z c ≡ Less) (e ∙ f) (above_head x xs c sorted h)))
      | inr k ↦ k
    ]

same_rows :
    (content : Content) (topic : List ℕ) (xs ys : List Row)
    → IsStrictlySortedBy (slice_cmp nat_cmp) (clients_of_rows xs) → IsStrictlySortedBy (slice_cmp nat_cmp) (clients_of_rows ys)
    → All (λ row. IsGreatest content topic row.0 row.1) xs → All (λ row. IsGreatest content topic row.0 row.1) ys
    → ((c : List ℕ) → Contains (clients_of_rows xs) c → Contains (clients_of_rows ys) c)
    → ((c : List ℕ) → Contains (clients_of_rows ys) c → Contains (clients_of_rows xs) c)
    → xs ≡ ys
same_rows content topic [] [] sx sy gx gy to back = refl
same_rows content topic [] (y ∷ ys) sx sy gx gy to back = let h = back y.0 (head_is y.0 (clients_of_rows ys)) in let l = h.1 in absurd (omega arith)
same_rows content topic (x ∷ xs) [] sx sy gx gy to back = let h = to x.0 (head_is x.0 (clients_of_rows xs)) in let l = h.1 in absurd (omega arith)
same_rows content topic (x ∷ xs) (y ∷ ys) sx sy gx gy to back =
    let e : x.0 ≡ y.0 = same_heads x.0 y.0 (clients_of_rows xs) (clients_of_rows ys) sx sy (to x.0 (head_is x.0 (clients_of_rows xs))) (back y.0 (head_is y.0 (clients_of_rows ys))) in
    let q : x.1 ≡ y.1 =
    same_greatest content topic y.0 x.1 y.1
    (subst (λ (c : List ℕ). IsGreatest content topic c x.1) e (All-head (λ row. IsGreatest content topic row.0 row.1) x xs gx))
    (All-head (λ row. IsGreatest content topic row.0 row.1) y ys gy) in
    let rest : xs ≡ ys =
    same_rows content topic xs ys
    (sorted_tail (slice_cmp nat_cmp) x.0 (clients_of_rows xs) sx)
    (sorted_tail (slice_cmp nat_cmp) y.0 (clients_of_rows ys) sy)
    (All-tail (λ row. IsGreatest content topic row.0 row.1) x xs gx)
    (All-tail (λ row. IsGreatest content topic row.0 row.1) y ys gy)
    (same_tails x.0 y.0 (clients_of_rows xs) (clients_of_rows ys) e sx to)
    (same_tails y.0 x.0 (clients_of_rows ys) (clients_of_rows xs) (sym e) sy back) in
    λ i. (e i, q i) ∷ rest i

-- each client of the one is in the other, since it asked for a filter
in_other : (content : Content) (topic : List ℕ) (xs ys : List Row) → IsGranted content topic xs → IsGranted content topic ys → (c : List ℕ) → Contains (clients_of_rows xs) c → Contains (clients_of_rows ys) c
in_other content topic xs ys h k c inside =
    All-contains (λ c. Contains (clients_of_rows ys) c) (clients_of_rows xs) c
    (All-map (λ c. Contains (clients_of_rows ys) c) (λ (row : Row). row.0) xs
    (All-weaker (λ row. IsGreatest content topic row.0 row.1) (λ row. Contains (clients_of_rows ys) row.0)
    (λ row g. k.complete row.0 g.asked.0 row.1 g.asked.1 g.asked.2)
    xs h.greatest))
    inside

pub one_list : GrantsOneList
one_list content topic rows others h k =
    same_rows content topic rows others h.rising k.rising h.greatest k.greatest
    (in_other content topic rows others h k)
    (in_other content topic others rows k h)
