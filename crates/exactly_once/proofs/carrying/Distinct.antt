-- Numbers of publications are apart, so each is new in the list at most once.
use Rattle.std.proofs.Common.{◌≡◌, ◌≤◌, ◌<◌, ◌+◌, ℕ, suc, Bool, true, false, ◌==◌, if◌then◌else◌, List, [], ◌∷◌, ◌++◌, Some, refl, ap, subst, arith, inl, inr, ◌⊎◌}
use Rattle.std.specs.Prelude.{slice_get}
use Rattle.std.proofs.lemmas.Bool.{cases_Bool}
use Rattle.session_base.specs.declared.publication.Publication.{Publication}
use Rattle.broker_spec.proofs.EntersOnce.{one_if}
use Rattle.lists.specs.Lists.{In, has_id, IsDistinct}
use Rattle.lists.specs.Lists.In.{here, there}
use Rattle.lists.proofs.Tests.{none_or, or_none, eq_turn}
use Rattle.client_base.specs.Keeper.{Own, number_in}
use Rattle.exactly_once.specs.Carried.{is_qos2, own_qos2_numbers, own_publications, own_publication}
use Rattle.client_base.specs.OrderTheorems.{AreNumbered}
use Rattle.exactly_once.specs.Inside.OwnShape as shape

-- ---- numbers

-- only the numbers
pub numbers_alone : (n : ℕ) (own : List Own) → shape.AreNumberedFrom n own → AreNumbered n own
numbers_alone n [] h = tt
numbers_alone n (Own.Queued k p id ∷ own) h = (h.0, numbers_alone (suc n) own h.1)
numbers_alone n (Own.Sent k p id ∷ own) h = (h.0, numbers_alone (suc n) own h.1)
numbers_alone n (Own.Released k p id ∷ own) h = (h.0, numbers_alone (suc n) own h.2)
numbers_alone n (Own.Done k p ∷ own) h = (h.0, numbers_alone (suc n) own h.1)

-- the first has this number, and the others follow
pub number_first : (n : ℕ) (o : Own) (own : List Own) → AreNumbered n (o ∷ own) → (number_in o ≡ n) × AreNumbered (suc n) own
number_first n (Own.Queued k p id) own h = (h.0, h.1)
number_first n (Own.Sent k p id) own h = (h.0, h.1)
number_first n (Own.Released k p id) own h = (h.0, h.1)
number_first n (Own.Done k p) own h = (h.0, h.1)

not_same : (j k : ℕ) → j < k → (j == k) ≡ false
not_same j k less = grind (arith, less)

less_none : (j n : ℕ) (own : List Own) → AreNumbered n own → j < n → has_id j (own_qos2_numbers own) ≡ false
less_none j n [] h less = refl
less_none j n (o ∷ own) h less =
    let first = number_first n o own h in
    let is = first.0 in
    by (is_qos2 (own_publication o).qos) (less_none j (suc n) own first.1 (omega (arith, less))) (not_same j (number_in o) (omega (arith, less, is)))
  where
    by : (b : Bool) → has_id j (own_qos2_numbers own) ≡ false → (j == number_in o) ≡ false → has_id j (if b then number_in o ∷ own_qos2_numbers own else own_qos2_numbers own) ≡ false
    by true ih other = none_or (j == number_in o) (has_id j (own_qos2_numbers own)) other ih
    by false ih other = ih

pub published_apart : (n : ℕ) (own : List Own) → AreNumbered n own → IsDistinct (own_qos2_numbers own)
published_apart n [] h = tt
published_apart n (o ∷ own) h =
    let first = number_first n o own h in
    let is = first.0 in
    by (is_qos2 (own_publication o).qos) (less_none (number_in o) (suc n) own first.1 (omega (arith, is))) (published_apart (suc n) own first.1)
  where
    by : (b : Bool) → has_id (number_in o) (own_qos2_numbers own) ≡ false → IsDistinct (own_qos2_numbers own) → IsDistinct (if b then number_in o ∷ own_qos2_numbers own else own_qos2_numbers own)
    by true none ih = (none, ih)
    by false none ih = ih

-- what is among the numbers of QoS 2 publications is of one at QoS 2
pub record IsTwo (ps : List Publication) (j : ℕ) : Type 0 where
  pub publication : Publication
  pub there' : slice_get ps j ≡ Some publication
  pub two : is_qos2 publication.qos ≡ true

two_from : (n k : ℕ) (own : List Own) → AreNumbered n own → In k (own_qos2_numbers own) → (j : ℕ) × (k ≡ n + j) × IsTwo (own_publications own) j
two_from n k [] h i = elim i [ ]
two_from n k (o ∷ own) h i =
    let first = number_first n o own h in
    by (is_qos2 (own_publication o).qos) refl (number_in o) first.0 (two_from (suc n) k own first.1) i
  where
    behind : (j : ℕ) × (k ≡ suc n + j) × IsTwo (own_publications own) j → (j : ℕ) × (k ≡ n + j) × IsTwo (own_publications (o ∷ own)) j
    behind (j, e, two) = (suc j, (omega (arith, e)), record { publication = two.publication; there' = two.there'; two = two.two })

    by : (b : Bool) → is_qos2 (own_publication o).qos ≡ b → (m : ℕ) → m ≡ n → (In k (own_qos2_numbers own) → (j : ℕ) × (k ≡ suc n + j) × IsTwo (own_publications own) j)
        → In k (if b then m ∷ own_qos2_numbers own else own_qos2_numbers own) → (j : ℕ) × (k ≡ n + j) × IsTwo (own_publications (o ∷ own)) j
    by true e m is ih here = (0, (omega (arith, is)), record { publication = own_publication o; there' = refl; two = e })
    by true e m is ih (there i) = behind (ih i)
    by false e m is ih i = behind (ih i)

pub two_is : (k : ℕ) (own : List Own) → AreNumbered 0 own → In k (own_qos2_numbers own) → IsTwo (own_publications own) k
two_is k own h i =
    let t = two_from 0 k own h i in
    let e = t.1 in
    let same : t.0 ≡ k = omega (arith, e) in
    subst (λ (j : ℕ). IsTwo (own_publications own) j) same t.2

-- ---- how often one comes

abbrev pub count_id : ℕ → List ℕ → ℕ
count_id k (j ∷ ids) = one_if (j == k) + count_id k ids
count_id k [] = 0

pub count_more : (k : ℕ) (xs ys : List ℕ) → count_id k (xs ++ ys) ≡ count_id k xs + count_id k ys
count_more k [] ys = omega arith
count_more k (x ∷ xs) ys = let ih = count_more k xs ys in omega (arith, ih)

none_counts : (k : ℕ) (ids : List ℕ) → has_id k ids ≡ false → count_id k ids ≡ 0
none_counts k [] e = refl
none_counts k (j ∷ ids) e =
    let h = or_none (k == j) (has_id k ids) e in
    let ih = none_counts k ids h.1 in
    let other : one_if (j == k) ≡ 0 = ap one_if (eq_turn k j h.0) in
    omega (arith, ih, other)

pub count_apart : (k : ℕ) (ids : List ℕ) → IsDistinct ids → count_id k ids ≤ 1
count_apart k [] d = omega arith
count_apart k (j ∷ ids) d = by (cases_Bool (j == k)) (count_apart k ids d.1)
  where
    by : ((j == k) ≡ true) ⊎ ((j == k) ≡ false) → count_id k ids ≤ 1 → count_id k (j ∷ ids) ≤ 1
    by (inl e) ih =
        let same : j ≡ k = grind (arith, e) in
        let none = none_counts k ids (subst (λ (m : ℕ). has_id m ids ≡ false) same d.0) in
        let one : one_if (j == k) ≡ 1 = ap one_if e in
        omega (arith, none, one)
    by (inr e) ih =
        let none : one_if (j == k) ≡ 0 = ap one_if e in
        omega (arith, none, ih)
