-- Tables by bytes: what a row more, in place of another, or less leaves of their order, of their size, and of what
-- each row meets.
use Rattle.std.proofs.Common.{◌≡◌, ℕ, ◌≤◌, suc, Bool, true, false, if◌then◌else◌, Option, Some, None, sym, List, [], ◌∷◌, length, refl, ap, ◌∙◌, arith}
use Rattle.std.specs.declared.cmp.Ordering.{Ordering}
use Rattle.std.specs.declared.cmp.Ordering.TheVariants.{Less, Equal, Greater}
use Rattle.std.specs.Ordering.{match_ordering, is_eq, nat_cmp, ordering_reverse}
use Rattle.std.specs.Cmp.Lexicographic.{slice_cmp}
use Rattle.std.specs.BTreeMap.{insert_entry, is_at}
use Rattle.std.specs.Map.{keys_of, lookup, remove_entry}
use Rattle.std.specs.List.{AllByRecursion}
use Rattle.std.specs.List.Sorted.{IsStrictlySortedBy}
use Rattle.std.proofs.lemmas.Cmp.{nat_list_cmp_total}
use Rattle.std.proofs.lemmas.Map.Lookups.{exact_bytes}

abbrev pub Table : Type 0 → Type 0
Table X = List (List ℕ × X)

-- bytes in order
abbrev pub by_bytes : List ℕ → List ℕ → Ordering
by_bytes = slice_cmp nat_cmp

greater_turned : (c d : List ℕ) → by_bytes c d ≡ Greater → by_bytes d c ≡ Less
greater_turned c d e = nat_list_cmp_total.antisymm d c ∙ ap ordering_reverse e

own_reverse : (o : Ordering) → o ≡ ordering_reverse o → o ≡ Equal
own_reverse Less e = absurd (cc)
own_reverse Equal e = refl
own_reverse Greater e = absurd (cc)

by_bytes_self : (c : List ℕ) → by_bytes c c ≡ Equal
by_bytes_self c = own_reverse (by_bytes c c) (nat_list_cmp_total.antisymm c c)

equal_of : (o : Ordering) → is_eq o ≡ true → o ≡ Equal
equal_of Less e = absurd (cc)
equal_of Equal e = refl
equal_of Greater e = absurd (cc)

is_same : (b c : List ℕ) → is_eq (by_bytes b c) ≡ true → b ≡ c
is_same b c e = exact_bytes b c (equal_of (by_bytes b c) e)

-- no key is at two that differ
apart : (q b c : List ℕ) (o : Ordering) → by_bytes c b ≡ o → is_eq o ≡ false → is_eq (by_bytes q b) ≡ true → is_eq (by_bytes q c) ≡ true → false ≡ true
apart q b c o e differ at_b at_c =
    let same_b = is_same q b at_b in
    let same_c = is_same q c at_c in
    sym differ ∙ ap is_eq (sym e) ∙ rw (sym same_b, sym same_c) (ap is_eq (by_bytes_self q))

module _ {X : Type 0} where
  -- the rows rise
  abbrev pub Rises : Table X → Type 0
  Rises rows = IsStrictlySortedBy by_bytes (keys_of rows)

  -- the key comes before all of them
  abbrev Before : List ℕ → Table X → Type 0
  Before key rows = AllByRecursion (λ other. by_bytes key other ≡ Less) (keys_of rows)

  abbrev put : Table X → List ℕ → X → Table X
  put rows key x = insert_entry by_bytes rows key x

  abbrev without : List ℕ → Table X → Table X
  without key rows = remove_entry (is_at (by_bytes key)) rows

  before_more : (b c : List ℕ) (rows : Table X) → by_bytes b c ≡ Less → Before c rows → Before b rows
  before_more b c [] less h = tt
  before_more b c (row ∷ rows) less h = (nat_list_cmp_total.trans b c row.0 less h.0, before_more b c rows less h.1)

  -- ---- one row more

  before_put : (b c : List ℕ) (x : X) (rows : Table X) → by_bytes b c ≡ Less → Before b rows → Before b (put rows c x)
  before_put b c x [] less h = (less, tt)
  before_put b c x (row ∷ rows) less h = by (by_bytes c row.0) (before_put b c x rows less h.1)
    where
      by : (o : Ordering) → Before b (put rows c x) → Before b (match_ordering o ((c, x) ∷ row ∷ rows) ((row.0, x) ∷ rows) (row ∷ put rows c x))
      by Less more = (less, h)
      by Equal more = h
      by Greater more = (h.0, more)

  pub put_rises : (c : List ℕ) (x : X) (rows : Table X) → Rises rows → Rises (put rows c x)
  unfolding IsStrictlySortedBy
  put_rises c x [] h = (tt, tt)
  put_rises c x (row ∷ rows) h = by (by_bytes c row.0) refl (put_rises c x rows h.1)
    where
      by : (o : Ordering) → by_bytes c row.0 ≡ o → Rises (put rows c x) →
          Rises (match_ordering o ((c, x) ∷ row ∷ rows) ((row.0, x) ∷ rows) (row ∷ put rows c x))
      by Less e more = ((e, before_more c row.0 rows e h.0), h)
      by Equal e more = h
      by Greater e more = (before_put row.0 c x rows (greater_turned c row.0 e) h.0, more)

  pub put_one_more : (c : List ℕ) (x : X) (rows : Table X) → length (put rows c x) ≤ suc (length rows)
  put_one_more c x [] = omega arith
  put_one_more c x (row ∷ rows) = by (by_bytes c row.0) (put_one_more c x rows)
    where
      by : (o : Ordering) → length (put rows c x) ≤ suc (length rows) →
          length (match_ordering o ((c, x) ∷ row ∷ rows) ((row.0, x) ∷ rows) (row ∷ put rows c x)) ≤ suc (suc (length rows))
      by Less more = omega arith
      by Equal more = omega arith
      by Greater more = omega (arith, more)

  not_among : (c : List ℕ) (rows : Table X) → Before c rows → lookup (is_at (by_bytes c)) rows ≡ None
  not_among c [] h = refl
  not_among c (row ∷ rows) h = ap (λ o. if is_eq o then Some row.1 else lookup (is_at (by_bytes c)) rows) h.0 ∙ not_among c rows h.1

  -- a row that was there takes no more room
  pub put_known : (c : List ℕ) (x old : X) (rows : Table X) → Rises rows → lookup (is_at (by_bytes c)) rows ≡ Some old → length (put rows c x) ≤ length rows
  unfolding IsStrictlySortedBy
  put_known c x old [] h e = absurd (cc)
  put_known c x old (row ∷ rows) h e = by (by_bytes c row.0) refl e (put_known c x old rows h.1)
    where
      by : (o : Ordering) → by_bytes c row.0 ≡ o → (if is_eq o then Some row.1 else lookup (is_at (by_bytes c)) rows) ≡ Some old →
          (lookup (is_at (by_bytes c)) rows ≡ Some old → length (put rows c x) ≤ length rows) →
          length (match_ordering o ((c, x) ∷ row ∷ rows) ((row.0, x) ∷ rows) (row ∷ put rows c x)) ≤ suc (length rows)
      by Less f e more = (let none = not_among c rows (before_more c row.0 rows f h.0) in absurd (cc (none, e)))
      by Equal f e more = omega arith
      by Greater f e more = (let k = more e in omega (arith, k))

  -- ---- one less

  before_without : (b c : List ℕ) (rows : Table X) → Before b rows → Before b (without c rows)
  before_without b c [] h = tt
  before_without b c (row ∷ rows) h =
      elim (is_eq (by_bytes c row.0)) as (λ (same : Bool). Before b (if same then rows else row ∷ without c rows)) [
        | true ↦ h.1
        | false ↦ (h.0, before_without b c rows h.1)
      ]

  pub without_rises : (c : List ℕ) (rows : Table X) → Rises rows → Rises (without c rows)
  unfolding IsStrictlySortedBy
  without_rises c [] h = tt
  without_rises c (row ∷ rows) h =
      elim (is_eq (by_bytes c row.0)) as (λ (same : Bool). Rises (if same then rows else row ∷ without c rows)) [
        | true ↦ h.1
        | false ↦ (before_without row.0 c rows h.0, without_rises c rows h.1)
      ]

  pub without_fewer : (c : List ℕ) (rows : Table X) → length (without c rows) ≤ length rows
  without_fewer c [] = omega arith
  without_fewer c (row ∷ rows) =
      elim (is_eq (by_bytes c row.0)) as (λ (same : Bool). length (if same then rows else row ∷ without c rows) ≤ suc (length rows)) [
        | true ↦ omega arith
        | false ↦ (let k = without_fewer c rows in omega (arith, k))
      ]

  -- ---- what each row meets

  pub all_put : (P : List ℕ × X → Type 0) (c : List ℕ) (x : X) (rows : Table X) → P (c, x) → ((b : List ℕ) → by_bytes c b ≡ Equal → P (b, x)) →
      AllByRecursion P rows → AllByRecursion P (put rows c x)
  all_put P c x [] p same h = (p, tt)
  all_put P c x (row ∷ rows) p same h = by (by_bytes c row.0) refl (all_put P c x rows p same h.1)
    where
      by : (o : Ordering) → by_bytes c row.0 ≡ o → AllByRecursion P (put rows c x) →
          AllByRecursion P (match_ordering o ((c, x) ∷ row ∷ rows) ((row.0, x) ∷ rows) (row ∷ put rows c x))
      by Less e more = (p, h)
      by Equal e more = (same row.0 e, h.1)
      by Greater e more = (h.0, more)

  pub all_without : (P : List ℕ × X → Type 0) (c : List ℕ) (rows : Table X) → AllByRecursion P rows → AllByRecursion P (without c rows)
  all_without P c [] h = tt
  all_without P c (row ∷ rows) h =
      elim (is_eq (by_bytes c row.0)) as (λ (same : Bool). AllByRecursion P (if same then rows else row ∷ without c rows)) [
        | true ↦ h.1
        | false ↦ (h.0, all_without P c rows h.1)
      ]

  -- ---- what is found

  abbrev found : List ℕ → Table X → Option X
  found key rows = lookup (is_at (by_bytes key)) rows

  -- two keys that differ, in either order
  swapped : (q b c : List ℕ) (o : Ordering) (x y : X) (more : Option X) → by_bytes c b ≡ o → is_eq o ≡ false →
      (if is_eq (by_bytes q b) then Some y else (if is_eq (by_bytes q c) then Some x else more))
      ≡ (if is_eq (by_bytes q c) then Some x else (if is_eq (by_bytes q b) then Some y else more))
  swapped q b c o x y more e differ = by (is_eq (by_bytes q b)) (is_eq (by_bytes q c)) refl refl
    where
      by : (at_b at_c : Bool) → is_eq (by_bytes q b) ≡ at_b → is_eq (by_bytes q c) ≡ at_c →
          (if at_b then Some y else (if at_c then Some x else more)) ≡ (if at_c then Some x else (if at_b then Some y else more))
      by true true f g = absurd (cc (apart q b c o e differ f g))
      by true false f g = refl
      by false true f g = refl
      by false false f g = refl

  -- the row that was put is found, and at any other key what was found before
  pub found_put : (q c : List ℕ) (x : X) (rows : Table X) →
      found q (put rows c x) ≡ (if is_eq (by_bytes q c) then Some x else found q rows)
  found_put q c x [] = refl
  found_put q c x (row ∷ rows) = by (by_bytes c row.0) refl (found_put q c x rows)
    where
      chosen : (at : Bool) → (if at then Some x else found q rows) ≡ (if at then Some x else (if at then Some row.1 else found q rows))
      chosen true = refl
      chosen false = refl

      by : (o : Ordering) → by_bytes c row.0 ≡ o → found q (put rows c x) ≡ (if is_eq (by_bytes q c) then Some x else found q rows) →
          found q (match_ordering o ((c, x) ∷ row ∷ rows) ((row.0, x) ∷ rows) (row ∷ put rows c x))
          ≡ (if is_eq (by_bytes q c) then Some x else found q (row ∷ rows))
      by Less e more = refl
      by Equal e more = (let same = exact_bytes c row.0 e in rw (same) (chosen (is_eq (by_bytes q row.0))))
      by Greater e more =
          ap (λ rest. if is_eq (by_bytes q row.0) then Some row.1 else rest) more
          ∙ swapped q row.0 c Greater x row.1 (found q rows) e refl

  none_twice : (at : Bool) → found [] [] ≡ (if at then None else found [] [])
  none_twice true = refl
  none_twice false = refl

  -- the key that was taken out is not found, and at any other key what was found before
  pub found_without : (q c : List ℕ) (rows : Table X) → Rises rows →
      found q (without c rows) ≡ (if is_eq (by_bytes q c) then None else found q rows)
  unfolding IsStrictlySortedBy
  found_without q c [] h = none_twice (is_eq (by_bytes q c))
  found_without q c (row ∷ rows) h = by (by_bytes c row.0) refl (found_without q c rows h.1)
    where
      none : by_bytes c row.0 ≡ Equal → is_eq (by_bytes q c) ≡ true → found q rows ≡ None
      none e at = not_among q rows (rw (is_same q c at, exact_bytes c row.0 e) h.0)

      gone : by_bytes c row.0 ≡ Equal → (at : Bool) → is_eq (by_bytes q c) ≡ at → is_eq (by_bytes q row.0) ≡ at →
          found q rows ≡ (if at then None else (if at then Some row.1 else found q rows))
      gone e true f g = none e f
      gone e false f g = refl

      other : (at_b at_c : Bool) (less rest : Option X) → (at_b ≡ true → at_c ≡ true → false ≡ true) →
          less ≡ (if at_c then None else rest) →
          (if at_b then Some row.1 else less) ≡ (if at_c then None else (if at_b then Some row.1 else rest))
      other true true less rest never more = absurd (cc (never refl refl))
      other true false less rest never more = refl
      other false true less rest never more = more
      other false false less rest never more = more

      by : (o : Ordering) → by_bytes c row.0 ≡ o → found q (without c rows) ≡ (if is_eq (by_bytes q c) then None else found q rows) →
          found q (if is_eq o then rows else row ∷ without c rows) ≡ (if is_eq (by_bytes q c) then None else found q (row ∷ rows))
      by Less e more = other (is_eq (by_bytes q row.0)) (is_eq (by_bytes q c)) (found q (without c rows)) (found q rows) (apart q row.0 c Less e refl) more
      by Equal e more = rw (sym (exact_bytes c row.0 e)) (gone e (is_eq (by_bytes q c)) refl (rw (sym (exact_bytes c row.0 e)) refl))
      by Greater e more = other (is_eq (by_bytes q row.0)) (is_eq (by_bytes q c)) (found q (without c rows)) (found q rows) (apart q row.0 c Greater e refl) more
