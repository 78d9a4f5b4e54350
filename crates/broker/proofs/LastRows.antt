-- LastRows.antt: a key after the last of rising ones comes last.
use Rattle.std.proofs.Common.{◌≡◌, ℕ, Bool, true, false, Ok, ◌-◌, ◌+◌, suc, Option, Some, None, List, [], ◌∷◌, ◌++◌, length, refl, sym, ap, ◌∙◌, slice_get, arith}
use Rattle.std.specs.declared.cmp.Ordering.{Ordering}
use Rattle.std.specs.declared.cmp.Ordering.TheVariants.{Less, Equal, Greater}
use Rattle.std.specs.Ordering.{is_lt, match_ordering, ordering_reverse}
use Rattle.std.specs.BTreeMap.{insert_entry}
use Rattle.std.specs.List.{AllByRecursion, last_or}
use Rattle.std.specs.List.Sorted.{IsStrictlySortedBy}
use Rattle.std.specs.Map.{keys_of}
use Rattle.std.proofs.lemmas.Cmp.{nat_list_cmp_total}
use Rattle.session_base.specs.Counted.{check_form, last_of}
use Rattle.broker_spec.specs.Place.{by_bytes}
use Rattle.broker_base.specs.form.Follows.{is_after}

less : (o : Ordering) → is_lt o ≡ true → o ≡ Less
less Less e = refl
less Equal e = absurd (cc)
less Greater e = absurd (cc)

-- reading continues if the test is true
pub kept_where : (test : Bool) → {done : Unit {0}} → check_form test ≡ Ok done → test ≡ true
kept_where true e = refl
kept_where false e = absurd (cc)

-- the other way round
greater : (key other : List ℕ) → by_bytes other key ≡ Less → by_bytes key other ≡ Greater
greater key other e = nat_list_cmp_total.antisymm key other ∙ ap ordering_reverse e

module _ {X : Type 0} where
  -- one more is one longer
  longer : (rows : List (List ℕ × X)) (row : List ℕ × X) → length (rows ++ row ∷ []) ≡ suc (length rows)
  longer [] row = refl
  longer (first ∷ rows) row = ap suc (longer rows row)

  pub one_more : (rows after : List (List ℕ × X)) (row : List ℕ × X) (many : ℕ) → after ≡ rows ++ row ∷ [] → length rows ≡ many →
      length after ≡ many + 1
  one_more rows after row many is e =
      let a = ap length is in
      let b = longer rows row in
      omega (arith, a, b, e)

  -- a key after the last is after all
  after_all : (key : List ℕ) (rows : List (List ℕ × X)) → IsStrictlySortedBy by_bytes (keys_of rows) → is_after (last_of rows) key ≡ true →
      AllByRecursion (λ (row : List ℕ × X). by_bytes row.0 key ≡ Less) rows
  unfolding IsStrictlySortedBy
  after_all key [] rising e = tt
  after_all key (row ∷ []) rising e = (less (by_bytes row.0 key) e, tt)
  after_all key (row ∷ next ∷ rows) rising e =
      let more = after_all key (next ∷ rows) rising.1 e in
      (nat_list_cmp_total.trans row.0 next.0 key rising.0.0 more.0, more)

  pub insert_last : (key : List ℕ) (value : X) (rows : List (List ℕ × X)) → IsStrictlySortedBy by_bytes (keys_of rows) → is_after (last_of rows) key ≡ true →
      insert_entry by_bytes rows key value ≡ rows ++ (key, value) ∷ []
  insert_last key value rows rising e = by rows (after_all key rows rising e)
    where
      by : (rows : List (List ℕ × X)) → AllByRecursion (λ (row : List ℕ × X). by_bytes row.0 key ≡ Less) rows →
          insert_entry by_bytes rows key value ≡ rows ++ (key, value) ∷ []
      by [] h = refl
      by (row ∷ rows) h =
          ap (λ o. match_ordering o ((key, value) ∷ row ∷ rows) ((row.0, value) ∷ rows) (row ∷ insert_entry by_bytes rows key value)) (greater key row.0 h.0)
          ∙ ap (λ (z : List (List ℕ × X)). row ∷ z) (by rows h.1)

  last_is : (rows : List (List ℕ × X)) (row : List ℕ × X) (o : Option (List ℕ × X)) → last_or o (row ∷ rows) ≡ slice_get (row ∷ rows) (length (row ∷ rows) - 1)
  last_is [] row o = refl
  last_is (next ∷ rows) row o =
      let e : length (row ∷ next ∷ rows) - 1 ≡ suc (length (next ∷ rows) - 1) = omega arith in
      last_is rows next (Some row) ∙ ap (λ n. slice_get (row ∷ next ∷ rows) n) (sym e)

  -- the last of rows that are not empty is at its place
  pub last_at : (rows : List (List ℕ × X)) (last : List ℕ × X) → slice_get rows (length rows - 1) ≡ Some last → last_of rows ≡ Some last
  last_at [] last e = absurd (cc)
  last_at (first ∷ rows) last e = last_is rows first None ∙ e
