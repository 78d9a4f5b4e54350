-- AllRead.antt: what the parts of a field write, one part after the other.
use Rattle.std.proofs.Common.{◌≡◌, ◌<◌, ◌≤◌, ◌+◌, Bor, ℕ, suc, zero, List, [], ◌∷◌, ◌++◌, length, get_or, take, take_all, Option, Some, None, is_some, ap, ap₂, refl, sym, ◌∙◌, arith}
use Rattle.std.proofs.lemmas.Bool.{false≢true}
use Rattle.std.proofs.Math.ListN.{get_or-map}
use Rattle.std.proofs.lemmas.List.{length-map, take_more}
use Rattle.std.proofs.lemmas.Option.{same_Some}
use Rattle.script.specs.Fields.{Text, all_of, texts, with_first_value}

-- the parts of a list that was read
record FirstAndRest {X : Type 0} (first : Option X) (rest : Option (List X)) (xs : List X) : Type 0 where
  x : X
  more : List X
  first_is : first ≡ Some x
  rest_is : rest ≡ Some more
  is : xs ≡ x ∷ more

split_read : {X : Type 0} (first : Option X) (rest : Option (List X)) (xs : List X) → with_first_value first rest ≡ Some xs
    → FirstAndRest first rest xs
split_read (Some x) (Some more) xs is = record { x = x; more = more; first_is = refl; rest_is = refl; is = sym (same_Some _ _ is) }
split_read (Some x) None xs is = absurd (false≢true (ap is_some is))
split_read None rest xs is = absurd (false≢true (ap is_some is))

none_of_rest : {X : Type 0} (first : Option X) → with_first_value first None ≡ None
none_of_rest (Some x) = refl
none_of_rest None = refl

push_read : {X : Type 0} (reads : Text → Option X) (ts : List Text) (t : Text) (xs : List X) (x : X)
    → all_of reads ts ≡ Some xs → reads t ≡ Some x → all_of reads (ts ++ t ∷ []) ≡ Some (xs ++ x ∷ [])
push_read reads [] t xs x before is = rw (is, ← same_Some _ _ before) refl
push_read reads (s ∷ ts) t xs x before is =
    let parts = split_read (reads s) (all_of reads ts) xs before in
    ap₂ with_first_value parts.first_is (push_read reads ts t parts.more x parts.rest_is is)
    ∙ ap (λ ys. Some (ys ++ x ∷ [])) (sym parts.is)

-- one part more is read
pub read_more : {X : Type 0} (reads : Text → Option X) (parts : List (Bor Text)) (i : ℕ) (d : Bor Text) (xs ys : List X) (x : X)
    → i < length parts → all_of reads (take i (texts parts)) ≡ Some xs → reads (get_or parts i d).now ≡ Some x
    → ys ≡ xs ++ x ∷ [] → all_of reads (take (i + 1) (texts parts)) ≡ Some ys
read_more reads parts i d xs ys x within before is more =
    ap (all_of reads) (take_more (texts parts) i d.now (omega (arith, length-map parts (λ (b : Bor Text). b.now))))
    ∙ push_read reads (take i (texts parts)) _ xs x before (ap reads (get_or-map (λ (b : Bor Text). b.now) parts i d) ∙ is)
    ∙ ap Some (sym more)

not_read_at : {X : Type 0} (reads : Text → Option X) (ts : List Text) (i : ℕ) (d : Text)
    → i < length ts → reads (get_or ts i d) ≡ None → all_of reads ts ≡ None
not_read_at reads [] i d within none = absurd (omega arith)
not_read_at reads (t ∷ ts) zero d within none = ap (λ o. with_first_value o (all_of reads ts)) none
not_read_at reads (t ∷ ts) (suc i) d within none =
    ap (with_first_value (reads t)) (not_read_at reads ts i d (omega arith) none) ∙ none_of_rest (reads t)

-- a part that is not read
pub not_read : {X : Type 0} (reads : Text → Option X) (parts : List (Bor Text)) (all : List Text) (i : ℕ) (d : Bor Text)
    → i < length parts → texts parts ≡ all → reads (get_or parts i d).now ≡ None → all_of reads all ≡ None
not_read reads parts all i d within are none =
    ap (all_of reads) (sym are)
    ∙ not_read_at reads (texts parts) i d.now (omega (arith, length-map parts (λ (b : Bor Text). b.now)))
    (ap reads (get_or-map (λ (b : Bor Text). b.now) parts i d) ∙ none)

-- all parts are read
pub all_read : {X : Type 0} (reads : Text → Option X) (parts : List (Bor Text)) (all : List Text) (i : ℕ) (xs : List X)
    → length parts ≤ i → texts parts ≡ all → all_of reads (take i (texts parts)) ≡ Some xs → all_of reads all ≡ Some xs
all_read reads parts all i xs end are before =
    ap (all_of reads) (sym are
    ∙ sym (take_all i (texts parts) (omega (arith, length-map parts (λ (b : Bor Text). b.now))))) ∙ before
