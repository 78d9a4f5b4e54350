-- NumbersSaid.antt: the number of a word, by what `parse` says about it, and those of many words.
use Rattle.std.proofs.Common.{◌≡◌, ◌≢◌, ◌<◌, ◌≤◌, ◌+◌, ◌&&◌, ◌==◌, ℕ, Bor, Bool, true, false, List, [], ◌∷◌, ◌++◌, length, get_or, take, take_all, map, min, nat_lt, Some, None, Result, Ok, Err, ap, ap₂, refl, sym, ◌∙◌, arith, inl, inr, subst, cond}
use Rattle.std.specs.Char.{is_ascii_digit}
use Rattle.std.specs.List.{Contains, list_all}
use Rattle.std.specs.Result.{IfErr, IsErrAnd, is_err, is_ok, result_unwrap_or}
use Rattle.std.specs.Str.{all_ascii_digits}
use Rattle.std.specs.Str.Parse.{ParsesUnsigned, digits_value}
use Rattle.std.proofs.Math.ListN.{get_or-map}
use Rattle.std.proofs.lemmas.Bool.{and_parts, cases_Bool, eqb-false, false≢true, lt-ltb, ltb-false, ltb-true}
use Rattle.std.proofs.lemmas.List.{get_or_default, length-map, map-append, take_more}
use Rattle.std.proofs.lemmas.Str.Parse.{parse_digits}
use Rattle.script.specs.Fields.{Text, is_decimal, parts_of, texts}
use Rattle.script.specs.Orders.{AreNumbers, IsNoOrder, LacksNumber, named_node}
use Rattle.script.specs.declared.orders.word_fault.WordFault.{WordFault}
use Rattle.script.proofs.FieldsRead.{own}

-- ---- one word

digits_are : (bs : Text) → list_all is_ascii_digit bs ≡ all_ascii_digits bs
digits_are [] = refl
digits_are (c ∷ cs) = ap (λ (b : Bool). is_ascii_digit c && b) (digits_are cs)

joined : (a b c : Bool) → a ≡ true → c ≡ b → c ≡ (a && b)
joined a b c h same = rw h same

pub decimal : (word : Text) (is : Bool) → is ≡ list_all is_ascii_digit word → 0 < length word → is ≡ is_decimal word
decimal word is test some =
    joined (nat_lt 0 (length word)) (all_ascii_digits word) is (lt-ltb 0 (length word) some) (test ∙ digits_are word)

pub nonempty : (word : Text) (empty : Bool) → empty ≡ (length word == 0) → empty ≡ false → 0 < length word
nonempty word empty is unset = let apart : length word ≢ 0 = eqb-false (length word) 0 (sym is ∙ unset) in omega (arith, apart)

passes : (b : Bool) (v n : ℕ) → b ≡ true → v ≡ n → cond b (Some v) None ≡ Some n
passes b v n h same = rw h (ap Some same)

fails : (b : Bool) (v : ℕ) → b ≡ false → cond b (Some v) None ≡ None
fails b v h = rw h refl

pub no_number : (word : Text) → is_decimal word ≡ false → named_node word ≡ None
unfolding named_node
no_number word is = fails (is_decimal word) (min (digits_value 10 word) 255) is

has_number : (word : Text) (n : ℕ) → is_decimal word ≡ true → min (digits_value 10 word) 255 ≡ n → named_node word ≡ Some n
unfolding named_node
has_number word n is same = passes (is_decimal word) (min (digits_value 10 word) 255) n is same

small : (v n : ℕ) → v < 256 → n ≡ v → min v 255 ≡ n
small v n below is = omega (arith, below, is)

not_below : (v : ℕ) → (v < 256 → ⊥) → 256 ≤ v
not_below v above = elim (cases_Bool (nat_lt v 256)) [
  | inl below ↦ absurd (above (ltb-true v 256 below))
  | inr far ↦ ltb-false v 256 far
]

large : (v n : ℕ) → (v < 256 → ⊥) → n ≡ 255 → min v 255 ≡ n
large v n above is = let far = not_below v above in omega (arith, far, is)

pub number_said : {E : Type 0} (word : Text) (r : Result ℕ E) (n : ℕ) → is_decimal word ≡ true → ParsesUnsigned 8 10 word r
    → n ≡ result_unwrap_or r 255 → named_node word ≡ Some n
number_said {E} word (Ok m) n is parses same =
    let (some, digits) = and_parts (nat_lt 0 (length word)) (all_ascii_digits word) is in
    let (fits, value) = parse_digits own {E = E} 8 word (Ok m) parses digits in
    has_number word n is (small (digits_value 10 word) n fits.1 (same ∙ value))
number_said {E} word (Err e) n is parses same =
    let (some, digits) = and_parts (nat_lt 0 (length word)) (all_ascii_digits word) is in
    let wrong = parse_digits own {E = E} 8 word (Err e) parses digits in
    has_number word n is (large (digits_value 10 word) n (λ fits. wrong (ltb-true 0 (length word) some, fits)) same)

-- ---- words between commas

pub one_more : (parts : List (Bor Text)) (i : ℕ) (d : Bor Text) (xs ys : List ℕ) (x : ℕ) → i < length parts
    → map named_node (take i (texts parts)) ≡ map Some xs → named_node (get_or parts i d).now ≡ Some x → ys ≡ xs ++ x ∷ []
    → map named_node (take (i + 1) (texts parts)) ≡ map Some ys
one_more parts i d xs ys x within before is more =
    ap (map named_node) (take_more (texts parts) i d.now (omega (arith, length-map parts (λ (b : Bor Text). b.now))))
    ∙ map-append named_node (take i (texts parts)) (get_or (texts parts) i d.now ∷ [])
    ∙ ap₂ (λ o p. o ++ p ∷ []) before (ap named_node (get_or-map (λ (b : Bor Text). b.now) parts i d) ∙ is)
    ∙ sym (map-append Some xs (x ∷ [])) ∙ ap (map Some) (sym more)

pub all_said : (parts : List (Bor Text)) (word : Text) (i : ℕ) (xs ys : List ℕ) → length parts ≤ i → texts parts ≡ parts_of word
    → map named_node (take i (texts parts)) ≡ map Some xs → ys ≡ xs → AreNumbers word ys
all_said parts word i xs ys end are before same =
    ap (map named_node) (sym are ∙ sym (take_all i (texts parts) (omega (arith, length-map parts (λ (b : Bor Text). b.now)))))
    ∙ before ∙ ap (map Some) (sym same)

pub lacks_number : (parts : List (Bor Text)) (word : Text) (i : ℕ) (d : Bor Text) (fault : WordFault) → i < length parts
    → texts parts ≡ parts_of word → IsNoOrder (named_node (get_or parts i d).now ≡ None) fault → IsNoOrder (LacksNumber word) fault
lacks_number parts word i d fault within are (inl (is, none)) =
    let part = (get_or parts i d).now in
    let below : i < length (texts parts) = omega (arith, within, length-map parts (λ (b : Bor Text). b.now)) in
    let at : get_or (texts parts) i part ≡ part = get_or_default (texts parts) i part d.now below ∙ get_or-map (λ (b : Bor Text). b.now) parts i d in
    inl (is, (part, subst (λ (all : List Text). Contains all part) are (i, below, at), none))
lacks_number parts word i d fault within are (inr memory) = inr memory

-- what is refused is passed on
pub passed : {T : Type 0} (r : Result T WordFault) (fault : WordFault) (Lacks : Type 0) → IsErrAnd r (λ e. e ≡ fault)
    → IsNoOrder Lacks fault → IfErr r (IsNoOrder Lacks)
passed (Ok x) fault Lacks is refused = tt
passed (Err e) fault Lacks is refused = subst (IsNoOrder Lacks) (sym is) refused

-- a number was appended
pub pushed : {T E : Type 0} (r : Result T E) (xs ys zs : List ℕ) → zs ≡ cond (is_ok r) xs ys → is_err r ≡ false → zs ≡ xs
pushed (Ok x) xs ys zs is e = is
pushed (Err x) xs ys zs is e = absurd (false≢true (sym e))
