-- ManyLines.antt: the lines of many texts, one after another.
use Rattle.std.proofs.Common.{◌≡◌, ◌<◌, ◌≤◌, ◌+◌, ℕ, suc, Bor, List, [], ◌∷◌, ◌++◌, length, rules, take, take_all, get_or, Some, ap, sym, subst, append-nil, arith, ◌∙◌}
use Rattle.std.proofs.Math.ListN.{get_or-map}
use Rattle.std.proofs.lemmas.List.{length-map, take_more}
use Rattle.rows.specs.Fields.{Appends, Text, texts}
use Rattle.rows.specs.Rows.{lines_from, lines_of}
use Rattle.rows.specs.declared.line.Line.{Line}
use Rattle.rows.proofs.Appended.{both_append, both_split}

-- one text more
lines_push : (n : ℕ) (ts : List Text) (t : Text) (old mid new : List Line) → Appends old mid (lines_from n ts)
    → Appends mid new (lines_of (n + length ts) t) → Appends old new (lines_from n (ts ++ t ∷ []))
lines_push n [] t old mid new before here =
    let at : n + 0 ≡ n = omega arith in
    let same : mid ≡ old = before ∙ append-nil old in
    let P : List Line → Type 0 = λ front. Appends front new (lines_of n t) in
    let Q : ℕ → Type 0 = λ m. Appends mid new (lines_of m t) in
    both_append old new new (lines_of n t) (Some []) (subst P same (subst Q at here)) (sym (append-nil new))
lines_push n (s ∷ ts) t old mid new before here =
    let (front, first, others) = both_split old mid (lines_of n s) (lines_from (suc n) ts) before in
    let at : n + suc (length ts) ≡ suc n + length ts = omega arith in
    let Q : ℕ → Type 0 = λ m. Appends mid new (lines_of m t) in
    both_append old front new (lines_of n s) (lines_from (suc n) (ts ++ t ∷ [])) first
    (lines_push (suc n) ts t front mid new others (subst Q at here))

-- one line more is read
pub lines_more : (parts : List (Bor Text)) (i : ℕ) (d : Bor Text) (old mid new : List Line)
    → i < length parts → Appends old mid (lines_from 1 (take i (texts parts)))
    → Appends mid new (lines_of (i + 1) (get_or parts i d).now)
    → Appends old new (lines_from 1 (take (i + 1) (texts parts)))
lines_more parts i d old mid new within before here =
    let inside : i < length (texts parts) = omega (arith, length-map parts (λ (b : Bor Text). b.now)) in
    let taken : length (take i (texts parts)) ≡ i = search (rules, inside) in
    let at : i + 1 ≡ 1 + length (take i (texts parts)) = omega (arith, taken) in
    let front : take (i + 1) (texts parts) ≡ take i (texts parts) ++ (get_or parts i d).now ∷ [] =
    take_more (texts parts) i d.now inside
    ∙ ap (λ t. take i (texts parts) ++ t ∷ []) (get_or-map (λ (b : Bor Text). b.now) parts i d) in
    let P : List Text → Type 0 = λ ts. Appends old new (lines_from 1 ts) in
    let Q : ℕ → Type 0 = λ m. Appends mid new (lines_of m (get_or parts i d).now) in
    subst P (sym front)
    (lines_push 1 (take i (texts parts)) (get_or parts i d).now old mid new before (subst Q at here))

-- all lines are read
pub lines_all : (parts : List (Bor Text)) (i : ℕ) (old new : List Line) → length parts ≤ i
    → Appends old new (lines_from 1 (take i (texts parts))) → Appends old new (lines_from 1 (texts parts))
lines_all parts i old new end before =
    let P : List Text → Type 0 = λ ts. Appends old new (lines_from 1 ts) in
    subst P (take_all i (texts parts) (omega (arith, length-map parts (λ (b : Bor Text). b.now)))) before
