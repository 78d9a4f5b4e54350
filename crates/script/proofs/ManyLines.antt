-- ManyLines.antt: the lines after the first, one after another.
use Rattle.std.proofs.Common.{◌≡◌, ◌<◌, ◌≤◌, ◌+◌, Bor, ℕ, suc, zero, List, [], ◌∷◌, ◌++◌, Result, Ok, Err, length, get_or, take, take_all, inr, ap, refl, sym, subst, ◌∙◌, arith}
use Rattle.std.proofs.Math.ListN.{get_or-map}
use Rattle.std.proofs.lemmas.List.{length-map, take_more}
use Rattle.std.specs.Result.{IsErrOf}
use Rattle.script.specs.declared.error.ScriptFault.{ScriptFault}
use Rattle.script.specs.declared.error.ScriptFault.TheVariants as errors
use Rattle.script.specs.declared.opening.Opening.{Opening}
use Rattle.script.specs.declared.script_line.ScriptLine.{ScriptLine}
use Rattle.script.specs.Fields.{Text, texts}
use Rattle.script.specs.Scripts.{AreLines, HasSomeForm, IsFirstBad, IsOpeningLine, IsOtherLine, Refuses}

push_line : (ts : List Text) (os : List ScriptLine) (t : Text) (o : ScriptLine) → AreLines ts os → IsOtherLine t o
    → AreLines (ts ++ t ∷ []) (os ++ o ∷ [])
push_line [] [] t o before is = (is, tt)
push_line [] (p ∷ os) t o before is = absurd before
push_line (s ∷ ts) [] t o before is = absurd before
push_line (s ∷ ts) (p ∷ os) t o before is = (before.0, push_line ts os t o before.1 is)

-- one line more is read
pub lines_more : (lines : List (Bor Text)) (i : ℕ) (d : Bor Text) (os ps : List ScriptLine) (o : ScriptLine)
    → i < length lines → AreLines (take i (texts lines)) os → IsOtherLine (get_or lines i d).now o
    → ps ≡ os ++ o ∷ [] → AreLines (take (i + 1) (texts lines)) ps
lines_more lines i d os ps o within before is more =
    let here : get_or (texts lines) i d.now ≡ (get_or lines i d).now = get_or-map (λ (b : Bor Text). b.now) lines i d in
    let pushed = push_line (take i (texts lines)) os (get_or lines i d).now o before is in
    let front : take (i + 1) (texts lines) ≡ take i (texts lines) ++ (get_or lines i d).now ∷ [] =
    take_more (texts lines) i d.now (omega (arith, length-map lines (λ (b : Bor Text). b.now)))
    ∙ ap (λ t. take i (texts lines) ++ t ∷ []) here in
    subst (λ qs. AreLines (take (i + 1) (texts lines)) qs) (sym more)
    (subst (λ ts. AreLines ts (os ++ o ∷ [])) (sym front) pushed)

-- all lines are read
pub lines_all : (lines : List (Bor Text)) (i : ℕ) (os : List ScriptLine) → length lines ≤ i
    → AreLines (take i (texts lines)) os → AreLines (texts lines) os
lines_all lines i os end before =
    subst (λ ts. AreLines ts os) (take_all i (texts lines) (omega (arith, length-map lines (λ (b : Bor Text). b.now)))) before

first_bad_at : (ts : List Text) (i : ℕ) (d : Text) (os : List ScriptLine) → i < length ts → AreLines (take i ts) os
    → (HasSomeForm (get_or ts i d) → ⊥) → IsFirstBad ts i
first_bad_at [] i d os within before bad = absurd (omega arith)
first_bad_at (t ∷ ts) zero d os within before bad = bad
first_bad_at (t ∷ ts) (suc i) d [] within before bad = absurd before
first_bad_at (t ∷ ts) (suc i) d (o ∷ os) within before bad =
    ((o, before.0), first_bad_at ts i d os (omega arith) before.1 bad)

number_in : {T : Type 0} → Result T ScriptFault → ℕ
number_in (Ok x) = 0
number_in (Err (errors.Line n)) = n
number_in (Err errors.Memory) = 0

-- a refusal has one number
pub one_number : {T : Type 0} (x : Result T ScriptFault) (a b : ℕ) → x ≡ Err (errors.Line a) → x ≡ Err (errors.Line b) → b ≡ a
unfolding number_in
one_number x a b one other = sym (ap number_in other) ∙ ap number_in one

-- the first line without its form
pub first_bad : (lines : List (Bor Text)) (i : ℕ) (d : Bor Text) (os : List ScriptLine) → i < length lines
    → AreLines (take i (texts lines)) os → (HasSomeForm (get_or lines i d).now → ⊥) → IsFirstBad (texts lines) i
first_bad lines i d os within before bad =
    let here : get_or (texts lines) i d.now ≡ (get_or lines i d).now = get_or-map (λ (b : Bor Text). b.now) lines i d in
    first_bad_at (texts lines) i d.now os (omega (arith, length-map lines (λ (b : Bor Text). b.now))) before
    (λ has. bad (subst HasSomeForm here has))

-- a line after the first is refused by its number
pub bad_after : {T : Type 0} (first : Text) (rest : List Text) (error : ScriptFault) (o : Opening) → IsOpeningLine first o
    → ((bad : ℕ) → IsErrOf {T = T} (Err error) (errors.Line bad) → (index : ℕ) × (bad ≡ index + 2) × IsFirstBad rest index)
    → Refuses (first ∷ rest) error
bad_after first rest errors.Memory o is refused = tt
bad_after first rest (errors.Line n) o is refused =
    let (index, number, bad) = refused n refl in inr ((o, is), (index, (number, bad)))
