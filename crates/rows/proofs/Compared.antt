-- Compared.antt: lists that are compared one by one.
use Rattle.std.proofs.Common.{◌≡◌, ◌≤◌, ◌<◌, true, false, List, [], ◌∷◌, length, drop, get_or, refl, subst, arith}
use Rattle.rows.specs.Fields.{Text, are_same}
use Rattle.rows.specs.Playing.{Agrees, Answers, after_answers, answers_at, are_answers, are_equal}
use Rattle.rows.specs.declared.line.Line.{Line}

pub fields_beside_none : (fields others : List Text) → 1 ≤ length fields → length others < 1
    → false ≡ are_same fields others
fields_beside_none [] others some none = absurd (omega (arith, some))
fields_beside_none (field ∷ fields) [] some none = refl
fields_beside_none (field ∷ fields) (other ∷ others) some none = absurd (omega (arith, none))

pub answers_beside_none : (answers others : Answers) → 1 ≤ length answers → length others < 1
    → false ≡ are_equal answers others
answers_beside_none [] others some none = absurd (omega (arith, some))
answers_beside_none (answer ∷ answers) [] some none = refl
answers_beside_none (answer ∷ answers) (other ∷ others) some none = absurd (omega (arith, none))

pub answers_without_lines : (answers : Answers) (lines : List Line) → 1 ≤ length answers → length lines < 1
    → false ≡ are_answers answers lines
answers_without_lines [] lines some none = absurd (omega (arith, some))
answers_without_lines (answer ∷ answers) [] some none = refl
answers_without_lines (answer ∷ answers) (line ∷ lines) some none = absurd (omega (arith, none))

-- no step is left
pub no_steps : {S : Type 0} (Does : S → List Text → Answers → S → Type 0) (now : S) (lines : List Line)
    → length lines < 1 → Agrees Does now lines
no_steps Does now [] none = Agrees.ends now
no_steps Does now (line ∷ lines) none = absurd (omega (arith, none))

-- a step, and those after it
pub step_more : {S : Type 0} (Does : S → List Text → Answers → S → Type 0) (now next : S) (lines : List Line)
    (line d : Line) (answers : Answers) → 1 ≤ length lines → line ≡ get_or lines 0 d → Does now line.fields answers next
    → are_answers answers (answers_at (drop 1 lines)) ≡ true → Agrees Does next (after_answers (drop 1 lines))
    → Agrees Does now lines
step_more Does now next [] line d answers some is step answered others = absurd (omega (arith, some))
step_more Does now next (first ∷ lines) line d answers some is step answered others =
    Agrees.steps now next first lines answers (subst (λ (l : Line). Does now l.fields answers next) is step) answered others
