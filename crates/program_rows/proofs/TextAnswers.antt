-- TextAnswers.antt: a step about a text, by its word.
use Rattle.std.proofs.Common.{◌≡◌, ◌++◌, ℕ, true, List, [], ◌∷◌, codes, bytes_eq, sym, subst, refl, ◌∙◌, ap}
use Rattle.rows.specs.Fields.{Text}
use Rattle.rows.specs.Playing.{Answers}
use Rattle.program_rows.specs.TableSteps.{TableAnswer, nodes_text}
use Rattle.program_rows.specs.ScriptSteps.{FirstFaults, ReadAnswers, amid, first}
use Rattle.program_rows.specs.TextSteps.{Asked, IsCount, Writes, joined}

pub line_written : (old mid new word : Text) (fields : List Text) (answers : Answers)
    → bytes_eq word (codes "line") ≡ true → mid ≡ old ++ joined fields → new ≡ mid ++ 10 ∷ [] → answers ≡ []
    → Writes old (word ∷ fields) answers new
line_written old mid new word fields answers is wrote fed none =
    Writes.line is (fed ∙ ap (λ (t : Text). t ++ 10 ∷ []) wrote) none

pub part_written : (old new word : Text) (fields : List Text) (answers : Answers)
    → bytes_eq word (codes "part") ≡ true → new ≡ old ++ joined fields → answers ≡ []
    → Writes old (word ∷ fields) answers new
part_written old new word fields answers is wrote none = Writes.part is wrote none

pub nodes_written : (old new word : Text) (fields : List Text) (answers : Answers) (count : ℕ)
    → bytes_eq word (codes "nodes") ≡ true → IsCount fields count → new ≡ old ++ nodes_text count → answers ≡ []
    → Writes old (word ∷ fields) answers new
nodes_written old new word fields answers count is counted wrote none = Writes.nodes count is counted wrote none

pub asks_only : (old : Text) (step : List Text) (answers : Answers) → Asked old step answers → Writes old step answers old
asks_only old step answers asked = Writes.asks asked refl

pub table_asked : (text word : Text) (answer : List Text) (answers : Answers) → bytes_eq word (codes "table") ≡ true
    → TableAnswer text answer → answers ≡ answer ∷ [] → Asked text (word ∷ []) answers
table_asked text word answer answers is gives alone =
    let P : Answers → Type 0 = λ a. Asked text (word ∷ []) a in
    subst P (sym alone) (Asked.table is gives)

pub read_asked : (text word : Text) (answers : Answers) → bytes_eq word (codes "read") ≡ true
    → ReadAnswers text answers → Asked text (word ∷ []) answers
read_asked text word answers is gives = Asked.read is gives

pub amid_asked : (text word line : Text) (fields answer : List Text) (answers : Answers)
    → bytes_eq word (codes "amid") ≡ true → line ≡ joined fields → FirstFaults (amid line) answer
    → answers ≡ answer ∷ [] → Asked text (word ∷ fields) answers
amid_asked text word line fields answer answers is wrote gives alone =
    let P : Answers → Type 0 = λ a. Asked text (word ∷ fields) a in
    let Q : Text → Type 0 = λ l. FirstFaults (amid l) answer in
    subst P (sym alone) (Asked.amid_others is (subst Q wrote gives))

pub first_asked : (text word line : Text) (fields answer : List Text) (answers : Answers)
    → bytes_eq word (codes "first") ≡ true → line ≡ joined fields → FirstFaults (first line) answer
    → answers ≡ answer ∷ [] → Asked text (word ∷ fields) answers
first_asked text word line fields answer answers is wrote gives alone =
    let P : Answers → Type 0 = λ a. Asked text (word ∷ fields) a in
    let Q : Text → Type 0 = λ l. FirstFaults (first l) answer in
    subst P (sym alone) (Asked.as_first is (subst Q wrote gives))
