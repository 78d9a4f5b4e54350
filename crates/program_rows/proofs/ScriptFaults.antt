-- ScriptFaults.antt: the first malformed lines of several texts, and what a text is read as.
use Rattle.std.proofs.Common.{◌≡◌, ◌++◌, ℕ, List, [], ◌∷◌, codes, sym, subst, refl, ◌∙◌, ap}
use Rattle.std.specs.Fmt.{decimal}
use Rattle.rows.specs.Fields.{Text}
use Rattle.script.specs.Scripts.{IsScript, Refuses, lines_of}
use Rattle.script.specs.declared.error.ScriptFault.{ScriptFault}
use Rattle.script.specs.declared.error.ScriptFault.TheVariants as faults
use Rattle.script.specs.declared.script_reader.Script.{Script}
use Rattle.rows.specs.Playing.{Answers}
use Rattle.program_rows.specs.AnswerFields.{counted}
use Rattle.program_rows.specs.ScriptFields.{script_answers}
use Rattle.program_rows.specs.ScriptSteps.{FirstFault, FirstFaults, ReadAnswers, text_of}

-- three texts, whose numbers are appended one after another
pub three_faults : (one two three : List Text) (a b c : ℕ) (none with_a with_b with_c : List Text)
    → none ≡ [] → with_a ≡ none ++ decimal a ∷ [] → FirstFault (text_of one) a
    → with_b ≡ with_a ++ decimal b ∷ [] → FirstFault (text_of two) b
    → with_c ≡ with_b ++ decimal c ∷ [] → FirstFault (text_of three) c
    → FirstFaults (one ∷ two ∷ three ∷ []) with_c
three_faults one two three a b c none with_a with_b with_c empty puts_a has_a puts_b has_b puts_c has_c =
    let first_one : with_a ≡ decimal a ∷ [] = puts_a ∙ ap (λ (l : List Text). l ++ decimal a ∷ []) empty in
    let first_two : with_b ≡ decimal a ∷ decimal b ∷ [] = puts_b ∙ ap (λ (l : List Text). l ++ decimal b ∷ []) first_one in
    let all : with_c ≡ decimal a ∷ decimal b ∷ decimal c ∷ [] = puts_c ∙ ap (λ (l : List Text). l ++ decimal c ∷ []) first_two in
    let P : List Text → Type 0 = λ l. FirstFaults (one ∷ two ∷ three ∷ []) l in
    subst P (sym all) (FirstFaults.more a has_a (FirstFaults.more b has_b (FirstFaults.more c has_c FirstFaults.none)))

-- four texts
pub four_faults : (one two three four : List Text) (a b c d : ℕ) (none with_a with_b with_c with_d : List Text)
    → none ≡ [] → with_a ≡ none ++ decimal a ∷ [] → FirstFault (text_of one) a
    → with_b ≡ with_a ++ decimal b ∷ [] → FirstFault (text_of two) b
    → with_c ≡ with_b ++ decimal c ∷ [] → FirstFault (text_of three) c
    → with_d ≡ with_c ++ decimal d ∷ [] → FirstFault (text_of four) d
    → FirstFaults (one ∷ two ∷ three ∷ four ∷ []) with_d
four_faults one two three four a b c d none with_a with_b with_c with_d empty puts_a has_a puts_b has_b puts_c has_c puts_d has_d =
    let first_one : with_a ≡ decimal a ∷ [] = puts_a ∙ ap (λ (l : List Text). l ++ decimal a ∷ []) empty in
    let first_two : with_b ≡ decimal a ∷ decimal b ∷ [] = puts_b ∙ ap (λ (l : List Text). l ++ decimal b ∷ []) first_one in
    let three_of : with_c ≡ decimal a ∷ decimal b ∷ decimal c ∷ [] = puts_c ∙ ap (λ (l : List Text). l ++ decimal c ∷ []) first_two in
    let all : with_d ≡ decimal a ∷ decimal b ∷ decimal c ∷ decimal d ∷ [] = puts_d ∙ ap (λ (l : List Text). l ++ decimal d ∷ []) three_of in
    let P : List Text → Type 0 = λ l. FirstFaults (one ∷ two ∷ three ∷ four ∷ []) l in
    subst P (sym all)
    (FirstFaults.more a has_a (FirstFaults.more b has_b (FirstFaults.more c has_c (FirstFaults.more d has_d FirstFaults.none))))

pub is_read : (text : Text) (script : Script) (answers : Answers) → IsScript (lines_of text) script
    → answers ≡ script_answers script → ReadAnswers text answers
is_read text script answers is gives = ReadAnswers.read script is gives

pub is_refused : (text : Text) (fault : ScriptFault) (number : ℕ) (answer : List Text) (answers : Answers)
    → Refuses (lines_of text) fault → fault ≡ faults.Line number → answer ≡ counted (codes "refused") number
    → answers ≡ answer ∷ [] → ReadAnswers text answers
is_refused text fault number answer answers refuses is gives alone =
    ReadAnswers.refused number (subst (λ (f : ScriptFault). Refuses (lines_of text) f) is refuses)
    (alone ∙ ap (λ (a : List Text). a ∷ []) gives)

pub has_none : (text : Text) (script : Script) → IsScript (lines_of text) script → FirstFault text 0
has_none text script is = FirstFault.none script is refl

pub has_one : (text : Text) (fault : ScriptFault) (number : ℕ) → Refuses (lines_of text) fault → fault ≡ faults.Line number
    → FirstFault text number
has_one text fault number refuses is =
    FirstFault.malformed (subst (λ (f : ScriptFault). Refuses (lines_of text) f) is refuses)
