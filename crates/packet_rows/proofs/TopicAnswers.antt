-- TopicAnswers.antt: a step about texts, by its word.
use Rattle.std.proofs.Common.{◌≡◌, true, List, [], ◌∷◌, codes, bytes_eq, sym, subst}
use Rattle.std.proofs.lemmas.Slice.Eq.{bytes_eq-Decides}
use Rattle.rows.specs.Fields.{Text}
use Rattle.topics.specs.Text.{topic_fault, filter_fault, named_topic}
use Rattle.topics.specs.Matching.{is_match}
use Rattle.packet_base.specs.ClientId.{client_fault}
use Rattle.rows.specs.Answers.{yes_or_no}
use Rattle.packet_rows.specs.TopicSteps.{TopicStep, named, taken, unless}

-- a step with this word, and another text that is the same
of_word : (word text asked answer other : Text) (answers : List Text) → bytes_eq word other ≡ true → asked ≡ text
    → TopicStep (other ∷ asked ∷ []) answers → TopicStep (word ∷ text ∷ []) answers
of_word word text asked answer other answers is same step =
    subst (λ (t : Text). TopicStep (word ∷ t ∷ []) answers) same
    (subst (λ (w : Text). TopicStep (w ∷ asked ∷ []) answers) (sym ((bytes_eq-Decides word other).0 is)) step)

pub name_step : (word text asked : Text) (answer : List Text) → bytes_eq word (codes "name") ≡ true → asked ≡ text
    → answer ≡ taken (topic_fault asked) → TopicStep (word ∷ text ∷ []) answer
name_step word text asked answer is same gives =
    subst (λ (a : List Text). TopicStep (word ∷ text ∷ []) a) (sym gives)
    (of_word word text asked [] (codes "name") _ is same (TopicStep.name asked))

pub filter_step : (word text asked : Text) (answer : List Text) → bytes_eq word (codes "filter") ≡ true → asked ≡ text
    → answer ≡ taken (filter_fault asked) → TopicStep (word ∷ text ∷ []) answer
filter_step word text asked answer is same gives =
    subst (λ (a : List Text). TopicStep (word ∷ text ∷ []) a) (sym gives)
    (of_word word text asked [] (codes "filter") _ is same (TopicStep.filter asked))

pub client_step : (word text asked : Text) (answer : List Text) → bytes_eq word (codes "client") ≡ true → asked ≡ text
    → answer ≡ taken (client_fault asked) → TopicStep (word ∷ text ∷ []) answer
client_step word text asked answer is same gives =
    subst (λ (a : List Text). TopicStep (word ∷ text ∷ []) a) (sym gives)
    (of_word word text asked [] (codes "client") _ is same (TopicStep.client asked))

pub bare_step : (word text asked : Text) (answer : List Text) → bytes_eq word (codes "bare") ≡ true → asked ≡ text
    → answer ≡ unless (filter_fault asked) (named (named_topic asked)) → TopicStep (word ∷ text ∷ []) answer
bare_step word text asked answer is same gives =
    subst (λ (a : List Text). TopicStep (word ∷ text ∷ []) a) (sym gives)
    (of_word word text asked [] (codes "bare") _ is same (TopicStep.bare asked))

pub match_step : (word filter name pattern text : Text) (answer : List Text) → bytes_eq word (codes "match") ≡ true
    → pattern ≡ filter → text ≡ name
    → answer ≡ unless (filter_fault pattern) (unless (topic_fault text) (yes_or_no (is_match pattern text)))
    → TopicStep (word ∷ filter ∷ name ∷ []) answer
match_step word filter name pattern text answer is same_filter same_name gives =
    let same_word : word ≡ codes "match" = (bytes_eq-Decides word (codes "match")).0 is in
    let P : Text → Type 0 = λ f. TopicStep (word ∷ f ∷ name ∷ []) answer in
    let Q : Text → Type 0 = λ n. TopicStep (word ∷ pattern ∷ n ∷ []) answer in
    let R : Text → Type 0 = λ w. TopicStep (w ∷ pattern ∷ text ∷ []) answer in
    let S : List Text → Type 0 = λ a. TopicStep (codes "match" ∷ pattern ∷ text ∷ []) a in
    subst P same_filter (subst Q same_name (subst R (sym same_word) (subst S (sym gives) (TopicStep.matches pattern text))))
