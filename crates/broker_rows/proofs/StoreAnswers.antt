-- StoreAnswers.antt: steps about retained publications: what each gives, and by its word.
use Rattle.std.proofs.Common.{◌≡◌, ◌++◌, true, List, [], ◌∷◌, map, length, codes, bytes_eq, refl, sym, ap, subst, ◌∙◌}
use Rattle.rows.specs.Fields.{Text}
use Rattle.rows.specs.Playing.{Answers}
use Rattle.rows.specs.Answers.{counted}
use Rattle.packet_base.specs.declared.qos.QoS.{QoS}
use Rattle.retained.specs.Retained.{RetainedTopics, after_put, matching_entries}
use Rattle.broker_rows.specs.Values.{qos_text}
use Rattle.broker_rows.specs.StoreSteps.{StoreStep, retained_fields}
use Rattle.broker_rows.proofs.Words.{same_one, same_three, with_word}

of_word : (old new : RetainedTopics) (word other : Text) (fields : List Text) (answers : Answers) → bytes_eq word other ≡ true
    → StoreStep old (other ∷ fields) answers new → StoreStep old (word ∷ fields) answers new
of_word old new word other fields answers is step =
    subst (λ (s : List Text). StoreStep old s answers new) (sym (with_word word other fields is)) step

pub topics_gives : (old new : RetainedTopics) (answer : List Text) (answers : Answers)
    → answer ≡ counted (codes "topics") (length old) → answers ≡ answer ∷ [] → new ≡ old
    → StoreStep old (codes "topics" ∷ []) answers new
topics_gives old new answer answers is alone same =
    StoreStep.topics refl (alone ∙ ap (λ (a : List Text). a ∷ []) is) same

pub retain_gives : (old new : RetainedTopics) (one two three topic payload : Text) (qos : QoS) (answers : Answers)
    → topic ≡ one → two ≡ qos_text qos → payload ≡ three → answers ≡ [] → new ≡ after_put old topic qos payload
    → StoreStep old (codes "retain" ∷ one ∷ two ∷ three ∷ []) answers new
retain_gives old new one two three topic payload qos answers is_one is_two is_three none gives =
    StoreStep.retain topic payload qos (same_three (codes "retain") one two three is_one (sym is_two) is_three) none gives

pub find_gives : (old new : RetainedTopics) (one filter : Text) (found slice : RetainedTopics) (answers : Answers)
    → filter ≡ one → found ≡ matching_entries old filter → slice ≡ found → answers ≡ map retained_fields slice → new ≡ old
    → StoreStep old (codes "find" ∷ one ∷ []) answers new
find_gives old new one filter found slice answers is_one is_found same gives stays =
    StoreStep.find filter (same_one (codes "find") one is_one) (gives ∙ ap (map retained_fields) (same ∙ is_found)) stays

pub topics_step : (old new : RetainedTopics) (word : Text) (answers : Answers) → bytes_eq word (codes "topics") ≡ true
    → StoreStep old (codes "topics" ∷ []) answers new → StoreStep old (word ∷ []) answers new
topics_step old new word answers is step = of_word old new word (codes "topics") [] answers is step

pub find_step : (old new : RetainedTopics) (word filter : Text) (answers : Answers) → bytes_eq word (codes "find") ≡ true
    → StoreStep old (codes "find" ∷ filter ∷ []) answers new → StoreStep old (word ∷ filter ∷ []) answers new
find_step old new word filter answers is step = of_word old new word (codes "find") (filter ∷ []) answers is step

pub retain_step : (old new : RetainedTopics) (word topic qos payload : Text) (answers : Answers) → bytes_eq word (codes "retain") ≡ true
    → StoreStep old (codes "retain" ∷ topic ∷ qos ∷ payload ∷ []) answers new → StoreStep old (word ∷ topic ∷ qos ∷ payload ∷ []) answers new
retain_step old new word topic qos payload answers is step = of_word old new word (codes "retain") (topic ∷ qos ∷ payload ∷ []) answers is step
