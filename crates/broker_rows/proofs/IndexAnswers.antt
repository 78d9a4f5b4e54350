-- IndexAnswers.antt: steps about subscriptions: what each gives, and by its word.
use Rattle.std.proofs.Common.{◌≡◌, ◌++◌, Bool, true, List, [], ◌∷◌, ◌↔◌, map, is_some, codes, bytes_eq, refl, sym, ap, subst, ◌∙◌}
use Rattle.rows.specs.Fields.{Text}
use Rattle.rows.specs.Playing.{Answers}
use Rattle.rows.specs.Answers.{yes_or_no}
use Rattle.packet_base.specs.declared.qos.QoS.{QoS}
use Rattle.subs_base.specs.Content.{Content, with_row, without_row, without_client}
use Rattle.subs_base.specs.Granted.{Row, AppendsGranted}
use Rattle.broker_rows.specs.Values.{qos_text}
use Rattle.broker_rows.specs.IndexSteps.{IndexStep, grant_fields}
use Rattle.broker_rows.proofs.Words.{same_one, same_three, same_truth, same_two, with_word}

of_word : (old new : Content) (word other : Text) (fields : List Text) (answers : Answers) → bytes_eq word other ≡ true
    → IndexStep old (other ∷ fields) answers new → IndexStep old (word ∷ fields) answers new
of_word old new word other fields answers is step =
    subst (λ (s : List Text). IndexStep old s answers new) (sym (with_word word other fields is)) step

pub subscribe_gives : (old new : Content) (one two three client filter : Text) (qos : QoS) (answers : Answers)
    → client ≡ one → filter ≡ two → three ≡ qos_text qos → answers ≡ [] → new ≡ with_row old client filter qos
    → IndexStep old (codes "subscribe" ∷ one ∷ two ∷ three ∷ []) answers new
subscribe_gives old new one two three client filter qos answers is_one is_two is_three none gives =
    IndexStep.subscribe client filter qos (same_three (codes "subscribe") one two three is_one is_two (sym is_three)) none gives

pub unsubscribe_gives : (old new : Content) (one two client filter : Text) (was_there : Bool) (answer : List Text) (answers : Answers)
    → client ≡ one → filter ≡ two → (was_there ≡ true) ↔ (is_some (old client filter) ≡ true)
    → answer ≡ yes_or_no was_there → answers ≡ answer ∷ [] → new ≡ without_row old client filter
    → IndexStep old (codes "unsubscribe" ∷ one ∷ two ∷ []) answers new
unsubscribe_gives old new one two client filter was_there answer answers is_one is_two found is alone gives =
    let same : was_there ≡ is_some (old client filter) = same_truth was_there (is_some (old client filter)) found in
    IndexStep.unsubscribe client filter (same_two (codes "unsubscribe") one two is_one is_two)
    (alone ∙ ap (λ (a : List Text). a ∷ []) (is ∙ ap yes_or_no same)) gives

pub end_gives : (old new : Content) (one client : Text) (answers : Answers) → client ≡ one → answers ≡ []
    → new ≡ without_client old client → IndexStep old (codes "end" ∷ one ∷ []) answers new
end_gives old new one client answers is_one none gives = IndexStep.end client (same_one (codes "end") one is_one) none gives

pub publish_gives : (old new : Content) (one topic : Text) (before after : List Row) (answers : Answers) → topic ≡ one
    → before ≡ [] → AppendsGranted old topic before after → answers ≡ map grant_fields after → new ≡ old
    → IndexStep old (codes "publish" ∷ one ∷ []) answers new
publish_gives old new one topic before after answers is_one none appended gives same =
    let (rows, granted, added) = appended in
    let all : after ≡ rows = added ∙ ap (λ (l : List Row). l ++ rows) none in
    IndexStep.publish topic rows (same_one (codes "publish") one is_one) granted (gives ∙ ap (map grant_fields) all) same

pub end_step : (old new : Content) (word client : Text) (answers : Answers) → bytes_eq word (codes "end") ≡ true
    → IndexStep old (codes "end" ∷ client ∷ []) answers new → IndexStep old (word ∷ client ∷ []) answers new
end_step old new word client answers is step = of_word old new word (codes "end") (client ∷ []) answers is step

pub publish_step : (old new : Content) (word topic : Text) (answers : Answers) → bytes_eq word (codes "publish") ≡ true
    → IndexStep old (codes "publish" ∷ topic ∷ []) answers new → IndexStep old (word ∷ topic ∷ []) answers new
publish_step old new word topic answers is step = of_word old new word (codes "publish") (topic ∷ []) answers is step

pub unsubscribe_step : (old new : Content) (word client filter : Text) (answers : Answers) → bytes_eq word (codes "unsubscribe") ≡ true
    → IndexStep old (codes "unsubscribe" ∷ client ∷ filter ∷ []) answers new → IndexStep old (word ∷ client ∷ filter ∷ []) answers new
unsubscribe_step old new word client filter answers is step = of_word old new word (codes "unsubscribe") (client ∷ filter ∷ []) answers is step

pub subscribe_step : (old new : Content) (word client filter qos : Text) (answers : Answers) → bytes_eq word (codes "subscribe") ≡ true
    → IndexStep old (codes "subscribe" ∷ client ∷ filter ∷ qos ∷ []) answers new → IndexStep old (word ∷ client ∷ filter ∷ qos ∷ []) answers new
subscribe_step old new word client filter qos answers is step = of_word old new word (codes "subscribe") (client ∷ filter ∷ qos ∷ []) answers is step
