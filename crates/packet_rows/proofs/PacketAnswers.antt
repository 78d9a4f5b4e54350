-- PacketAnswers.antt: a step about one packet, by its word, and what is written for a packet.
use Rattle.std.proofs.Common.{◌≡◌, ◌<◌, ◌^◌, ℕ, Bool, true, false, List, [], ◌∷◌, Some, length, codes, bytes_eq, nat_lt, cond, Decides, ap, sym, subst, ◌∙◌}
use Rattle.std.proofs.lemmas.Slice.Eq.{bytes_eq-Decides}
use Rattle.std.proofs.lemmas.Bool.{lt-ltb, le-ltb}
use Rattle.rows.specs.Fields.{Text, number_of}
use Rattle.rows.specs.Playing.{Answers}
use Rattle.topics.specs.Text.{topic_fault}
use Rattle.packet.specs.declared.packet.Packet.{Packet}
use Rattle.packet_base.specs.Spelling.{remaining_length}
use Rattle.packet_base.specs.Readers.{length_at}
use Rattle.packet.specs.Spelling.{IsPacket, IsTooLarge, AppendsSpelling, Spells, body, max_body, spelling}
use Rattle.packet.specs.Verdict.{verdict}
use Rattle.packet.specs.Theorems.{SpellingSpells}
use Rattle.rows.specs.Answers.{counted, word}
use Rattle.packet_rows.specs.TopicSteps.{unless}
use Rattle.packet_rows.specs.PacketSteps.{LengthAnswer, PacketStep, digits_of, publish_of, read_answers, read_back, spelled}

-- what is appended to nothing are the bytes of the packet
written : SpellingSpells → (p : Packet) (out : List ℕ) → IsPacket p → AppendsSpelling [] out p → out ≡ spelling p
written law p out fits appended = appended.2 ∙ (law p fits).1 appended.0 appended.1

-- the bytes are those that were written exactly if they spell the packet
pub written_so : SpellingSpells → (p : Packet) (out bytes : List ℕ) (same : Bool) → IsPacket p
    → AppendsSpelling [] out p → same ≡ bytes_eq out bytes → Decides same (Spells p bytes)
written_so law p out bytes same fits appended is = (
  λ h. subst (λ (bs : List ℕ). Spells p bs)
      (sym (written law p out fits appended) ∙ (bytes_eq-Decides out bytes).0 (sym is ∙ h)) (law p fits).0,
  λ s. is ∙ (bytes_eq-Decides out bytes).1 (written law p out fits appended ∙ sym ((law p fits).1 bytes s)),
)

-- a packet that was written
pub spelled_small : SpellingSpells → (p : Packet) (out : List ℕ) → IsPacket p → AppendsSpelling [] out p
    → out ∷ [] ≡ spelled p
spelled_small law p out fits appended =
    let small : nat_lt max_body (length (body p)) ≡ false = le-ltb max_body (length (body p)) fits.2 in
    ap (λ (bytes : List ℕ). bytes ∷ []) (written law p out fits appended)
    ∙ sym (ap (λ (b : Bool). cond b (counted (codes "refused") 4) (word (spelling p))) small)

-- a packet that is too large
pub spelled_large : (p : Packet) → IsTooLarge p → counted (codes "refused") 4 ≡ spelled p
spelled_large p large =
    sym (ap (λ (b : Bool). cond b (counted (codes "refused") 4) (word (spelling p))) (lt-ltb max_body (length (body p)) large))

pub read_step : (word bytes : Text) (answers : Answers) → bytes_eq word (codes "read") ≡ true
    → answers ≡ read_answers (verdict bytes) → PacketStep (word ∷ bytes ∷ []) answers
read_step word bytes answers is gives =
    let same_word : word ≡ codes "read" = (bytes_eq-Decides word (codes "read")).0 is in
    let P : Text → Type 0 = λ w. PacketStep (w ∷ bytes ∷ []) answers in
    let Q : Answers → Type 0 = λ a. PacketStep (codes "read" ∷ bytes ∷ []) a in
    subst P (sym same_word) (subst Q (sym gives) (PacketStep.read bytes))

pub length_step : (word digits : Text) (answer : List Text) (answers : Answers) → bytes_eq word (codes "length") ≡ true
    → LengthAnswer digits answer → answers ≡ answer ∷ [] → PacketStep (word ∷ digits ∷ []) answers
length_step word digits answer answers is gives alone =
    let same_word : word ≡ codes "length" = (bytes_eq-Decides word (codes "length")).0 is in
    let P : Text → Type 0 = λ w. PacketStep (w ∷ digits ∷ []) answers in
    let Q : Answers → Type 0 = λ a. PacketStep (codes "length" ∷ digits ∷ []) a in
    subst P (sym same_word) (subst Q (sym alone) (PacketStep.length_bytes digits answer gives))

pub write_step : (word topic payload : Text) (answer : List Text) (answers : Answers) → bytes_eq word (codes "write") ≡ true
    → answer ≡ unless (topic_fault topic) (spelled (publish_of topic payload)) → answers ≡ answer ∷ []
    → PacketStep (word ∷ topic ∷ payload ∷ []) answers
write_step word topic payload answer answers is gives alone =
    let same_word : word ≡ codes "write" = (bytes_eq-Decides word (codes "write")).0 is in
    let P : Text → Type 0 = λ w. PacketStep (w ∷ topic ∷ payload ∷ []) answers in
    let Q : Answers → Type 0 = λ a. PacketStep (codes "write" ∷ topic ∷ payload ∷ []) a in
    let R : List Text → Type 0 = λ a. PacketStep (codes "write" ∷ topic ∷ payload ∷ []) (a ∷ []) in
    subst P (sym same_word) (subst Q (sym alone) (subst R (sym gives) (PacketStep.write topic payload)))

pub length_answer : (digits : Text) (number length : ℕ) (answer : List Text) → number_of digits ≡ Some number
    → number < 2 ^ 28 → length ≡ number
    → answer ≡ remaining_length length ∷ digits_of (read_back (length_at 3 (remaining_length length)))
    → LengthAnswer digits answer
length_answer digits number length answer read small same gives =
    let P : ℕ → Type 0 = λ n. answer ≡ remaining_length n ∷ digits_of (read_back (length_at 3 (remaining_length n))) in
    (number, read, small, subst P same gives)
