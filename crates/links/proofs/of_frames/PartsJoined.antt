-- PartsJoined.antt: the parts of a message are joined to it, and no message's parts begin another's.
use Rattle.std.proofs.Common.{◌≡◌, ℕ, zero, suc, ◌+◌, ◌-◌, ◌*◌, ◌/◌, ◌<◌, ◌≤◌, List, [], ◌++◌, length, take, drop, refl, sym, ap, ◌∙◌, subst, arith, length-append, append_assoc}
use Rattle.std.proofs.lemmas.List.{length-drop, length-take-le, take-append-drop}
use Rattle.std.proofs.Math.Seq.{drop-append_seam, take-append_seam}
use Rattle.links.specs.frames.Parts.{part, in_parts, parts_of}
use Rattle.links.specs.frames.Fronts.{Front, Begins, behind}
use Rattle.links.specs.frames.Fronts.Front.{whole}
use Rattle.links.specs.frames.Fronts.Begins.{ends, goes_on}
use Rattle.links.specs.frames.Theorems.{PartsAreOneMessage, NoMessageBeginsAnother}
use Rattle.links.proofs.of_frames.PartHeads.{last_head, more_head}
use Rattle.links.proofs.of_frames.OneWay.{one_front}

part_long : (flag : ℕ) (bytes rest : List ℕ) → 5 + length bytes ≤ length (part flag bytes ++ rest)
part_long flag bytes rest = omega (arith, length-append (part flag bytes) rest)

last_part : (room : ℕ) (bytes rest : List ℕ) → length bytes ≤ 65536 → length bytes ≤ room → Begins room (part 0 bytes ++ rest) (whole bytes rest)
last_part room bytes rest short fits =
    subst (λ (l : List ℕ). Begins room (part 0 bytes ++ rest) (whole bytes l)) (drop-append_seam bytes rest)
    (subst (λ (l : List ℕ). Begins room (part 0 bytes ++ rest) (whole l (drop (length bytes) (bytes ++ rest)))) (take-append_seam bytes rest)
    (ends {len = length bytes} (last_head room bytes rest short fits) (part_long 0 bytes rest)))

more_part : (room : ℕ) (bytes rest : List ℕ) (front : Front) → length bytes ≤ 65536 → length bytes ≤ room
    → Begins (room - length bytes) rest front → Begins room (part 1 bytes ++ rest) (behind bytes front)
more_part room bytes rest front short fits b =
    subst (λ (l : List ℕ). Begins room (part 1 bytes ++ rest) (behind l front)) (take-append_seam bytes rest)
    (goes_on {len = length bytes} (more_head room bytes rest short fits) (part_long 1 bytes rest)
    (subst (λ (l : List ℕ). Begins (room - length bytes) l front) (sym (drop-append_seam bytes rest)) b))

joined_parts : (full room : ℕ) (message rest : List ℕ) → full ≡ (length message - 1) / 65536 → length message ≤ room
    → Begins room (in_parts full message ++ rest) (whole message rest)
joined_parts zero room message rest is fits = last_part room message rest (omega (arith, is)) fits
joined_parts (suc full) room message rest is fits =
    let front : List ℕ = take 65536 message in
    let behind_it : List ℕ = drop 65536 message in
    let many : 65536 ≤ length message = omega (arith, is) in
    let size : length (take 65536 message) ≡ 65536 = length-take-le 65536 message many in
    let left : length (drop 65536 message) ≡ length message - 65536 = length-drop 65536 message in
    let fewer : full ≡ (length (drop 65536 message) - 1) / 65536 = omega (arith, is, left, many) in
    let room_left : length (drop 65536 message) ≤ room - length (take 65536 message) = omega (arith, size, left, fits) in
    let again = joined_parts full (room - length (take 65536 message)) (drop 65536 message) rest fewer room_left in
    let made = more_part room (take 65536 message) (in_parts full (drop 65536 message) ++ rest) (whole (drop 65536 message) rest) (omega (arith, size)) (omega (arith, size, many, fits)) again in
    subst (λ (l : List ℕ). Begins room (in_parts (suc full) message ++ rest) (whole l rest)) (take-append-drop 65536 message)
    (subst (λ (l : List ℕ). Begins room l (whole (take 65536 message ++ drop 65536 message) rest))
    (sym (append_assoc (part 1 (take 65536 message)) (in_parts full (drop 65536 message)) rest)) made)

pub parts_joined : PartsAreOneMessage
parts_joined room message rest fits = joined_parts ((length message - 1) / 65536) room message rest refl fits

same_whole : (m n r s : List ℕ) → whole m r ≡ whole n s → (m ≡ n) × (r ≡ s)
same_whole m n r s e = (cc, cc)

pub none_begins_another : NoMessageBeginsAnother
none_begins_another message other rest left same =
    let room : ℕ = length message + length other in
    let a = parts_joined (length message + length other) message rest (omega arith) in
    let b = parts_joined (length message + length other) other left (omega arith) in
    same_whole message other rest left
    (one_front (length message + length other) (parts_of message ++ rest) (whole message rest) (whole other left) a
    (subst (λ (l : List ℕ). Begins (length message + length other) l (whole other left)) (sym same) b))

-- ---- how the parts of a message are written, one after the other

counted : (full : ℕ) (message : List ℕ) → full ≡ (length message - 1) / 65536 → length (in_parts full message) ≡ length message + 5 * (full + 1)
counted zero message is = omega (arith, length-append (part 0 message) [])
counted (suc full) message is =
    let many : 65536 ≤ length message = omega (arith, is) in
    let size : length (take 65536 message) ≡ 65536 = length-take-le 65536 message many in
    let left : length (drop 65536 message) ≡ length message - 65536 = length-drop 65536 message in
    let again = counted full (drop 65536 message) (omega (arith, is, left, many)) in
    let joins = length-append (part 1 (take 65536 message)) (in_parts full (drop 65536 message)) in
    omega (arith, joins, again, size, left, many)

pub parts_counted : (message : List ℕ) → length (parts_of message) ≡ length message + 5 * ((length message - 1) / 65536 + 1)
parts_counted message = counted ((length message - 1) / 65536) message refl

pub parts_last : (message : List ℕ) → length message ≤ 65536 → parts_of message ≡ part 0 message
parts_last message short =
    let none : (length message - 1) / 65536 ≡ 0 = omega (arith, short) in
    ap (λ (n : ℕ). in_parts n message) none

pub parts_more : (message : List ℕ) → 65536 < length message → parts_of message ≡ part 1 (take 65536 message) ++ parts_of (drop 65536 message)
parts_more message long =
    let left : length (drop 65536 message) ≡ length message - 65536 = length-drop 65536 message in
    let more : (length message - 1) / 65536 ≡ suc ((length (drop 65536 message) - 1) / 65536) = omega (arith, left, long) in
    ap (λ (n : ℕ). in_parts n message) more

pub moved_on : (before items rest message : List ℕ) → 65536 < length rest → items ++ parts_of rest ≡ before ++ parts_of message
    → (items ++ part 1 (take 65536 rest)) ++ parts_of (drop 65536 rest) ≡ before ++ parts_of message
moved_on before items rest message long is =
    append_assoc items (part 1 (take 65536 rest)) (parts_of (drop 65536 rest)) ∙ ap (λ (l : List ℕ). items ++ l) (sym (parts_more rest long)) ∙ is

pub left_room : (rest : List ℕ) → 65536 < length rest → length (parts_of rest) ≡ 65541 + length (parts_of (drop 65536 rest))
left_room rest long =
    let size : length (take 65536 rest) ≡ 65536 = length-take-le 65536 rest (omega (arith, long)) in
    omega (arith, size, ap (λ (l : List ℕ). length l) (parts_more rest long), length-append (part 1 (take 65536 rest)) (parts_of (drop 65536 rest)))
