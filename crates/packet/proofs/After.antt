-- What is left after a Remaining Length and a body is the end of the bytes, and what this says
-- about the answers of `decode`.
use Rattle.std.proofs.Common.{◌≡◌, ℕ, suc, ◌+◌, ◌-◌, ◌≤◌, List, [], ◌∷◌, ◌++◌, length, get_or, take, drop, Result, Ok, Err, refl, sym, ap, subst, ◌∙◌, arith, append_assoc}
use Rattle.std.specs.Prelude.{IfOk}
use Rattle.std.proofs.lemmas.Bool.{le-leb}
use Rattle.std.proofs.lemmas.Result.{IfOk-at_ok}
use Rattle.std.proofs.lemmas.List.{take_all, length-append, length-drop, take-append-drop, append_cancel_right}
use Rattle.std.proofs.lemmas.List.Prefix.{end_rest}
use Rattle.topics.specs.declared.malformed.MalformedKind.{MalformedKind}
use Rattle.topics.specs.declared.malformed.MalformedKind.TheVariants as kinds
use Rattle.packet_base.specs.declared.stop.Stop.{Stop}
use Rattle.packet_base.specs.declared.stop.Stop.TheVariants as stops
use Rattle.packet_base.specs.declared.header.Header.{Header}
use Rattle.packet_base.specs.Header.{header_of}
use Rattle.packet_base.specs.Readers.{AreBytes, length_at}
use Rattle.packet_base.specs.Outcome.{StopsBy}
use Rattle.packet_base.proofs.LengthForms.{length_left}
use Rattle.packet.specs.declared.packet.Packet.{Packet}
use Rattle.packet.specs.declared.decoder.Step.{Step}
use Rattle.packet.specs.declared.decoder.Step.TheVariants as steps
use Rattle.packet.specs.declared.error.DecodeFault.{DecodeFault}
use Rattle.packet.specs.declared.error.DecodeFault.TheVariants as faults
use Rattle.packet.specs.Spelling.{Spells, max_body}
use Rattle.packet.specs.Verdict.{body_of, verdict, Decodes, IsWithin, IsSpelledSo, ReadsWhatIsSpelled}
use Rattle.packet.proofs.PacketReads.{Begins, verdict_found, verdict_again}

left : (bytes rest : List ℕ) (n : ℕ) → length_at 3 bytes ≡ Ok (n, rest) → (front : List ℕ) × (bytes ≡ front ++ rest)
left bytes rest n e = IfOk-at_ok (λ x. (front : List ℕ) × (bytes ≡ front ++ x.1)) e (length_left 3 bytes)

pub rest_shorter : (bytes rest : List ℕ) (n len : ℕ) → length_at 3 bytes ≡ Ok (n, rest) → length (drop len rest) ≤ length bytes
rest_shorter bytes rest n len e =
    let h = left bytes rest n e in
    omega (arith, ap length h.1, length-append h.0 rest, length-drop len rest)

pub rest_dropped : (bytes rest : List ℕ) (n len : ℕ) → length_at 3 bytes ≡ Ok (n, rest) → drop (length bytes - length (drop len rest)) bytes ≡ drop len rest
rest_dropped bytes rest n len e =
    let h = left bytes rest n e in
    let parts : bytes ≡ (h.0 ++ take len rest) ++ drop len rest =
    h.1 ∙ ap (λ (x : List ℕ). h.0 ++ x) (sym (take-append-drop len rest)) ∙ sym (append_assoc h.0 (take len rest) (drop len rest)) in
    end_rest bytes (drop len rest) (h.0 ++ take len rest) parts

-- the verdict if each step continues
pub verdict_whole : (first : ℕ) (bytes rest front after : List ℕ) (h : Header) (n : ℕ) (p : Packet) → header_of first ≡ Ok h → length_at 3 bytes ≡ Ok (n, rest) → n ≤ max_body → n ≤ length rest
    → front ≡ take n rest → after ≡ drop n rest → body_of h front ≡ Ok p → verdict (first ∷ bytes) ≡ Ok (p, drop (length bytes - length after) bytes)
unfolding verdict
verdict_whole first bytes rest front after h n p said len small there is_front is_after read =
    let whole : body_of h (take n rest) ≡ Ok p = ap (body_of h) (sym is_front) ∙ read in
    let left : drop (length bytes - length after) bytes ≡ drop n rest =
    ap (λ (x : List ℕ). drop (length bytes - length x) bytes) is_after ∙ rest_dropped bytes rest n n len in
    rw (said, len, le-leb _ _ small, le-leb _ _ there, whole, left) refl

-- a packet that was read is spelled so
pub is_found : (bytes : List ℕ) (result : Result Step DecodeFault) → AreBytes bytes → Decodes bytes result → IfOk result (IsSpelledSo bytes)
is_found bytes (Ok (steps.Whole p len)) fits given =
    let begins = IfOk-at_ok (λ x. Begins bytes x.0 x.1) given (verdict_found bytes fits) in
    let front : begins.front ≡ take len bytes =
    append_cancel_right begins.front (take len bytes) (drop len bytes) (sym begins.parts ∙ sym (take-append-drop len bytes)) in
    (subst (λ (x : List ℕ). Spells p x) front begins.spelled, begins.whole)
is_found bytes (Ok steps.More) fits given = tt
is_found bytes (Err fault) fits given = tt

abbrev done : {A : Type 0} → A → Result A Stop
done x = Ok x

-- one outcome, one value
pub ok_is : {A : Type 0} (x y : A) → done x ≡ done y → x ≡ y
ok_is x y e = cc

memory_alone : (kind : MalformedKind) (read : Result (Packet × List ℕ) Stop) (x : Packet × List ℕ) → read ≡ Ok x → StopsBy (stops.Malformed kind) read → kind ≡ kinds.Memory
memory_alone kinds.Memory read x e stop = refl
memory_alone kind read x e stop = absurd cc

counted : (len : ℕ) (front rest bytes : List ℕ) → drop len bytes ≡ rest → bytes ≡ front ++ rest → len ≤ length bytes → len ≡ length front
counted len front rest bytes same parts within =
    omega (arith, ap length same, length-drop len bytes, ap length parts, length-append front rest, within)

-- what is spelled is read
pub is_read : (bytes : List ℕ) (result : Result Step DecodeFault) → Decodes bytes result → IfOk result (IsWithin bytes) → ReadsWhatIsSpelled bytes result
is_read bytes (Ok (steps.Whole q len)) given within p front rest whole spelled parts =
    let again : verdict bytes ≡ Ok (p, rest) = ap verdict parts ∙ verdict_again p front rest whole spelled in
    let same : (q, drop len bytes) ≡ (p, rest) = ok_is (q, drop len bytes) (p, rest) (sym given ∙ again) in
    let same_rest : drop len bytes ≡ rest = ap (λ (x : Packet × List ℕ). x.1) same in
    let same_len : len ≡ length front =
    counted len front rest bytes same_rest parts within in
    ap (λ (x : Packet). steps.Whole x len) (ap (λ (x : Packet × List ℕ). x.0) same) ∙ ap (λ (n : ℕ). steps.Whole p n) same_len
is_read bytes (Ok steps.More) given within p front rest whole spelled parts =
    let again : verdict bytes ≡ Ok (p, rest) = ap verdict parts ∙ verdict_again p front rest whole spelled in
    absurd cc
is_read bytes (Err (faults.Malformed kind)) given within p front rest whole spelled parts =
    let again : verdict bytes ≡ Ok (p, rest) = ap verdict parts ∙ verdict_again p front rest whole spelled in
    ap (λ (k : MalformedKind). faults.Malformed k) (memory_alone kind (verdict bytes) (p, rest) again given)
is_read bytes (Err (faults.Refused code)) given within p front rest whole spelled parts =
    let again : verdict bytes ≡ Ok (p, rest) = ap verdict parts ∙ verdict_again p front rest whole spelled in
    absurd cc

-- a slice is its first byte and those after it
pub verdict_after : (bytes : List ℕ) (p : Packet) (n : ℕ) → 1 ≤ length bytes
    → verdict (get_or bytes 0 0 ∷ take (length bytes - 1) (drop 1 bytes)) ≡ Ok (p, drop n (take (length bytes - 1) (drop 1 bytes)))
    → verdict bytes ≡ Ok (p, drop (1 + n) bytes)
verdict_after [] p n some e = absurd (omega arith)
verdict_after (b ∷ bytes) p n some e =
    let all : take (suc (length bytes) - 1) bytes ≡ bytes = take_all _ bytes (omega arith) in
    let more : 1 + n ≡ suc n = omega arith in
    rw more (sym (ap (λ (x : List ℕ). verdict (b ∷ x)) all) ∙ e ∙ ap (λ (x : List ℕ). Ok (p, drop n x)) all)
