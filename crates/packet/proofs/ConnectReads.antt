-- A CONNECT's body that is read is spelled so, and one that is spelled is read.
use Rattle.std.proofs.Common.{◌≡◌, ℕ, zero, suc, ◌*◌, ◌%◌, ◌^◌, ◌<◌, Bool, true, false, ltb, eqb, List, [], ◌∷◌, ◌++◌, length, drop, Ok, refl, sym, ap, subst, ◌∙◌, arith}
use Rattle.std.specs.Prelude.{IfOk, nat_eq}
use Rattle.std.specs.List.{starts_with}
use Rattle.std.proofs.lemmas.Bool.{eqb-true, ltb-true}
use Rattle.std.proofs.lemmas.Bool.Decides.{Decides-eqb}
use Rattle.std.proofs.lemmas.List.{append-nil}
use Rattle.std.proofs.lemmas.Slice.Eq.{starts_is}
use Rattle.packet_base.specs.Spelling.{number, text, bit}
use Rattle.packet_base.specs.Readers.{AreBytes, byte_at, number_at, text_at, ended, is_text}
use Rattle.packet_base.proofs.Steps.{then_if, seq_if, check_if}
use Rattle.packet_base.proofs.FieldsFound.{AreBytes-drop, Splits, Splits-then, byte_found, number_found, text_found, ended_found}
use Rattle.packet_base.proofs.FieldsAgain.{number_again, text_again}
use Rattle.packet_base.proofs.Clients.{client_checked, client_parts, client_short}
use Rattle.packet_base.specs.ClientId.{has_client_length, is_client}
use Rattle.packet.specs.declared.connect.Connect.{Connect}
use Rattle.packet.specs.Connect.{protocol, clean_of, connect_body, connect_of, FitsConnect}

-- connect flags below 4 whose lowest bit is not set
clean_flags : (flags : ℕ) → flags % 2 ≡ 0 → flags < 4 → flags ≡ 2 * bit (eqb flags 2)
clean_flags zero even small = refl
clean_flags (suc zero) even small = absurd (omega arith)
clean_flags (suc (suc zero)) even small = refl
clean_flags (suc (suc (suc n))) even small = absurd (omega arith)

-- flags that have CleanSession alone, or nothing
clean_found : (flags : ℕ) → IfOk (clean_of flags) (λ clean. flags ≡ 2 * bit clean)
clean_found flags =
    let P : Bool → Type 0 = λ clean. flags ≡ 2 * bit clean in
    check_if (eqb (flags % 2) 0) _ _ P (λ even.
    check_if (ltb flags 4) _ _ P (λ small.
    clean_flags flags (eqb-true _ _ even) (ltb-true _ _ small)))

protocol_found : (body : List ℕ) → AreBytes body → starts_with nat_eq body protocol ≡ true → Splits body protocol (drop 6 body)
protocol_found body fits named = record {
  parts = (starts_is Decides-eqb body protocol (starts_with nat_eq body protocol) refl).0 named;
  left = AreBytes-drop 6 body fits;
}

-- all fields one after another
whole : (body rest l2 l3 client : List ℕ) (level flags keep_alive : ℕ) (clean : Bool) → Splits body protocol rest → Splits rest (level ∷ flags ∷ []) l2 → Splits l2 (number keep_alive) l3 → Splits l3 (text client) []
    → level ≡ 4 → flags ≡ 2 * bit clean → body ≡ protocol ++ (4 ∷ 2 * bit clean ∷ []) ++ number keep_alive ++ text client
whole body rest l2 l3 client level flags keep_alive clean a b c d is_level is_flags =
    let front : List ℕ → List ℕ = λ two. protocol ++ two ++ number keep_alive ++ text client in
    let ab = Splits-then body protocol rest (level ∷ flags ∷ []) l2 a b in
    let abc = Splits-then body _ l2 (number keep_alive) l3 ab c in
    let abcd = Splits-then body _ l3 (text client) [] abc d in
    let two : level ∷ flags ∷ [] ≡ 4 ∷ 2 * bit clean ∷ [] = ap (λ (x : ℕ). x ∷ flags ∷ []) is_level ∙ ap (λ (x : ℕ). 4 ∷ x ∷ []) is_flags in
    abcd.parts ∙ append-nil _ ∙ ap front two

pub connect_found : (body : List ℕ) → AreBytes body → IfOk (connect_of body) (λ c. (body ≡ connect_body c) × FitsConnect c)
unfolding connect_of
connect_found body fits =
    let Q : Connect → Type 0 = λ c. (body ≡ connect_body c) × FitsConnect c in
    check_if (starts_with nat_eq body protocol) _ _ Q (λ named.
    let a = protocol_found body fits named in
    then_if (byte_at (drop 6 body)) _ (λ x. Splits (drop 6 body) (x.0 ∷ []) x.1 × (x.0 < 256)) Q (byte_found (drop 6 body) a.left) (λ level h1.
    then_if (byte_at level.1) _ (λ x. Splits level.1 (x.0 ∷ []) x.1 × (x.0 < 256)) Q (byte_found level.1 h1.0.left) (λ flags h2.
    check_if (eqb level.0 4) _ _ Q (λ is_level.
    then_if (clean_of flags.0) _ (λ clean. flags.0 ≡ 2 * bit clean) Q (clean_found flags.0) (λ clean is_flags.
    then_if (number_at flags.1) _ (λ x. Splits flags.1 (number x.0) x.1 × (x.0 < 2 ^ 16)) Q (number_found flags.1 h2.0.left) (λ keep h3.
    then_if (text_at keep.1) _ (λ x. Splits keep.1 (text x.0) x.1 × (length x.0 < 2 ^ 16) × (is_text x.0 ≡ true)) Q (text_found keep.1 h3.0.left) (λ client h4.
    seq_if (ended client.1) _ (client.1 ≡ []) Q (ended_found client.1) (λ nothing.
    check_if (has_client_length client.0) _ _ Q (λ len.
    let b = Splits-then (drop 6 body) (level.0 ∷ []) level.1 (flags.0 ∷ []) flags.1 h1.0 h2.0 in
    let d : Splits keep.1 (text client.0) [] = subst (λ (rest : List ℕ). Splits keep.1 (text client.0) rest) nothing h4.0 in (
      whole body (drop 6 body) flags.1 keep.1 client.0 level.0 flags.0 keep.0 clean a b h3.0 d (eqb-true _ _ is_level) is_flags,
      (h3.1, client_checked client.0 h4.2 len),
    ))))))))))

regrouped : (clean : Bool) (keep_alive : ℕ) (client : List ℕ) → protocol ++ (4 ∷ 2 * bit clean ∷ []) ++ number keep_alive ++ text client ≡ protocol ++ (4 ∷ 2 * bit clean ∷ (number keep_alive ++ (text client ++ [])))
regrouped clean keep_alive client = ap (λ (x : List ℕ). protocol ++ (4 ∷ 2 * bit clean ∷ (number keep_alive ++ x))) (sym (append-nil (text client)))

again_at : (clean : Bool) (keep_alive : ℕ) (client : List ℕ) → keep_alive < 2 ^ 16 → is_client client ≡ true
    → connect_of (connect_body (record { client = client; clean = clean; keep_alive = keep_alive })) ≡ Ok (record { client = client; clean = clean; keep_alive = keep_alive })
unfolding connect_of
again_at true keep_alive client small good =
    let parts = client_parts client good in
    ap connect_of (regrouped true keep_alive client) ∙ rw (number_again keep_alive (text client ++ []) small, text_again client [] (client_short client good) parts.0, parts.1) refl
again_at false keep_alive client small good =
    let parts = client_parts client good in
    ap connect_of (regrouped false keep_alive client) ∙ rw (number_again keep_alive (text client ++ []) small, text_again client [] (client_short client good) parts.0, parts.1) refl

pub connect_again : (c : Connect) → FitsConnect c → connect_of (connect_body c) ≡ Ok c
connect_again c fits = again_at c.clean c.keep_alive c.client fits.0 fits.1
