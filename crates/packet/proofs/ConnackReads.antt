-- A CONNACK's body that is read is spelled so, and one that is spelled is read.
use Rattle.std.proofs.Common.{◌≡◌, ℕ, ◌<◌, true, false, eqb, List, [], ◌∷◌, Ok, refl, ap, subst, ◌∙◌}
use Rattle.std.specs.Prelude.{IfOk}
use Rattle.std.proofs.lemmas.Bool.{eqb-true}
use Rattle.packet_base.specs.declared.refusal_code.RefusalCode.TheVariants as codes
use Rattle.packet_base.specs.Readers.{AreBytes, byte_at, ended}
use Rattle.packet_base.proofs.Steps.{then_if, seq_if, cond_if}
use Rattle.packet_base.proofs.FieldsFound.{Splits, Splits-then, Splits-all, byte_found, ended_found}
use Rattle.packet.specs.declared.connack.Connack.{Connack}
use Rattle.packet.specs.declared.connack.Connack.TheVariants as connacks
use Rattle.packet.specs.Connack.{connack_body, coded, answer_of, connack_of}

-- two bytes that are known
two : (a b c d : ℕ) → eqb a c ≡ true → eqb b d ≡ true → a ∷ b ∷ [] ≡ c ∷ d ∷ []
two a b c d e f = ap (λ (x : ℕ). x ∷ b ∷ []) (eqb-true a c e) ∙ ap (λ (x : ℕ). c ∷ x ∷ []) (eqb-true b d f)

coded_found : (present code : ℕ) → eqb present 0 ≡ true → IfOk (coded code) (λ c. present ∷ code ∷ [] ≡ connack_body c)
coded_found present code none =
    let Q : Connack → Type 0 = λ c. present ∷ code ∷ [] ≡ connack_body c in
    cond_if (eqb code 0) _ _ Q (two present code 0 0 none) (λ _.
    cond_if (eqb code 1) _ _ Q (two present code 0 1 none) (λ _.
    cond_if (eqb code 2) _ _ Q (two present code 0 2 none) (λ _.
    cond_if (eqb code 3) _ _ Q (two present code 0 3 none) (λ _.
    cond_if (eqb code 4) _ _ Q (two present code 0 4 none) (λ _.
    cond_if (eqb code 5) _ _ Q (two present code 0 5 none) (λ _. tt))))))

answer_found : (present code : ℕ) → IfOk (answer_of present code) (λ c. present ∷ code ∷ [] ≡ connack_body c)
answer_found present code =
    let Q : Connack → Type 0 = λ c. present ∷ code ∷ [] ≡ connack_body c in
    cond_if (eqb present 1) _ _ Q
    (λ one. cond_if (eqb code 0) _ _ Q (two present code 1 0 one) (λ _. tt))
    (λ _. cond_if (eqb present 0) _ _ Q (coded_found present code) (λ _. tt))

pub connack_found : (body : List ℕ) → AreBytes body → IfOk (connack_of body) (λ c. body ≡ connack_body c)
unfolding connack_of
connack_found body fits =
    let Q : Connack → Type 0 = λ c. body ≡ connack_body c in
    then_if (byte_at body) _ (λ x. Splits body (x.0 ∷ []) x.1 × (x.0 < 256)) Q (byte_found body fits) (λ present h1.
    then_if (byte_at present.1) _ (λ x. Splits present.1 (x.0 ∷ []) x.1 × (x.0 < 256)) Q (byte_found present.1 h1.0.left) (λ code h2.
    then_if (answer_of present.0 code.0) _ (λ c. present.0 ∷ code.0 ∷ [] ≡ connack_body c) Q (answer_found present.0 code.0) (λ c is_answer.
    seq_if (ended code.1) _ (code.1 ≡ []) Q (ended_found code.1) (λ nothing.
    let both = Splits-then body (present.0 ∷ []) present.1 (code.0 ∷ []) code.1 h1.0 h2.0 in
    let all = Splits-all body _ (subst (λ (rest : List ℕ). Splits body (present.0 ∷ code.0 ∷ []) rest) nothing both) in
    all ∙ is_answer))))

pub connack_again : (c : Connack) → connack_of (connack_body c) ≡ Ok c
unfolding connack_of
connack_again (connacks.Accepted true) = refl
connack_again (connacks.Accepted false) = refl
connack_again (connacks.Refused codes.ProtocolVersion) = refl
connack_again (connacks.Refused codes.IdentifierRejected) = refl
connack_again (connacks.Refused codes.ServerUnavailable) = refl
connack_again (connacks.Refused codes.BadUserNameOrPassword) = refl
connack_again (connacks.Refused codes.NotAuthorized) = refl
