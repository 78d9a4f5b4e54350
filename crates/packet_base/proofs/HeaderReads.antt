-- A first byte says what it spells, and what it spells is what it says.
use Rattle.std.proofs.Common.{◌≡◌, ℕ, zero, suc, ◌+◌, ◌*◌, ◌/◌, ◌%◌, ◌<◌, true, false, eqb, ltb, Ok, refl, ◌∙◌, arith, inl, inr}
use Rattle.std.specs.Prelude.{IfOk}
use Rattle.std.proofs.lemmas.Bool.{eqb-true, cases_lt, lt-ltb, le-ltb, ltb-false}
use Rattle.packet_base.specs.declared.header.DeliveryFlags.TheVariants as deliveries
use Rattle.packet_base.specs.declared.header.Header.{Header}
use Rattle.packet_base.specs.declared.header.Header.TheVariants as headers
use Rattle.packet_base.specs.Spelling.{bit}
use Rattle.packet_base.specs.Header.{first_byte, plain_header, publish_header, header_of}
use Rattle.packet_base.proofs.Steps.{cond_if}

-- a type whose flags are always the same
plain_found : (header : Header) (type wanted first : ℕ) → first_byte header ≡ 16 * type + wanted → eqb (first / 16) type ≡ true
    → IfOk (plain_header header wanted (first % 16)) (λ h. first_byte h ≡ first)
plain_found header type wanted first spelled same =
    let Q : Header → Type 0 = λ h. first_byte h ≡ first in
    cond_if (eqb (first % 16) wanted) _ _ Q
    (λ t. spelled ∙ (let whole : 16 * type + wanted ≡ first = omega (arith, eqb-true _ _ same, eqb-true _ _ t) in whole))
    (λ t. tt)

-- the bit of DUP
dup_bit : (flags : ℕ) → flags < 16 → bit (ltb 7 flags) ≡ flags / 8
dup_bit flags small =
    elim (cases_lt 7 flags) [
      | inl set ↦ rw (lt-ltb 7 flags set) (omega arith)
      | inr clear ↦ rw (le-ltb 7 flags clear) (omega arith)
    ]

-- the bit of RETAIN
odd_bit : (n : ℕ) → n < 2 → bit (eqb n 1) ≡ n
odd_bit zero small = refl
odd_bit (suc zero) small = refl
odd_bit (suc (suc n)) small = absurd (omega arith)

-- the flags of a PUBLISH, put together
together : (first level d r : ℕ) → first / 16 ≡ 3 → first % 16 / 2 % 4 ≡ level → d ≡ first % 16 / 8 → r ≡ first % 16 % 2 → 0x30 + (2 * level + 8 * d) + r ≡ first
together first level d r type qos dup retain = omega (arith, type, qos, dup, retain)

publish_found : (first : ℕ) → eqb (first / 16) 3 ≡ true → IfOk (publish_header (first % 16)) (λ h. first_byte h ≡ first)
publish_found first type =
    let Q : Header → Type 0 = λ h. first_byte h ≡ first in
    let flags = first % 16 in
    let is : first / 16 ≡ 3 = eqb-true (first / 16) 3 type in
    let dup : bit (ltb 7 flags) ≡ flags / 8 = dup_bit flags (omega arith) in
    let retain : bit (eqb (flags % 2) 1) ≡ flags % 2 = odd_bit (flags % 2) (omega arith) in
    cond_if (eqb (flags / 2 % 4) 3) _ _ Q (λ _. tt) (λ no3.
    cond_if (eqb (flags / 2 % 4) 2) _ _ Q (λ t. together first 2 _ _ is (eqb-true (flags / 2 % 4) 2 t) dup retain) (λ no2.
    cond_if (eqb (flags / 2 % 4) 1) _ _ Q (λ t. together first 1 _ _ is (eqb-true (flags / 2 % 4) 1 t) dup retain) (λ no1.
    cond_if (ltb 7 flags) _ _ Q (λ _. tt) (λ low.
    let none : flags / 2 % 4 ≡ 0 = none_left (flags / 2 % 4) (omega arith) no3 no2 no1 in
    let clear : 0 ≡ flags / 8 = (let small : flags < 8 = omega (arith, ltb-false 7 flags low) in omega (arith, small)) in
    together first 0 0 (bit (eqb (flags % 2) 1)) is none clear retain))))
  where
    none_left : (n : ℕ) → n < 4 → eqb n 3 ≡ false → eqb n 2 ≡ false → eqb n 1 ≡ false → n ≡ 0
    none_left zero small a b c = refl
    none_left (suc zero) small a b c = absurd cc
    none_left (suc (suc zero)) small a b c = absurd cc
    none_left (suc (suc (suc zero))) small a b c = absurd cc
    none_left (suc (suc (suc (suc n)))) small a b c = absurd (omega arith)

pub header_found : (first : ℕ) → IfOk (header_of first) (λ h. first_byte h ≡ first)
header_found first =
    let Q : Header → Type 0 = λ h. first_byte h ≡ first in
    cond_if (eqb (first / 16) 1) _ _ Q (λ t. plain_found headers.Connect 1 0 first refl t) (λ _.
    cond_if (eqb (first / 16) 2) _ _ Q (λ t. plain_found headers.Connack 2 0 first refl t) (λ _.
    cond_if (eqb (first / 16) 3) _ _ Q (λ t. publish_found first t) (λ _.
    cond_if (eqb (first / 16) 4) _ _ Q (λ t. plain_found headers.Puback 4 0 first refl t) (λ _.
    cond_if (eqb (first / 16) 5) _ _ Q (λ t. plain_found headers.Pubrec 5 0 first refl t) (λ _.
    cond_if (eqb (first / 16) 6) _ _ Q (λ t. plain_found headers.Pubrel 6 2 first refl t) (λ _.
    cond_if (eqb (first / 16) 7) _ _ Q (λ t. plain_found headers.Pubcomp 7 0 first refl t) (λ _.
    cond_if (eqb (first / 16) 8) _ _ Q (λ t. plain_found headers.Subscribe 8 2 first refl t) (λ _.
    cond_if (eqb (first / 16) 9) _ _ Q (λ t. plain_found headers.Suback 9 0 first refl t) (λ _.
    cond_if (eqb (first / 16) 10) _ _ Q (λ t. plain_found headers.Unsubscribe 10 2 first refl t) (λ _.
    cond_if (eqb (first / 16) 11) _ _ Q (λ t. plain_found headers.Unsuback 11 0 first refl t) (λ _.
    cond_if (eqb (first / 16) 12) _ _ Q (λ t. plain_found headers.Pingreq 12 0 first refl t) (λ _.
    cond_if (eqb (first / 16) 13) _ _ Q (λ t. plain_found headers.Pingresp 13 0 first refl t) (λ _.
    cond_if (eqb (first / 16) 14) _ _ Q (λ t. plain_found headers.Disconnect 14 0 first refl t) (λ _. tt))))))))))))))

pub header_again : (header : Header) → header_of (first_byte header) ≡ Ok header
header_again headers.Connect = refl
header_again headers.Connack = refl
header_again (headers.Publish deliveries.AtMostOnce true) = refl
header_again (headers.Publish deliveries.AtMostOnce false) = refl
header_again (headers.Publish (deliveries.AtLeastOnce true) true) = refl
header_again (headers.Publish (deliveries.AtLeastOnce true) false) = refl
header_again (headers.Publish (deliveries.AtLeastOnce false) true) = refl
header_again (headers.Publish (deliveries.AtLeastOnce false) false) = refl
header_again (headers.Publish (deliveries.ExactlyOnce true) true) = refl
header_again (headers.Publish (deliveries.ExactlyOnce true) false) = refl
header_again (headers.Publish (deliveries.ExactlyOnce false) true) = refl
header_again (headers.Publish (deliveries.ExactlyOnce false) false) = refl
header_again headers.Puback = refl
header_again headers.Pubrec = refl
header_again headers.Pubrel = refl
header_again headers.Pubcomp = refl
header_again headers.Subscribe = refl
header_again headers.Suback = refl
header_again headers.Unsubscribe = refl
header_again headers.Unsuback = refl
header_again headers.Pingreq = refl
header_again headers.Pingresp = refl
header_again headers.Disconnect = refl
