-- Texts that are Client Identifiers.
use Rattle.std.proofs.Common.{◌≡◌, ℕ, ◌<◌, ◌≤◌, ◌^◌, Bool, true, false, cond, leb, ltb, List, length, Some, None, refl, arith}
use Rattle.std.specs.Prelude.{not, ◌&&◌, is_none}
use Rattle.std.specs.Str.{IsUtf8, is_utf8}
use Rattle.std.proofs.lemmas.Bool.{leb-true}
use Rattle.std.proofs.lemmas.Str.{is_utf8-from_IsUtf8}
use Rattle.topics.specs.Text.{contains_byte}
use Rattle.topics.specs.declared.malformed.MalformedKind.{MalformedKind}
use Rattle.topics.specs.declared.malformed.MalformedKind.TheVariants as kinds
use Rattle.packet_base.specs.Readers.{is_text}
use Rattle.packet_base.specs.ClientId.{has_client_length, is_client}

-- a text of the right length without U+0000 is one
pub is_client_none : (text : List ℕ) → IsUtf8 text → has_client_length text ≡ true → contains_byte 0 text ≡ false → is_client text ≡ true
is_client_none text formed len null = rw (is_utf8-from_IsUtf8 text formed, len, null) refl

joined : (formed null len : Bool) (a b : MalformedKind) → (formed && not null) ≡ true → len ≡ true → (formed && is_none (cond (not len) (Some a) (cond null (Some b) None))) ≡ true
joined true false true a b t l = refl
joined true true len a b t l = absurd cc
joined false null len a b t l = absurd cc
joined true false false a b t l = absurd cc

-- a text that was read, and has that length, is one too
pub client_checked : (text : List ℕ) → is_text text ≡ true → has_client_length text ≡ true → is_client text ≡ true
client_checked text good len = joined (is_utf8 text) (contains_byte 0 text) (has_client_length text) kinds.Identifier kinds.Text good len

parted : (formed null len : Bool) (a b : MalformedKind) → (formed && is_none (cond (not len) (Some a) (cond null (Some b) None))) ≡ true → ((formed && not null) ≡ true) × (len ≡ true)
parted true false true a b t = (refl, refl)
parted true true true a b t = absurd cc
parted false null len a b t = absurd cc
parted true null false a b t = absurd cc

-- a Client Identifier is a text of that length
pub client_parts : (text : List ℕ) → is_client text ≡ true → (is_text text ≡ true) × (has_client_length text ≡ true)
client_parts text good = parted (is_utf8 text) (contains_byte 0 text) (has_client_length text) kinds.Identifier kinds.Text good

both_true : (a b : Bool) → (a && b) ≡ true → b ≡ true
both_true true true t = refl
both_true true false t = absurd cc
both_true false b t = absurd cc

-- so its length fits two bytes
pub client_short : (text : List ℕ) → is_client text ≡ true → length text < 2 ^ 16
client_short text good =
    let few : length text ≤ 64 = leb-true (length text) 64 (both_true (ltb 0 (length text)) (leb (length text) 64) (client_parts text good).1) in
    omega (arith, few)
