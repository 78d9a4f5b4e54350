-- Each field that is spelled is read again, whatever follows it.
use Rattle.std.proofs.Common.{◌≡◌, ℕ, ◌^◌, ◌<◌, ◌≤◌, Bool, true, false, cond, leb, ltb, List, ◌++◌, length, Some, None, Ok, refl, arith}
use Rattle.std.specs.Prelude.{not, ◌&&◌, is_none}
use Rattle.std.specs.Str.{is_utf8}
use Rattle.std.proofs.lemmas.Bool.{le-ltb, leb-true, lt-ltb}
use Rattle.std.proofs.lemmas.List.{take_at, drop_at, length-append}
use Rattle.std.proofs.lemmas.Nat.{from_be_bytes-to_be_bytes_2}
use Rattle.packet_base.specs.Spelling.{number, text}
use Rattle.topics.specs.declared.malformed.MalformedKind.{MalformedKind}
use Rattle.topics.specs.declared.malformed.MalformedKind.TheVariants as kinds
use Rattle.topics.specs.Text.{contains_byte, levels, has_length, has_no_wildcard, has_wildcards_in_place, is_shallow, topic_fault, filter_fault, is_topic, is_filter}
use Rattle.packet_base.specs.Readers.{front_at, number_at, id_at, text_of, text_at, is_text}
use Rattle.packet_base.specs.TopicFields.{topic_at, filter_at}

pub front_again : (front rest : List ℕ) (len : ℕ) → length front ≡ len → front_at len (front ++ rest) ≡ Ok (front, rest)
front_again front rest len e =
    let long : ltb (length (front ++ rest)) len ≡ false = le-ltb _ _ (omega (arith, length-append front rest)) in
    rw (long, take_at front rest len e, drop_at front rest len e) refl

pub number_again : (n : ℕ) (rest : List ℕ) → n < 2 ^ 16 → number_at (number n ++ rest) ≡ Ok (n, rest)
unfolding number_at
number_again n rest small = rw (front_again (number n) rest 2 refl, from_be_bytes-to_be_bytes_2 n small) refl

pub id_again : (n : ℕ) (rest : List ℕ) → 0 < n → n < 2 ^ 16 → id_at (number n ++ rest) ≡ Ok (n, rest)
unfolding id_at
id_again n rest some small = rw (number_again n rest small, lt-ltb _ _ some) refl

pub text_of_again : (bytes : List ℕ) → is_text bytes ≡ true → text_of bytes ≡ Ok bytes
text_of_again bytes good = rw good refl

pub text_again : (bytes rest : List ℕ) → length bytes < 2 ^ 16 → is_text bytes ≡ true → text_at (text bytes ++ rest) ≡ Ok (bytes, rest)
unfolding text_at
text_again bytes rest short good =
    rw (number_again (length bytes) (bytes ++ rest) short, front_again bytes rest (length bytes) refl, good) refl

-- a text of a name or a filter passed each check
named_parts : (formed null len placed shallow : Bool) (a b c : MalformedKind)
    → (formed && is_none (cond null (Some a) (cond (not (len && placed)) (Some b) (cond (not shallow) (Some c) None)))) ≡ true
    → ((formed && not null) ≡ true) × (len ≡ true) × (cond null (Some a) (cond (not (len && placed)) (Some b) (cond (not shallow) (Some c) None)) ≡ None)
named_parts true false true true true a b c t = (refl, refl, refl)
named_parts false null len placed shallow a b c t = absurd cc
named_parts true true len placed shallow a b c t = absurd cc
named_parts true false false placed shallow a b c t = absurd cc
named_parts true false true false shallow a b c t = absurd cc
named_parts true false true true false a b c t = absurd cc

-- and its length fits two bytes
short_name : (bytes : List ℕ) → has_length bytes ≡ true → length bytes < 2 ^ 16
short_name bytes good = let few : length bytes ≤ 65535 = leb-true (length bytes) 65535 (both (ltb 0 (length bytes)) (leb (length bytes) 65535) good) in omega (arith, few)
  where
    both : (a b : Bool) → (a && b) ≡ true → b ≡ true
    both true true t = refl
    both true false t = absurd cc
    both false b t = absurd cc

pub topic_parts : (bytes : List ℕ) → is_topic bytes ≡ true → (is_text bytes ≡ true) × (length bytes < 2 ^ 16) × (topic_fault bytes ≡ None)
topic_parts bytes good =
    let h = named_parts (is_utf8 bytes) (contains_byte 0 bytes) (has_length bytes) (has_no_wildcard bytes) (is_shallow bytes) kinds.Text kinds.Topic kinds.TooDeep good in
    (h.0, short_name bytes h.1, h.2)

pub filter_parts : (bytes : List ℕ) → is_filter bytes ≡ true → (is_text bytes ≡ true) × (length bytes < 2 ^ 16) × (filter_fault bytes ≡ None)
filter_parts bytes good =
    let h = named_parts (is_utf8 bytes) (contains_byte 0 bytes) (has_length bytes) (has_wildcards_in_place (levels bytes)) (is_shallow bytes) kinds.Text kinds.Filter kinds.TooDeep good in
    (h.0, short_name bytes h.1, h.2)

pub topic_again : (bytes rest : List ℕ) → is_topic bytes ≡ true → topic_at (text bytes ++ rest) ≡ Ok (bytes, rest)
unfolding topic_at
topic_again bytes rest good =
    let h = topic_parts bytes good in
    rw (text_again bytes rest h.1 h.0, h.2) refl

pub filter_again : (bytes rest : List ℕ) → is_filter bytes ≡ true → filter_at (text bytes ++ rest) ≡ Ok (bytes, rest)
unfolding filter_at
filter_again bytes rest good =
    let h = filter_parts bytes good in
    rw (text_again bytes rest h.1 h.0, h.2) refl
