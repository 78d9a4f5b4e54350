-- A text without a fault may be held.
use Rattle.std.proofs.Common.{◌≡◌, ℕ, List, true, IsUtf8, Some, None, refl, false, not, cond, subst, sym, ap, Bool, ◌&&◌, is_none}
use Rattle.std.specs.Str.{is_utf8}
use Rattle.std.proofs.lemmas.Str.{is_utf8-from_IsUtf8}
use Rattle.topics.specs.Text.{topic_fault, filter_fault, is_topic, is_filter, contains_byte, has_length, has_no_wildcard, has_wildcards_in_place, levels, is_shallow}
use Rattle.topics.specs.declared.malformed.MalformedKind.{MalformedKind}
use Rattle.topics.specs.declared.malformed.MalformedKind.TheVariants as kinds

both : (a b : Bool) → a ≡ true → b ≡ true → (a && b) ≡ true
both a b p q = rw (p, q)

pub is_topic_none : (bytes text : List ℕ) → bytes ≡ text → IsUtf8 text → topic_fault text ≡ None → is_topic bytes ≡ true
is_topic_none bytes text same utf8 none =
    subst (λ (t : List ℕ). is_topic t ≡ true) (sym same)
    (both (is_utf8 text) (is_none (topic_fault text)) (is_utf8-from_IsUtf8 text utf8) (ap is_none none))

pub is_filter_none : (bytes text : List ℕ) → bytes ≡ text → IsUtf8 text → filter_fault text ≡ None → is_filter bytes ≡ true
is_filter_none bytes text same utf8 none =
    subst (λ (t : List ℕ). is_filter t ≡ true) (sym same)
    (both (is_utf8 text) (is_none (filter_fault text)) (is_utf8-from_IsUtf8 text utf8) (ap is_none none))

joined : (formed null len place shallow : Bool) (a b c d : MalformedKind) → (formed && is_none (cond null (Some a) (cond (not (len && place)) (Some b) (cond (not shallow) (Some c) None)))) ≡ true
    → (formed && is_none (cond null (Some a) (cond (not (len && true)) (Some d) (cond (not shallow) (Some c) None)))) ≡ true
joined false null len place shallow a b c d h = absurd cc
joined true true len place shallow a b c d h = absurd cc
joined true false false place shallow a b c d h = absurd cc
joined true false true false shallow a b c d h = absurd cc
joined true false true true false a b c d h = absurd cc
joined true false true true true a b c d h = refl

-- a filter without wildcards may be held as a topic
pub is_topic_bare : (text : List ℕ) → is_filter text ≡ true → has_no_wildcard text ≡ true → is_topic text ≡ true
is_topic_bare text h bare =
    rw (bare)
    (joined (is_utf8 text) (contains_byte 0 text) (has_length text) (has_wildcards_in_place (levels text)) (is_shallow text) kinds.Text kinds.Filter kinds.TooDeep kinds.Topic h)
