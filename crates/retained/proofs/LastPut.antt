-- What is retained of a topic is its last publication; topics rise, and are as many as may be.
use Rattle.std.proofs.Common.{◌≡◌, ℕ, ◌≤◌, suc, Bool, true, false, if◌then◌else◌, List, [], ◌∷◌, ◌++◌, length, reverse, Option, Some, None, refl, ap, sym, ◌∙◌, arith, rules}
use Rattle.std.specs.Prelude.{not, ◌&&◌, nat_le, is_none}
use Rattle.std.specs.List.{find}
use Rattle.std.specs.List.Sorted.{IsStrictlySortedBy}
use Rattle.std.proofs.lemmas.List.{reverse-append}
use Rattle.lists.proofs.Tables.{found_put, found_without, put_rises, without_rises, put_one_more, put_known, without_fewer}
use Rattle.packet_base.specs.declared.qos.QoS.{QoS}
use Rattle.retained.specs.declared.retained_publication.RetainedPublication.{RetainedPublication}
use Rattle.retained.specs.Retained.{RetainedTopics, IsRising, publication_on, with_topic, after_put, is_empty, is_full_for, is_retaining_refused}
use Rattle.retained.specs.Theorems.{Put, After, is_on, last_on, kept_of, kept_of_payload, LastIsRetained, StaysInBounds}

-- ---- the last publication

-- of a list with one more at its end
last_more : (topic : List ℕ) (puts : List Put) (p : Put) → last_on topic (puts ++ p ∷ []) ≡ (if is_on topic p then Some p else last_on topic puts)
last_more topic puts p = ap (find (is_on topic)) (reverse-append puts (p ∷ []))

kept_either : (at : Bool) (p : Put) (last : Option Put) → kept_of (if at then Some p else last) ≡ (if at then kept_of_payload p.qos p.payload else kept_of last)
kept_either true p last = refl
kept_either false p last = refl

-- what one publication leaves of each topic
found_after : (topic : List ℕ) (content : RetainedTopics) (p : Put) (payload : List ℕ) → IsRising content →
    publication_on topic (after_put content p.topic p.qos payload) ≡ (if is_on topic p then kept_of_payload p.qos payload else publication_on topic content)
found_after topic content p [] rising = found_without topic p.topic content rising
found_after topic content p (byte ∷ payload) rising = found_put topic p.topic (record { qos = p.qos; payload = byte ∷ payload }) content

-- ---- the bounds

-- a topic that is there, or has a place
stays_few : (content : RetainedTopics) (topic : List ℕ) (kept : RetainedPublication) (was : Option RetainedPublication) → IsRising content →
    publication_on topic content ≡ was → (is_none was && nat_le 16384 (length content)) ≡ false → length content ≤ 16384 →
    length (with_topic content topic kept) ≤ 16384
stays_few content topic kept (Some old) rising found taken few =
    let known = put_known topic kept old content rising found in
    omega (arith, known, few)
stays_few content topic kept None rising found taken few =
    let room : suc (length content) ≤ 16384 = grind (arith, taken) in
    let more = put_one_more topic kept content in
    omega (arith, more, room)

not_empty : (byte : ℕ) (payload : List ℕ) → not (is_empty (byte ∷ payload)) ≡ true
not_empty byte payload = search rules

within : (content : RetainedTopics) (p : Put) (payload : List ℕ) → is_retaining_refused content p.topic payload ≡ false →
    IsRising content × (length content ≤ 16384) →
    IsRising (after_put content p.topic p.qos payload) × (length (after_put content p.topic p.qos payload) ≤ 16384)
within content p [] taken h =
    let fewer = without_fewer p.topic content in
    (without_rises p.topic content h.0, omega (arith, fewer, h.1))
within content p (byte ∷ payload) taken h =
    let kept : RetainedPublication = record { qos = p.qos; payload = byte ∷ payload } in
    let room = sym (ap (λ (some : Bool). some && is_full_for content p.topic) (not_empty byte payload)) ∙ taken in
    (put_rises p.topic kept content h.0, stays_few content p.topic kept (publication_on p.topic content) h.0 refl room h.1)

pub stays_in_bounds : StaysInBounds
unfolding IsStrictlySortedBy
stays_in_bounds puts content After.nothing = (tt, omega arith)
stays_in_bounds puts content (After.put {puts = before} {content = old} p after taken) = within old p p.payload taken (stays_in_bounds before old after)

pub last_is_retained : LastIsRetained
last_is_retained puts content After.nothing topic = refl
last_is_retained puts content (After.put {puts = before} {content = old} p after taken) topic =
    let rising = (stays_in_bounds before old after).0 in
    found_after topic old p p.payload rising
    ∙ ap (λ rest. if is_on topic p then kept_of_payload p.qos p.payload else rest) (last_is_retained before old after topic)
    ∙ sym (kept_either (is_on topic p) p (last_on topic before))
    ∙ ap kept_of (sym (last_more topic before p))
