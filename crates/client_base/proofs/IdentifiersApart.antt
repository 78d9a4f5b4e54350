-- IdentifiersApart.antt: no identifier is in flight twice; they are counted.
use Rattle.std.proofs.Common.{◌≡◌, ℕ, ◌+◌, ◌≤◌, Bool, true, false, not, ◌&&◌, ◌||◌, ◌==◌, if◌then◌else◌, List, [], ◌∷◌, ◌++◌, map, filter, refl, ap, sym, ◌∙◌, subst, arith}
use Rattle.std.specs.List.{list_any}
use Rattle.std.proofs.lemmas.Bool.{both_ways, eqb-true}
use Rattle.lists.specs.Lists.{IsDistinct}
use Rattle.session_base.specs.Publication.{is_qos1}
use Rattle.session_base.proofs.CountedIdentifiers.{count, one_if, count-append, not_counted, not_among}
use Rattle.client_base.specs.declared.unacknowledged_publication.UnacknowledgedPublication.{UnacknowledgedPublication}
use Rattle.client_base.specs.declared.request.Request.{Request}
use Rattle.client_base.specs.State.{ClientState, ids_of_kept, id_of_request, used_ids}
use Rattle.client_base.specs.Answered.{awaits_pubrec}

-- how often an identifier is there
abbrev pub often : ℕ → List ℕ → ℕ
often i ids = count (λ id. i == id) ids

same_id : (n : ℕ) → (n == n) ≡ true
same_id n = grind arith

-- ---- distinct identifiers are there once

pub once : (ids : List ℕ) → IsDistinct ids → (i : ℕ) → often i ids ≤ 1
once [] apart i = omega arith
once (x ∷ ids) apart i = by (i == x) refl (once ids apart.1 i)
  where
    by : (b : Bool) → (i == x) ≡ b → often i ids ≤ 1 → one_if b + often i ids ≤ 1
    by true e rest =
        let none : often i ids ≡ 0 = subst (λ (y : ℕ). often y ids ≡ 0) (sym (eqb-true i x e)) (not_counted x ids apart.0) in
        omega arith
    by false e rest = omega (arith, rest)

pub from_once : (ids : List ℕ) → ((i : ℕ) → often i ids ≤ 1) → IsDistinct ids
from_once [] few = tt
from_once (x ∷ ids) few =
    let first : one_if (x == x) + often x ids ≤ 1 = few x in
    let one : one_if (x == x) ≡ 1 = ap one_if (same_id x) in
    (not_among x ids (omega arith), from_once ids (λ i. let all : one_if (i == x) + often i ids ≤ 1 = few i in omega arith))

-- ---- what is left out is not there more often

pub fewer_kept : (i : ℕ) (test : UnacknowledgedPublication → Bool) (kept : List UnacknowledgedPublication) → often i (ids_of_kept (filter test kept)) ≤ often i (ids_of_kept kept)
fewer_kept i test [] = omega arith
fewer_kept i test (one ∷ kept) = by (test one) (fewer_kept i test kept)
  where
    by : (b : Bool) → often i (ids_of_kept (filter test kept)) ≤ often i (ids_of_kept kept)
        → often i (ids_of_kept (if b then one ∷ filter test kept else filter test kept)) ≤ one_if (i == one.id) + often i (ids_of_kept kept)
    by true ih = omega arith
    by false ih = omega arith

pub fewer_requests : (i : ℕ) (test : Request → Bool) (requests : List Request) → often i (map id_of_request (filter test requests)) ≤ often i (map id_of_request requests)
fewer_requests i test [] = omega arith
fewer_requests i test (one ∷ requests) = by (test one) (fewer_requests i test requests)
  where
    by : (b : Bool) → often i (map id_of_request (filter test requests)) ≤ often i (map id_of_request requests)
        → often i (map id_of_request (if b then one ∷ filter test requests else filter test requests)) ≤ one_if (i == id_of_request one) + often i (map id_of_request requests)
    by true ih = omega arith
    by false ih = omega arith

pub fewer_ids : (i : ℕ) (test : ℕ → Bool) (ids : List ℕ) → often i (filter test ids) ≤ often i ids
fewer_ids i test [] = omega arith
fewer_ids i test (one ∷ ids) = by (test one) (fewer_ids i test ids)
  where
    by : (b : Bool) → often i (filter test ids) ≤ often i ids
        → often i (if b then one ∷ filter test ids else filter test ids) ≤ one_if (i == one) + often i ids
    by true ih = omega arith
    by false ih = omega arith

-- PUBREC takes out one that it names, at least
pub released_leaves : (i id : ℕ) (sent : List UnacknowledgedPublication) → list_any (awaits_pubrec id) sent ≡ true
    → one_if (i == id) + often i (ids_of_kept (filter (λ one. not (awaits_pubrec id one)) sent)) ≤ often i (ids_of_kept sent)
released_leaves i id [] waits = absurd (both_ways false refl waits)
released_leaves i id (one ∷ sent) waits = by (id == one.id) (not (is_qos1 one.publication.qos)) refl waits (released_leaves i id sent) (fewer_kept i (λ x. not (awaits_pubrec id x)) sent)
  where
    left : List UnacknowledgedPublication
    left = filter (λ x. not (awaits_pubrec id x)) sent

    by : (b c : Bool) → (id == one.id) ≡ b → ((b && c) || list_any (awaits_pubrec id) sent) ≡ true
        → (list_any (awaits_pubrec id) sent ≡ true → one_if (i == id) + often i (ids_of_kept left) ≤ often i (ids_of_kept sent))
        → often i (ids_of_kept left) ≤ often i (ids_of_kept sent)
        → one_if (i == id) + often i (ids_of_kept (if not (b && c) then one ∷ left else left)) ≤ one_if (i == one.id) + often i (ids_of_kept sent)
    by true true e w ih fewer =
        let same : one_if (i == id) ≡ one_if (i == one.id) = ap (λ y. one_if (i == y)) (eqb-true id one.id e) in omega arith
    by true false e w ih fewer = let more = ih w in omega (arith, more)
    by false c e w ih fewer = let more = ih w in omega (arith, more)

-- ---- all that a client uses

abbrev pub tally : ℕ → ClientState → ℕ
tally i state =
    (often i state.released + often i (ids_of_kept state.sent) + often i (ids_of_kept state.queued)) + often i (map id_of_request state.requests)

pub used_tally : (i : ℕ) (state : ClientState) → often i (used_ids state) ≡ tally i state
used_tally i state =
    count-append (λ id. i == id) ((state.released ++ ids_of_kept state.sent) ++ ids_of_kept state.queued) (map id_of_request state.requests)
    ∙ ap (λ n. n + often i (map id_of_request state.requests))
    (count-append (λ id. i == id) (state.released ++ ids_of_kept state.sent) (ids_of_kept state.queued)
    ∙ ap (λ n. n + often i (ids_of_kept state.queued)) (count-append (λ id. i == id) state.released (ids_of_kept state.sent)))
