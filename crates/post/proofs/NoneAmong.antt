-- NoneAmong.antt: a number that no node has is not among the nodes' numbers, and one that a node has is.
use Rattle.std.proofs.Common.{◌≡◌, ◌≢◌, ℕ, zero, suc, ◌+◌, ◌<◌, ◌==◌, nat_lt, is_some, false, true, List, [], ◌∷◌, ◌++◌, length, take, get_or, Option, Some, None, refl, ◌∙◌, ap, arith}
use Rattle.std.specs.List.{AllWithin, HoldsAt}
use Rattle.std.specs.Option.{MatchOption}
use Rattle.std.proofs.lemmas.Bool.{eq-eqb, or_left, or_right}
use Rattle.std.proofs.lemmas.List.{length-map, map_push, take_more}
use Rattle.std.proofs.lemmas.Option.{none-some}
use Rattle.std.proofs.Common.{sym}
use Rattle.lists.specs.Lists.{has_id}
use Rattle.post.specs.Numbers.{PeerView, peer_numbers}

-- what is known if there is none
pub of_none : {A : Type 0} (found : Option A) (N : Type 0) (S : A → Type 0) → MatchOption found N S → found ≡ None → N
of_none None N S known is = known
of_none (Some one) N S known is = elim (none-some one (sym is)) [ ]

not_same : (number other : ℕ) → other ≢ number → (number == other) ≡ false
not_same number other apart = grind (arith, apart)

pub none_among : (number : ℕ) (peers : List PeerView) → AllWithin (λ peer. peer.number ≢ number) peers 0 (length peers)
    → has_id number (peer_numbers peers) ≡ false
none_among number [] apart = refl
none_among number (peer ∷ peers) apart =
    grind (
      arith,
      not_same number peer.number (apart 0 peer (omega arith) (omega arith)),
      none_among number peers (λ k d low high. apart (suc k) d (omega arith) (omega (arith, high))),
    )

one_among : (number : ℕ) (peers : List PeerView) (at : ℕ) (found : PeerView) → at < length peers
    → HoldsAt (λ peer. peer ≡ found) peers at → found.number ≡ number → has_id number (peer_numbers peers) ≡ true
one_among number [] at found below is names = absurd (omega (arith, below))
one_among number (peer ∷ peers) zero found below is names =
    or_left (number == peer.number) (has_id number (peer_numbers peers))
    (eq-eqb number peer.number (sym (ap (λ (one : PeerView). one.number) (is peer) ∙ names)))
one_among number (peer ∷ peers) (suc at) found below is names =
    or_right (number == peer.number) (has_id number (peer_numbers peers))
    (one_among number peers at found (omega (arith, below)) (λ other. is other) names)

-- a node is found exactly if one has the number
pub found_among : {A : Type 0} (peer_of : A → PeerView) (number : ℕ) (peers : List PeerView) (found : Option A)
    → MatchOption found (AllWithin (λ peer. peer.number ≢ number) peers 0 (length peers))
    (λ one. ((peer_of one).number ≡ number) × (at : ℕ) × (at < length peers)
    × HoldsAt (λ peer. peer ≡ peer_of one) peers at
    × AllWithin (λ peer. peer.number ≢ number) peers 0 at)
    → is_some found ≡ has_id number (peer_numbers peers)
found_among peer_of number peers None known = sym (none_among number peers known)
found_among peer_of number peers (Some one) known =
    sym (one_among number peers known.1 (peer_of one) known.2 known.3 known.0)

-- as many nodes as numbers
pub several : (count : ℕ) (peers : List PeerView) (numbers : List ℕ) → count ≡ length peers → peer_numbers peers ≡ numbers
    → nat_lt 1 count ≡ nat_lt 1 (length numbers)
several count peers numbers counts names =
    ap (nat_lt 1) (counts ∙ (sym (length-map peers (λ (peer : PeerView). peer.number)) ∙ ap length names))

-- one more node, of the number at an index
pub peers_more : (numbers : List ℕ) (index fallback : ℕ) (peers new : List PeerView) (peer : PeerView)
    → index < length numbers → peer_numbers peers ≡ take index numbers → new ≡ peers ++ peer ∷ []
    → peer.number ≡ get_or numbers index fallback → peer_numbers new ≡ take (index + 1) numbers
peers_more numbers index fallback peers new peer below known is named =
    ap peer_numbers is
    ∙ (map_push (λ (one : PeerView). one.number) peers peer
    ∙ ((λ i. known i ++ named i ∷ []) ∙ sym (take_more numbers index fallback below)))
