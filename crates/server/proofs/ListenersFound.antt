-- ListenersFound.antt: a listener is found exactly if one has the number.
use Rattle.std.proofs.Common.{◌≡◌, ◌≢◌, ℕ, zero, suc, ◌<◌, ◌==◌, is_some, false, true, List, [], ◌∷◌, length, map, Option, Some, None, refl, ◌∙◌, ap, sym, arith}
use Rattle.std.specs.List.{AllWithin, HoldsAt}
use Rattle.std.specs.Option.{MatchOption}
use Rattle.std.proofs.lemmas.Bool.{eq-eqb, or_left, or_right}
use Rattle.lists.specs.Lists.{has_id}
use Rattle.streams.specs.declared.listener.Listener.{Listener}

not_same : (number other : ℕ) → other ≢ number → (number == other) ≡ false
not_same number other apart = grind (arith, apart)

none_among : (number : ℕ) (listeners : List Listener) → AllWithin (λ listener. listener.number ≢ number) listeners 0 (length listeners)
    → has_id number (map (λ (listener : Listener). listener.number) listeners) ≡ false
none_among number [] apart = refl
none_among number (listener ∷ listeners) apart =
    grind (
      arith,
      not_same number listener.number (apart 0 listener (omega arith) (omega arith)),
      none_among number listeners (λ k d low high. apart (suc k) d (omega arith) (omega (arith, high))),
    )

one_among : (number : ℕ) (listeners : List Listener) (at : ℕ) (found : Listener) → at < length listeners
    → HoldsAt (λ listener. listener ≡ found) listeners at → found.number ≡ number
    → has_id number (map (λ (listener : Listener). listener.number) listeners) ≡ true
one_among number [] at found below is names = absurd (omega (arith, below))
one_among number (listener ∷ listeners) zero found below is names =
    or_left (number == listener.number) (has_id number (map (λ (one : Listener). one.number) listeners))
    (eq-eqb number listener.number (sym (ap (λ (one : Listener). one.number) (is listener) ∙ names)))
one_among number (listener ∷ listeners) (suc at) found below is names =
    or_right (number == listener.number) (has_id number (map (λ (one : Listener). one.number) listeners))
    (one_among number listeners at found (omega (arith, below)) (λ other. is other) names)

pub found_among : {A : Type 0} (listener_of : A → Listener) (number : ℕ) (listeners : List Listener) (found : Option A)
    → MatchOption found (AllWithin (λ listener. listener.number ≢ number) listeners 0 (length listeners))
    (λ one. ((listener_of one).number ≡ number) × (at : ℕ) × (at < length listeners)
    × HoldsAt (λ listener. listener ≡ listener_of one) listeners at
    × AllWithin (λ listener. listener.number ≢ number) listeners 0 at)
    → is_some found ≡ has_id number (map (λ (listener : Listener). listener.number) listeners)
found_among listener_of number listeners None known = sym (none_among number listeners known)
found_among listener_of number listeners (Some one) known =
    sym (one_among number listeners known.1 (listener_of one) known.2 known.3 known.0)
