-- InPairs.antt: a walk over the filters of a SUBSCRIBE and what happens to each ends with the
-- shorter of the two.
use Rattle.std.proofs.Common.{◌≡◌, ◌⊎◌, inl, inr, refl, Bool, List, [], ◌∷◌}
use Rattle.packet.specs.declared.subscribe.Subscription.{Subscription}
use Rattle.broker_spec.specs.Answers.{codes_of}
use Rattle.broker_spec.specs.Subscriptions.{granted_of}

pub no_more_codes : (filters : List Subscription) (which : List Bool) → (filters ≡ []) ⊎ (which ≡ []) → codes_of filters which ≡ []
no_more_codes [] which e = refl
no_more_codes (s ∷ filters) [] e = refl
no_more_codes (s ∷ filters) (granted ∷ which) (inl e) = absurd (cc)
no_more_codes (s ∷ filters) (granted ∷ which) (inr e) = absurd (cc)

pub no_more_granted : (filters : List Subscription) (which : List Bool) → (filters ≡ []) ⊎ (which ≡ []) → granted_of filters which ≡ []
no_more_granted [] which e = refl
no_more_granted (s ∷ filters) [] e = refl
no_more_granted (s ∷ filters) (granted ∷ which) (inl e) = absurd (cc)
no_more_granted (s ∷ filters) (granted ∷ which) (inr e) = absurd (cc)
