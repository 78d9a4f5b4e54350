-- MomentsGrow.antt: what was acknowledged, chosen and active stays so after a further moment, so the
-- agreed list only grows.
use Rattle.std.proofs.Common.{◌≡◌, ℕ, ◌⊎◌, inl, inr, List, [], ◌∷◌, refl, sym, subst}
use Rattle.lists.specs.Lists.{IsPrefixOf}
use Rattle.lists.specs.Lists.In.{there}
use Rattle.ballot_base.specs.declared.config.Config.{Config}
use Rattle.machine.specs.Machine.{Rules}
use Rattle.agreement.specs.Theorems.{AgreedGrows}
use Rattle.agreement.specs.Moments.{Moment, HasConfig, WasActive, HasAcknowledged, IsChosen, IsAgreed}
use Rattle.agreement.specs.Moments.HasConfig.{opened_with, was_assigned}
use Rattle.agreement.specs.Moments.HasAcknowledged.{told_as_log, told_by_message}

pub config_stays : {S C O : Type 0} (config : Config) (moments : List (Moment S C O)) (v : Moment S C O) (b : ℕ) (c : Config) →
    HasConfig config moments b c → HasConfig config (v ∷ moments) b c
config_stays config moments v b c (opened_with one same) = opened_with one same
config_stays config moments v b c (was_assigned a i waits) = was_assigned a (there i) waits

pub active_stays : {S C O : Type 0} (moments : List (Moment S C O)) (v : Moment S C O) (b : ℕ) → WasActive moments b → WasActive (v ∷ moments) b
active_stays moments v b (a, i, e) = (a, there i, e)

pub told_stays : {S C O : Type 0} (config : Config) (moments : List (Moment S C O)) (v : Moment S C O) (b n : ℕ) (xs : List C) →
    HasAcknowledged config moments b n xs → HasAcknowledged config (v ∷ moments) b n xs
told_stays config moments v b n xs (told_as_log a r c i stands held has primary is) =
    told_as_log a r c (there i) stands held (config_stays config moments v b c has) primary is
told_stays config moments v b n xs (told_by_message a r i stands held sent front) = told_by_message a r (there i) stands held sent front

chosen_stays : {S C O : Type 0} (config : Config) (moments : List (Moment S C O)) (v : Moment S C O) (b : ℕ) (xs : List C) →
    IsChosen config moments b xs → IsChosen config (v ∷ moments) b xs
chosen_stays config moments v b xs (c, has, all) =
    (c, config_stays config moments v b c has, λ n i. let z = all n i in (z.0, told_stays config moments v b n z.0 z.1, z.2))

-- what is agreed begins what is agreed after the next moment
pub agreed_only_grows : {S C O : Type 0} (config : Config) (moments : List (Moment S C O)) (v : Moment S C O) (xs ys : List C) →
    IsAgreed config moments xs → IsAgreed config (v ∷ moments) ys → IsPrefixOf xs ys
agreed_only_grows {S = S} {C = C} {O = O} config moments v xs ys before after = by_chosen before.chosen
  where
    by_chosen : (xs ≡ []) ⊎ ((b : ℕ) × WasActive moments b × IsChosen config moments b xs) → IsPrefixOf xs ys
    by_chosen (inl none) = subst (λ (us : List C). IsPrefixOf us ys) (sym none) (record { rest = ys; is = refl })
    by_chosen (inr (b, active, chosen)) = after.longest b xs (active_stays moments v b active) (chosen_stays config moments v b xs chosen)

-- in the terms of the laws
pub agreed_grows : {S C O : Type 0} (rules : Rules S C O) → AgreedGrows rules
agreed_grows rules config a moments xs ys before after = agreed_only_grows config moments a xs ys before after
