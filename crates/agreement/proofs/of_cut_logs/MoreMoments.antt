-- MoreMoments.antt: with more moments what was acknowledged, chosen and active stays so, and the
-- agreed list only grows.
use Rattle.std.proofs.Common.{◌≡◌, ℕ, ◌⊎◌, inl, inr, List, [], refl, sym, subst}
use Rattle.lists.specs.Lists.{In, IsPrefixOf}
use Rattle.ballot_base.specs.declared.config.Config.{Config}
use Rattle.agreement.specs.Moments.{Moment, HasConfig, WasActive, HasAcknowledged, IsChosen, IsAgreed}
use Rattle.agreement.specs.Moments.HasConfig.{opened_with, was_assigned}
use Rattle.agreement.specs.Moments.HasAcknowledged.{told_as_log, told_by_message}

pub config_in : {S C O : Type 0} (config : Config) (moments more : List (Moment S C O)) → ((c : Moment S C O) → In c moments → In c more) → (b : ℕ) (c : Config) →
    HasConfig config moments b c → HasConfig config more b c
config_in config moments more inc b c (opened_with one same) = opened_with one same
config_in config moments more inc b c (was_assigned a i waits) = was_assigned a (inc a i) waits

pub acknowledged_in : {S C O : Type 0} (config : Config) (moments more : List (Moment S C O)) → ((c : Moment S C O) → In c moments → In c more) → (b n : ℕ) (xs : List C) →
    HasAcknowledged config moments b n xs → HasAcknowledged config more b n xs
acknowledged_in config moments more inc b n xs (told_as_log a r c i stands held has primary is) =
    told_as_log a r c (inc a i) stands held (config_in config moments more inc b c has) primary is
acknowledged_in config moments more inc b n xs (told_by_message a r i stands held sent front) = told_by_message a r (inc a i) stands held sent front

pub grows_in : {S C O : Type 0} (config : Config) (moments more : List (Moment S C O)) (xs ys : List C) → ((c : Moment S C O) → In c moments → In c more) →
    IsAgreed config moments xs → IsAgreed config more ys → IsPrefixOf xs ys
grows_in {S = S} {C = C} {O = O} config moments more xs ys inc before after = by_chosen before.chosen
  where
    by_chosen : (xs ≡ []) ⊎ ((b : ℕ) × WasActive moments b × IsChosen config moments b xs) → IsPrefixOf xs ys
    by_chosen (inl nothing) = subst (λ (us : List C). IsPrefixOf us ys) (sym nothing) (record { rest = ys; is = refl })
    by_chosen (inr (b, (a, i, e), (c, has, all))) =
        after.longest b xs (a, inc a i, e)
        (c, config_in config moments more inc b c has, λ n j. let z = all n j in (z.0, acknowledged_in config moments more inc b n z.0 z.1, z.2))
