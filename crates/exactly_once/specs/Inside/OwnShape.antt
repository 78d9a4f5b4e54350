-- What every story keeps of the publications of its client.
use Rattle.std.specs.Prelude.{◌≡◌, ℕ, suc, Bool, true, false, List, [], ◌∷◌, length}
use Rattle.lists.specs.Lists.{has_id, IsDistinct}
use Rattle.exactly_once.specs.Items.{has_released}
use Rattle.client_base.specs.Keeper.{Own, Keeper, ids_in_use}
use Rattle.exactly_once.specs.Carried.{is_qos2}
use Rattle.exactly_once.specs.Inside.Projections.{items_of_own}

-- each has the number of how many come before it, counted from this one on
abbrev pub AreNumberedFrom : ℕ → List Own → Type 0
AreNumberedFrom next (Own.Queued number publication id ∷ own) =
    (number ≡ next) × AreNumberedFrom (suc next) own
AreNumberedFrom next (Own.Sent number publication id ∷ own) =
    (number ≡ next) × AreNumberedFrom (suc next) own
AreNumberedFrom next (Own.Released number publication id ∷ own) =
    (number ≡ next) × (is_qos2 publication.qos ≡ true) × AreNumberedFrom (suc next) own
AreNumberedFrom next (Own.Done number publication ∷ own) =
    (number ≡ next) × AreNumberedFrom (suc next) own
AreNumberedFrom next [] = Unit {0}

-- whether each of these publications was sent
abbrev pub none_queued : List Own → Bool
none_queued (Own.Queued number publication id ∷ own) = false
none_queued (_ ∷ own) = none_queued own
none_queued [] = true

-- the client's identifiers, numbers and releases fit its publications
pub record OwnInShape (keeper : Keeper) : Type 0 where
  pub ids_apart : IsDistinct (ids_in_use keeper)
  pub numbered : AreNumberedFrom (length keeper.earlier) keeper.own
  pub releases_apart : IsDistinct keeper.releases
  pub releases_are : (id : ℕ) →
      has_id id keeper.releases ≡ has_released id (items_of_own keeper.own)
  pub online_sent : keeper.is_online ≡ true → none_queued keeper.own ≡ true
