-- A client's publications with one more after them, as items of a handshake.
use Rattle.std.proofs.Common.{◌≡◌, ℕ, Bool, true, false, if◌then◌else◌, List, [], ◌∷◌, ◌++◌, map, refl, ap}
use Rattle.std.proofs.lemmas.Bool.{both_ways}
use Rattle.session_base.specs.Identifiers.{least_free}
use Rattle.broker_spec.proofs.LeastFree.{least-is-free}
use Rattle.exactly_once.specs.Items.{SenderItem, busy}
use Rattle.lists.specs.Lists.{has_id}
use Rattle.lists.proofs.Identifiers.{has_split}
use Rattle.client_base.specs.Keeper.{Own, Keeper, ids_of_own, ids_in_use}
use Rattle.client_base.specs.State.{id_of_request}
use Rattle.exactly_once.specs.Carried.{is_qos2}
use Rattle.exactly_once.specs.Inside.Projections.{items_of_own}
use Rattle.exactly_once.specs.Inside.OwnShape.{none_queued}
use Rattle.exactly_once.proofs.publishing.Starting.{NoneWaits}
use Rattle.exactly_once.proofs.publishing.Queued.{not_busy}

-- the items after another publication
pub items_more : (own more : List Own) → items_of_own (own ++ more) ≡ items_of_own own ++ items_of_own more
items_more [] more = refl
items_more (Own.Queued k p id ∷ own) more = by (is_qos2 p.qos) (items_more own more)
  where
    by : (b : Bool) → items_of_own (own ++ more) ≡ items_of_own own ++ items_of_own more
        → (if b then SenderItem.Queued k ∷ items_of_own (own ++ more) else items_of_own (own ++ more)) ≡ (if b then SenderItem.Queued k ∷ items_of_own own else items_of_own own) ++ items_of_own more
    by true ih = ap (λ l. SenderItem.Queued k ∷ l) ih
    by false ih = ih
items_more (Own.Sent k p id ∷ own) more = by (is_qos2 p.qos) (items_more own more)
  where
    by : (b : Bool) → items_of_own (own ++ more) ≡ items_of_own own ++ items_of_own more
        → (if b then SenderItem.Sent k id ∷ items_of_own (own ++ more) else items_of_own (own ++ more)) ≡ (if b then SenderItem.Sent k id ∷ items_of_own own else items_of_own own) ++ items_of_own more
    by true ih = ap (λ l. SenderItem.Sent k id ∷ l) ih
    by false ih = ih
items_more (Own.Released k p id ∷ own) more = by (is_qos2 p.qos) (items_more own more)
  where
    by : (b : Bool) → items_of_own (own ++ more) ≡ items_of_own own ++ items_of_own more
        → (if b then SenderItem.Released k id ∷ items_of_own (own ++ more) else items_of_own (own ++ more)) ≡ (if b then SenderItem.Released k id ∷ items_of_own own else items_of_own own) ++ items_of_own more
    by true ih = ap (λ l. SenderItem.Released k id ∷ l) ih
    by false ih = ih
items_more (Own.Done k p ∷ own) more = by (is_qos2 p.qos) (items_more own more)
  where
    by : (b : Bool) → items_of_own (own ++ more) ≡ items_of_own own ++ items_of_own more
        → (if b then SenderItem.Done k ∷ items_of_own (own ++ more) else items_of_own (own ++ more)) ≡ (if b then SenderItem.Done k ∷ items_of_own own else items_of_own own) ++ items_of_own more
    by true ih = ap (λ l. SenderItem.Done k ∷ l) ih
    by false ih = ih

-- nothing unsent, so nothing waits
skips : (b : Bool) (item : SenderItem ℕ) (items : List (SenderItem ℕ)) → NoneWaits (item ∷ items) → NoneWaits items → NoneWaits (if b then item ∷ items else items)
skips true item items n m = n
skips false item items n m = m

pub none_waits : (own : List Own) → none_queued own ≡ true → NoneWaits (items_of_own own)
none_waits [] e = tt
none_waits (Own.Queued k p id ∷ own) e = absurd (both_ways false refl e)
none_waits (Own.Sent k p id ∷ own) e = let n = none_waits own e in skips (is_qos2 p.qos) (SenderItem.Sent k id) (items_of_own own) n n
none_waits (Own.Released k p id ∷ own) e = let n = none_waits own e in skips (is_qos2 p.qos) (SenderItem.Released k id) (items_of_own own) n n
none_waits (Own.Done k p ∷ own) e = let n = none_waits own e in skips (is_qos2 p.qos) (SenderItem.Done k) (items_of_own own) n n

-- the identifier that it gets is free
pub new_is_free : (keeper : Keeper) → has_id (least_free (ids_in_use keeper)) (busy (items_of_own keeper.own)) ≡ false
new_is_free keeper =
    let id = least_free (ids_in_use keeper) in
    not_busy id keeper.own (has_split id (ids_of_own keeper.own) (map id_of_request keeper.requests) (least-is-free (ids_in_use keeper))).0
