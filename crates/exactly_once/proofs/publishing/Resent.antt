-- What a client writes after a CONNACK 0 is what a handshake sends again, and then what starts.
use Rattle.std.proofs.Common.{◌≡◌, ℕ, Bool, true, false, if◌then◌else◌, List, [], ◌∷◌, ◌++◌, map, refl, ap, ap₂, sym, ◌∙◌}
use Rattle.packet.specs.declared.packet.Packet.TheVariants as packets
use Rattle.session_base.specs.declared.publication.Publication.{Publication}
use Rattle.exactly_once.specs.Items.{SenderItem, sent}
use Rattle.exactly_once.specs.Handshake.{Forward, publishing, sender_resends}
use Rattle.client_base.specs.Keeper.{Own, Keeper}
use Rattle.client_base.specs.Written.{plain, written_again, written_first, resent_written}
use Rattle.exactly_once.specs.Carried.{is_qos2}
use Rattle.exactly_once.specs.Inside.Projections.{items_of_own, own_item, forward_of_own}
use Rattle.exactly_once.proofs.Hears.{forward_append}
use Rattle.exactly_once.proofs.publishing.Publishes.{forward_publishes}

-- PUBRELs
releases_again : (ids : List ℕ) → forward_of_own (map (λ id. plain (packets.Pubrel id)) ids) ≡ map (λ id. Forward.Pubrel id) ids
releases_again [] = refl
releases_again (id ∷ ids) = ap (λ l. Forward.Pubrel id ∷ l) (releases_again ids)

-- an item that is not sent is not sent again
not_again : (p : Publication) (item : SenderItem ℕ) (items : List (SenderItem ℕ)) → sent (item ∷ items) ≡ sent items → sent items ≡ sent (own_item p item items)
not_again p item items e = by (is_qos2 p.qos)
  where
    by : (b : Bool) → sent items ≡ sent (if b then item ∷ items else items)
    by true = sym e
    by false = refl

-- PUBLISHes with DUP 1
publishes_again : (own : List Own) → forward_of_own (written_again own) ≡ map publishing (sent (items_of_own own))
publishes_again [] = refl
publishes_again (Own.Queued k p id ∷ own) = publishes_again own ∙ ap (map publishing) (not_again p (SenderItem.Queued k) (items_of_own own) refl)
publishes_again (Own.Sent k p id ∷ own) = forward_publishes true k id p (written_again own) ∙ by (is_qos2 p.qos) (publishes_again own)
  where
    by : (b : Bool) → forward_of_own (written_again own) ≡ map publishing (sent (items_of_own own))
        → (if b then Forward.Publish id k ∷ forward_of_own (written_again own) else forward_of_own (written_again own)) ≡ map publishing (sent (if b then SenderItem.Sent k id ∷ items_of_own own else items_of_own own))
    by true ih = ap (λ l. Forward.Publish id k ∷ l) ih
    by false ih = ih
publishes_again (Own.Released k p id ∷ own) = publishes_again own ∙ ap (map publishing) (not_again p (SenderItem.Released k id) (items_of_own own) refl)
publishes_again (Own.Done k p ∷ own) = publishes_again own ∙ ap (map publishing) (not_again p (SenderItem.Done k) (items_of_own own) refl)

pub forward_resent : (keeper : Keeper) → forward_of_own (resent_written keeper) ≡ sender_resends keeper.releases (items_of_own keeper.own) ++ forward_of_own (written_first keeper.own)
forward_resent keeper =
    let rels = map (λ id. plain (packets.Pubrel id)) keeper.releases in
    forward_append (rels ++ written_again keeper.own) (written_first keeper.own)
    ∙ ap (λ l. l ++ forward_of_own (written_first keeper.own))
    (forward_append rels (written_again keeper.own) ∙ ap₂ (λ g h. g ++ h) (releases_again keeper.releases) (publishes_again keeper.own))
