-- What is written after other packets comes after them, and what is handled comes off the front.
use Rattle.std.proofs.Common.{◌≡◌, ◌≤◌, ℕ, zero, suc, List, [], ◌∷◌, ◌++◌, length, drop, Some, refl, ap, ◌∙◌}
use Rattle.std.specs.Prelude.{slice_get}
use Rattle.std.proofs.lemmas.List.{drop-append-le}
use Rattle.packet.specs.declared.packet.Packet.{Packet}
use Rattle.packet.specs.declared.packet.Packet.TheVariants as packets
use Rattle.exactly_once.specs.Handshake.{Backward}
use Rattle.client_base.specs.Keeper.{Written}
use Rattle.exactly_once.specs.Inside.Projections.{forward_of_own, backward_of_own}
use Rattle.exactly_once.proofs.Hears.{more_to_take}

-- the next one, and the others after it
pub dropped_next : {A : Type 0} (n : ℕ) (xs : List A) (x : A) → slice_get xs n ≡ Some x → drop n xs ≡ x ∷ drop (suc n) xs
dropped_next n [] x e = cc
dropped_next zero (y ∷ xs) x e = let h : y ≡ x = cc in ap (λ z. z ∷ xs) h
dropped_next (suc n) (y ∷ xs) x e = dropped_next n xs x e

-- what of a client's packets is of the handshake, with more after it
pub forward_more : (n : ℕ) (ws more : List Written) → n ≤ length ws → forward_of_own (drop n (ws ++ more)) ≡ forward_of_own (drop n ws) ++ forward_of_own more
forward_more n ws more h = more_to_take n ws more h

-- what of the broker's packets is of the handshake, one after another
pub backward_both : (ps qs : List Packet) → backward_of_own (ps ++ qs) ≡ backward_of_own ps ++ backward_of_own qs
backward_both [] qs = refl
backward_both (packets.Pubrec id ∷ ps) qs = ap (λ l. Backward.Pubrec id ∷ l) (backward_both ps qs)
backward_both (packets.Pubcomp id ∷ ps) qs = ap (λ l. Backward.Pubcomp id ∷ l) (backward_both ps qs)
backward_both (packets.Publish p ∷ ps) qs = backward_both ps qs
backward_both (packets.Connect c ∷ ps) qs = backward_both ps qs
backward_both (packets.Connack c ∷ ps) qs = backward_both ps qs
backward_both (packets.Puback id ∷ ps) qs = backward_both ps qs
backward_both (packets.Pubrel id ∷ ps) qs = backward_both ps qs
backward_both (packets.Subscribe s ∷ ps) qs = backward_both ps qs
backward_both (packets.Suback s ∷ ps) qs = backward_both ps qs
backward_both (packets.Unsubscribe u ∷ ps) qs = backward_both ps qs
backward_both (packets.Unsuback id ∷ ps) qs = backward_both ps qs
backward_both (packets.Pingreq ∷ ps) qs = backward_both ps qs
backward_both (packets.Pingresp ∷ ps) qs = backward_both ps qs
backward_both (packets.Disconnect ∷ ps) qs = backward_both ps qs

-- and what is not handled yet, with more after it
pub backward_more : (n : ℕ) (ps qs : List Packet) → n ≤ length ps → backward_of_own (drop n (ps ++ qs)) ≡ backward_of_own (drop n ps) ++ backward_of_own qs
backward_more n ps qs h = ap backward_of_own (drop-append-le n ps qs h) ∙ backward_both (drop n ps) qs
