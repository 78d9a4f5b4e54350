-- A CONNACK is the first packet that a connection handles.
use Rattle.std.proofs.Common.{◌≡◌, ℕ, zero, suc, List, [], ◌∷◌, Some, refl, ap, subst}
use Rattle.std.specs.Prelude.{slice_get}
use Rattle.std.proofs.lemmas.Bool.{both_ways}
use Rattle.packet.specs.declared.connack.Connack.{Connack}
use Rattle.packet.specs.declared.packet.Packet.{Packet}
use Rattle.packet.specs.declared.packet.Packet.TheVariants as packets
use Rattle.exactly_once.specs.Inside.ConnectionShape.{is_connack, no_connacks, ConnackFirst}

-- none of these is one
not_there : (put : List Packet) (n : ℕ) (connack : Connack) → no_connacks put → slice_get put n ≡ Some (packets.Connack connack) → ⊥
not_there [] n connack none e = cc
not_there (packet ∷ put) zero connack none e =
    let same : packet ≡ packets.Connack connack = cc in
    both_ways (is_connack packet) none.0 (ap is_connack same)
not_there (packet ∷ put) (suc n) connack none e = not_there put n connack none.1 e

-- so it comes first
pub connack_at_first : (taken n : ℕ) (put : List Packet) (connack : Connack) → ConnackFirst taken put → slice_get put n ≡ Some (packets.Connack connack) → n ≡ 0
connack_at_first taken zero put connack first e = refl
connack_at_first zero (suc n) put connack first e = absurd (let f : slice_get [] (suc n) ≡ Some (packets.Connack connack) = subst (λ (ps : List Packet). slice_get ps (suc n) ≡ Some (packets.Connack connack)) first e in cc)
connack_at_first (suc taken) (suc n) [] connack first e = absurd first
connack_at_first (suc taken) (suc n) (packet ∷ put) connack first e = absurd (not_there put n connack first.1 e)
