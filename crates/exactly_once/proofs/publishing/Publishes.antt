-- A PUBLISH that the client writes belongs to the handshake if it is at QoS 2.
use Rattle.std.proofs.Common.{◌≡◌, ℕ, Bool, if◌then◌else◌, List, ◌∷◌, Some, refl}
use Rattle.packet_base.specs.declared.qos.QoS.{QoS}
use Rattle.packet_base.specs.declared.qos.QoS.TheVariants as qos_levels
use Rattle.session_base.specs.declared.publication.Publication.{Publication}
use Rattle.session_base.specs.Publication.{delivery_with}
use Rattle.exactly_once.specs.Handshake.{Forward}
use Rattle.client_base.specs.Keeper.{Written}
use Rattle.client_base.specs.Written.{written_publish}
use Rattle.exactly_once.specs.Carried.{is_qos2}
use Rattle.exactly_once.specs.Inside.Projections.{forward_of_own, carried_by}

pub forward_publishes : (dup : Bool) (k id : ℕ) (p : Publication) (ws : List Written)
    → forward_of_own (written_publish dup k id p ∷ ws) ≡ (if is_qos2 p.qos then Forward.Publish id k ∷ forward_of_own ws else forward_of_own ws)
forward_publishes dup k id p ws = by p.qos
  where
    by : (q : QoS) → carried_by (delivery_with q dup id) (Some k) (forward_of_own ws) ≡ (if is_qos2 q then Forward.Publish id k ∷ forward_of_own ws else forward_of_own ws)
    by qos_levels.AtMostOnce = refl
    by qos_levels.AtLeastOnce = refl
    by qos_levels.ExactlyOnce = refl
