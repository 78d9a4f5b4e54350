-- The greater of several QoS does not ask in which order they are compared.
use Rattle.std.proofs.Common.{◌≡◌, Option, Some, None, refl, ap}
use Rattle.packet_base.specs.declared.qos.QoS.{QoS}
use Rattle.packet_base.specs.declared.qos.QoS.TheVariants as qos_levels
use Rattle.packet_base.specs.QoS.{greater_qos}
use Rattle.session.specs.Inside.{greater_of}

two : (h b : QoS) → greater_qos h (Some b) ≡ greater_qos b (Some h)
two qos_levels.AtMostOnce qos_levels.AtMostOnce = refl
two qos_levels.AtMostOnce qos_levels.AtLeastOnce = refl
two qos_levels.AtMostOnce qos_levels.ExactlyOnce = refl
two qos_levels.AtLeastOnce qos_levels.AtMostOnce = refl
two qos_levels.AtLeastOnce qos_levels.AtLeastOnce = refl
two qos_levels.AtLeastOnce qos_levels.ExactlyOnce = refl
two qos_levels.ExactlyOnce qos_levels.AtMostOnce = refl
two qos_levels.ExactlyOnce qos_levels.AtLeastOnce = refl
two qos_levels.ExactlyOnce qos_levels.ExactlyOnce = refl

three : (h b r : QoS) → greater_qos (greater_qos h (Some b)) (Some r) ≡ greater_qos b (Some (greater_qos h (Some r)))
three qos_levels.AtMostOnce qos_levels.AtMostOnce qos_levels.AtMostOnce = refl
three qos_levels.AtMostOnce qos_levels.AtMostOnce qos_levels.AtLeastOnce = refl
three qos_levels.AtMostOnce qos_levels.AtMostOnce qos_levels.ExactlyOnce = refl
three qos_levels.AtMostOnce qos_levels.AtLeastOnce qos_levels.AtMostOnce = refl
three qos_levels.AtMostOnce qos_levels.AtLeastOnce qos_levels.AtLeastOnce = refl
three qos_levels.AtMostOnce qos_levels.AtLeastOnce qos_levels.ExactlyOnce = refl
three qos_levels.AtMostOnce qos_levels.ExactlyOnce qos_levels.AtMostOnce = refl
three qos_levels.AtMostOnce qos_levels.ExactlyOnce qos_levels.AtLeastOnce = refl
three qos_levels.AtMostOnce qos_levels.ExactlyOnce qos_levels.ExactlyOnce = refl
three qos_levels.AtLeastOnce qos_levels.AtMostOnce qos_levels.AtMostOnce = refl
three qos_levels.AtLeastOnce qos_levels.AtMostOnce qos_levels.AtLeastOnce = refl
three qos_levels.AtLeastOnce qos_levels.AtMostOnce qos_levels.ExactlyOnce = refl
three qos_levels.AtLeastOnce qos_levels.AtLeastOnce qos_levels.AtMostOnce = refl
three qos_levels.AtLeastOnce qos_levels.AtLeastOnce qos_levels.AtLeastOnce = refl
three qos_levels.AtLeastOnce qos_levels.AtLeastOnce qos_levels.ExactlyOnce = refl
three qos_levels.AtLeastOnce qos_levels.ExactlyOnce qos_levels.AtMostOnce = refl
three qos_levels.AtLeastOnce qos_levels.ExactlyOnce qos_levels.AtLeastOnce = refl
three qos_levels.AtLeastOnce qos_levels.ExactlyOnce qos_levels.ExactlyOnce = refl
three qos_levels.ExactlyOnce qos_levels.AtMostOnce qos_levels.AtMostOnce = refl
three qos_levels.ExactlyOnce qos_levels.AtMostOnce qos_levels.AtLeastOnce = refl
three qos_levels.ExactlyOnce qos_levels.AtMostOnce qos_levels.ExactlyOnce = refl
three qos_levels.ExactlyOnce qos_levels.AtLeastOnce qos_levels.AtMostOnce = refl
three qos_levels.ExactlyOnce qos_levels.AtLeastOnce qos_levels.AtLeastOnce = refl
three qos_levels.ExactlyOnce qos_levels.AtLeastOnce qos_levels.ExactlyOnce = refl
three qos_levels.ExactlyOnce qos_levels.ExactlyOnce qos_levels.AtMostOnce = refl
three qos_levels.ExactlyOnce qos_levels.ExactlyOnce qos_levels.AtLeastOnce = refl
three qos_levels.ExactlyOnce qos_levels.ExactlyOnce qos_levels.ExactlyOnce = refl

-- one more may be compared with the best so far, or with the best of the rest
pub one_more : (h : QoS) (best rest : Option QoS) → greater_of (Some (greater_qos h best)) rest ≡ greater_of best (Some (greater_qos h rest))
one_more h None rest = refl
one_more h (Some b) None = ap (λ q. Some q) (two h b)
one_more h (Some b) (Some r) = ap (λ q. Some q) (three h b r)
