-- A number that is read as a QoS is its number, and each QoS's number is read as it.
use Rattle.std.proofs.Common.{◌≡◌, ℕ, eqb, Ok, refl}
use Rattle.std.specs.Prelude.{IfOk}
use Rattle.std.proofs.lemmas.Bool.{eqb-true}
use Rattle.packet_base.proofs.Steps.{cond_if}
use Rattle.packet_base.specs.declared.qos.QoS.{QoS}
use Rattle.packet_base.specs.declared.qos.QoS.TheVariants as qos_levels
use Rattle.packet_base.specs.QoS.{qos_number, qos_of}

pub qos_found : (number : ℕ) → IfOk (qos_of number) (λ qos. number ≡ qos_number qos)
qos_found number =
    let Q : QoS → Type 0 = λ qos. number ≡ qos_number qos in
    cond_if (eqb number 0) _ _ Q (eqb-true number 0) (λ _.
    cond_if (eqb number 1) _ _ Q (eqb-true number 1) (λ _.
    cond_if (eqb number 2) _ _ Q (eqb-true number 2) (λ _. tt)))

pub qos_again : (qos : QoS) → qos_of (qos_number qos) ≡ Ok qos
qos_again qos_levels.AtMostOnce = refl
qos_again qos_levels.AtLeastOnce = refl
qos_again qos_levels.ExactlyOnce = refl
