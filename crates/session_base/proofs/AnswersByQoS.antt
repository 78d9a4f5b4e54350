-- AnswersByQoS.antt: each entry is finished only by the answers of its QoS.
use Rattle.std.proofs.Common.{◌≡◌, ℕ, true, ◌==◌, refl, arith}
use Rattle.session_base.specs.OrderTheorems.{AnswersFitTheQoS}

same : (id : ℕ) → (id == id) ≡ true
same id = grind arith

pub answers_fit_the_qos : AnswersFitTheQoS
answers_fit_the_qos id p = (λ q. (rw (q, same id) refl, rw (q, same id) refl), λ q. (rw (q, same id) refl, rw (q, same id) refl, rw (q, same id, same id) refl))
