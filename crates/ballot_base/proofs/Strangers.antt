-- Strangers.antt: a node that a configuration does not name opens as in any other such one.
use Rattle.std.proofs.Common.{◌≡◌, ℕ, Bool, true, false, List, [], ◌∷◌, refl, subst, sym}
use Rattle.std.specs.Prelude.{◌==◌}
use Rattle.std.specs.List.{list_any}
use Rattle.std.proofs.lemmas.Bool.{eqb-true}
use Rattle.machine.specs.Machine.{Rules}
use Rattle.lists.specs.Lists.{In}
use Rattle.lists.specs.Lists.In.{here, there}
use Rattle.ballot_base.specs.declared.config.Config.{Config}
use Rattle.ballot_base.specs.Replica.{opening}
use Rattle.ballot_base.specs.Theorems.{IsStranger}

-- a number that is not in a list is not found in it
not_found : (id : ℕ) (members : List ℕ) → (In id members → ⊥) → list_any (λ member. member == id) members ≡ false
not_found id [] out = refl
not_found id (m ∷ members) out = by (m == id) refl (not_found id members (λ i. out (there i)))
  where
    by : (b : Bool) → (m == id) ≡ b → list_any (λ member. member == id) members ≡ false → list_any (λ member. member == id) (m ∷ members) ≡ false
    by true e none = absurd (out (subst (λ x. In x (m ∷ members)) (eqb-true m id e) here))
    by false e none = rw e none

-- it is not the primary
not_primary : (id : ℕ) (config : Config) → IsStranger id config → (id == config.primary) ≡ false
not_primary id config out = by (id == config.primary) refl
  where
    by : (b : Bool) → (id == config.primary) ≡ b → (id == config.primary) ≡ false
    by true e = absurd (out (subst (λ x. In x (config.primary ∷ config.members)) (sym (eqb-true id config.primary e)) here))
    by false e = e

-- so a stranger opens as if there were no members
pub strangers_alike : {S C O : Type 0} (rules : Rules S C O) (id : ℕ) (config other : Config) → IsStranger id config → IsStranger id other →
    opening rules id config ≡ opening rules id other
strangers_alike rules id config other out away =
    rw (
      not_primary id config out,
      not_primary id other away,
      not_found id config.members (λ i. out (there i)),
      not_found id other.members (λ i. away (there i)),
    ) refl
