-- HighestFound.antt: of one node after the other the higher one is kept, so at the end the highest of all.
use Rattle.std.proofs.Common.{◌≡◌, ℕ, zero, suc, ◌≤◌, Bool, true, false, ◌&&◌, nat_lt, if◌then◌else◌, List, [], ◌∷◌, ◌++◌, drop, length, Option, Some, None, refl, sym, ap, subst, append_assoc, arith}
use Rattle.std.proofs.Common.{◌∙◌}
use Rattle.std.proofs.lemmas.Bool.{false≢true}
use Rattle.std.proofs.lemmas.List.{append-nil}
use Rattle.lists.proofs.Members.{in_left, in_right}
use Rattle.lists.proofs.OfEach.{each_append, each_then}
use Rattle.lists.specs.Lists.{In}
use Rattle.lists.specs.Lists.In.{here}
use Rattle.post.specs.Primaries.{IsHighest, NoneIsHigher, NoneServes, higher, highest_from, serves}
use Rattle.post.specs.declared.recipients.Shown.{Shown}

-- what is found among these nodes
abbrev pub IsFound : Option Shown → List Shown → Type 0
IsFound None nodes = NoneServes nodes
IsFound (Some best) nodes = In best nodes × (serves best ≡ true) × NoneIsHigher best.status.ballot nodes

-- what does not serve is not higher, whatever the ballot
not_higher : (shown : Shown) (ballot : ℕ) → serves shown ≡ false → serves shown ≡ true → shown.status.ballot ≤ ballot
not_higher shown ballot off on = absurd (false≢true (sym off ∙ on))

at_most : (m n : ℕ) → nat_lt m n ≡ false → n ≤ m
at_most m n is = grind (arith, is)

above : (k m n : ℕ) → k ≤ m → nat_lt m n ≡ true → k ≤ n
above k m n least is = grind (arith, least, is)

itself : (n : ℕ) → n ≤ n
itself n = omega arith

more : (found : Option Shown) (shown : Shown) (seen : List Shown)
    → IsFound found seen → IsFound (higher found shown) (seen ++ shown ∷ [])
more None shown seen none = by (serves shown) refl
  where
    by : (b : Bool) → serves shown ≡ b → IsFound (if b then Some shown else None) (seen ++ shown ∷ [])
    by true is = (
      in_right seen here,
      is,
      each_append _ seen (shown ∷ [])
          (each_then _ _ seen (λ other off. not_higher other shown.status.ballot off) none)
          ((λ yes. itself shown.status.ballot), tt),
    )
    by false is = each_append _ seen (shown ∷ []) none (is, tt)
more (Some best) shown seen found = by (serves shown) refl (nat_lt best.status.ballot shown.status.ballot) refl
  where
    kept : (serves shown ≡ true → shown.status.ballot ≤ best.status.ballot) → IsFound (Some best) (seen ++ shown ∷ [])
    kept least = (in_left (shown ∷ []) found.0, found.1, each_append _ seen (shown ∷ []) found.2 (least, tt))

    by : (b : Bool) → serves shown ≡ b → (c : Bool) → nat_lt best.status.ballot shown.status.ballot ≡ c
        → IsFound (if b && c then Some shown else Some best) (seen ++ shown ∷ [])
    by true is true less = (
      in_right seen here,
      is,
      each_append _ seen (shown ∷ [])
          (each_then _ _ seen (λ other least yes. above other.status.ballot best.status.ballot shown.status.ballot (least yes) less) found.2)
          ((λ yes. itself shown.status.ballot), tt),
    )
    by true is false less = kept (λ yes. at_most best.status.ballot shown.status.ballot less)
    by false is c less = kept (not_higher shown best.status.ballot is)

from : (found : Option Shown) (nodes seen : List Shown)
    → IsFound found seen → IsFound (highest_from found nodes) (seen ++ nodes)
from found [] seen is = subst (IsFound found) (sym (append-nil seen)) is
from found (shown ∷ nodes) seen is =
    subst (IsFound (highest_from (higher found shown) nodes)) (append_assoc seen (shown ∷ []) nodes)
    (from (higher found shown) nodes (seen ++ shown ∷ []) (more found shown seen is))

highest_found : (nodes : List Shown) → IsFound (highest_from None nodes) nodes
highest_found nodes = from None nodes [] tt

-- once all were looked at, none is left
left : (n : ℕ) (nodes : List Shown) → length nodes ≤ n → drop n nodes ≡ []
left zero [] all = refl
left zero (shown ∷ nodes) all = absurd (omega (arith, all))
left (suc n) [] all = refl
left (suc n) (shown ∷ nodes) all = left n nodes (omega (arith, all))

at_end : (found : Option Shown) (n : ℕ) (nodes : List Shown)
    → length nodes ≤ n → highest_from found (drop n nodes) ≡ highest_from None nodes → IsFound found nodes
at_end found n nodes all is =
    subst (λ (one : Option Shown). IsFound one nodes) (sym (ap (highest_from found) (sym (left n nodes all)) ∙ is)) (highest_found nodes)

pub found_is_highest : (best : Shown) (found : Option Shown) (n : ℕ) (nodes : List Shown)
    → length nodes ≤ n → highest_from found (drop n nodes) ≡ highest_from None nodes
    → found ≡ Some best → IsHighest best.number nodes
found_is_highest best found n nodes all is some =
    let f = subst (λ (one : Option Shown). IsFound one nodes) some (at_end found n nodes all is) in
    record { shown = best; among = f.0; names = refl; is_served = f.1; highest = f.2 }

pub none_is_found : (found : Option Shown) (n : ℕ) (nodes : List Shown)
    → length nodes ≤ n → highest_from found (drop n nodes) ≡ highest_from None nodes → found ≡ None → NoneServes nodes
none_is_found found n nodes all is none = subst (λ (one : Option Shown). IsFound one nodes) none (at_end found n nodes all is)
