-- Memberships.antt: ends that accept each other.
use Rattle.std.proofs.Common.{◌≡◌, ◌∙◌, ◌⊎◌, Bool, true, false, ◌&&◌, ◌||◌, not, List, ℕ, refl, sym, inl, inr}
use Rattle.std.specs.Str.{bytes_eq}
use Rattle.std.proofs.lemmas.Slice.Eq.{bytes_eq-Decides}
use Rattle.links.specs.declared.seal.membership.Membership.TheVariants.{Node, Master, Newcomer}
use Rattle.links.specs.seal.Clusters.{is_known, no_cluster, IsFirstContact}
use Rattle.links.specs.seal.Theorems.{EndsAreOfOneCluster}

both : (a b : Bool) → (a && b) ≡ true → (a ≡ true) × (b ≡ true)
both true true e = (refl, refl)
both true false e = cc
both false b e = cc

either : (a b : Bool) → (not a || b) ≡ true → a ≡ true → b ≡ true
either true b e t = e
either false b e t = cc

same : (a b : List ℕ) → bytes_eq a b ≡ true → a ≡ b
same a b e = (bytes_eq-Decides a b).0 e

none : (a : List ℕ) → is_known a ≡ false → a ≡ no_cluster
none a e = same a no_cluster (turned (bytes_eq a no_cluster) e)
  where
    turned : (b : Bool) → not b ≡ false → b ≡ true
    turned true e = refl
    turned false e = cc

pub of_one_cluster : EndsAreOfOneCluster
of_one_cluster (Node a) (Node b) e f = inl (sym (same b a (both (is_known b) (bytes_eq b a) e).1))
of_one_cluster (Node a) (Master b) e f = inl (sym (same b a (both (is_known b) (bytes_eq b a) e).1))
of_one_cluster (Node a) Newcomer e f = cc
of_one_cluster (Master a) (Node b) e f = inl (same a b (both (is_known a) (bytes_eq a b) f).1)
of_one_cluster (Master a) (Master b) e f = masters (is_known a) (is_known b) refl refl
  where
    masters : (x y : Bool) → is_known a ≡ x → is_known b ≡ y → (a ≡ b) ⊎ IsFirstContact (Master a) (Master b)
    masters x true p q = inl (sym (same b a (either (is_known b) (bytes_eq b a) e q)))
    masters true false p q = inl (same a b (either (is_known a) (bytes_eq a b) f p))
    masters false false p q = inl (none a p ∙ sym (none b q))
of_one_cluster (Master a) Newcomer e f = inr f
of_one_cluster Newcomer (Node b) e f = cc
of_one_cluster Newcomer (Master b) e f = inr e
of_one_cluster Newcomer Newcomer e f = cc
