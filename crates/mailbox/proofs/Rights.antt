-- How many items may still be sent, after one pass changed or one more came.
use Rattle.std.specs.Prelude.{◌≡◌, ℕ, zero, suc, ◌+◌, ◌≤◌, List, [], ◌∷◌, ◌++◌, slice_set}
use Rattle.std.proofs.Common.{sym, ap, arith}
use mathlib.Core.Option.{some, some-injective, some-ne-none}
use lib.ListN.{get_elem?}
use Rattle.mailbox.specs.declared.view.View.{View}
use Rattle.mailbox.specs.Delivery.{rights}

module _ {T : Type 0} where
  pub rights_set : (views : List (View T)) (port : ℕ) (v w : View T)
      → get_elem? views port ≡ some v
      → rights (slice_set views port w) + v.may_send ≡ rights views + w.may_send
  rights_set [] port v w e = absurd (some-ne-none v (sym e))
  rights_set (x ∷ views) zero v w e =
      let same = ap (λ (u : View T). u.may_send) (some-injective x v e) in omega (arith, same)
  rights_set (x ∷ views) (suc port) v w e = omega (arith, rights_set views port v w e)

  pub rights_snoc : (views : List (View T)) (w : View T) → rights (views ++ w ∷ []) ≡ rights views + w.may_send
  rights_snoc [] w = omega arith
  rights_snoc (x ∷ views) w = omega (arith, rights_snoc views w)

  -- a pass that gives up rights, and one more that has these
  pub rights_split : (views : List (View T)) (port : ℕ) (v left right : View T)
      → get_elem? views port ≡ some v
      → left.may_send + right.may_send ≤ v.may_send
      → rights (slice_set views port left ++ right ∷ []) ≤ rights views
  rights_split views port v left right e less =
      omega (arith, rights_snoc (slice_set views port left) right, rights_set views port v left e, less)

  -- a pass has no more rights than all of them
  pub rights_has : (views : List (View T)) (port : ℕ) (v : View T)
      → get_elem? views port ≡ some v
      → v.may_send ≤ rights views
  rights_has [] port v e = absurd (some-ne-none v (sym e))
  rights_has (x ∷ views) zero v e =
      let same = ap (λ (u : View T). u.may_send) (some-injective x v e) in omega (arith, same)
  rights_has (x ∷ views) (suc port) v e = omega (arith, rights_has views port v e)
