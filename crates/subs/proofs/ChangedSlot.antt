-- What the nodes show once one of them was put in, taken out or changed.
use Rattle.std.proofs.Common.{◌≡◌, ℕ, List, Bool, true, false, not, ◌&&◌, ◌||◌, ◌==◌, cond, Option, Some, None, refl, sym, ◌∙◌, ap, subst, bytes_eq, is_some, IsSome}
use Rattle.std.specs.Prelude.{option_and_then}
use Rattle.std.proofs.lemmas.Bool.{true≢false, eq-eqb, eqb-true}
use Rattle.slab.specs.Slab.{Slab, get, Updates, with_value}
use Rattle.slab.proofs.SlabLemmas.{Updates-with_value}
use Rattle.packet_base.specs.declared.qos.QoS.{QoS}
use Rattle.subs.specs.declared.node.Node.{Node}
use Rattle.subs.specs.Changes.{same_side, SetsRow, SetsSide, SetsChild, WritesRow, Fills, Links, AddsNode, FreesNode, IsBare}
use Rattle.subs.specs.Inside.{clients_at, child_in, shape_of, HoldsNothing}

-- every number but one has what it had
pub get_after : (old new : Slab Node) (n : ℕ) (slot : Option Node) → Updates old new n slot → (k : ℕ) → get new k ≡ cond (k == n) slot (get old k)
get_after old new n slot updates k = by (k == n) refl
  where
    by : (v : Bool) → (k == n) ≡ v → get new k ≡ cond v slot (get old k)
    by true e = ap (get new) (eqb-true k n e) ∙ updates.changed
    by false e = updates.others k (λ is. true≢false (sym (eq-eqb k n is) ∙ e))

-- the number itself
self : (old : Slab Node) (n k : ℕ) (slot : Option Node) → get old n ≡ slot → (k == n) ≡ true → get old k ≡ slot
self old n k slot h e = ap (get old) (eqb-true k n e) ∙ h

abbrev child_of : List ℕ → Option Node → Option ℕ
child_of l o = option_and_then (λ node. child_in node l) o

abbrev held_of : Bool → List ℕ → Option Node → Option QoS
held_of r c o = option_and_then (λ node. clients_at node r c) o

pub same_shape : (old new : Slab Node) → new.slots ≡ old.slots → shape_of new ≡ shape_of old
same_shape old new e = λ i. record {
  child = λ k l. child_of l (gets k i);
  asked = λ k r c. held_of r c (gets k i);
  used = λ k. is_some (gets k i);
}
  where
    gets : (k : ℕ) → get new k ≡ get old k
    gets k = ap (λ slots. get (record { slots = slots; vacant_key = 0; capacity = 0 }) k) e

module _ (old new : Slab Node) (n : ℕ) where
  pub opened : (node : Node) → get old n ≡ None → Updates old new n (Some node) → HoldsNothing node → AddsNode (shape_of old) (shape_of new) n
  opened node vacant updates empty = record {
    child = λ i k l. children k l i;
    asked = λ i k r c. rows k r c i;
    free = ap is_some vacant;
    used = λ k. ap is_some (get_after old new n (Some node) updates k) ∙ some (k == n) (get old k);
  }
    where
      some : (v : Bool) (o : Option Node) → is_some (cond v (Some node) o) ≡ (v || is_some o)
      some true o = refl
      some false o = refl

      children : (k : ℕ) (l : List ℕ) → (shape_of new).child k l ≡ (shape_of old).child k l
      children k l = ap (child_of l) (get_after old new n (Some node) updates k) ∙ by (k == n) refl
        where
          by : (v : Bool) → (k == n) ≡ v → child_of l (cond v (Some node) (get old k)) ≡ child_of l (get old k)
          by true e = empty.child l ∙ sym (ap (child_of l) (self old n k None vacant e))
          by false e = refl

      rows : (k : ℕ) (r : Bool) (c : List ℕ) → (shape_of new).asked k r c ≡ (shape_of old).asked k r c
      rows k r c = ap (held_of r c) (get_after old new n (Some node) updates k) ∙ by (k == n) refl
        where
          by : (v : Bool) → (k == n) ≡ v → held_of r c (cond v (Some node) (get old k)) ≡ held_of r c (get old k)
          by true e = empty.asked r c ∙ sym (ap (held_of r c) (self old n k None vacant e))
          by false e = refl

  pub bare_of : (node : Node) → get new n ≡ Some node → HoldsNothing node → IsBare (shape_of new) n
  bare_of node is empty = record {
    child = λ l. ap (child_of l) is ∙ empty.child l;
    asked = λ r c. ap (held_of r c) is ∙ empty.asked r c;
  }

  pub closed : Updates old new n None → IsBare (shape_of old) n → FreesNode (shape_of old) (shape_of new) n
  closed updates bare = record {
    child = λ i k l. children k l i;
    asked = λ i k r c. rows k r c i;
    used = λ k. ap is_some (get_after old new n None updates k) ∙ some (k == n) (get old k);
  }
    where
      some : (v : Bool) (o : Option Node) → is_some (cond v None o) ≡ (not v && is_some o)
      some true o = refl
      some false o = refl

      children : (k : ℕ) (l : List ℕ) → (shape_of new).child k l ≡ (shape_of old).child k l
      children k l = ap (child_of l) (get_after old new n None updates k) ∙ by (k == n) refl
        where
          by : (v : Bool) → (k == n) ≡ v → child_of l (cond v None (get old k)) ≡ child_of l (get old k)
          by true e = sym (ap (λ x. child_of l (get old x)) (eqb-true k n e) ∙ bare.child l)
          by false e = refl

      rows : (k : ℕ) (r : Bool) (c : List ℕ) → (shape_of new).asked k r c ≡ (shape_of old).asked k r c
      rows k r c = ap (held_of r c) (get_after old new n None updates k) ∙ by (k == n) refl
        where
          by : (v : Bool) → (k == n) ≡ v → held_of r c (cond v None (get old k)) ≡ held_of r c (get old k)
          by true e = sym (ap (λ x. held_of r c (get old x)) (eqb-true k n e) ∙ bare.asked r c)
          by false e = refl

  module _ (was is : Node) (there : get old n ≡ Some was) (updates : Updates old new n (Some is)) where
    used_same : (k : ℕ) → (shape_of new).used k ≡ (shape_of old).used k
    used_same k = ap is_some (get_after old new n (Some is) updates k) ∙ by (k == n) refl
      where
        by : (v : Bool) → (k == n) ≡ v → is_some (cond v (Some is) (get old k)) ≡ is_some (get old k)
        by true e = sym (ap is_some (self old n k (Some was) there e))
        by false e = refl

    children_same : child_in is ≡ child_in was → (k : ℕ) (l : List ℕ) → (shape_of new).child k l ≡ (shape_of old).child k l
    children_same same k l = ap (child_of l) (get_after old new n (Some is) updates k) ∙ by (k == n) refl
      where
        by : (v : Bool) → (k == n) ≡ v → child_of l (cond v (Some is) (get old k)) ≡ child_of l (get old k)
        by true e = (λ i. same i l) ∙ sym (ap (child_of l) (self old n k (Some was) there e))
        by false e = refl

    rows_same : clients_at is ≡ clients_at was → (k : ℕ) (r : Bool) (c : List ℕ) → (shape_of new).asked k r c ≡ (shape_of old).asked k r c
    rows_same same k r c = ap (held_of r c) (get_after old new n (Some is) updates k) ∙ by (k == n) refl
      where
        by : (v : Bool) → (k == n) ≡ v → held_of r c (cond v (Some is) (get old k)) ≡ held_of r c (get old k)
        by true e = (λ i. same i r c) ∙ sym (ap (held_of r c) (self old n k (Some was) there e))
        by false e = refl

    pub stayed : child_in is ≡ child_in was → clients_at is ≡ clients_at was → shape_of new ≡ shape_of old
    stayed children rows = λ i. record {
      child = λ k l. children_same children k l i;
      asked = λ k r c. rows_same rows k r c i;
      used = λ k. used_same k i;
    }

    pub linked : (level : List ℕ) (below : Option ℕ) → SetsChild (child_in was) (child_in is) level below → clients_at is ≡ clients_at was → Links (shape_of old) (shape_of new) n level below
    linked level below sets rows = record {
      child = children;
      asked = λ i k r c. rows_same rows k r c i;
      used = λ i k. used_same k i;
    }
      where
        children : (k : ℕ) (l : List ℕ) → (shape_of new).child k l ≡ cond ((k == n) && bytes_eq level l) below ((shape_of old).child k l)
        children k l = ap (child_of l) (get_after old new n (Some is) updates k) ∙ by (k == n) refl
          where
            by : (v : Bool) → (k == n) ≡ v → child_of l (cond v (Some is) (get old k)) ≡ cond (v && bytes_eq level l) below (child_of l (get old k))
            by true e = sets l ∙ ap (cond (bytes_eq level l) below) (sym (ap (child_of l) (self old n k (Some was) there e)))
            by false e = refl

    pub written : (rest : Bool) (client : List ℕ) (kept : Option QoS) → SetsRow (clients_at was) (clients_at is) rest client kept → child_in is ≡ child_in was → WritesRow (shape_of old) (shape_of new) n rest client kept
    written rest client kept sets children = record {
      child = λ i k l. children_same children k l i;
      used = λ i k. used_same k i;
      asked = rows;
    }
      where
        rows : (k : ℕ) (r : Bool) (c : List ℕ) → (shape_of new).asked k r c ≡ cond ((k == n) && (same_side rest r && bytes_eq client c)) kept ((shape_of old).asked k r c)
        rows k r c = ap (held_of r c) (get_after old new n (Some is) updates k) ∙ by (k == n) refl
          where
            by : (v : Bool) → (k == n) ≡ v → held_of r c (cond v (Some is) (get old k)) ≡ cond (v && (same_side rest r && bytes_eq client c)) kept (held_of r c (get old k))
            by true e = sets r c ∙ ap (cond (same_side rest r && bytes_eq client c) kept) (sym (ap (held_of r c) (self old n k (Some was) there e)))
            by false e = refl

    pub filled : (rest : Bool) (kept : List ℕ → Option QoS) → SetsSide (clients_at was) (clients_at is) rest kept → child_in is ≡ child_in was → Fills (shape_of old) (shape_of new) n rest kept
    filled rest kept sets children = record {
      child = λ i k l. children_same children k l i;
      used = λ i k. used_same k i;
      asked = rows;
    }
      where
        rows : (k : ℕ) (r : Bool) (c : List ℕ) → (shape_of new).asked k r c ≡ cond ((k == n) && same_side rest r) (kept c) ((shape_of old).asked k r c)
        rows k r c = ap (held_of r c) (get_after old new n (Some is) updates k) ∙ by (k == n) refl
          where
            by : (v : Bool) → (k == n) ≡ v → held_of r c (cond v (Some is) (get old k)) ≡ cond (v && same_side rest r) (kept c) (held_of r c (get old k))
            by true e = sets r c ∙ ap (cond (same_side rest r) (kept c)) (sym (ap (held_of r c) (self old n k (Some was) there e)))
            by false e = refl

-- a write to the value of a number
pub wrote : (old : Slab Node) (n : ℕ) (was is : Node) → get old n ≡ Some was → Updates old (with_value old n is) n (Some is)
wrote old n was is there = Updates-with_value old n is (subst (λ (o : Option Node). IsSome o) (sym there) refl)
