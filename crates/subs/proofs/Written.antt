-- A row that is changed at the node of a filter is the row of that filter, and of no other.
use Rattle.std.proofs.Common.{◌≡◌, ℕ, List, Bool, true, false, ◌&&◌, ◌==◌, cond, Option, Some, None, refl, sym, ◌∙◌, ap, subst, bytes_eq}
use Rattle.std.proofs.lemmas.Bool.{true≢false, and_parts, eq-eqb, eqb-true}
use Rattle.topics.specs.Text.{Levels}
use Rattle.packet_base.specs.declared.qos.QoS.{QoS}
use Rattle.subs.specs.Shape.{Children, Shape, rows}
use Rattle.subs.specs.Ways.{led, slot, IsTree}
use Rattle.subs.specs.Changes.{same_side, WritesRow, Fills}
use Rattle.subs.specs.Inside.{same_levels, asked_with, with_rows}
use Rattle.subs.proofs.Ways.{same_levels_is, same_levels_self, one_filter, row_at, rows_are}

pub same_side_is : (a b : Bool) → same_side a b ≡ true → a ≡ b
same_side_is true true h = refl
same_side_is true false h = absurd (true≢false (sym h))
same_side_is false true h = absurd (true≢false (sym h))
same_side_is false false h = refl

pub same_side_self : (a : Bool) → same_side a a ≡ true
same_side_self true = refl
same_side_self false = refl

-- two tests of which each follows from the other
pub same_test : (a b : Bool) → (a ≡ true → b ≡ true) → (b ≡ true → a ≡ true) → a ≡ b
same_test true b f g = sym (f refl)
same_test false true f g = g refl
same_test false false f g = refl

both : (a b : Bool) → a ≡ true → b ≡ true → (a && b) ≡ true
both true b ha hb = hb
both false b ha hb = absurd (true≢false (sym ha))

grouped : (a b c : Bool) → (a && (b && c)) ≡ ((a && b) && c)
grouped true b c = refl
grouped false b c = refl

-- the slot of another filter is another slot
pub one_slot :
    (old : Shape) (root : Option ℕ) (f : Levels) (at : ℕ)
    → IsTree old.child old.used root
    → led old.child root (slot f).0 ≡ Some at
    → (g : Levels) (k : ℕ) → led old.child root (slot g).0 ≡ Some k → ((k == at) && same_side (slot f).1 (slot g).1) ≡ same_levels f g
one_slot old root f at tree way g k e = same_test ((k == at) && same_side (slot f).1 (slot g).1) (same_levels f g) there back
  where
    there : ((k == at) && same_side (slot f).1 (slot g).1) ≡ true → same_levels f g ≡ true
    there h =
        let parts = and_parts (k == at) (same_side (slot f).1 (slot g).1) h in
        let ways : (slot f).0 ≡ (slot g).0 = tree.one_way (slot f).0 (slot g).0 at way (e ∙ ap (λ n. Some n) (eqb-true k at parts.0)) in
        let is : f ≡ g = one_filter f g ways (same_side_is (slot f).1 (slot g).1 parts.1) in
        subst (λ (x : Levels). same_levels f x ≡ true) is (same_levels_self f)

    back : same_levels f g ≡ true → ((k == at) && same_side (slot f).1 (slot g).1) ≡ true
    back h =
        let is : f ≡ g = same_levels_is f g h in
        let found : Some at ≡ Some k = sym way ∙ ap (λ (x : Levels). led old.child root (slot x).0) is ∙ e in
        let same : k ≡ at = cc in
        both (k == at) (same_side (slot f).1 (slot g).1) (eq-eqb k at same)
        (subst (λ (x : Levels). same_side (slot f).1 (slot x).1 ≡ true) is (same_side_self (slot f).1))

-- a filter that has no slot is another one
pub no_slot :
    (old : Shape) (root : Option ℕ) (f : Levels) (at : ℕ)
    → led old.child root (slot f).0 ≡ Some at
    → (g : Levels) → led old.child root (slot g).0 ≡ None → same_levels f g ≡ false
no_slot old root f at way g e = same_test (same_levels f g) false (λ h. absurd (no h)) (λ h. absurd (true≢false (sym h)))
  where
    no : same_levels f g ≡ true → ⊥
    no h =
        let found : Some at ≡ None = sym way ∙ ap (λ (x : Levels). led old.child root (slot x).0) (same_levels_is f g h) ∙ e in
        absurd cc

pub written :
    (old new : Shape) (root : Option ℕ) (f : Levels) (at : ℕ) (client : List ℕ) (kept : Option QoS)
    → IsTree old.child old.used root
    → led old.child root (slot f).0 ≡ Some at
    → WritesRow old new at (slot f).1 client kept
    → rows new root ≡ asked_with (rows old root) f client kept
written old new root f at client kept tree way writes = λ i g c. go g c i
  where
    by : (g : Levels) (c : List ℕ) (o : Option ℕ) → led old.child root (slot g).0 ≡ o
        → row_at new.asked o (slot g).1 c ≡ cond (same_levels f g && bytes_eq client c) kept (row_at old.asked o (slot g).1 c)
    by g c None e = ap (λ b. cond (b && bytes_eq client c) kept None) (sym (no_slot old root f at way g e))
    by g c (Some k) e =
        writes.asked k (slot g).1 c
        ∙ ap (λ b. cond b kept (old.asked k (slot g).1 c))
        (grouped (k == at) (same_side (slot f).1 (slot g).1) (bytes_eq client c) ∙ ap (λ b. b && bytes_eq client c) (one_slot old root f at tree way g k e))

    go : (g : Levels) (c : List ℕ) → rows new root g c ≡ asked_with (rows old root) f client kept g c
    go g c =
        rows_are new root g c
        ∙ ap (λ (ch : Children). row_at new.asked (led ch root (slot g).0) (slot g).1 c) writes.child
        ∙ by g c (led old.child root (slot g).0) refl
        ∙ ap (λ q. cond (same_levels f g && bytes_eq client c) kept q) (sym (rows_are old root g c))

-- all rows of a node's side that are replaced are those of one filter
pub filled :
    (old new : Shape) (root : Option ℕ) (f : Levels) (at : ℕ) (rest : Bool) (kept : List ℕ → Option QoS)
    → IsTree old.child old.used root
    → led old.child root (slot f).0 ≡ Some at
    → rest ≡ (slot f).1
    → Fills old new at rest kept
    → rows new root ≡ with_rows (rows old root) f kept
filled old new root f at rest kept tree way side fills = λ i g c. go g c i
  where
    by : (g : Levels) (c : List ℕ) (o : Option ℕ) → led old.child root (slot g).0 ≡ o
        → row_at new.asked o (slot g).1 c ≡ cond (same_levels f g) (kept c) (row_at old.asked o (slot g).1 c)
    by g c None e = ap (λ b. cond b (kept c) None) (sym (no_slot old root f at way g e))
    by g c (Some k) e =
        fills.asked k (slot g).1 c
        ∙ ap (λ r. cond ((k == at) && same_side r (slot g).1) (kept c) (old.asked k (slot g).1 c)) side
        ∙ ap (λ b. cond b (kept c) (old.asked k (slot g).1 c)) (one_slot old root f at tree way g k e)

    go : (g : Levels) (c : List ℕ) → rows new root g c ≡ with_rows (rows old root) f kept g c
    go g c =
        rows_are new root g c
        ∙ ap (λ (ch : Children). row_at new.asked (led ch root (slot g).0) (slot g).1 c) fills.child
        ∙ by g c (led old.child root (slot g).0) refl
        ∙ ap (λ q. cond (same_levels f g) (kept c) q) (sym (rows_are old root g c))

pub tree_filled :
    (old new : Shape) (root : Option ℕ) (at : ℕ) (rest : Bool) (kept : List ℕ → Option QoS)
    → IsTree old.child old.used root → Fills old new at rest kept → IsTree new.child new.used root
tree_filled old new root at rest kept tree fills =
    subst (λ (u : ℕ → Bool). IsTree new.child u root) (sym fills.used) (subst (λ (ch : Children). IsTree ch old.used root) (sym fills.child) tree)

-- the nodes stay a tree
pub tree_written :
    (old new : Shape) (root : Option ℕ) (at : ℕ) (rest : Bool) (client : List ℕ) (kept : Option QoS)
    → IsTree old.child old.used root → WritesRow old new at rest client kept → IsTree new.child new.used root
tree_written old new root at rest client kept tree writes =
    subst (λ (u : ℕ → Bool). IsTree new.child u root) (sym writes.used) (subst (λ (ch : Children). IsTree ch old.used root) (sym writes.child) tree)
