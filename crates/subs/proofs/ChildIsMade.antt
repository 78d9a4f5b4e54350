-- A node is put in and linked, or taken out again if there was no memory for the link.
use Rattle.std.proofs.Common.{◌≡◌, ℕ, List, [], ◌∷◌, ◌++◌, Bool, true, false, not, ◌&&◌, ◌||◌, ◌==◌, cond, Option, Some, None, refl, sym, ◌∙◌, ap, subst}
use Rattle.std.specs.Prelude.{option_and_then}
use Rattle.std.proofs.lemmas.Bool.{true≢false, eq-eqb, eqb-true}
use Rattle.std.proofs.lemmas.List.{append_assoc}
use Rattle.topics.specs.Text.{Levels}
use Rattle.topics.specs.Matching.{is_all}
use Rattle.subs.specs.Shape.{Children, Shape, asked_below, rows}
use Rattle.subs.specs.Ways.{led, slot, IsTree, IsReachedNode}
use Rattle.subs.specs.Changes.{Links, AddsNode, FreesNode, IsBare}
use Rattle.subs.proofs.Ways.{rows_below}
use Rattle.subs.proofs.Linked.{free_unreached, tree_opened, tree_linked, rows_linked, led_new}

-- rows if children and rows of nodes are the same
pub same_rows : (old new : Shape) (root : Option ℕ) → new.child ≡ old.child → new.asked ≡ old.asked → rows new root ≡ rows old root
same_rows old new root child asked = λ i. rows (record { child = child i; asked = asked i; used = old.used }) root

-- a number that is reached is used once more are used
pub still_used : (old mid : Shape) (root : Option ℕ) (at n : ℕ) → IsTree old.child old.used root → IsReachedNode old.child root at → AddsNode old mid n → mid.used at ≡ true
still_used old mid root at n tree reached opens = opens.used at ∙ either (at == n) (old.used at) (tree.used reached.0 at reached.1)
  where
    either : (a b : Bool) → b ≡ true → (a || b) ≡ true
    either true b h = refl
    either false b h = h

-- what a new child does to a tree
pub record IsMade (old new : Shape) (root : Option ℕ) (at n : ℕ) (level : List ℕ) : Type 0 where
  pub tree : IsTree new.child new.used root
  pub rows : rows new root ≡ rows old root
  pub leads : (path : Levels) → led old.child root path ≡ Some at → led new.child root (path ++ level ∷ []) ≡ Some n

pub made :
    (old mid new : Shape) (root : Option ℕ) (at n : ℕ) (level : List ℕ)
    → IsTree old.child old.used root → IsReachedNode old.child root at → old.child at level ≡ None
    → AddsNode old mid n → IsBare mid n → Links mid new at level (Some n)
    → IsMade old new root at n level
made old mid new root at n level tree reached none opens bare links =
    let opened = tree_opened old mid root n tree opens in
    let unreached : (p : Levels) → led mid.child root p ≡ Some n → ⊥ =
    λ p h. free_unreached old.child old.used root n tree opens.free p (ap (λ (ch : Children). led ch root p) (sym opens.child) ∙ h) in
    let way : (p : Levels) → led old.child root p ≡ Some at → led mid.child root p ≡ Some at =
    λ p h. ap (λ (ch : Children). led ch root p) opens.child ∙ h in
    let there : (q : Levels) × (led mid.child root q ≡ Some at) = (reached.0, way reached.0 reached.1) in
    let missing : mid.child at level ≡ None = ap (λ (ch : Children). ch at level) opens.child ∙ none in
    let used : mid.used n ≡ true = opens.used n ∙ first (n == n) (old.used n) (eq-eqb n n refl) in
    record {
      tree = tree_linked mid new root at n level opened links missing used bare unreached there;
      rows = rows_linked mid new root at n level opened links missing used bare unreached there ∙ same_rows old mid root opens.child opens.asked;
      leads = λ path h. led_new mid new root at n level opened links missing used bare unreached there path (way path h);
    }
  where
    first : (a b : Bool) → a ≡ true → (a || b) ≡ true
    first true b h = refl
    first false b h = absurd (true≢false (sym h))

-- one that could not be linked is taken out again
pub unmade :
    (old mid last new : Shape) (root : Option ℕ) (n : ℕ)
    → IsTree old.child old.used root → AddsNode old mid n → last ≡ mid → FreesNode last new n
    → IsTree new.child new.used root × (rows new root ≡ rows old root)
unmade old mid last new root n tree opens same closes =
    let child : new.child ≡ old.child = closes.child ∙ ap (λ s. s.child) same ∙ opens.child in
    let asked : new.asked ≡ old.asked = closes.asked ∙ ap (λ s. s.asked) same ∙ opens.asked in (
      subst (λ (ch : Children). IsTree ch new.used root) (sym child) (record { one_way = tree.one_way; used = used }),
      same_rows old new root child asked,
    )
  where
    used : (p : Levels) (m : ℕ) → led old.child root p ≡ Some m → new.used m ≡ true
    used p m h =
        closes.used m ∙ ap (λ s. not (m == n) && s.used m) same ∙ ap (λ b. not (m == n) && b) (opens.used m)
        ∙ by (m == n) refl (tree.used p m h)
      where
        by : (v : Bool) → (m == n) ≡ v → old.used m ≡ true → (not v && (v || old.used m)) ≡ true
        by true e is = absurd (true≢false (sym is ∙ ap old.used (eqb-true m n e) ∙ opens.free))
        by false e is = is

-- ---- the way continues

pub way_on : (path : Levels) (l : List ℕ) (ls : Levels) → is_all l ls ≡ false → (path ++ l ∷ []) ++ (slot ls).0 ≡ path ++ (slot (l ∷ ls)).0
way_on path l ls other =
    append_assoc path (l ∷ []) (slot ls).0
    ∙ ap (λ v. path ++ (cond {A = Levels × Bool} v ([], true) (l ∷ (slot ls).0, (slot ls).1)).0) (sym other)

pub side_on : (l : List ℕ) (ls : Levels) → is_all l ls ≡ false → (slot ls).1 ≡ (slot (l ∷ ls)).1
side_on l ls other = ap (λ v. (cond {A = Levels × Bool} v ([], true) (l ∷ (slot ls).0, (slot ls).1)).1) (sym other)

pub slot_all : (l : List ℕ) (ls : Levels) → is_all l ls ≡ true → slot (l ∷ ls) ≡ ([], true)
slot_all l ls is = ap (λ v. cond {A = Levels × Bool} v ([], true) (l ∷ (slot ls).0, (slot ls).1)) is

-- nothing is asked for after a level that is not there
pub none_after : (s : Shape) (root : Option ℕ) (path : Levels) (at : ℕ) (l : List ℕ) (ls : Levels) (c : List ℕ)
    → led s.child root path ≡ Some at → is_all l ls ≡ false → s.child at l ≡ None → rows s root (path ++ l ∷ ls) c ≡ None
none_after s root path at l ls c way other none =
    rows_below s root path at l ls c way
    ∙ ap (λ v. cond v (s.asked at true c) (option_and_then (λ b. asked_below s b ls c) (s.child at l))) other
    ∙ ap (option_and_then (λ b. asked_below s b ls c)) none
