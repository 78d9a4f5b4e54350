-- A node that holds nothing is given up, and the ways to its parent stay.
use Rattle.std.proofs.Common.{◌≡◌, ◌≢◌, ℕ, List, [], ◌∷◌, ◌++◌, Bool, true, false, ◌&&◌, ◌==◌, cond, bytes_eq, Option, Some, None, refl, sym, ◌∙◌, ap}
use Rattle.std.specs.Prelude.{option_and_then}
use Rattle.std.proofs.lemmas.List.{append_assoc}
use Rattle.topics.specs.Text.{Levels}
use Rattle.subs.specs.Shape.{Children, AskedAt, Shape, rows}
use Rattle.subs.specs.Ways.{reach, led, IsTree, IsReachedNode}
use Rattle.subs.specs.Changes.{Links, FreesNode, IsBare}
use Rattle.subs.proofs.Ways.{led_append, led_more}
use Rattle.subs.proofs.Unlinked.{tree_unlinked, rows_unlinked, led_stays}

-- the ways to the nodes on the way to this one stay
abbrev pub KeepsWays : Children → Children → Option ℕ → ℕ → Type 0
KeepsWays old new root at =
    (path after : Levels) (k : ℕ) → led old root (path ++ after) ≡ Some at → led old root path ≡ Some k → led new root path ≡ Some k

pub record IsGone (old new : Shape) (root : Option ℕ) (at : ℕ) : Type 0 where
  pub tree : IsTree new.child new.used root
  pub rows : rows new root ≡ rows old root
  pub ways : KeepsWays old.child new.child root at

pub gone :
    (old mid new : Shape) (root : Option ℕ) (at n : ℕ) (level : List ℕ)
    → IsTree old.child old.used root → IsReachedNode old.child root at → old.child at level ≡ Some n
    → IsBare old n → Links old mid at level None → FreesNode mid new n
    → IsGone old new root at
gone old mid new root at n level tree reached some bare links closes = record {
  tree = tree_unlinked old mid new root at n level tree links closes some bare reached;
  rows = rows_unlinked old mid new root at n level tree links closes some bare reached;
  ways = λ path after k way here. led_stays old mid new root at n level tree links closes some bare reached path k here (apart path after k way here);
}
  where
    -- a node with a child is not the one that goes
    apart : (path after : Levels) (k : ℕ) → led old.child root (path ++ after) ≡ Some at → led old.child root path ≡ Some k → k ≢ n
    apart path after k way here is = on after (sym on_way ∙ way)
      where
        on_way : led old.child root (path ++ after) ≡ reach old.child n after
        on_way = led_append old.child root path after ∙ ap (option_and_then (λ m. reach old.child m after)) here ∙ ap (λ m. reach old.child m after) is

        on : (b : Levels) → reach old.child n b ≡ Some at → ⊥
        on [] h =
            let same : n ≡ at = cc in
            let both : None ≡ Some n = sym (bare.child level) ∙ ap (λ m. old.child m level) same ∙ some in
            absurd cc
        on (x ∷ b) h =
            let stops : None ≡ Some at = ap (option_and_then (λ m. reach old.child m b)) (sym (bare.child x)) ∙ h in
            absurd cc

-- ---- one call after another

pub parent_stays : (old mid : Children) (root : Option ℕ) (at n : ℕ) (level : List ℕ) → old at level ≡ Some n → KeepsWays old mid root n
    → (path : Levels) → led old root path ≡ Some at → led mid root path ≡ Some at
parent_stays old mid root at n level some ways path h = ways path (level ∷ []) at (led_more old root path level at h ∙ some) h

pub ways_join : (old mid new : Children) (root : Option ℕ) (at n : ℕ) (level : List ℕ) → old at level ≡ Some n → KeepsWays old mid root n → KeepsWays mid new root at → KeepsWays old new root at
ways_join old mid new root at n level some first second path after k way here =
    second path after k (parent_stays old mid root at n level some first (path ++ after) way)
    (first path (after ++ level ∷ []) k
    (ap (led old root) (sym (append_assoc path after (level ∷ []))) ∙ led_more old root (path ++ after) level at way ∙ some)
    here)

-- an empty node that nothing leads to any more is empty still
pub bare_after : (old mid : Shape) (at n : ℕ) (level : List ℕ) → IsBare old n → Links old mid at level None → IsBare mid n
bare_after old mid at n level bare links = record {
  child = λ l. links.child n l ∙ either ((n == at) && bytes_eq level l) (old.child n l) (bare.child l);
  asked = λ r c. ap (λ (h : AskedAt). h n r c) links.asked ∙ bare.asked r c;
}
  where
    either : (v : Bool) (o : Option ℕ) → o ≡ None → cond v None o ≡ None
    either true o h = refl
    either false o h = h
