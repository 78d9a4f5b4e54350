-- To give up an empty node changes no row, and leaves its number to no way.
use Rattle.std.proofs.Common.{◌≡◌, ◌≢◌, ℕ, List, [], ◌∷◌, ◌++◌, Bool, true, false, not, ◌&&◌, ◌==◌, cond, Option, Some, None, refl, sym, ◌∙◌, ap, subst, bytes_eq, ◌⊎◌, inl, inr}
use Rattle.std.specs.Prelude.{option_and_then}
use Rattle.std.specs.Cmp.Lexicographic.{bytes_decides}
use Rattle.std.proofs.lemmas.Bool.{true≢false, and_parts, eq-eqb, eqb-true}
use Rattle.topics.specs.Text.{Levels}
use Rattle.subs.specs.Shape.{Children, AskedAt, Shape, rows}
use Rattle.subs.specs.Ways.{reach, led, slot, IsTree}
use Rattle.subs.specs.Changes.{Links, FreesNode, IsBare}
use Rattle.subs.proofs.Ways.{led_more, row_at, rows_are}

module _ (child cut : Children) (at n : ℕ) (level : List ℕ)
    (cuts : (k : ℕ) (l : List ℕ) → cut k l ≡ cond ((k == at) && bytes_eq level l) None (child k l))
    (some : child at level ≡ Some n) (bare : (l : List ℕ) → child n l ≡ None) where
  was : (k : ℕ) (l : List ℕ) (j : ℕ) → cut k l ≡ Some j → child k l ≡ Some j
  was k l j h = by ((k == at) && bytes_eq level l) (sym (cuts k l) ∙ h)
    where
      by : (v : Bool) → cond v None (child k l) ≡ Some j → child k l ≡ Some j
      by true e = absurd cc
      by false e = e

  -- each way that is left was there
  pub before : (k : ℕ) (p : Levels) (m : ℕ) → reach cut k p ≡ Some m → reach child k p ≡ Some m
  before k [] m h = h
  before k (l ∷ p) m h = go (cut k l) refl (λ j. before j p m) h
    where
      go : (o : Option ℕ) → cut k l ≡ o → ((j : ℕ) → reach cut j p ≡ Some m → reach child j p ≡ Some m)
          → option_and_then (λ b. reach cut b p) o ≡ Some m → option_and_then (λ b. reach child b p) (child k l) ≡ Some m
      go None e more h = absurd cc
      go (Some j) e more h = ap (option_and_then (λ b. reach child b p)) (was k l j e) ∙ more j h

  ends : (p : Levels) (m : ℕ) → reach child n p ≡ Some m → m ≡ n
  ends [] m h = let is : m ≡ n = cc in is
  ends (x ∷ xs) m h =
      let stops : None ≡ Some m = ap (option_and_then (λ b. reach child b xs)) (sym (bare x)) ∙ h in
      absurd cc

  -- each way is left, except the one to the node
  pub after : (k : ℕ) (p : Levels) (m : ℕ) → reach child k p ≡ Some m → (reach cut k p ≡ Some m) ⊎ (m ≡ n)
  after k [] m h = inl h
  after k (l ∷ p) m h = by ((k == at) && bytes_eq level l) refl (λ j. after j p m)
    where
      on : (o : Option ℕ) → child k l ≡ o → option_and_then (λ b. reach child b p) o ≡ Some m
          → ((j : ℕ) → reach child j p ≡ Some m → (reach cut j p ≡ Some m) ⊎ (m ≡ n))
          → (option_and_then (λ b. reach cut b p) (child k l) ≡ Some m) ⊎ (m ≡ n)
      on None e h more = absurd cc
      on (Some j) e h more =
          elim (more j h) as (λ _. (option_and_then (λ b. reach cut b p) (child k l) ≡ Some m) ⊎ (m ≡ n)) [
            | inl left ↦ inl (ap (option_and_then (λ b. reach cut b p)) e ∙ left)
            | inr is ↦ inr is
          ]

      by : (v : Bool) → ((k == at) && bytes_eq level l) ≡ v
          → ((j : ℕ) → reach child j p ≡ Some m → (reach cut j p ≡ Some m) ⊎ (m ≡ n))
          → (option_and_then (λ b. reach cut b p) (cut k l) ≡ Some m) ⊎ (m ≡ n)
      by true e more =
          let parts = and_parts (k == at) (bytes_eq level l) e in
          let first : k ≡ at = eqb-true k at parts.0 in
          let second : level ≡ l = (bytes_decides level l).0 parts.1 in
          let there : child k l ≡ Some n = ap (λ x. child x l) first ∙ ap (child at) (sym second) ∙ some in
          inr (ends p m (ap (option_and_then (λ b. reach child b p)) (sym there) ∙ h))
      by false e more =
          let same : cut k l ≡ child k l = cuts k l ∙ ap (λ v. cond v None (child k l)) e in
          subst (λ (o : Option ℕ). (option_and_then (λ b. reach cut b p) o ≡ Some m) ⊎ (m ≡ n)) (sym same) (on (child k l) refl h more)

module _ (old mid new : Shape) (root : Option ℕ) (at n : ℕ) (level : List ℕ)
    (tree : IsTree old.child old.used root) (links : Links old mid at level None) (closes : FreesNode mid new n)
    (some : old.child at level ≡ Some n) (bare : IsBare old n)
    (reached : (q : Levels) × (led old.child root q ≡ Some at)) where
  led_before : (p : Levels) (m : ℕ) → led mid.child root p ≡ Some m → led old.child root p ≡ Some m
  led_before p m = go root
    where
      go : (r : Option ℕ) → led mid.child r p ≡ Some m → led old.child r p ≡ Some m
      go None h = absurd cc
      go (Some r) h = before old.child mid.child at n level links.child some bare.child r p m h

  led_after : (p : Levels) (m : ℕ) → led old.child root p ≡ Some m → (led mid.child root p ≡ Some m) ⊎ (m ≡ n)
  led_after p m = go root
    where
      go : (r : Option ℕ) → led old.child r p ≡ Some m → (led mid.child r p ≡ Some m) ⊎ (m ≡ n)
      go None h = absurd cc
      go (Some r) h = after old.child mid.child at n level links.child some bare.child r p m h

  same_child : new.child ≡ mid.child
  same_child = closes.child

  -- each way stays except the one to the node
  pub led_stays : (p : Levels) (m : ℕ) → led old.child root p ≡ Some m → m ≢ n → led new.child root p ≡ Some m
  led_stays p m h apart =
      ap (λ (ch : Children). led ch root p) same_child
      ∙ elim (led_after p m h) as (λ _. led mid.child root p ≡ Some m) [
        | inl left ↦ left
        | inr is ↦ absurd (apart is)
      ]

  -- a node with a child is not the one that holds nothing
  at_apart : at ≢ n
  at_apart e = let both : Some n ≡ None = sym some ∙ ap (λ x. old.child x level) e ∙ bare.child level in absurd cc

  gone : (q : Levels) → led mid.child root q ≡ Some n → ⊥
  gone q h =
      let same : q ≡ reached.0 ++ level ∷ [] =
      tree.one_way q (reached.0 ++ level ∷ []) n (led_before q n h) (led_more old.child root reached.0 level at reached.1 ∙ some) in
      let way : led mid.child root reached.0 ≡ Some at =
      elim (led_after reached.0 at reached.1) as (λ _. led mid.child root reached.0 ≡ Some at) [
        | inl left ↦ left
        | inr is ↦ absurd (at_apart is)
      ] in
      let none : Some n ≡ None =
      sym h ∙ ap (led mid.child root) same ∙ led_more mid.child root reached.0 level at way ∙ links.child at level
      ∙ here (at == at) (bytes_eq level level) (eq-eqb at at refl) ((bytes_decides level level).1 refl) in
      absurd cc
    where
      here : (a b : Bool) → a ≡ true → b ≡ true → cond (a && b) None (old.child at level) ≡ None
      here true true ha hb = refl
      here true false ha hb = absurd (true≢false (sym hb))
      here false b ha hb = absurd (true≢false (sym ha))

  pub tree_unlinked : IsTree new.child new.used root
  tree_unlinked =
      subst (λ (ch : Children). IsTree ch new.used root) (sym same_child)
      (record {
        one_way = λ p q m a b. tree.one_way p q m (led_before p m a) (led_before q m b);
        used = λ p m h. closes.used m ∙ both (m == n) (mid.used m) (other p m h) (ap (λ (u : ℕ → Bool). u m) links.used ∙ tree.used p m (led_before p m h));
      })
    where
      both : (a b : Bool) → a ≡ false → b ≡ true → (not a && b) ≡ true
      both true b ha hb = absurd (true≢false ha)
      both false b ha hb = hb

      other : (p : Levels) (m : ℕ) → led mid.child root p ≡ Some m → (m == n) ≡ false
      other p m h = by (m == n) refl
        where
          by : (v : Bool) → (m == n) ≡ v → (m == n) ≡ false
          by true e = absurd (gone p (h ∙ ap (λ x. Some x) (eqb-true m n e)))
          by false e = e

  pub rows_unlinked : rows new root ≡ rows old root
  rows_unlinked = λ i f c. go f c i
    where
      by : (f : Levels) (c : List ℕ) (o w : Option ℕ) → led mid.child root (slot f).0 ≡ o → led old.child root (slot f).0 ≡ w
          → row_at old.asked o (slot f).1 c ≡ row_at old.asked w (slot f).1 c
      by f c (Some m) w e h = ap (λ x. row_at old.asked x (slot f).1 c) (sym (led_before (slot f).0 m e) ∙ h)
      by f c None None e h = refl
      by f c None (Some m) e h =
          elim (led_after (slot f).0 m h) as (λ _. None ≡ old.asked m (slot f).1 c) [
            | inl left ↦ let both : Some m ≡ None = sym left ∙ e in absurd cc
            | inr is ↦ sym (ap (λ x. old.asked x (slot f).1 c) is ∙ bare.asked (slot f).1 c)
          ]

      go : (f : Levels) (c : List ℕ) → rows new root f c ≡ rows old root f c
      go f c =
          rows_are new root f c
          ∙ ap (λ (h : AskedAt). row_at h (led new.child root (slot f).0) (slot f).1 c) (closes.asked ∙ links.asked)
          ∙ ap (λ (ch : Children). row_at old.asked (led ch root (slot f).0) (slot f).1 c) same_child
          ∙ by f c (led mid.child root (slot f).0) (led old.child root (slot f).0) refl refl
          ∙ sym (rows_are old root f c)
