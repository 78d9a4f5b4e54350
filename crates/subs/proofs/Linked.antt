-- An empty node after a new level changes no row, and leads nowhere else.
use Rattle.std.proofs.Common.{◌≡◌, ◌≢◌, ℕ, List, [], ◌∷◌, ◌++◌, Bool, true, false, ◌&&◌, ◌||◌, ◌==◌, cond, Option, Some, None, refl, sym, ◌∙◌, ap, subst, bytes_eq, ◌⊎◌, inl, inr}
use Rattle.std.specs.Prelude.{option_and_then}
use Rattle.std.specs.Cmp.Lexicographic.{bytes_decides}
use Rattle.std.proofs.lemmas.Bool.{true≢false, and_parts, eq-eqb, eqb-true}
use Rattle.topics.specs.Text.{Levels}
use Rattle.subs.specs.Shape.{Children, AskedAt, Shape, rows}
use Rattle.subs.specs.Ways.{reach, led, slot, IsTree}
use Rattle.subs.specs.Changes.{Links, AddsNode, IsBare}
use Rattle.subs.proofs.Ways.{led_more, row_at, rows_are}

-- an unused number is reached by no way
pub free_unreached : (child : Children) (used : ℕ → Bool) (root : Option ℕ) (n : ℕ) → IsTree child used root → used n ≡ false → (p : Levels) → led child root p ≡ Some n → ⊥
free_unreached child used root n tree free p h = true≢false (sym (tree.used p n h) ∙ free)

-- the nodes stay a tree if one more number is used
pub tree_opened : (old new : Shape) (root : Option ℕ) (n : ℕ) → IsTree old.child old.used root → AddsNode old new n → IsTree new.child new.used root
tree_opened old new root n tree opens =
    subst (λ (ch : Children). IsTree ch new.used root) (sym opens.child)
    (record { one_way = tree.one_way; used = λ p at h. opens.used at ∙ or_true (at == n) (old.used at) (tree.used p at h) })
  where
    or_true : (a b : Bool) → b ≡ true → (a || b) ≡ true
    or_true true b h = refl
    or_true false b h = h

module _ (child grown : Children) (at n : ℕ) (level : List ℕ)
    (links : (k : ℕ) (l : List ℕ) → grown k l ≡ cond ((k == at) && bytes_eq level l) (Some n) (child k l))
    (none : child at level ≡ None) where
  stays : (k : ℕ) (l : List ℕ) (j : ℕ) → child k l ≡ Some j → grown k l ≡ Some j
  stays k l j h = links k l ∙ by ((k == at) && bytes_eq level l) refl
    where
      by : (v : Bool) → ((k == at) && bytes_eq level l) ≡ v → cond v (Some n) (child k l) ≡ Some j
      by true e =
          let parts = and_parts (k == at) (bytes_eq level l) e in
          let first : k ≡ at = eqb-true k at parts.0 in
          let second : level ≡ l = (bytes_decides level l).0 parts.1 in
          let missing : Some j ≡ None = sym h ∙ ap (λ m. child m l) first ∙ ap (child at) (sym second) ∙ none in
          absurd cc
      by false e = h

  -- each way leads on
  pub further : (k : ℕ) (p : Levels) (m : ℕ) → reach child k p ≡ Some m → reach grown k p ≡ Some m
  further k [] m h = h
  further k (l ∷ p) m h = go (child k l) refl (λ j. further j p m) h
    where
      go : (o : Option ℕ) → child k l ≡ o → ((j : ℕ) → reach child j p ≡ Some m → reach grown j p ≡ Some m)
          → option_and_then (λ b. reach child b p) o ≡ Some m → option_and_then (λ b. reach grown b p) (grown k l) ≡ Some m
      go None e more h = absurd cc
      go (Some j) e more h = ap (option_and_then (λ b. reach grown b p)) (stays k l j e) ∙ more j h

  -- it ends with the new level
  abbrev IsNew : ℕ → Levels → ℕ → Type 0
  IsNew k p m = (q : Levels) × (reach child k q ≡ Some at) × (p ≡ q ++ level ∷ []) × (m ≡ n)

  -- each way that is there now was there before, or ends with the new level
  pub back : at ≢ n → ((l : List ℕ) → child n l ≡ None) → (k : ℕ) (p : Levels) (m : ℕ) → reach grown k p ≡ Some m → (reach child k p ≡ Some m) ⊎ IsNew k p m
  back apart bare k [] m h = inl h
  back apart bare k (l ∷ p) m h =
      by ((k == at) && bytes_eq level l) refl (ap (option_and_then (λ b. reach grown b p)) (sym (links k l)) ∙ h) (λ j. back apart bare j p m)
    where
      leads_nowhere : (l : List ℕ) → grown n l ≡ None
      leads_nowhere l = links n l ∙ not_here ((n == at) && bytes_eq level l) refl
        where
          not_here : (v : Bool) → ((n == at) && bytes_eq level l) ≡ v → cond v (Some n) (child n l) ≡ None
          not_here true e = absurd (apart (sym (eqb-true n at (and_parts (n == at) (bytes_eq level l) e).0)))
          not_here false e = bare l

      ends : (p : Levels) → reach grown n p ≡ Some m → (p ≡ []) × (m ≡ n)
      ends [] h = let is : m ≡ n = cc in (refl, is)
      ends (x ∷ xs) h =
          let stops : None ≡ Some m = ap (option_and_then (λ b. reach grown b xs)) (sym (leads_nowhere x)) ∙ h in
          absurd cc

      on : (o : Option ℕ) → child k l ≡ o → option_and_then (λ b. reach grown b p) o ≡ Some m
          → ((j : ℕ) → reach grown j p ≡ Some m → (reach child j p ≡ Some m) ⊎ IsNew j p m)
          → (option_and_then (λ b. reach child b p) (child k l) ≡ Some m) ⊎ IsNew k (l ∷ p) m
      on None e h more = absurd cc
      on (Some j) e h more =
          elim (more j h) as (λ _. (option_and_then (λ b. reach child b p) (child k l) ≡ Some m) ⊎ IsNew k (l ∷ p) m) [
            | inl was ↦ inl (ap (option_and_then (λ b. reach child b p)) e ∙ was)
            | inr new ↦ inr (l ∷ new.0, ap (option_and_then (λ b. reach child b new.0)) e ∙ new.1, ap (λ (x : Levels). l ∷ x) new.2, new.3)
          ]

      by : (v : Bool) → ((k == at) && bytes_eq level l) ≡ v → option_and_then (λ b. reach grown b p) (cond v (Some n) (child k l)) ≡ Some m
          → ((j : ℕ) → reach grown j p ≡ Some m → (reach child j p ≡ Some m) ⊎ IsNew j p m)
          → (option_and_then (λ b. reach child b p) (child k l) ≡ Some m) ⊎ IsNew k (l ∷ p) m
      by true e h more =
          let parts = and_parts (k == at) (bytes_eq level l) e in
          let last = ends p h in
          let first : k ≡ at = eqb-true k at parts.0 in
          let second : level ≡ l = (bytes_decides level l).0 parts.1 in
          let end : l ∷ p ≡ level ∷ [] = λ i. sym second i ∷ last.0 i in
          inr ([], ap (λ x. Some x) first, end, last.1)
      by false e h more = on (child k l) refl h more

module _ (old new : Shape) (root : Option ℕ) (at n : ℕ) (level : List ℕ)
    (tree : IsTree old.child old.used root) (links : Links old new at level (Some n))
    (none : old.child at level ≡ None) (used : old.used n ≡ true) (bare : IsBare old n)
    (unreached : (p : Levels) → led old.child root p ≡ Some n → ⊥) (reached : (q : Levels) × (led old.child root q ≡ Some at)) where
  apart : at ≢ n
  apart e = unreached reached.0 (reached.1 ∙ ap (λ x. Some x) e)

  -- each way from the root leads on
  pub led_further : (p : Levels) (m : ℕ) → led old.child root p ≡ Some m → led new.child root p ≡ Some m
  led_further p m = go root
    where
      go : (r : Option ℕ) → led old.child r p ≡ Some m → led new.child r p ≡ Some m
      go None h = absurd cc
      go (Some r) h = further old.child new.child at n level links.child none r p m h

  abbrev IsNewWay : Levels → ℕ → Type 0
  IsNewWay p m = (q : Levels) × (led old.child root q ≡ Some at) × (p ≡ q ++ level ∷ []) × (m ≡ n)

  led_back : (p : Levels) (m : ℕ) → led new.child root p ≡ Some m → (led old.child root p ≡ Some m) ⊎ IsNewWay p m
  led_back p m = go root
    where
      go : (r : Option ℕ) → led new.child r p ≡ Some m → (led old.child r p ≡ Some m) ⊎ ((q : Levels) × (led old.child r q ≡ Some at) × (p ≡ q ++ level ∷ []) × (m ≡ n))
      go None h = absurd cc
      go (Some r) h = back old.child new.child at n level links.child none apart bare.child r p m h

  -- the new node comes after its level
  pub led_new : (p : Levels) → led old.child root p ≡ Some at → led new.child root (p ++ level ∷ []) ≡ Some n
  led_new p h = led_more new.child root p level at (led_further p at h) ∙ links.child at level ∙ here (at == at) (bytes_eq level level) (eq-eqb at at refl) ((bytes_decides level level).1 refl)
    where
      here : (a b : Bool) → a ≡ true → b ≡ true → cond (a && b) (Some n) (old.child at level) ≡ Some n
      here true true ha hb = refl
      here true false ha hb = absurd (true≢false (sym hb))
      here false b ha hb = absurd (true≢false (sym ha))

  pub tree_linked : IsTree new.child new.used root
  tree_linked = record { one_way = one_way; used = λ p m h. ap (λ (u : ℕ → Bool). u m) links.used ∙ used_by p m (led_back p m h) }
    where
      used_by : (p : Levels) (m : ℕ) → (led old.child root p ≡ Some m) ⊎ IsNewWay p m → old.used m ≡ true
      used_by p m (inl was) = tree.used p m was
      used_by p m (inr is) = ap old.used is.3 ∙ used

      two : (p q : Levels) (m : ℕ) → (led old.child root p ≡ Some m) ⊎ IsNewWay p m → (led old.child root q ≡ Some m) ⊎ IsNewWay q m → p ≡ q
      two p q m (inl a) (inl b) = tree.one_way p q m a b
      two p q m (inl a) (inr b) = absurd (unreached p (a ∙ ap (λ x. Some x) b.3))
      two p q m (inr a) (inl b) = absurd (unreached q (b ∙ ap (λ x. Some x) a.3))
      two p q m (inr a) (inr b) = a.2 ∙ ap (λ (x : Levels). x ++ level ∷ []) (tree.one_way a.0 b.0 at a.1 b.1) ∙ sym b.2

      one_way : (p q : Levels) (m : ℕ) → led new.child root p ≡ Some m → led new.child root q ≡ Some m → p ≡ q
      one_way p q m a b = two p q m (led_back p m a) (led_back q m b)

  pub rows_linked : rows new root ≡ rows old root
  rows_linked = λ i f c. go f c i
    where
      by : (f : Levels) (c : List ℕ) (o w : Option ℕ) → led new.child root (slot f).0 ≡ o → led old.child root (slot f).0 ≡ w
          → row_at old.asked o (slot f).1 c ≡ row_at old.asked w (slot f).1 c
      by f c None None e h = refl
      by f c None (Some m) e h = let both : Some m ≡ None = sym (led_further (slot f).0 m h) ∙ e in absurd cc
      by f c (Some m) w e h =
          elim (led_back (slot f).0 m e) as (λ _. old.asked m (slot f).1 c ≡ row_at old.asked w (slot f).1 c) [
            | inl was ↦ ap (λ x. row_at old.asked x (slot f).1 c) (sym was ∙ h)
            | inr is ↦
                let gone : None ≡ w = sym none ∙ sym (led_more old.child root is.0 level at is.1) ∙ ap (led old.child root) (sym is.2) ∙ h in
                ap (λ x. old.asked x (slot f).1 c) is.3 ∙ bare.asked (slot f).1 c ∙ ap (λ x. row_at old.asked x (slot f).1 c) gone
          ]

      go : (f : Levels) (c : List ℕ) → rows new root f c ≡ rows old root f c
      go f c =
          rows_are new root f c
          ∙ ap (λ (h : AskedAt). row_at h (led new.child root (slot f).0) (slot f).1 c) links.asked
          ∙ by f c (led new.child root (slot f).0) (led old.child root (slot f).0) refl refl
          ∙ sym (rows_are old root f c)
