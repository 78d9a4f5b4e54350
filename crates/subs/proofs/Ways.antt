-- Where levels lead, and that a filter's rows are at its slot.
use Rattle.std.proofs.Common.{◌≡◌, ℕ, List, [], ◌∷◌, ◌++◌, Bool, true, false, ◌&&◌, cond, Option, Some, None, refl, sym, ◌∙◌, ap, ap₂, codes, bytes_eq}
use Rattle.std.specs.Prelude.{option_and_then}
use Rattle.std.specs.Cmp.Lexicographic.{bytes_decides}
use Rattle.std.proofs.lemmas.Bool.{true≢false, and_parts}
use Rattle.topics.specs.Text.{Levels}
use Rattle.topics.specs.Matching.{is_all}
use Rattle.packet_base.specs.declared.qos.QoS.{QoS}
use Rattle.subs.specs.Shape.{Children, AskedAt, Shape, asked_below, rows}
use Rattle.subs.specs.Ways.{reach, led, slot}
use Rattle.subs.specs.Inside.{same_levels}

pub same_levels_is : (f g : Levels) → same_levels f g ≡ true → f ≡ g
same_levels_is [] [] h = refl
same_levels_is [] (y ∷ ys) h = absurd cc
same_levels_is (x ∷ xs) [] h = absurd cc
same_levels_is (x ∷ xs) (y ∷ ys) h =
    let both = and_parts (bytes_eq x y) (same_levels xs ys) h in
    let first = (bytes_decides x y).0 both.0 in
    let rest = same_levels_is xs ys both.1 in
    λ i. first i ∷ rest i

pub same_levels_self : (f : Levels) → same_levels f f ≡ true
same_levels_self [] = refl
same_levels_self (x ∷ xs) = rw ((bytes_decides x x).1 refl) (same_levels_self xs)

-- levels after levels
pub reach_append : (child : Children) (at : ℕ) (p q : Levels) → reach child at (p ++ q) ≡ option_and_then (λ k. reach child k q) (reach child at p)
reach_append child at [] q = refl
reach_append child at (l ∷ p) q = go (child at l) (λ b. reach_append child b p q)
  where
    go : (o : Option ℕ) → ((b : ℕ) → reach child b (p ++ q) ≡ option_and_then (λ k. reach child k q) (reach child b p))
        → option_and_then (λ b. reach child b (p ++ q)) o ≡ option_and_then (λ k. reach child k q) (option_and_then (λ b. reach child b p) o)
    go None more = refl
    go (Some b) more = more b

pub led_append : (child : Children) (root : Option ℕ) (p q : Levels) → led child root (p ++ q) ≡ option_and_then (λ k. reach child k q) (led child root p)
led_append child None p q = refl
led_append child (Some at) p q = reach_append child at p q

-- one level more
pub led_more : (child : Children) (root : Option ℕ) (p : Levels) (l : List ℕ) (at : ℕ) → led child root p ≡ Some at → led child root (p ++ l ∷ []) ≡ child at l
led_more child root p l at h = led_append child root p (l ∷ []) ∙ ap (option_and_then (λ k. reach child k (l ∷ []))) h ∙ one (child at l)
  where
    one : (o : Option ℕ) → option_and_then (λ b. reach child b []) o ≡ o
    one None = refl
    one (Some b) = refl

-- a level and its rest are only `#`
all_is : (l : List ℕ) (ls : Levels) → is_all l ls ≡ true → (l ∷ ls) ≡ (codes "#" ∷ [])
all_is l [] is = ap (λ (x : List ℕ). x ∷ []) ((bytes_decides l (codes "#")).0 (and_parts _ _ is).0)
all_is l (y ∷ ys) is = absurd (true≢false (sym (and_parts _ _ is).1))

-- ---- a slot corresponds to one filter

abbrev filter_of : Levels → Bool → Levels
filter_of p true = p ++ codes "#" ∷ []
filter_of p false = p

filter_is : (f : Levels) → filter_of (slot f).0 (slot f).1 ≡ f
filter_is [] = refl
filter_is (l ∷ ls) = by (is_all l ls) refl (filter_is ls)
  where
    front : (w : Bool) → filter_of (slot ls).0 w ≡ ls → filter_of (l ∷ (slot ls).0) w ≡ l ∷ ls
    front true h = ap (λ (f : Levels). l ∷ f) h
    front false h = ap (λ (f : Levels). l ∷ f) h

    by : (v : Bool) → is_all l ls ≡ v → filter_of (slot ls).0 (slot ls).1 ≡ ls
        → (let p = cond {A = Levels × Bool} v ([], true) (l ∷ (slot ls).0, (slot ls).1) in filter_of p.0 p.1) ≡ l ∷ ls
    by true e h = sym (all_is l ls e)
    by false e h = front (slot ls).1 h

pub one_filter : (f g : Levels) → (slot f).0 ≡ (slot g).0 → (slot f).1 ≡ (slot g).1 → f ≡ g
one_filter f g way side = sym (filter_is f) ∙ ap₂ filter_of way side ∙ filter_is g

-- ---- the rows of a filter are at its slot

abbrev pub row_at : AskedAt → Option ℕ → Bool → List ℕ → Option QoS
row_at asked node rest client = option_and_then (λ at. asked at rest client) node

pub asked_is : (s : Shape) (at : ℕ) (f : Levels) (c : List ℕ) → asked_below s at f c ≡ row_at s.asked (reach s.child at (slot f).0) (slot f).1 c
asked_is s at [] c = refl
asked_is s at (l ∷ ls) c = by (is_all l ls) (go (s.child at l) (λ b. asked_is s b ls c))
  where
    go : (o : Option ℕ) → ((b : ℕ) → asked_below s b ls c ≡ row_at s.asked (reach s.child b (slot ls).0) (slot ls).1 c)
        → option_and_then (λ b. asked_below s b ls c) o ≡ row_at s.asked (option_and_then (λ b. reach s.child b (slot ls).0) o) (slot ls).1 c
    go None more = refl
    go (Some b) more = more b

    by : (v : Bool)
        → option_and_then (λ b. asked_below s b ls c) (s.child at l) ≡ row_at s.asked (reach s.child at (l ∷ (slot ls).0)) (slot ls).1 c
        → cond v (s.asked at true c) (option_and_then (λ b. asked_below s b ls c) (s.child at l))
        ≡ (let p = cond {A = Levels × Bool} v ([], true) (l ∷ (slot ls).0, (slot ls).1) in row_at s.asked (reach s.child at p.0) p.1 c)
    by true h = refl
    by false h = h

pub rows_are : (s : Shape) (root : Option ℕ) (f : Levels) (c : List ℕ) → rows s root f c ≡ row_at s.asked (led s.child root (slot f).0) (slot f).1 c
rows_are s None f c = refl
rows_are s (Some at) f c = asked_is s at f c

-- below a node that a way leads to, the rows are those of that way and more
pub rows_below : (s : Shape) (root : Option ℕ) (p : Levels) (at : ℕ) (l : List ℕ) (ls : Levels) (c : List ℕ)
    → led s.child root p ≡ Some at → rows s root (p ++ l ∷ ls) c ≡ asked_below s at (l ∷ ls) c
rows_below s None p at l ls c h = absurd cc
rows_below s (Some r) p at l ls c h = go p r h
  where
    never : (b : Bool) → (b && false) ≡ false
    never true = refl
    never false = refl

    front : (x : List ℕ) (q : Levels) → is_all x (q ++ l ∷ ls) ≡ false
    front x [] = never (bytes_eq x (codes "#"))
    front x (y ∷ q) = never (bytes_eq x (codes "#"))

    go : (q : Levels) (k : ℕ) → reach s.child k q ≡ Some at → asked_below s k (q ++ l ∷ ls) c ≡ asked_below s at (l ∷ ls) c
    go [] k h = let is : k ≡ at = cc in ap (λ n. asked_below s n (l ∷ ls) c) is
    go (x ∷ q) k h =
        ap (λ b. cond b (s.asked k true c) (option_and_then (λ n. asked_below s n (q ++ l ∷ ls) c) (s.child k x))) (front x q)
        ∙ on (s.child k x) (λ n e. go q n e) h
      where
        on : (o : Option ℕ) → ((n : ℕ) → reach s.child n q ≡ Some at → asked_below s n (q ++ l ∷ ls) c ≡ asked_below s at (l ∷ ls) c)
            → option_and_then (λ n. reach s.child n q) o ≡ Some at → option_and_then (λ n. asked_below s n (q ++ l ∷ ls) c) o ≡ asked_below s at (l ∷ ls) c
        on None more e = absurd cc
        on (Some n) more e = more n e
