-- A root that holds nothing is a tree without rows.
use Rattle.std.proofs.Common.{◌≡◌, ℕ, List, [], ◌∷◌, Bool, true, false, ◌||◌, ◌==◌, cond, Option, Some, None, refl, sym, ◌∙◌, ap}
use Rattle.std.specs.Prelude.{option_and_then}
use Rattle.std.proofs.lemmas.Bool.{true≢false, eq-eqb}
use Rattle.topics.specs.Text.{Levels}
use Rattle.topics.specs.Matching.{is_all}
use Rattle.packet_base.specs.declared.qos.QoS.{QoS}
use Rattle.subs.specs.Shape.{Shape, asked_below, rows}
use Rattle.subs.specs.Ways.{reach, IsTree}
use Rattle.subs.specs.Changes.{AddsNode, IsBare}

module _ (old new : Shape) (n : ℕ) (opens : AddsNode old new n) (bare : IsBare new n) where
  stays : (p : Levels) (at : ℕ) → reach new.child n p ≡ Some at → (p ≡ []) × (at ≡ n)
  stays [] at h = let is : at ≡ n = cc in (refl, is)
  stays (l ∷ p) at h =
      let stops : None ≡ Some at = ap (option_and_then (λ b. reach new.child b p)) (sym (bare.child l)) ∙ h in
      absurd cc

  first : (a b : Bool) → a ≡ true → (a || b) ≡ true
  first true b h = refl
  first false b h = absurd (true≢false (sym h))

  pub tree_rooted : IsTree new.child new.used (Some n)
  tree_rooted = record {
    one_way = λ p q at a b. (stays p at a).0 ∙ sym (stays q at b).0;
    used = λ p at h. ap new.used (stays p at h).1 ∙ opens.used n ∙ first (n == n) (old.used n) (eq-eqb n n refl);
  }

  pub rows_rooted : rows new (Some n) ≡ rows old None
  rows_rooted = λ i f c. go f c i
    where
      either : (b : Bool) → cond {A = Option QoS} b None None ≡ None
      either true = refl
      either false = refl

      go : (f : Levels) (c : List ℕ) → asked_below new n f c ≡ None
      go [] c = bare.asked false c
      go (l ∷ ls) c =
          ap (λ o. cond (is_all l ls) o (option_and_then (λ b. asked_below new b ls c) (new.child n l))) (bare.asked true c)
          ∙ ap (λ o. cond (is_all l ls) None (option_and_then (λ b. asked_below new b ls c) o)) (bare.child l)
          ∙ either (is_all l ls)
