use Rattle.std.proofs.Common.{◌++◌, ◌∙◌, [], ◌∷◌, ℕ, List, length, refl, ap, ap₂, arith}
use Rattle.cluster.proofs.of_desk.Forms.{placed}
use Rattle.cluster.proofs.desk.form.joined.Goals as goal

pub returns : goal.returns
returns c =
    placed c.copy_from_slice.new.self c.copy_from_slice-2.new.self (0 ∷ 0 ∷ 0 ∷ 0 ∷ 0 ∷ 0 ∷ 0 ∷ 0 ∷ []) (ap (λ (l : List ℕ). length l) c.copy_from_slice.ensures.after ∙ omega arith) refl
    ∙ ap₂ (λ (l m : List ℕ). l ++ m) c.copy_from_slice.ensures.after c.copy_from_slice-2.ensures.after
