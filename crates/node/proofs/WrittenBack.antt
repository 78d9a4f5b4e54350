-- WrittenBack.antt: a vector all of which was lent as a slice is what came back.
use Rattle.std.proofs.Common.{◌≡◌, ℕ, List, ◌++◌, length, take, ◌∙◌}
use Rattle.std.specs.Prelude.{drop}
use Rattle.std.proofs.Math.Seq.{take-append_seam}

pub written_back : (size : ℕ) (back old : List ℕ) → size ≡ length back
    → take size (back ++ drop (length back) old) ≡ back
written_back size back old is = (λ i. take (is i) (back ++ drop (length back) old)) ∙ take-append_seam back (drop (length back) old)
