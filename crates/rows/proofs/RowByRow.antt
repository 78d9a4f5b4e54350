-- RowByRow.antt: rows that are played one after another.
use Rattle.std.proofs.Common.{◌≡◌, List, [], ◌∷◌, length, take, drop, subst, arith}
use Rattle.rows.specs.Rows.{AllRows, row_len}
use Rattle.rows.specs.declared.line.Line.{Line}

-- no row is left
pub no_rows : (Holds : List Line → Type 0) (lines : List Line) → length lines ≡ 0 → AllRows Holds lines
no_rows Holds [] none = AllRows.none
no_rows Holds (line ∷ lines) none = absurd (omega (arith, none))

-- a row, and those after it
pub row_more : (Holds : List Line → Type 0) (lines row rest : List Line) → row ≡ take (row_len lines) lines
    → rest ≡ drop (row_len lines) lines → Holds row → AllRows Holds rest → AllRows Holds lines
row_more Holds lines row rest front back holds others =
    AllRows.row (subst Holds front holds) (subst (λ ls. AllRows Holds ls) back others)
