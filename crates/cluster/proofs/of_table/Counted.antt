-- Counted.antt: as many items as values, and a test on the data of rows.
use Rattle.std.proofs.Common.{◌≡◌, ◌||◌, ◌+◌, ℕ, suc, Bool, true, false, List, [], ◌∷◌, Err, length, codes, string_bytes, ap, refl, ◌∙◌}
use Rattle.std.specs.List.{list_any}
use Rattle.std.specs.Str.{bytes_eq}
use Rattle.toml.specs.View.{items_view}
use Rattle.toml.specs.declared.value.Value.{Value}
use Rattle.cluster.specs.declared.table.cluster_table.NodeRow.{NodeRow}
use Rattle.cluster.specs.table.Entries.Fault.{twice}
use Rattle.cluster.specs.table.Given.{row_data, rows_data}
use Rattle.cluster.specs.table.Tables.{Row, items_count, told_apart}

pub items_counted : (vs : List Value) → items_count (items_view vs) ≡ length vs
items_counted [] = refl
items_counted (v ∷ vs) = ap suc (items_counted vs)

pub any_row : (test : Row → Bool) (rows : List NodeRow)
    → list_any test (rows_data rows) ≡ list_any (λ row. test (row_data row)) rows
any_row test [] = refl
any_row test (row ∷ rows) = ap (λ rest. test (row_data row) || rest) (any_row test rows)

-- ---- which rows are told apart

abbrev HasLink : List NodeRow → NodeRow → Bool → Type 0
HasLink rows row answer =
    list_any (λ (other : NodeRow). bytes_eq (string_bytes other.link) (string_bytes row.link)) rows ≡ answer

abbrev HasListen : List NodeRow → NodeRow → Bool → Type 0
HasListen rows row answer =
    list_any (λ (other : NodeRow). bytes_eq (string_bytes other.listen) (string_bytes row.listen)) rows ≡ answer

pub link_again : (n : ℕ) (row : NodeRow) (rows : List NodeRow) → HasLink rows row true
    → told_apart n (rows_data (row ∷ rows)) ≡ Err (twice n (codes "link"))
link_again n row rows again =
    rw (any_row (λ (other : Row). bytes_eq other.link (string_bytes row.link)) rows ∙ again) refl

pub listen_again : (n : ℕ) (row : NodeRow) (rows : List NodeRow) → HasLink rows row false → HasListen rows row true
    → told_apart n (rows_data (row ∷ rows)) ≡ Err (twice n (codes "listen"))
listen_again n row rows other again =
    rw (any_row (λ (other : Row). bytes_eq other.link (string_bytes row.link)) rows ∙ other)
    (rw (any_row (λ (other : Row). bytes_eq other.listen (string_bytes row.listen)) rows ∙ again) refl)

pub first_apart : (n : ℕ) (row : NodeRow) (rows : List NodeRow) → HasLink rows row false → HasListen rows row false
    → told_apart n (rows_data (row ∷ rows)) ≡ told_apart (n + 1) (rows_data rows)
first_apart n row rows other another =
    rw (any_row (λ (other : Row). bytes_eq other.link (string_bytes row.link)) rows ∙ other)
    (rw (any_row (λ (other : Row). bytes_eq other.listen (string_bytes row.listen)) rows ∙ another) refl)
