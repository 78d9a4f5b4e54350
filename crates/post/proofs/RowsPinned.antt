-- RowsPinned.antt: the route at an index is that of its row.
use Rattle.std.proofs.Common.{◌≡◌, ℕ, zero, suc, ◌<◌, ◌≤◌, ◌⊎◌, inl, inr, List, [], ◌∷◌, ◌++◌, length, get_or, ◌+◌, Option, None, Some, refl, ◌∙◌, ap, sym, arith}
use Rattle.std.specs.List.{HoldsAt}
use Rattle.std.specs.Option.{IfSome, MatchOption}
use Rattle.std.proofs.Math.ListN.{get_or-append}
use Rattle.std.proofs.Math.Seq.{get_or-append_seam}
use Rattle.std.proofs.lemmas.Bool.{cases_lt}
use Rattle.std.proofs.lemmas.List.{length_push}
use Rattle.post.specs.Linked.{rows_of}

pub counted : (rows : ℕ) → length (rows_of rows) ≡ rows
counted zero = refl
counted (suc rows) = let long = length_push (rows_of rows) (Some rows) in let so = counted rows in omega (arith, long, so)

-- the last row or one before it
row_by : (rows index : ℕ) (d : Option ℕ) → (index < rows) ⊎ (rows ≤ index) → index < suc rows
    → (index < rows → get_or (rows_of rows) index d ≡ Some index)
    → get_or (rows_of rows ++ Some rows ∷ []) index d ≡ Some index
row_by rows index d (inl less) below before =
    let long = counted rows in
    get_or-append (rows_of rows) (Some rows ∷ []) d index (omega (arith, less, long)) ∙ before less
row_by rows index d (inr least) below before =
    let same : index ≡ rows = omega (arith, least, below) in
    ap (λ (i : ℕ). get_or (rows_of rows ++ Some rows ∷ []) i d) (same ∙ sym (counted rows))
    ∙ (get_or-append_seam (rows_of rows) (Some rows) [] d ∙ ap (λ (i : ℕ). Some i) (sym same))

row_at : (rows index : ℕ) (d : Option ℕ) → index < rows → get_or (rows_of rows) index d ≡ Some index
row_at zero index d below = absurd (omega (arith, below))
row_at (suc rows) index d below = row_by rows index d (cases_lt index rows) below (row_at rows index d)

-- the route that is found at an index is the one of that row
pub found_at : {A : Type 0} (row_of : A → Option ℕ) (rows : List (Option ℕ)) (index : ℕ) (found : Option A)
    → rows ≡ rows_of (length rows)
    → IfSome found (λ route. row_of route ≡ get_or rows index (row_of route))
    → MatchOption found (length rows ≤ index) (λ route. (index < length rows) × HoldsAt (λ row. row_of route ≡ row) rows index)
    → IfSome found (λ route. row_of route ≡ Some index)
found_at row_of rows index None are is within = tt
found_at row_of rows index (Some route) are is within =
    is ∙ (ap (λ (l : List (Option ℕ)). get_or l index (row_of route)) are ∙ row_at (length rows) index (row_of route) within.0)

-- the route of the next row goes on a list of routes
pub one_more : (row : ℕ) (routes : List (Option ℕ)) (next : Option ℕ) → routes ≡ rows_of row → next ≡ Some row
    → routes ++ next ∷ [] ≡ rows_of (row + 1)
one_more row routes next are is =
    let more : suc row ≡ row + 1 = omega (arith) in
    ap (λ (rows : List (Option ℕ)). rows ++ next ∷ []) are
    ∙ (ap (λ (one : Option ℕ). rows_of row ++ one ∷ []) is ∙ ap rows_of more)
