-- Newest.antt: the last of a list, by its index.
use Rattle.std.proofs.Common.{Result, Ok, Err, OnOk, ◌≡◌, ℕ, suc, ◌-◌, ◌<◌, List, [], ◌∷◌, ◌++◌, length, take, slice_index_or, slice_set, ap, ap₂, sym, ◌∙◌, arith}
use Rattle.std.proofs.lemmas.List.{length-append, take-append-drop, length-take-le}
use Rattle.std.proofs.Math.Seq.{drop-cons, get_or-append_seam, set-append_seam}
use Rattle.std.proofs.Math.ListN.{drop_of_length-le}
use Rattle.client_base.specs.declared.error.ClientError.{ClientError}
use Rattle.client.specs.Core.{Core}
use Rattle.world_pipes.specs.declared.pair.PipePair.{PipePair}
use Rattle.world_pipes.specs.Inside.{MovesUp}

-- ---- the last, and all before it

pub last_splits : {X : Type 0} (xs : List X) (d : X) → 0 < length xs → xs ≡ take (length xs - 1) xs ++ slice_index_or xs (length xs - 1) d ∷ []
last_splits xs d some =
    sym (take-append-drop (length xs - 1) xs)
    ∙ ap (λ behind. take (length xs - 1) xs ++ behind)
    (drop-cons xs (length xs - 1) d (omega (arith, some))
    ∙ ap (λ none. slice_index_or xs (length xs - 1) d ∷ none) (drop_of_length-le xs {i = suc (length xs - 1)} (omega (arith, some))))

length_front : {X : Type 0} (xs : List X) (d : X) → 0 < length xs → length (take (length xs - 1) xs) ≡ length xs - 1
length_front xs d some = length-take-le (length xs - 1) xs (omega (arith, some))

pub last_set : {X : Type 0} (xs : List X) (d x : X) → 0 < length xs → slice_set xs (length xs - 1) x ≡ take (length xs - 1) xs ++ x ∷ []
last_set xs d x some =
    ap (λ all. slice_set all (length xs - 1) x) (last_splits xs d some)
    ∙ ap (λ n. slice_set (take (length xs - 1) xs ++ slice_index_or xs (length xs - 1) d ∷ []) n x) (sym (length_front xs d some))
    ∙ set-append_seam (take (length xs - 1) xs) (slice_index_or xs (length xs - 1) d) [] x

pub last_index : {X : Type 0} (older : List X) (x d : X) → slice_index_or (older ++ x ∷ []) (length (older ++ x ∷ []) - 1) d ≡ x
last_index older x d =
    let index : length (older ++ x ∷ []) - 1 ≡ length older = omega (arith, length-append older (x ∷ [])) in
    ap (λ n. slice_index_or (older ++ x ∷ []) n d) index ∙ get_or-append_seam older x [] d

pub last_replaced : {X : Type 0} (older : List X) (x y : X) → slice_set (older ++ x ∷ []) (length (older ++ x ∷ []) - 1) y ≡ older ++ y ∷ []
last_replaced older x y =
    let index : length (older ++ x ∷ []) - 1 ≡ length older = omega (arith, length-append older (x ∷ [])) in
    ap (λ n. slice_set (older ++ x ∷ []) n y) index ∙ set-append_seam older x [] y

-- ---- what is written goes up on it

moved_up : (core : Core) (pairs : List PipePair) (n : ℕ) (newest : PipePair) (up : List ℕ) (older : List PipePair) (pair : PipePair) → n ≡ length pairs →
    newest ≡ slice_index_or pairs (n - 1) newest → up ≡ newest.up ++ core.out → pairs ≡ older ++ pair ∷ [] →
    slice_set pairs (n - 1) (record newest { up = up }) ≡ older ++ record pair { up = pair.up ++ core.out } ∷ []
moved_up core pairs n newest up older pair counted is moved splits =
    let index : n - 1 ≡ length (older ++ pair ∷ []) - 1 = ap (λ m. m - 1) counted ∙ ap (λ (all : List PipePair). length all - 1) splits in
    let same : newest ≡ pair = is ∙ ap₂ (λ (all : List PipePair) m. slice_index_or all m newest) splits index ∙ last_index older pair newest in
    ap₂ (λ (all : List PipePair) m. slice_set all m (record newest { up = up })) splits index
    ∙ last_replaced older pair (record newest { up = up })
    ∙ ap (λ u. older ++ record newest { up = u } ∷ []) moved
    ∙ ap (λ (w : PipePair). older ++ record w { up = w.up ++ core.out } ∷ []) same

pub moved_where : (result : Result (Unit {0}) ClientError) (core left : Core) (pairs : List PipePair) (n : ℕ) (newest : PipePair) (up : List ℕ)
    → n ≡ length pairs → newest ≡ slice_index_or pairs (n - 1) newest → OnOk result (up ≡ newest.up ++ core.out) → OnOk result (left ≡ record core { out = [] })
    → OnOk result (MovesUp core pairs left (slice_set pairs (n - 1) (record newest { up = up })))
moved_where (Ok done) core left pairs n newest up counted is moved handed =
    record { handed = handed; moved = λ older pair splits. moved_up core pairs n newest up older pair counted is moved splits }
moved_where (Err cause) core left pairs n newest up counted is moved handed = tt
