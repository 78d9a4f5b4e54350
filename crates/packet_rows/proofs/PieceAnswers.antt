-- PieceAnswers.antt: what comes of a stream, one piece after another.
use Rattle.std.proofs.Common.{◌≡◌, ◌≤◌, ◌<◌, ◌+◌, ◌++◌, ℕ, true, false, not, Bor, List, [], ◌∷◌, length, take, drop, get_or, append-nil, append_assoc, Bool, inl, inr, refl, ap, sym, subst, arith, ◌∙◌}
use Rattle.std.proofs.lemmas.Bool.{cases_lt}
use Rattle.rows.specs.Fields.{Text, texts}
use Rattle.rows.specs.Playing.{Answers, are_equal}
use Rattle.cutter.specs.Stream.{Stream}
use Rattle.packet_rows.specs.StreamSteps.{Adds, Feeds}
use Rattle.packet_rows.specs.StreamRuns.{BringSame, BringSameCut, Brings, BringsSame, FeedsAll, bytewise, cut_at, joined}

-- it goes on unless it has failed
stopped : (goes_on failed : Bool) → goes_on ≡ not failed → goes_on ≡ false → failed ≡ true
stopped goes_on true is stops = refl
stopped goes_on false is stops = sym stops ∙ is

calm : (goes_on failed : Bool) → goes_on ≡ not failed → goes_on ≡ true → failed ≡ false
calm goes_on false is goes = refl
calm goes_on true is goes = sym goes ∙ is

pub no_pieces : (now : Stream) (pieces : List (Bor Text)) (answers : Answers) → length pieces < 1
    → Adds answers answers (λ came. FeedsAll now (texts pieces) came now)
no_pieces now [] answers none = ([], sym (append-nil answers), FeedsAll.none now)
no_pieces now (piece ∷ pieces) answers none = absurd (omega (arith, none))

pub piece_fails : (old new : Stream) (pieces : List (Bor Text)) (d : Bor Text) (answers final : Answers) (goes_on : Bool)
    → 1 ≤ length pieces → goes_on ≡ not new.failed → goes_on ≡ false
    → Adds answers final (λ came. Feeds old (get_or pieces 0 d).now came new)
    → Adds answers final (λ came. FeedsAll old (texts pieces) came new)
piece_fails old new [] d answers final goes_on some is stops fed = absurd (omega (arith, some))
piece_fails old new (piece ∷ pieces) d answers final goes_on some is stops fed =
    let (came, added, holds) = fed in
    (came, added, FeedsAll.fails (texts pieces) holds (stopped goes_on new.failed is stops))

pub pieces_more : (old next new : Stream) (pieces : List (Bor Text)) (d : Bor Text) (answers mid final : Answers) (goes_on : Bool)
    → 1 ≤ length pieces → goes_on ≡ not next.failed → goes_on ≡ true
    → Adds answers mid (λ came. Feeds old (get_or pieces 0 d).now came next)
    → Adds mid final (λ came. FeedsAll next (texts (drop 1 pieces)) came new)
    → Adds answers final (λ came. FeedsAll old (texts pieces) came new)
pieces_more old next new [] d answers mid final goes_on some is goes fed others = absurd (omega (arith, some))
pieces_more old next new (piece ∷ pieces) d answers mid final goes_on some is goes fed others =
    let (came, added, holds) = fed in
    let (more, appended, hold) = others in (
      came ++ more,
      appended ∙ ap (λ (l : Answers). l ++ more) added ∙ append_assoc answers came more,
      FeedsAll.goes_on holds (calm goes_on next.failed is goes) hold,
    )

-- one cut more
pub cut_more : (bytes front back : List ℕ) (wanted answers slice : Answers) (at : ℕ) → front ≡ take at bytes
    → back ≡ drop at bytes → Brings (front ∷ back ∷ []) answers → slice ≡ answers → are_equal slice wanted ≡ true
    → ((n : ℕ) → n < at → BringsSame wanted (cut_at n bytes)) → (n : ℕ) → n < at + 1 → BringsSame wanted (cut_at n bytes)
cut_more bytes front back wanted answers slice at is_front is_back brings same equal before n within =
    elim (cases_lt n at) [
      | inl less ↦ before n less
      | inr least ↦
          let here : at ≡ n = omega (arith, within, least) in
          let P : List ℕ → Type 0 = λ f. Brings (f ∷ back ∷ []) answers in
          let Q : List ℕ → Type 0 = λ b. Brings (take at bytes ∷ b ∷ []) answers in
          let R : Answers → Type 0 = λ a. are_equal a wanted ≡ true in
          let S : ℕ → Type 0 = λ m. BringsSame wanted (cut_at m bytes) in
          subst S here (answers, subst Q is_back (subst P is_front brings), subst R same equal)
    ]

pub same_in_pieces : (pieces : List (List ℕ)) (wanted slice : Answers) (bytes view : List ℕ) → Brings pieces wanted
    → bytes ≡ joined pieces → view ≡ bytes → slice ≡ wanted → BringSameCut slice view
    → BringsSame slice (bytewise view) → BringSame pieces
same_in_pieces pieces wanted slice bytes view brings is same_bytes same_answers cut each =
    let whole : view ≡ joined pieces = same_bytes ∙ is in
    let P : Answers → Type 0 = λ a. BringSameCut a view in
    let Q : Answers → Type 0 = λ a. BringsSame a (bytewise view) in
    let R : List ℕ → Type 0 = λ bs. BringSameCut wanted bs in
    let S : List ℕ → Type 0 = λ bs. BringsSame wanted (bytewise bs) in
    (wanted, brings, subst R whole (subst P same_answers cut), subst S whole (subst Q same_answers each))

-- the pieces that were appended to none
pub same_pieces : (before after slice : List (Bor Text)) (fed : List (List ℕ)) → before ≡ [] → texts after ≡ texts before ++ fed
    → slice ≡ after → BringSame (texts slice) → BringSame fed
same_pieces before after slice fed none appended same brings =
    let whole : texts slice ≡ fed = ap texts same ∙ appended ∙ ap (λ (l : List (Bor Text)). texts l ++ fed) none in
    subst BringSame whole brings
