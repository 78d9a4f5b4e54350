-- KeptEnds.antt: what is kept of the ends of nodes, one after another.
use Rattle.std.proofs.Common.{◌≡◌, ◌⊎◌, Bool, true, false, ℕ, List, [], ◌∷◌, ◌++◌, Option, Some, None, Result, Ok, Err, map, inl, inr, ◌∙◌, ap, sym, subst}
use Rattle.std.specs.Bool.{MatchBool}
use Rattle.std.specs.List.Sorted.{IsPermutation}
use Rattle.std.specs.Option.{option_or}
use Rattle.std.specs.Result.{IfOk, OnErr}
use Rattle.std.proofs.lemmas.List.{append_assoc, map_push}
use Rattle.std.proofs.lemmas.List.Sorted.{IsPermutation-map}
use Rattle.std.proofs.lemmas.Option.{none-some}
use Rattle.server.specs.declared.outcome.Outcome.{Outcome}
use Rattle.server.specs.declared.serve_error.ServeError.{ServeError}
use Rattle.server.specs.Ended.{EndedView}
use Rattle.server.specs.Inside.{AddsEnded, Fails, numbers_of}

-- a cause that is kept stays
not_none : (failure : Option ServeError) (cause : ServeError) → option_or failure (Some cause) ≡ None → ⊥
not_none None cause is = absurd (none-some cause (sym is))
not_none (Some first) cause is = absurd (none-some first (sym is))

-- a node that failed is none of those that are kept
failed_not : {H : Type 0} (cause : ServeError) (old new : Outcome H) → Fails cause old new → new.failure ≡ None → ⊥
failed_not cause old new fails none = not_none old.failure cause (sym fails.1 ∙ none)

-- if nothing failed, the node was added
kept_so : {H E : Type 0} (closed : Result EndedView E) (cause : ServeError) (number : ℕ) (old new : Outcome H)
    → IfOk closed (λ one. AddsEnded one old new ⊎ Fails cause old new) → OnErr closed (Fails cause old new)
    → IfOk closed (λ one. one.report.number ≡ number) → new.failure ≡ None
    → (old.failure ≡ None) × (numbers_of new.ended.items ≡ numbers_of old.ended.items ++ number ∷ [])
kept_so (Ok one) cause number old new (inl adds) failed is none = (
  sym adds.1 ∙ none,
  ap numbers_of adds.0 ∙ map_push (λ (e : EndedView). e.report.number) old.ended.items one
      ∙ ap (λ (n : ℕ). numbers_of old.ended.items ++ n ∷ []) is,
)
kept_so (Ok one) cause number old new (inr fails) failed is none = absurd (failed_not cause old new fails none)
kept_so (Err error) cause number old new kept fails is none = absurd (failed_not cause old new fails none)

-- one more node was kept, if nothing failed
pub kept_more : {H E : Type 0} (closed : Result EndedView E) (cause : ServeError) (number : ℕ) (first old new : Outcome H) (before : List ℕ)
    → IfOk closed (λ one. AddsEnded one old new ⊎ Fails cause old new) → OnErr closed (Fails cause old new)
    → IfOk closed (λ one. one.report.number ≡ number)
    → (old.failure ≡ None → numbers_of old.ended.items ≡ numbers_of first.ended.items ++ before)
    → new.failure ≡ None → numbers_of new.ended.items ≡ numbers_of first.ended.items ++ (before ++ number ∷ [])
kept_more closed cause number first old new before kept fails is so none =
    let here = kept_so closed cause number old new kept fails is none in
    here.1 ∙ ap (λ (l : List ℕ). l ++ number ∷ []) (so here.0) ∙ append_assoc (numbers_of first.ended.items) before (number ∷ [])

-- one more image after those of a list
pub image_more : {X Y : Type 0} (f : X → Y) (before old after : List Y) (xs : List X) (x : X) (y : Y)
    → after ≡ old ++ y ∷ [] → f x ≡ y → old ≡ before ++ map f xs → after ≡ before ++ map f (xs ++ x ∷ [])
image_more f before old after xs x y longer is so =
    longer ∙ (ap (λ l. l ++ y ∷ []) so
    ∙ (append_assoc before (map f xs) (y ∷ [])
    ∙ ap (λ l. before ++ l) (ap (λ z. map f xs ++ z ∷ []) (sym is) ∙ sym (map_push f xs x))))

-- whether all were started or not, the nodes that are kept stay
pub started_keeps : {H : Type 0} (all_started : Bool) (cause : ServeError) (old new : Outcome H)
    → MatchBool all_started (new ≡ old) (Fails cause old new) → new.ended.items ≡ old.ended.items
started_keeps true cause old new same = ap (λ outcome. outcome.ended.items) same
started_keeps false cause old new fails = fails.0

-- the nodes that ended are those that were started, in the order of their numbers
pub all_ended : {H : Type 0} (numbers nodes : List ℕ) (first before after : Outcome H) (sorted : List EndedView)
    → first.ended.items ≡ [] → before.ended.items ≡ first.ended.items
    → (after.failure ≡ None → numbers_of after.ended.items ≡ numbers_of before.ended.items ++ nodes)
    → after.failure ≡ None → nodes ≡ numbers → IsPermutation after.ended.items sorted
    → IsPermutation numbers (numbers_of sorted)
all_ended numbers nodes first before after sorted empty same kept served are moved =
    subst (λ (l : List ℕ). IsPermutation l (numbers_of sorted))
    (kept served ∙ (ap (λ (l : List EndedView). numbers_of l ++ nodes) (same ∙ empty) ∙ are))
    (IsPermutation-map (λ (one : EndedView). one.report.number) after.ended.items sorted moved)

-- one more node was kept, if nothing failed
pub kept_next : {H E N : Type 0} (number_of : N → ℕ) (closed : Result EndedView E) (cause : ServeError) (node : N) (first old new : Outcome H) (yielded : List N)
    → IfOk closed (λ one. AddsEnded one old new ⊎ Fails cause old new) → OnErr closed (Fails cause old new)
    → IfOk closed (λ one. one.report.number ≡ number_of node)
    → (old.failure ≡ None → numbers_of old.ended.items ≡ numbers_of first.ended.items ++ map number_of yielded)
    → new.failure ≡ None → numbers_of new.ended.items ≡ numbers_of first.ended.items ++ map number_of (yielded ++ node ∷ [])
kept_next number_of closed cause node first old new yielded kept fails is so none =
    kept_more closed cause (number_of node) first old new (map number_of yielded) kept fails is so none
    ∙ ap (λ (l : List ℕ). numbers_of first.ended.items ++ l) (sym (map_push number_of yielded node))

abbrev tail_of : {A : Type 0} → List A → List A
tail_of [] = []
tail_of (x ∷ xs) = xs

-- after one more node and its witness, those that are left have the same numbers
pub same_tails : {C N : Type 0} (number_of : N → C) (all rest : List C) (closed : C) (nodes others : List N) (node : N)
    → all ≡ closed ∷ rest → nodes ≡ node ∷ others → all ≡ map number_of nodes → rest ≡ map number_of others
same_tails number_of all rest closed nodes others node first next same =
    ap tail_of (sym first ∙ (same ∙ ap (map number_of) next))
