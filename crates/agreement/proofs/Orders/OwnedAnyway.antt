-- OwnedAnyway.antt: where a list took a proposal, the order holds for the rows with it.
use Rattle.std.proofs.Common.{◌≡◌, ℕ, ◌⊎◌, inl, inr, Bool, true, false, List, [], ◌∷◌, ◌++◌, length, Some, ap, sym, ◌∙◌, subst, arith}
use Rattle.std.specs.Prelude.{filter}
use Rattle.std.proofs.lemmas.Bool.{cases_Bool}
use Rattle.std.proofs.lemmas.List.{length-append}
use Rattle.lists.specs.Lists.{In, IsPrefixOf}
use Rattle.lists.specs.Lists.In.{here, there}
use Rattle.agreement.specs.Inside.Ballots.{Line, History}
use Rattle.agreement.specs.Proposals.{commands_of, IsOfBallot}
use Rattle.agreement.specs.Inside.Own.{OwnLines}
use Rattle.lists.proofs.Members.{in_left, in_right, in_append}
use Rattle.agreement.proofs.Orders.NamesInLists.{filter_none, filter_one, commands_more}

-- if the list of its ballot took a proposal, that is the last of the rows: if the order held of
-- those before alone, then no test could name it
pub own_anyway : {C : Type 0} (start_of : ℕ → C) (h i : History C) (rows : List (ℕ × C)) (p : ℕ) (c : C) (l k : Line C) →
    h.line p ≡ Some l → i.line p ≡ Some k → k.list ≡ l.list ++ c ∷ [] → OwnLines start_of h rows → OwnLines start_of i rows →
    OwnLines start_of i (rows ++ (p, c) ∷ [])
own_anyway {C = C} start_of h i rows p c l k lined_l lined_k grown before after =
    record {
      lined = λ row j. by_row row (in_append rows ((p, c) ∷ []) j);
      own = λ names ballot of b y e. by_name names ballot of (older names ballot of) b y e (cases_Bool (names c));
    }
  where
    by_row : (row : ℕ × C) → In row rows ⊎ In {X = ℕ × C} row ((p, c) ∷ []) → (y : Line C) × (i.line row.0 ≡ Some y)
    by_row row (inl j) = after.lined row j
    by_row row (inr here) = (k, lined_k)
    by_row row (inr (there j)) = elim j [ ]

    older : (names : C → Bool) (ballot : ℕ) → IsOfBallot start_of names ballot (rows ++ (p, c) ∷ []) → IsOfBallot start_of names ballot rows
    older names ballot of = record { starts = of.starts; only = λ row j. of.only row (in_left ((p, c) ∷ []) j) }

    last : In {X = ℕ × C} (p, c) (rows ++ (p, c) ∷ [])
    last = in_right rows here

    by_name : (names : C → Bool) (ballot : ℕ) → IsOfBallot start_of names ballot (rows ++ (p, c) ∷ []) → IsOfBallot start_of names ballot rows →
        (b : ℕ) (y : Line C) → i.line b ≡ Some y → (names c ≡ true) ⊎ (names c ≡ false) →
        IsPrefixOf (filter names y.list) (filter names (commands_of (rows ++ (p, c) ∷ [])))
        × (b ≡ ballot → filter names y.list ≡ filter names (commands_of (rows ++ (p, c) ∷ [])))
    by_name names ballot of old b y e (inr none) =
        let z = after.own names ballot old b y e in
        let same : filter names (commands_of (rows ++ (p, c) ∷ [])) ≡ filter names (commands_of rows) =
        ap (filter names) (commands_more rows (p, c)) ∙ filter_none names (commands_of rows) c none in
        (subst (λ (us : List C). IsPrefixOf (filter names y.list) us) (sym same) z.0, λ q. z.1 q ∙ sym same)
    by_name names ballot of old b y e (inl named) =
        let own : p ≡ ballot = of.only (p, c) last named in
        let first = (before.own names ballot old p l lined_l).1 own in
        let second = (after.own names ballot old p k lined_k).1 own in
        let one : filter names k.list ≡ filter names l.list ++ c ∷ [] = ap (filter names) grown ∙ filter_one names l.list c named in
        let x = ap length one in let u = ap length first in let q = ap length second in
        absurd (omega (arith, x, u, q, length-append (filter names l.list) (c ∷ [])))
