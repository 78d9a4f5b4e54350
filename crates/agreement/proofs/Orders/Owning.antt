-- Owning.antt: lists keep the order of proposals when they begin or take one.
use Rattle.std.proofs.Common.{◌≡◌, ℕ, ◌⊎◌, inl, inr, Bool, true, false, List, [], ◌∷◌, ◌++◌, length, Some, ap, sym, ◌∙◌, subst, arith}
use Rattle.std.specs.Prelude.{filter}
use Rattle.std.proofs.lemmas.Bool.{cases_Bool}
use Rattle.std.proofs.lemmas.List.{length-append}
use Rattle.lists.specs.Lists.{In, IsPrefixOf}
use Rattle.lists.specs.Lists.In.{here, there}
use Rattle.agreement.specs.Inside.Ballots.{Line, History}
use Rattle.agreement.specs.Inside.Keeps.{LineAdds}
use Rattle.agreement.specs.Inside.Keeps.LineAdds.{as_it_was, begins_after, adds_one}
use Rattle.agreement.specs.Proposals.{commands_of, IsOfBallot}
use Rattle.agreement.specs.Inside.Own.{OwnLines}
use Rattle.lists.proofs.Prefixes.{prefix_then}
use Rattle.lists.proofs.Members.{in_left, in_right, in_append}
use Rattle.agreement.proofs.Frame.EqualLists.{prefix_of_same}
use Rattle.agreement.proofs.Frame.Bases.{one_line}
use Rattle.agreement.proofs.Orders.NamesInLists.{filter_prefix, filter_none, filter_one, commands_more, none_named, prefix_none}

-- a list that begins after the earlier ballot's
begins_own : {C : Type 0} (names : C → Bool) (rows : List (ℕ × C)) (b ballot : ℕ) (k p : Line C) → IsPrefixOf k.list p.list →
    IsPrefixOf (filter names p.list) (filter names (commands_of rows)) →
    (b ≡ ballot → (row : ℕ × C) → In row rows → names row.1 ≡ true → ⊥) →
    IsPrefixOf (filter names k.list) (filter names (commands_of rows)) × (b ≡ ballot → filter names k.list ≡ filter names (commands_of rows))
begins_own {C = C} names rows b ballot k p front before nobody =
    let whole : IsPrefixOf (filter names k.list) (filter names (commands_of rows)) =
    prefix_then (filter_prefix names k.list p.list front) before in
    (whole, λ e. let z = none_named names rows (nobody e) in prefix_none (filter names k.list) (filter names (commands_of rows)) whole z ∙ sym z)

-- a step that adds at most starts
pub own_starts : {C : Type 0} (start_of : ℕ → C) (adds : ℕ → C → Type 0) (h i : History C) (rows : List (ℕ × C)) →
    ((b : ℕ) (c : C) → adds b c → c ≡ start_of b) → ((b : ℕ) (l : Line C) → h.line b ≡ Some l → (k : Line C) × (i.line b ≡ Some k)) →
    ((b : ℕ) (k : Line C) → i.line b ≡ Some k → LineAdds adds h b k) → OwnLines start_of h rows → OwnLines start_of i rows
own_starts {C = C} start_of adds h i rows starts more lines s =
    record {
      lined = λ row j. let z = s.lined row j in more row.0 z.0 z.1;
      own = λ names ballot of b k e. by_line names ballot of b k (lines b k e);
    }
  where
    by_line : (names : C → Bool) (ballot : ℕ) → IsOfBallot start_of names ballot rows → (b : ℕ) (k : Line C) → LineAdds adds h b k →
        IsPrefixOf (filter names k.list) (filter names (commands_of rows)) × (b ≡ ballot → filter names k.list ≡ filter names (commands_of rows))
    by_line names ballot of b k (as_it_was e) = s.own names ballot of b k e
    by_line names ballot of b k (begins_after g p e none before front) =
        begins_own names rows b ballot k p front (s.own names ballot of g.previous p before).0
        (λ f row j named. let z = s.lined row j in let y = ap h.line (of.only row j named ∙ sym f) in let x = z.1 in cc)
    by_line names ballot of b k (adds_one l c e same a) =
        let z = s.own names ballot of b l e in
        let named : names c ≡ false = ap names (starts b c a) ∙ of.starts b in
        let f : filter names k.list ≡ filter names l.list = ap (filter names) same ∙ filter_none names l.list c named in
        (subst (λ (us : List C). IsPrefixOf us (filter names (commands_of rows))) (sym f) z.0, λ y. f ∙ z.1 y)

-- a step that adds a proposal to the list of its ballot
pub own_proposed : {C : Type 0} (start_of : ℕ → C) (h i : History C) (rows : List (ℕ × C)) (p : ℕ) (c : C) (l k : Line C) →
    h.line p ≡ Some l → i.line p ≡ Some k → k.list ≡ l.list ++ c ∷ [] →
    ((b : ℕ) (l : Line C) → h.line b ≡ Some l → (k : Line C) × (i.line b ≡ Some k)) →
    ((b : ℕ) (k : Line C) → i.line b ≡ Some k → LineAdds (λ b x. (b ≡ p) × (x ≡ c)) h b k) → OwnLines start_of h rows →
    OwnLines start_of i (rows ++ (p, c) ∷ [])
own_proposed {C = C} start_of h i rows p c l k lined_l lined_k grown more lines s =
    record {
      lined = λ row j. by_row row (in_append rows ((p, c) ∷ []) j);
      own = λ names ballot of b y e. by_line names ballot of (older names ballot of) b y e (lines b y e) (cases_Bool (names c));
    }
  where
    by_row : (row : ℕ × C) → In row rows ⊎ In {X = ℕ × C} row ((p, c) ∷ []) → (y : Line C) × (i.line row.0 ≡ Some y)
    by_row row (inl j) = let z = s.lined row j in more row.0 z.0 z.1
    by_row row (inr here) = (k, lined_k)
    by_row row (inr (there j)) = elim j [ ]

    older : (names : C → Bool) (ballot : ℕ) → IsOfBallot start_of names ballot (rows ++ (p, c) ∷ []) → IsOfBallot start_of names ballot rows
    older names ballot of = record { starts = of.starts; only = λ row j. of.only row (in_left ((p, c) ∷ []) j) }

    last : In {X = ℕ × C} (p, c) (rows ++ (p, c) ∷ [])
    last = in_right rows here

    not_named : (names : C → Bool) → names c ≡ false → filter names (commands_of (rows ++ (p, c) ∷ [])) ≡ filter names (commands_of rows)
    not_named names e = ap (filter names) (commands_more rows (p, c)) ∙ filter_none names (commands_of rows) c e

    is_named : (names : C → Bool) → names c ≡ true → filter names (commands_of (rows ++ (p, c) ∷ [])) ≡ filter names (commands_of rows) ++ c ∷ []
    is_named names e = ap (filter names) (commands_more rows (p, c)) ∙ filter_one names (commands_of rows) c e

    front : (names : C → Bool) → IsPrefixOf (filter names (commands_of rows)) (filter names (commands_of (rows ++ (p, c) ∷ [])))
    front names =
        filter_prefix names (commands_of rows) (commands_of (rows ++ (p, c) ∷ []))
        (record { rest = c ∷ []; is = commands_more rows (p, c) })

    by_line : (names : C → Bool) (ballot : ℕ) → IsOfBallot start_of names ballot (rows ++ (p, c) ∷ []) → IsOfBallot start_of names ballot rows →
        (b : ℕ) (y : Line C) → i.line b ≡ Some y → LineAdds (λ b x. (b ≡ p) × (x ≡ c)) h b y → (names c ≡ true) ⊎ (names c ≡ false) →
        IsPrefixOf (filter names y.list) (filter names (commands_of (rows ++ (p, c) ∷ [])))
        × (b ≡ ballot → filter names y.list ≡ filter names (commands_of (rows ++ (p, c) ∷ [])))
    by_line names ballot of old b y f (as_it_was e) (inr none) =
        let z = s.own names ballot old b y e in (prefix_then z.0 (front names), λ q. z.1 q ∙ sym (not_named names none))
    by_line names ballot of old b y f (as_it_was e) (inl named) =
        let z = s.own names ballot old b y e in (
          prefix_then z.0 (front names),
          λ q. absurd (
              let same : b ≡ p = q ∙ sym (of.only (p, c) last named) in
              let one : y ≡ l = one_line (h.line p) y l (ap h.line (sym same) ∙ e) lined_l in
              let two : y ≡ k = one_line (i.line p) y k (ap i.line (sym same) ∙ f) lined_k in
              let a = ap (λ (u : Line C). length u.list) one in let d = ap (λ (u : Line C). length u.list) two in
              let g = ap length grown in let n = length-append l.list (c ∷ []) in omega (arith, a, d, g, n)),
        )
    by_line names ballot of old b y f (begins_after g u e none before begins) named =
        begins_own names (rows ++ (p, c) ∷ []) b ballot y u begins
        (prefix_then (s.own names ballot old g.previous u before).0 (front names))
        (λ q row j is. unlined row (of.only row j is ∙ sym q) (in_append rows ((p, c) ∷ []) j))
      where
        unlined : (row : ℕ × C) → row.0 ≡ b → In row rows ⊎ In {X = ℕ × C} row ((p, c) ∷ []) → ⊥
        unlined row same (inl j) = let z = s.lined row j in let x = z.1 in let d = ap h.line same in cc
        unlined row same (inr here) = let d = ap h.line same in cc
        unlined row same (inr (there j)) = elim j [ ]
    by_line names ballot of old b y f (adds_one u x e same (at, is)) (inr none) =
        let z = s.own names ballot old b u e in
        let d : filter names y.list ≡ filter names u.list = ap (filter names) same ∙ filter_none names u.list x (ap names is ∙ none) in (
          prefix_then (subst (λ (us : List C). IsPrefixOf us (filter names (commands_of rows))) (sym d) z.0) (front names),
          λ q. d ∙ z.1 q ∙ sym (not_named names none),
        )
    by_line names ballot of old b y f (adds_one u x e same (at, is)) (inl named) =
        let z = s.own names ballot old b u e in
        let d : filter names y.list ≡ filter names u.list ++ x ∷ [] = ap (filter names) same ∙ filter_one names u.list x (ap names is ∙ named) in
        let own : b ≡ ballot = at ∙ of.only (p, c) last named in
        let whole : filter names y.list ≡ filter names (commands_of (rows ++ (p, c) ∷ [])) =
        d ∙ ap (λ us. us ++ x ∷ []) (z.1 own) ∙ ap (λ o. filter names (commands_of rows) ++ o ∷ []) is ∙ sym (is_named names named) in
        (prefix_of_same (filter names y.list) (filter names (commands_of (rows ++ (p, c) ∷ []))) whole, λ q. whole)
