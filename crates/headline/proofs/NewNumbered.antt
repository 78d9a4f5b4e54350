-- While a client has had one session, its new publications are a prefix of those that it published
-- at QoS 2.
use Rattle.std.proofs.Common.{◌≡◌, ℕ, suc, Bool, true, false, if◌then◌else◌, List, [], ◌∷◌, ◌++◌, map, Option, Some, refl, sym, ap, ap₂, ◌∙◌}
use Rattle.std.specs.Prelude.{slice_get}
use Rattle.std.proofs.lemmas.List.{map-append}
use Rattle.lists.specs.Lists.{IsPrefixOf}
use Rattle.session_base.specs.declared.publication.Publication.{Publication}
use Rattle.client_base.specs.Keeper.{Own, all_own, number_in}
use Rattle.client_base.proofs.NumbersStay.{AreAllNumbered, joined_numbers}
use Rattle.client_base.specs.OrderTheorems.{AreNumbered}
use Rattle.exactly_once.specs.Carried.{is_qos2, new_numbers, own_publication, own_publications, own_qos2_numbers}
use Rattle.exactly_once.specs.Story.{Story}
use Rattle.exactly_once.proofs.Ends.{Split, split_map}
use Rattle.headline.specs.Shown.{at_qos2}
use Rattle.headline.proofs.StillKept.{StandFrom, after, first_is, some_of, whole_stands}

-- ---- lists

some_same : (a b : Publication) → Some a ≡ Some b → a ≡ b
some_same a b e = cc

pub same_some : (xs ys : List Publication) → some_of xs ≡ some_of ys → xs ≡ ys
same_some [] [] e = refl
same_some [] (y ∷ ys) e = cc
same_some (x ∷ xs) [] e = cc
same_some (x ∷ xs) (y ∷ ys) e =
    let first : Some x ≡ Some y = cc in
    let rest : some_of xs ≡ some_of ys = cc in
    ap₂ (λ (z : Publication) l. z ∷ l) (some_same x y first) (same_some xs ys rest)

-- ---- by number

published_numbered : (ps : List Publication) (n : ℕ) (own : List Own) → AreNumbered n own → StandFrom ps n own → map (slice_get ps) (own_qos2_numbers own) ≡ some_of (at_qos2 (own_publications own))
published_numbered ps n [] h stand = refl
published_numbered ps n (o ∷ own) h stand = by (is_qos2 (own_publication o).qos) (published_numbered ps (suc n) own h.1 (after ps n o own stand))
  where
    by : (b : Bool) → map (slice_get ps) (own_qos2_numbers own) ≡ some_of (at_qos2 (own_publications own))
        → map (slice_get ps) (if b then number_in o ∷ own_qos2_numbers own else own_qos2_numbers own) ≡ some_of (if b then own_publication o ∷ at_qos2 (own_publications own) else at_qos2 (own_publications own))
    by true more = ap₂ (λ (x : Option Publication) l. x ∷ l) (first_is ps n (number_in o) o own h.0 stand) more
    by false more = more

pub new_in_order : (s : Story) → AreAllNumbered s.keeper → (new : List Publication) → IsPrefixOf (new_numbers s.connections s.past) (own_qos2_numbers (all_own s.keeper))
    → map (slice_get (own_publications (all_own s.keeper))) (new_numbers s.connections s.past) ≡ some_of new → IsPrefixOf new (at_qos2 (own_publications (all_own s.keeper)))
new_in_order s numbers new front are =
    record { rest = cut.behind; is = cut.is ∙ ap (λ (l : List Publication). l ++ cut.behind) (same_some cut.front new cut.front_is) }
  where
    ps : List Publication
    ps = own_publications (all_own s.keeper)

    parts : some_of (at_qos2 ps) ≡ some_of new ++ map (slice_get ps) front.rest
    parts =
        sym (published_numbered ps 0 (all_own s.keeper) (joined_numbers s.keeper.earlier s.keeper.own numbers.0 numbers.1) (whole_stands (all_own s.keeper)))
        ∙ ap (map (slice_get ps)) front.is ∙ map-append (slice_get ps) (new_numbers s.connections s.past) front.rest
        ∙ ap (λ (l : List (Option Publication)). l ++ map (slice_get ps) front.rest) are

    cut : Split (λ (p : Publication). Some p) (at_qos2 ps) (some_of new) (map (slice_get ps) front.rest)
    cut = split_map (λ (p : Publication). Some p) (at_qos2 ps) (some_of new) (map (slice_get ps) front.rest) parts
