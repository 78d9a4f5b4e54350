-- RefusedByConfig.antt: what the master refuses is told by the configuration and the numbers of the nodes
-- alone, as long as a number of a ballot is left.
use Rattle.std.proofs.Common.{◌≡◌, ℕ, ◌==◌, ◌&&◌, Bool, true, false, nat_le, if◌then◌else◌, List, [], ◌∷◌, length, Some, None, refl, sym, ◌∙◌, subst, inl, inr}
use Rattle.std.specs.Prelude.{◌⊎◌}
use Rattle.std.specs.List.{list_any}
use Rattle.std.proofs.lemmas.Bool.{and_parts, eqb-true, or_cases}
use Rattle.agreement.specs.MasterState.AssignRefusal.{bad_members, ballots_spent}
use Rattle.ballot_base.specs.LawfulConfig.{are_rising, is_lawful, max_node}
use Rattle.lists.specs.Lists.{has_id}
use Rattle.post.specs.Numbers.{are_nodes, is_node}

pub bad_by : (lawful spent : Bool)
    → (if lawful then (if spent then Some ballots_spent else None) else Some bad_members) ≡ Some bad_members
    → lawful ≡ false
bad_by false spent is = refl
bad_by true true is = cc
bad_by true false is = cc

pub spent_by : (lawful spent : Bool)
    → (if lawful then (if spent then Some ballots_spent else None) else Some bad_members) ≡ Some ballots_spent
    → lawful ≡ true
spent_by true spent is = refl
spent_by false spent is = cc

-- the primary is one of the members
is_member : (members : List ℕ) (primary : ℕ) → is_lawful max_node members primary ≡ true
    → list_any (λ member. member == primary) members ≡ true
is_member members primary lawful =
    let any = list_any (λ member. member == primary) members in
    let some = nat_le 1 (length members) in
    let few = nat_le (length members) 7 in
    let a = and_parts (are_rising max_node 0 members) (some && (few && any)) lawful in
    let b = and_parts some (few && any) a.1 in
    (and_parts few any b.1).1

-- it is the first of them, or one of the rest
first_or_more : (nodes : List ℕ) (member primary : ℕ) (more : Bool)
    → ((member == primary) ≡ true) ⊎ (more ≡ true)
    → has_id member nodes ≡ true → (more ≡ true → has_id primary nodes ≡ true) → has_id primary nodes ≡ true
first_or_more nodes member primary more (inl same) first rest =
    subst (λ (number : ℕ). has_id number nodes ≡ true) (eqb-true member primary same) first
first_or_more nodes member primary more (inr is) first rest = rest is

of_member : (nodes members : List ℕ) (primary : ℕ) → list_any (λ member. member == primary) members ≡ true
    → are_nodes nodes members ≡ true → has_id primary nodes ≡ true
of_member nodes [] primary any all = cc
of_member nodes (member ∷ members) primary any all =
    first_or_more nodes member primary (list_any (λ other. other == primary) members)
    (or_cases (member == primary) (list_any (λ other. other == primary) members) any)
    (and_parts (is_node nodes member) (are_nodes nodes members) all).0
    (λ is. of_member nodes members primary is (and_parts (is_node nodes member) (are_nodes nodes members) all).1)

-- where the primary is no node, a ballot may not have the members, or not all are nodes
pub stranger : (nodes members : List ℕ) (primary : ℕ) → has_id primary nodes ≡ false
    → (is_lawful max_node members primary && are_nodes nodes members) ≡ false
stranger nodes members primary none = by (is_lawful max_node members primary) refl (are_nodes nodes members) refl
  where
    by : (lawful : Bool) → is_lawful max_node members primary ≡ lawful → (all : Bool) → are_nodes nodes members ≡ all
        → (lawful && all) ≡ false
    by false is all are = refl
    by true is false are = refl
    by true is true are = sym (of_member nodes members primary (is_member members primary is) are) ∙ none
