-- Orders.antt: the order of proposals in groups whose nodes cut their logs, and what nodes give while they lead.
use Rattle.std.proofs.Common.{◌≡◌, ℕ, zero, suc, ◌≤◌, true, List, [], ◌∷◌, ◌++◌, length, map, Some, ap, sym, refl, ◌∙◌, subst, append_assoc, arith}
use Rattle.std.specs.Prelude.{filter, slice_get}
use Rattle.std.proofs.lemmas.List.{append-nil, length-take-le}
use Rattle.machine.specs.Machine.{Rules}
use Rattle.lists.specs.Lists.{In, IsPrefixOf}
use Rattle.lists.proofs.Prefixes.{prefix_length, take_prefix}
use Rattle.ballot_base.specs.declared.config.Config.{Config}
use Rattle.ballot_base.specs.Replica.{ReplicaState, is_active}
use Rattle.agreement.specs.Moments.{IsAgreed}
use Rattle.agreement.specs.Primaries.{IsPrimary}
use Rattle.agreement.specs.Proposals.{IsOfBallot, IsPartOf, commands_of, rows_in, taken_of as whole_taken_of}
use Rattle.agreement.specs.World.{outputs as whole_outputs}
use Rattle.agreement.specs.whole_logs.Application.{outputs_between}
use Rattle.agreement.specs.whole_logs.Replica.{ReplicaState as WholeState}
use Rattle.agreement.proofs.Agreed.OneNodeTakes as takers
use Rattle.agreement.proofs.Agreed.MomentsAgree as wholes
use Rattle.agreement.proofs.Agreed.MomentsKnown.{moments_known}
use Rattle.agreement.proofs.Agreed.MomentsOrder as orders
use Rattle.agreement.proofs.Frame.Giving.{same_outputs}
use Rattle.agreement.proofs.Orders.TakenParts as parts
use Rattle.agreement.proofs.Given.Places.{between_joins, none_between}
use Rattle.agreement.proofs.Given.NextPlaces.{some_same}
use Rattle.agreement.proofs.Given.StepGives.{from_active}
use Rattle.agreement.specs.cut_logs.NodeOutputs.{LeadsOn, given_in, given_of}
use Rattle.agreement.specs.cut_logs.NodeOutputs.LeadsOn.{leads_there, leads_still}
use Rattle.agreement.specs.cut_logs.Orders.{AnswersWhileItLeads, KeepsTheOrder, OneNodeTakesABallot}
use Rattle.agreement.specs.cut_logs.Moments.{Moment, Moments, whole_moment}
use Rattle.agreement.specs.cut_logs.Proposals.{proposals_of, taken_at, taken_of}
use Rattle.agreement.specs.cut_logs.Whole.{whole, whole_log}
use Rattle.agreement.specs.cut_logs.World.{whole_world}
use Rattle.agreement.proofs.of_cut_logs.Continues.{agreed_in}
use Rattle.agreement.proofs.of_cut_logs.NextPlaces.{answers_at_the_next_places}
use Rattle.agreement.proofs.of_cut_logs.MomentsAgree.{agreed_grows, has_agreed}
use Rattle.agreement.proofs.of_cut_logs.MomentsKept.{moments_stand, moments_stand_with}
use Rattle.agreement.proofs.of_cut_logs.Views.{get_whole, in_whole}

-- each log keeps the order
pub keeps_the_order : {S C O : Type 0} (rules : Rules S C O) → KeepsTheOrder rules
keeps_the_order {S = S} {C = C} {O = O} rules config a moments came =
    let q = moments_stand_with rules config a moments came in
    let z = orders.keeps_the_order rules config (whole_moment a) q.stands.earlier q.stands.kept.came in (
      subst (λ (us : List (ℕ × C)). IsPartOf us (proposals_of came)) q.says.takes
          (subst (λ (us : List (ℕ × C)). IsPartOf (whole_taken_of q.stands.kept.came) us) q.says.proposes z.0),
      λ names ballot of n r stands.
          subst (λ (us : List (ℕ × C)). IsPrefixOf (filter names (whole_log a.world.archive r.log)) (filter names (commands_of us))) q.says.takes
          (z.1 names ballot (subst (λ (us : List (ℕ × C)). IsOfBallot rules.start_of names ballot us) (sym q.says.takes) of) n (whole a.world.archive r)
          (get_whole (whole a.world.archive) a.world.nodes n r stands)),
    )

-- one node takes what is taken in a ballot
pub one_node_takes_a_ballot : {S C O : Type 0} (rules : Rules S C O) → OneNodeTakesABallot rules
one_node_takes_a_ballot rules config a moments came c n ballot i primary =
    let q = moments_stand_with rules config a moments came in
    ap (rows_in ballot) (sym q.says.takes)
    ∙ takers.one_node_takes_a_ballot rules config (whole_moment a) q.stands.earlier q.stands.kept.came (whole_moment c) n ballot
    (q.stands.covers.all (whole_moment c) (in_whole whole_moment i)) primary
    ∙ ap (rows_in ballot) (q.says.takes_at n)

-- what one node took was taken
pub taken_at_in : {S C O : Type 0} (rules : Rules S C O) (config : Config) (a : Moment S C O) (moments : List (Moment S C O)) → (came : Moments rules config (a ∷ moments)) →
    (n : ℕ) (row : ℕ × C) → In row (taken_at n came) → In row (taken_of came)
taken_at_in {C = C} rules config a moments came n row i =
    let q = moments_stand_with rules config a moments came in
    subst (λ (us : List (ℕ × C)). In row us) q.says.takes
    (parts.taken_at_in n q.stands.kept.came row (subst (λ (us : List (ℕ × C)). In row us) (sym (q.says.takes_at n)) i))

-- ---- while a node leads

-- it leads at the last moment
leads_now : {S C O : Type 0} {rules : Rules S C O} {config : Config} {n ballot : ℕ} {a b : Moment S C O} {moments later : List (Moment S C O)}
    {came : Moments rules config (a ∷ moments)} {more : Moments rules config (b ∷ later)} → LeadsOn n ballot came b later more → IsPrimary (whole_world b.world) n ballot
leads_now (leads_there p) = p
leads_now (leads_still leads step p) = p

-- the node whose whole log is at a place
pub node_at : {X Y : Type 0} (f : X → Y) (xs : List X) (n : ℕ) (y : Y) → slice_get (map f xs) n ≡ Some y → (x : X) × (slice_get xs n ≡ Some x) × (f x ≡ y)
node_at f [] n y e = cc
node_at f (x ∷ xs) zero y e = let g : f x ≡ y = cc in (x, refl, g)
node_at f (x ∷ xs) (suc n) y e = node_at f xs n y e

-- what a node applied lies within the agreed list
applied_inside : {S C O : Type 0} (rules : Rules S C O) (config : Config) (a : Moment S C O) (moments : List (Moment S C O)) (xs : List C) →
    Moments rules config (a ∷ moments) → IsAgreed config (map whole_moment (a ∷ moments)) xs → (n : ℕ) (r : ReplicaState S C) → slice_get a.world.nodes n ≡ Some r →
    r.committed ≤ length xs
applied_inside rules config a moments xs came agreed n r stands =
    let q = moments_stand rules config a moments came in
    let there = get_whole (whole a.world.archive) a.world.nodes n r stands in
    let within = ((moments_known rules config (whole_moment a) q.earlier q.kept.came).serves.sound.nodes n (whole a.world.archive r) there).within in
    let short = prefix_length ((wholes.nodes_agree rules config (whole_moment a) q.earlier xs q.kept.came
    (agreed_in config (map whole_moment (a ∷ moments)) (whole_moment a ∷ q.earlier) xs q.covers agreed)).0.applied n (whole a.world.archive r) there) in
    let long = length-take-le r.committed (whole_log a.world.archive r.log) within in omega (arith, short, long)

-- by the moments in between
gave_between : {S C O : Type 0} (rules : Rules S C O) (config : Config) (a : Moment S C O) (moments : List (Moment S C O)) →
    (came : Moments rules config (a ∷ moments)) → (n ballot : ℕ) (old : ReplicaState S C) → slice_get a.world.nodes n ≡ Some old →
    (b : Moment S C O) (later : List (Moment S C O)) (xs : List C) (more : Moments rules config (b ∷ later)) → IsAgreed config (map whole_moment (b ∷ later)) xs →
    LeadsOn n ballot came b later more → (new : ReplicaState S C) → slice_get b.world.nodes n ≡ Some new →
    (old.committed ≤ new.committed)
    × (given_of n more ≡ given_of n came ++ whole_outputs (outputs_between rules xs old.committed new.committed))
gave_between {S = S} {C = C} {O = O} rules config a moments came n ballot old stood b later xs more agreed (leads_there p) new stands =
    let same : new ≡ old = some_same (slice_get a.world.nodes n) new old stands stood in
    let e = ap (λ (r : ReplicaState S C). r.committed) same in (
      omega (arith, e),
      sym (ap (λ k. given_of n came ++ whole_outputs (outputs_between rules xs old.committed k)) e
          ∙ ap (λ us. given_of n came ++ us) (none_between rules xs old.committed) ∙ append-nil (given_of n came)),
    )
gave_between {S = S} {C = C} {O = O} rules config a moments came n ballot old stood c later xs more agreed
    (leads_still {previous = b} {later = earlier} {more = before} leads step p) new stands =
    let mid = leads_now leads in
    let back = node_at (whole b.world.archive) b.world.nodes n mid.replica mid.stands in
    let r = back.0 in
    let ys = has_agreed rules config b earlier before in
    let first = gave_between rules config a moments came n ballot old stood b earlier ys.0 before ys.1 leads r back.1 in
    let next = answers_at_the_next_places rules config b c earlier xs before agreed step n r new back.1 stands in
    let leading : is_active r.role ≡ true = ap (λ (x : WholeState S C). is_active x.role) back.2 ∙ mid.active in
    let active : is_active new.role ≡ true =
    ap (λ (x : WholeState S C). is_active x.role) (some_same (slice_get (whole_world c.world).nodes n) (whole c.world.archive new) p.replica
    (get_whole (whole c.world.archive) c.world.nodes n new stands) p.stands) ∙ p.active in
    let from = from_active (whole b.world.archive r) leading in
    let up = next.rising active in
    let low = first.0 in
    let inside = applied_inside rules config b earlier ys.0 before ys.1 n r back.1 in
    let grown = agreed_grows rules config c (b ∷ earlier) ys.0 xs ys.1 agreed in
    let longer = prefix_length grown in (
      omega (arith, low, up, from),
      ap (λ us. us ++ given_in n step) first.1
          ∙ ap (λ us. (given_of n came ++ whole_outputs us) ++ given_in n step)
          (same_outputs rules ys.0 xs old.committed r.committed low (sym (take_prefix r.committed grown inside)))
          ∙ ap (λ us. (given_of n came ++ whole_outputs (outputs_between rules xs old.committed r.committed)) ++ us)
          (next.next active ∙ ap (λ k. whole_outputs (outputs_between rules xs k new.committed)) from)
          ∙ append_assoc (given_of n came) (whole_outputs (outputs_between rules xs old.committed r.committed)) (whole_outputs (outputs_between rules xs r.committed new.committed))
          ∙ ap (λ us. given_of n came ++ us)
          (between_joins rules xs old.committed r.committed new.committed low (omega (arith, up, from)) (omega (arith, inside, longer))),
    )

-- in the terms of the law
pub answers_while_it_leads : {S C O : Type 0} (rules : Rules S C O) → AnswersWhileItLeads rules
answers_while_it_leads rules config a b moments later xs came more agreed n ballot leads old new stood stands =
    let g = gave_between rules config a moments came n ballot old stood b later xs more agreed leads new stands in
    (g.0, applied_inside rules config b later xs more agreed n new stands, g.1)
