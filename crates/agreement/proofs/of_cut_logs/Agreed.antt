-- Agreed.antt: only by the laws of agreement: what a node applied stays in the log that it takes,
-- and a node that takes a snapshot over what it applied continues by its step on whole logs and by
-- learning.
use Rattle.std.proofs.Common.{inl, ◌≡◌, ℕ, ◌≤◌, false, List, [], ◌∷◌, ◌++◌, length, take, set, Some, refl, ap, ap₂, sym, ◌∙◌, subst, arith}
use Rattle.std.specs.Prelude.{slice_get}
use Rattle.std.proofs.lemmas.List.{append-nil, length-take-le, set-set, take-take}
use Rattle.machine.specs.Machine.{Rules}
use Rattle.lists.specs.Lists.{In, IsPrefixOf}
use Rattle.lists.specs.Lists.In.{there}
use Rattle.lists.proofs.Prefixes.{prefix_then, take_prefix}
use Rattle.lists.proofs.Places.{get_set}
use Rattle.agreement.specs.whole_logs.Application.{applied_to as whole_applied_to}
use Rattle.ballot_base.specs.declared.config.Config.{Config}
use Rattle.agreement.specs.whole_logs.Messages.{Effect as WholeEffect}
use Rattle.agreement.specs.whole_logs.Losses.{Thinned as WholeThinned}
use Rattle.agreement.specs.whole_logs.Protocol.{Input as WholeInput, replica_step as whole_step}
use Rattle.agreement.specs.whole_logs.Replica.{ReplicaState as WholeState}
use Rattle.ballot_base.specs.Replica.{is_active}
use Rattle.agreement.specs.Moments.{IsAgreed, Learns, Moment, Moments}
use Rattle.agreement.specs.Moments.Moments.{went_on, learned}
use Rattle.agreement.specs.Steps.{MayHappen, MayTake as WholeMayTake}
use Rattle.agreement.specs.Steps.MayHappen.{node_takes}
use Rattle.agreement.specs.World.{GroupWorld as WholeWorld, moved as whole_moved, messages as whole_messages, outputs as whole_outputs}
use Rattle.agreement.proofs.Agreed.MomentsAgree.{has_agreed, nodes_agree}
use Rattle.agreement.proofs.Agreed.MomentsGrow.{agreed_grows}
use Rattle.agreement.proofs.of_cut_logs.Adds.{Adds, added_at}
use Rattle.agreement.proofs.of_cut_logs.Serving.{thinned_same}

-- what a node applied it has in its log after a step that applies no more, whichever log it took
pub fronts_stay : {S C O : Type 0} (rules : Rules S C O) (config : Config) (a : Moment S C O) (earlier : List (Moment S C O)) (n : ℕ) (r : WholeState S C)
    (input : WholeInput C) → Moments rules config (a ∷ earlier) → slice_get a.world.nodes n ≡ Some r → r.stopped ≡ false → WholeMayTake a.world n input →
    r.committed ≤ length r.log → (whole_step rules r input).state.committed ≡ r.committed → r.committed ≤ length (whole_step rules r input).state.log →
    take r.committed (whole_step rules r input).state.log ≡ take r.committed r.log
fronts_stay {S = S} {C = C} {O = O} rules config a earlier n r input came stands runs may within still long =
    sym (length_take new.log long (take_prefix r.committed after (omega (arith, length-take-le r.committed new.log long)))
    ) ∙ length_take r.log within (take_prefix r.committed before (omega (arith, length-take-le r.committed r.log within)))
  where
    new : WholeState S C
    new = (whole_step rules r input).state

    b : Moment S C O
    b = record a { world = whole_moved a.world n new (whole_step rules r input).effects }

    step : MayHappen rules a.master a.world b.master b.world
    step = node_takes n r input stands runs may (inl (refl, thinned_same (whole_step rules r input).effects))

    more : Moments rules config (b ∷ a ∷ earlier)
    more = went_on came step

    xs : (us : List C) × IsAgreed config (a ∷ earlier) us
    xs = has_agreed rules config a earlier came

    ys : (us : List C) × IsAgreed config (b ∷ a ∷ earlier) us
    ys = has_agreed rules config b (a ∷ earlier) more

    before : IsPrefixOf (take r.committed r.log) ys.0
    before = prefix_then ((nodes_agree rules config a earlier xs.0 came xs.1).0.applied n r stands) (agreed_grows rules config b (a ∷ earlier) xs.0 ys.0 xs.1 ys.1)

    after : IsPrefixOf (take r.committed new.log) ys.0
    after = subst (λ k. IsPrefixOf (take k new.log) ys.0) still
        ((nodes_agree rules config b (a ∷ earlier) ys.0 more ys.1).0.applied n new (get_set a.world.nodes n r new stands))

    length_take : (us : List C) → r.committed ≤ length us → take r.committed ys.0 ≡ take r.committed (take r.committed us) → take r.committed ys.0 ≡ take r.committed us
    length_take us low e = e ∙ take-take r.committed r.committed us (omega arith)

-- the same node twice
moved_twice : {S C O : Type 0} (w : WholeWorld S C O) (n : ℕ) (x y : WholeState S C) (given : List (WholeEffect C O)) →
    whole_moved (whole_moved w n x given) n y [] ≡ whole_moved w n y given
moved_twice {S = S} {C = C} {O = O} w n x y given =
    ap (λ ns. let v : WholeWorld S C O = record { nodes = ns; sent = (w.sent ++ whole_messages given) ++ []; left = (w.left ++ whole_outputs given) ++ [] } in v) (set-set w.nodes n x y)
    ∙ ap₂ (λ us vs. let v : WholeWorld S C O = record { nodes = set w.nodes n y; sent = us; left = vs } in v)
    (append-nil (w.sent ++ whole_messages given)) (append-nil (w.left ++ whole_outputs given))

-- who applied these places at an earlier moment, and had joined no higher ballot
pub record WasApplied {S C O : Type 0} (moments : List (Moment S C O)) (ballot k : ℕ) (front : List C) : Type 0 where
  pub earlier : Moment S C O
  pub was : In earlier moments
  pub other : ℕ
  pub teacher : WholeState S C
  pub stood : slice_get earlier.world.nodes other ≡ Some teacher
  pub joined : teacher.joined ≤ ballot
  pub applied : k ≤ teacher.committed
  pub same : take k teacher.log ≡ front

-- a step after which the node learns
pub learns_after : {S C O : Type 0} (rules : Rules S C O) (config : Config) (a : Moment S C O) (earlier : List (Moment S C O)) (n : ℕ) (r new : WholeState S C)
    (input : WholeInput C) (given : List (WholeEffect C O)) (k : ℕ) → (came : Moments rules config (a ∷ earlier)) → slice_get a.world.nodes n ≡ Some r → r.stopped ≡ false →
    WholeMayTake a.world n input → WholeThinned given (whole_step rules r input).effects → (whole_step rules r input).state.stopped ≡ false →
    is_active (whole_step rules r input).state.role ≡ false → (whole_step rules r input).state.committed ≤ k →
    k ≤ length (whole_step rules r input).state.log →
    WasApplied (a ∷ earlier) (whole_step rules r input).state.joined k (take k (whole_step rules r input).state.log) →
    new ≡ whole_applied_to rules (whole_step rules r input).state k →
    (moments : Moments rules config (record a { world = whole_moved a.world n new given } ∷ record a { world = whole_moved a.world n (whole_step rules r input).state given } ∷ a ∷ earlier))
    × Adds came moments (added_at n r input (whole_step rules r input).state given)
learns_after {S = S} {C = C} {O = O} rules config a earlier n r new input given k came stands runs may thin going passive low high was is =
    (learned (went_on came (node_takes n r input stands runs may (inl (refl, thin)))) learns, record { proposes = refl; takes = refl; takes_at = λ i. refl; gives = λ i. refl })
  where
    middle : Moment S C O
    middle = record a { world = whole_moved a.world n (whole_step rules r input).state given }

    learns : Learns rules (middle ∷ a ∷ earlier) middle (record a { world = whole_moved a.world n new given })
    learns = record {
      node = n;
      replica = (whole_step rules r input).state;
      stands = get_set a.world.nodes n r (whole_step rules r input).state stands;
      runs = going;
      passive = passive;
      places = k;
      more = low;
      within = high;
      earlier = was.earlier;
      was = there was.was;
      other = was.other;
      teacher = was.teacher;
      stood = was.stood;
      joined = was.joined;
      applied = was.applied;
      same = was.same;
      becomes = ap (λ (w : WholeWorld S C O). let v : Moment S C O = record a { world = w } in v)
          (ap (λ (x : WholeState S C). whole_moved a.world n x given) is
          ∙ sym (moved_twice a.world n (whole_step rules r input).state (whole_applied_to rules (whole_step rules r input).state k) given));
    }
