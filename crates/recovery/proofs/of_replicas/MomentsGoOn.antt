-- MomentsGoOn.antt: what comes in a way out continues the moments, so what was agreed begins what
-- is agreed after it.
use Rattle.std.proofs.Common.{◌≡◌, ℕ, ◌+◌, inl, List, [], ◌∷◌, ◌++◌, None, Option, refl, subst}
use Rattle.machine.specs.Machine.{Rules}
use Rattle.lists.specs.Lists.{IsPrefixOf}
use Rattle.lists.proofs.Prefixes.{prefix_then}
use Rattle.lists.proofs.Members.{in_at}
use Rattle.ballot_base.specs.declared.config.Config.{Config}
use Rattle.agreement.specs.whole_logs.Protocol.Input.{Receives}
use Rattle.agreement.specs.whole_logs.Messages.{Effect}
use Rattle.agreement.specs.whole_logs.Losses.{Thinned}
use Rattle.agreement.specs.whole_logs.Losses.Thinned.{none, keeps}
use Rattle.agreement.specs.MasterState.{AssignRefusal, master_after, refusal}
use Rattle.agreement.specs.Moments.{Moment, Moments, IsAgreed}
use Rattle.agreement.specs.Moments.Moments.{went_on}
use Rattle.agreement.specs.Steps.{MayHappen, world_after}
use Rattle.agreement.specs.Steps.MayHappen.{node_takes, master_assigns, master_hears}
use Rattle.agreement.proofs.Agreed.MomentsAgree.{has_agreed}
use Rattle.agreement.proofs.Agreed.MomentsGrow.{agreed_only_grows}
use Rattle.recovery.specs.replicas.Deliveries.{Delivered, assigned_moment}
use Rattle.recovery.specs.replicas.Deliveries.Delivered.{all_came, to_master, to_node}

-- nothing need be missing
thinned_same : {C O : Type 0} (xs : List (Effect C O)) → Thinned xs xs
thinned_same [] = none
thinned_same (x ∷ xs) = keeps (thinned_same xs)

-- moments continue to a moment
pub record Goes {S C O : Type 0} (rules : Rules S C O) (config : Config) (moments : List (Moment S C O)) (b : Moment S C O) : Type 0 where
  pub between : List (Moment S C O)
  pub came : Moments rules config (b ∷ (between ++ moments))
  pub grown : (xs ys : List C) → IsAgreed config moments xs → IsAgreed config (b ∷ (between ++ moments)) ys → IsPrefixOf xs ys

-- by one step
goes_one : {S C O : Type 0} (rules : Rules S C O) (config : Config) (moments : List (Moment S C O)) (b c : Moment S C O) → Goes rules config moments b →
    MayHappen rules b.master b.world c.master c.world → Goes rules config moments c
goes_one rules config moments b c g step =
    record {
      between = b ∷ g.between;
      came = went_on g.came step;
      grown = λ xs ys p q. let z = has_agreed rules config b (g.between ++ moments) g.came in
          prefix_then (g.grown xs z.0 p z.1) (agreed_only_grows config (b ∷ (g.between ++ moments)) c z.0 ys z.1 q);
    }

-- by the Assign
pub assign_goes : {S C O : Type 0} (rules : Rules S C O) (config : Config) (a : Moment S C O) (moments : List (Moment S C O)) (new : Config) →
    Moments rules config (a ∷ moments) → refusal a.master new ≡ None → Goes rules config (a ∷ moments) (assigned_moment new a)
assign_goes {S = S} {C = C} {O = O} rules config a moments new came granted =
    record {
      between = [];
      came = went_on came (subst (λ (o : Option AssignRefusal). MayHappen rules a.master a.world (master_after a.master new o) (world_after a.master a.world new o)) granted
          (master_assigns new));
      grown = λ xs ys p q. agreed_only_grows config (a ∷ moments) (assigned_moment new a) xs ys p q;
    }

-- by messages that come
pub deliveries_go : {S C O : Type 0} (rules : Rules S C O) (config : Config) (moments : List (Moment S C O)) {ballot : ℕ} {a b : Moment S C O} {ks : List ℕ} →
    Delivered rules ballot a ks b → Goes rules config moments a → Goes rules config moments b
deliveries_go rules config moments all_came g = g
deliveries_go rules config moments (to_node k n r m sent stands runs silent joined d) g =
    deliveries_go rules config moments d
    (goes_one rules config moments _ _ g (node_takes n r (Receives m) stands runs (in_at _ k (n + 1, m) sent) (inl (refl, thinned_same _))))
deliveries_go rules config moments (to_master k from ballot sent d) g =
    deliveries_go rules config moments d (goes_one rules config moments _ _ g (master_hears from ballot (in_at _ k _ sent)))
