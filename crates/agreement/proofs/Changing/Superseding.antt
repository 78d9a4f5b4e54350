-- Superseding.antt: a Superseded that comes to a new primary.
use Rattle.std.proofs.Common.{◌≡◌, ℕ, ◌⊎◌, inl, inr, true, false, List, [], Some, refl, sym, subst, arith}
use Rattle.std.specs.Prelude.{slice_get, ◌&&◌, ◌==◌}
use Rattle.std.proofs.lemmas.Bool.{cases_Bool}
use Rattle.machine.specs.Machine.{Rules}
use Rattle.agreement.specs.whole_logs.Messages.{Effect}
use Rattle.ballot_base.specs.declared.status.Role.TheVariants.{Backup}
use Rattle.agreement.specs.whole_logs.Replica.{ReplicaState}
use Rattle.ballot_base.specs.Replica.{is_installing}
use Rattle.agreement.specs.whole_logs.StepOutcome.{Outcome}
use Rattle.agreement.specs.whole_logs.Activation.{on_superseded}
use Rattle.agreement.specs.World.{GroupWorld, moved}
use Rattle.agreement.specs.Inside.Ballots.{History}
use Rattle.agreement.specs.Inside.BallotsStand.{Applied}
use Rattle.agreement.specs.Inside.BallotsStand.Applied.{nothing, in_ballot}
use Rattle.agreement.specs.Inside.Keeps.{KeepsSoundness}
use Rattle.agreement.specs.Inside.Sound.{IsSoundWorld}
use Rattle.agreement.specs.Inside.SoundNodes.{IsSoundNode}
use Rattle.agreement.proofs.Frame.Joining.{MovesQuietly}
use Rattle.agreement.proofs.Frame.Quiet.{before_quiet, quiet_keeps, keeps_nothing}
use Rattle.agreement.proofs.of_whole_logs.ChangeRows.{on_superseded-stays, on_superseded-leaves}

-- a Superseded that comes; nothing that it says is needed
pub keeps_superseded : {S C O : Type 0} (rules : Rules S C O) (w : GroupWorld S C O) (h : History C) (n : ℕ) (r : ReplicaState S C) (b : ℕ) →
    IsSoundWorld rules w h → slice_get w.nodes n ≡ Some r → KeepsSoundness rules w h n (on_superseded O r b)
keeps_superseded {S = S} {C = C} {O = O} rules w h n r b s stands = by_role (cases_Bool (r.joined == b && is_installing r.role))
  where
    new : ReplicaState S C
    new = record r { role = Backup }

    node : (given : List (Effect C O)) → MovesQuietly w n r new given → IsSoundNode (moved w n new given) h n new
    node given q = let t = before_quiet rules w h n r new given s q in record {
      id = t.id;
      placed = record { order = t.placed.order; between = t.placed.between; told = t.placed.told; acknowledged_here = t.placed.acknowledged_here };
      empty = t.empty;
      member = t.member;
      primary_log = t.primary_log;
      joined_by = t.joined_by;
      within = t.within;
      applied = by_applied t.applied;
      fetching = λ e. cc;
      installing = λ e. cc;
      active = λ e. cc;
    }
      where
        by_applied : Applied (moved w n new given) h r → Applied (moved w n new given) h new
        by_applied (nothing e) = nothing e
        by_applied (in_ballot c k l i up e chosen front) = in_ballot c k l i up e chosen front

    by_role : ((r.joined == b && is_installing r.role) ≡ true) ⊎ ((r.joined == b && is_installing r.role) ≡ false) →
        KeepsSoundness rules w h n (on_superseded O r b)
    by_role (inl e) =
        subst (λ (o : Outcome S C O). KeepsSoundness rules w h n o) (sym (on_superseded-leaves O r b e))
        (quiet_keeps rules w h n r (record { state = new; effects = [] }) s stands (omega arith) (omega arith) (λ to m i. elim i [ ]) refl
        (λ given q. node given q) (λ given q to m i. elim i [ ]))
    by_role (inr e) = keeps_nothing rules w h n r _ s stands (on_superseded-stays O r b e)
