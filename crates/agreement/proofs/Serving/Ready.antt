-- Ready.antt: a primary whose log or progress has changed, and that has not committed yet.
use Rattle.std.proofs.Common.{◌≡◌, ℕ, ◌+◌, ◌≤◌, List, length, Some, Option, ap, arith}
use Rattle.machine.specs.Machine.{Rules}
use Rattle.agreement.specs.whole_logs.Messages.{Message, Effect}
use Rattle.ballot_base.specs.declared.status.Progress.{Progress}
use Rattle.ballot_base.specs.declared.status.Role.TheVariants.{Active}
use Rattle.agreement.specs.whole_logs.Replica.{ReplicaState}
use Rattle.agreement.specs.whole_logs.Application.{applied_to}
use Rattle.agreement.specs.World.{GroupWorld, messages, moved}
use Rattle.lists.specs.Lists.{In}
use Rattle.agreement.specs.Inside.Ballots.{Line, History}
use Rattle.agreement.specs.Inside.BallotsStand.Applied.{in_ballot}
use Rattle.agreement.specs.Inside.Keeps.{LineAdds}
use Rattle.agreement.specs.Inside.MovesAt.{MovesAt, with_lines}
use Rattle.agreement.specs.Inside.SoundNodes.{IsSoundNode}
use Rattle.agreement.proofs.Serving.ActiveTicks.{active_chosen, active_log}
use Rattle.agreement.proofs.Frame.Joining.{IsSilent}
use Rattle.agreement.proofs.Frame.Later.{takes}
use Rattle.agreement.proofs.Frame.EqualLists.{prefix_of_same}

-- a primary whose log and progress have changed, and that has not committed yet
pub record Ready {S C O : Type 0} (rules : Rules S C O) (w : GroupWorld S C O) (h : History C) (line : ℕ → Option (Line C)) (n : ℕ) (old r : ReplicaState S C)
    (adds : ℕ → C → Type 0) : Type 0 where
  pub role : r.role ≡ Active
  pub after : old.committed ≤ r.committed
  pub added : (b : ℕ) (k : Line C) → line b ≡ Some k → LineAdds adds h b k
  pub moves : (k : ℕ) (t : S) → r.committed ≤ k → (given : List (Effect C O)) →
      ((to : ℕ) (m : Message C) → In (to, m) (messages given) → (m.from ≡ n + 1) × IsSilent m.body) →
      MovesAt w h line n old (record r { committed = k; machine = t }) given
  pub node : (k : ℕ) (t : S) (given : List (Effect C O)) → MovesAt w h line n old (record r { committed = k; machine = t }) given →
      IsSoundNode (moved w n (record r { committed = k; machine = t }) given) (with_lines h line) n r

-- a primary that has committed is as it should be
pub committed_node : {S C O : Type 0} (rules : Rules S C O) (v : GroupWorld S C O) (i : History C) (n : ℕ) (r : ReplicaState S C) → IsSoundNode v i n r → r.role ≡ Active →
    (k : ℕ) → r.committed ≤ k → k ≤ length r.log → ((reached : Progress) → In reached r.progress → k ≤ reached.held) →
    IsSoundNode v i n (applied_to rules r k)
committed_node {S = S} {C = C} rules v i n r t role k up within followed =
    let a = t.active role in
    let same = active_log v i n r t a in
    record {
      id = t.id;
      placed = record { order = t.placed.order; between = t.placed.between; told = t.placed.told; acknowledged_here = t.placed.acknowledged_here };
      empty = t.empty;
      member = t.member;
      primary_log = t.primary_log;
      joined_by = t.joined_by;
      within = within;
      applied = in_ballot r.joined k a.line a.activated (omega arith) a.lined
          (active_chosen v i n r a k (let e = ap length same in omega (arith, e, within)) followed)
          (takes k (prefix_of_same r.log a.line.list same));
      fetching = λ e. cc;
      installing = λ e. cc;
      active = λ e. record {
        leads = a.leads;
        own = a.own;
        activated = a.activated;
        line = a.line;
        lined = a.lined;
        begun = a.begun;
        above = (let low = a.above in omega (arith, low, up));
        covered = a.covered;
        followed = λ reached j. let z = a.followed reached j in (z.0, z.1, followed reached j, z.3);
        others = a.others;
      };
    }
