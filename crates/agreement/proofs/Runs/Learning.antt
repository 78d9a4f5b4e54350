-- Learning.antt: a node that learns places which were applied at an earlier moment keeps all that
-- holds for a group.
use Rattle.std.proofs.Common.{inl, ◌≡◌, ℕ, ◌≤◌, false, List, [], length, take, Some, refl, ap, sym, ◌∙◌, subst, arith}
use Rattle.std.specs.Prelude.{slice_get}
use Rattle.std.proofs.lemmas.List.{length-set, take-take}
use Rattle.machine.specs.Machine.{Rules}
use Rattle.agreement.specs.whole_logs.Application.{applied_to}
use Rattle.agreement.specs.whole_logs.Messages.{Effect}
use Rattle.agreement.specs.whole_logs.Losses.Thinned.{none}
use Rattle.agreement.specs.whole_logs.Protocol.Input.{Ticks}
use Rattle.agreement.specs.whole_logs.Replica.{ReplicaState}
use Rattle.ballot_base.specs.Replica.{is_active}
use Rattle.ballot_base.specs.declared.status.Role.TheVariants.{Active}
use Rattle.ballot_base.proofs.AppliesInOrder.{replay_goes_on}
use Rattle.lists.specs.Lists.{In, IsPrefixOf}
use Rattle.lists.proofs.Prefixes.{prefix_take, prefix_then}
use Rattle.agreement.specs.Inside.Ballots.{History}
use Rattle.agreement.specs.Inside.BallotsStand.{Applied}
use Rattle.agreement.specs.Inside.BallotsStand.Applied.{nothing, in_ballot}
use Rattle.agreement.specs.Inside.Keeps.{KeepsSoundness}
use Rattle.agreement.specs.Inside.Serves.{IsLedByNode, Serves}
use Rattle.agreement.specs.Inside.Sound.{IsSoundWorld}
use Rattle.agreement.specs.Inside.SoundNodes.{IsSoundNode}
use Rattle.agreement.specs.MasterState.{MasterState}
use Rattle.agreement.specs.World.{GroupWorld, moved}
use Rattle.agreement.proofs.Frame.Joining.{MovesQuietly, quiet_extends}
use Rattle.agreement.proofs.Frame.Later.{chosen_kept}
use Rattle.agreement.proofs.Frame.Quiet.{before_quiet, quiet_keeps}
use Rattle.agreement.proofs.Machines.ReplaysKept.{replays_moved}
use Rattle.agreement.proofs.Orders.OwnSteps.{own_goes_on}
use Rattle.agreement.proofs.Runs.RunsGoOn.{StepGoesOn}
use Rattle.agreement.proofs.Runs.SendersStay.{moved_senders}
use Rattle.agreement.proofs.Runs.Steps.{by_history}
use Rattle.agreement.proofs.Starts.Begins.{begun_lines}
use Rattle.agreement.proofs.Starts.LongActive.{long_moved}

-- whom a node learns from: it applied these places, which it has, too, and had joined no higher ballot
pub record Teaches {S C O : Type 0} (w : GroupWorld S C O) (h : History C) (r t : ReplicaState S C) (k : ℕ) : Type 0 where
  pub applied : Applied w h t
  pub joined : t.joined ≤ r.joined
  pub had : k ≤ t.committed
  pub same : take k t.log ≡ take k r.log

-- then these places are chosen in a ballot that is not above the one that the node joined
pub learned_applied : {S C O : Type 0} (rules : Rules S C O) (w : GroupWorld S C O) (h : History C) (r t : ReplicaState S C) (k : ℕ) →
    Teaches w h r t k → Applied w h (applied_to rules r k)
learned_applied {S = S} {C = C} {O = O} rules w h r t k y = by_way y.applied
  where
    by_way : Applied w h t → Applied w h (applied_to rules r k)
    by_way (nothing e) = nothing (let a = y.had in omega (arith, a, e))
    by_way (in_ballot c j l i up e chosen front) =
        in_ballot c j l i (let a = y.joined in omega (arith, a, up)) e chosen
        (subst (λ (us : List C). IsPrefixOf us (take j l.list)) (take-take k t.committed t.log y.had ∙ y.same)
        (prefix_then (prefix_take k (take t.committed t.log)) front))

-- a node that learns
pub keeps_learned : {S C O : Type 0} (rules : Rules S C O) (w : GroupWorld S C O) (h : History C) (n : ℕ) (r t : ReplicaState S C) (k : ℕ) →
    IsSoundWorld rules w h → slice_get w.nodes n ≡ Some r → is_active r.role ≡ false → r.committed ≤ k → k ≤ length r.log → Teaches w h r t k →
    KeepsSoundness rules w h n (record { state = applied_to rules r k; effects = [] })
keeps_learned {S = S} {C = C} {O = O} rules w h n r t k s stands passive up within y =
    quiet_keeps rules w h n r (record { state = new; effects = [] }) s stands (omega arith) up (λ to m i. elim i [ ]) refl
    (λ given q. node given q) (λ given q to m i. elim i [ ])
  where
    new : ReplicaState S C
    new = applied_to rules r k

    idle : r.role ≡ Active → ⊥
    idle e = let z = ap is_active e in cc

    node : (given : List (Effect C O)) → MovesQuietly w n r new given → IsSoundNode (moved w n new given) h n new
    node given q = let u = before_quiet rules w h n r new given s q in record {
      id = u.id;
      placed = record { order = u.placed.order; between = u.placed.between; told = u.placed.told; acknowledged_here = u.placed.acknowledged_here };
      empty = u.empty;
      member = u.member;
      primary_log = u.primary_log;
      joined_by = u.joined_by;
      within = within;
      applied = by_way (learned_applied rules w h r t k y);
      fetching = u.fetching;
      installing = λ e. let j = u.installing e in record {
        leads = j.leads;
        later = j.later;
        own = j.own;
        line = j.line;
        lined = j.lined;
        base = j.base;
        noted = j.noted;
        lacks = j.lacks;
      };
      active = λ e. absurd (idle e);
    }
      where
        by_way : Applied w h new → Applied (moved w n new given) h new
        by_way (nothing e) = nothing e
        by_way (in_ballot c j l i low e chosen front) =
            in_ballot c j l i low e (chosen_kept w (moved w n new given) h h c j (quiet_extends w h n r new given q) chosen) front

-- so the group continues
pub learned_goes_on : {S C O : Type 0} (rules : Rules S C O) (m : MasterState) (w : GroupWorld S C O) (h : History C) (n : ℕ) (r t : ReplicaState S C) (k : ℕ) →
    Serves rules m w h → slice_get w.nodes n ≡ Some r → r.stopped ≡ false → is_active r.role ≡ false → r.committed ≤ k → k ≤ length r.log →
    Teaches w h r t k → StepGoesOn rules w h m (moved w n (applied_to rules r k) []) []
learned_goes_on {S = S} {C = C} {O = O} rules m w h n r t k v stands runs passive up within y =
    let s = v.sound in
    let g = keeps_learned rules w h n r t k s stands passive up within y [] none in
    record {
      run = record {
        group = by_history rules w _ h m _ [] v.master g (λ rows own. own_goes_on rules w _ h r Ticks rows g own);
        long = long_moved rules w _ h _ n r _ [] s stands g v.long refl (inl (λ f. (f, refl)));
        replays = replays_moved rules w n r _ [] stands v.replays
            (λ going. replay_goes_on rules r.machine r.log r.committed k up (v.replays n r stands runs));
        begun = λ begun. begun_lines rules w _ h _ (λ b c a. absurd a) s g begun;
      };
      tells = g.tells;
      gives = λ b o e. inl (sym (ap (λ (y : History C). y.given b) g.ballots) ∙ e);
      activates = λ b j. inl (subst (λ bs. In b bs) (ap (λ (y : History C). y.activated) g.ballots) j);
    }

-- and serves as before
pub learned_serves : {S C O : Type 0} (rules : Rules S C O) (m : MasterState) (w : GroupWorld S C O) (h : History C) (n : ℕ) (r : ReplicaState S C) (k : ℕ) →
    Serves rules m w h → slice_get w.nodes n ≡ Some r → (x : StepGoesOn rules w h m (moved w n (applied_to rules r k) []) []) →
    Serves rules m (moved w n (applied_to rules r k) []) x.run.group.goes_on.history
learned_serves {S = S} {C = C} {O = O} rules m w h n r k s stands x =
    record {
      sound = x.run.group.goes_on.sound;
      master = x.run.group.master;
      replays = x.run.replays;
      serving = s.serving;
      senders = moved_senders rules w h n r (applied_to rules r k) [] s.sound stands (λ to y i. elim i [ ]) s.senders;
      led = subst (λ j. IsLedByNode j x.run.group.goes_on.history m.active) (sym (length-set w.nodes n (applied_to rules r k)))
          (s.led.0, x.run.group.goes_on.extends.given m.active s.led.0 s.led.1, s.led.2);
      begun = x.run.begun s.begun;
      long = x.run.long;
    }
