-- RunsGoOn.antt: every run of a sound group keeps it sound: its history continues, its machines are
-- replays, its ballots begin with their starts.
use Rattle.std.proofs.Common.{List, ◌≡◌, ◌⊎◌, ℕ, inl, subst, [], Option, refl, ap, sym, ◌∙◌}
use Rattle.machine.specs.Machine.{Rules}
use Rattle.ballot_base.specs.declared.config.Config.{Config}
use Rattle.agreement.specs.whole_logs.Losses.Thinned.{none}
use Rattle.agreement.specs.whole_logs.Protocol.Input.{Ticks}
use Rattle.agreement.specs.whole_logs.Protocol.{replica_step}
use Rattle.lists.specs.Lists.{In}
use Rattle.agreement.specs.Proposals.{proposal_by}
use Rattle.agreement.specs.World.{GroupWorld}
use Rattle.agreement.specs.Inside.Ballots.{Line, History, Acknowledged, TellsHere}
use Rattle.agreement.specs.Inside.Begun.{AreBegun, BeginsOrFollows, AreLong}
use Rattle.agreement.specs.Inside.MomentSteps.{adds_of, AddsBy, MomentStep}
use Rattle.agreement.specs.Inside.MomentSteps.MomentStep.{takes, stops, assigns, hears, assigns_unheard, hears_unanswered}
use Rattle.agreement.specs.Inside.Keeps.{NodeGoesOn, LineAdds}
use Rattle.agreement.specs.Inside.Keeps.LineAdds.{as_it_was, begins_after, adds_one}
use Rattle.agreement.specs.MasterState.{MasterState}
use Rattle.agreement.specs.Inside.Masters.{IsMaster}
use Rattle.agreement.specs.Inside.OpeningHistory.{opening_history}
use Rattle.agreement.specs.Replays.{AreReplays}
use Rattle.agreement.specs.Inside.Sound.{IsSoundWorld}
use Rattle.agreement.proofs.Masters.Assigned.{GivenNow, ActivatedNow}
use Rattle.agreement.proofs.Masters.Assigning.{assign_goes_on}
use Rattle.agreement.proofs.Starts.Begins.{begun_lines, keeps_begun}
use Rattle.agreement.proofs.Starts.LongActive.{long_moved, long_same, loses_begins}
use Rattle.agreement.proofs.Frame.Losing.{lossy_goes_on}
use Rattle.agreement.proofs.Masters.MasterActivates.{activate_goes_on}
use Rattle.agreement.proofs.Runs.OpeningTold.{first_lined}
use Rattle.agreement.proofs.Orders.OwnSteps.{own_goes_on}
use Rattle.agreement.proofs.Frame.Quiet.{keeps_halted}
use Rattle.agreement.proofs.Machines.ReplaysKept.{replays_moved, step_replays}
use Rattle.agreement.proofs.Runs.Steps.{GroupGoesOn, by_history, by_master, by_lost}

-- a group continues soundly, its machines are replays, and its ballots still begin with their
-- starts
pub record RunGoesOn {S C O : Type 0} (rules : Rules S C O) (w : GroupWorld S C O) (h : History C) (m : MasterState) (v : GroupWorld S C O)
    (adds : List (ℕ × C)) : Type 0 where
  pub group : GroupGoesOn rules w h m v adds
  pub long : AreLong v group.goes_on.history
  pub replays : AreReplays rules v
  pub begun : AreBegun rules.start_of h → AreBegun rules.start_of group.goes_on.history

-- one step, with what is newly acknowledged, given and activated in it
pub record StepGoesOn {S C O : Type 0} (rules : Rules S C O) (w : GroupWorld S C O) (h : History C) (m : MasterState) (v : GroupWorld S C O)
    (adds : List (ℕ × C)) : Type 0 where
  pub run : RunGoesOn rules w h m v adds
  pub tells : (x b k : ℕ) → Acknowledged v run.group.goes_on.history x b k → Acknowledged w h x b k ⊎ TellsHere v x b k
  pub gives : GivenNow h m run.group.goes_on.history
  pub activates : ActivatedNow h m run.group.goes_on.history

-- a list takes what it may, and begins or follows; so it takes what it may
may_add : {C : Type 0} (adds more : ℕ → C → Type 0) (h : History C) (b : ℕ) (k : Line C) → LineAdds (λ x c. adds x c × more x c) h b k →
    LineAdds adds h b k
may_add adds more h b k (as_it_was e) = as_it_was e
may_add adds more h b k (begins_after g p e unlined before front) = begins_after g p e unlined before front
may_add adds more h b k (adds_one l c e same a) = adds_one l c e same a.0

-- after a move of a node that adds so
abbrev node_may : {S C O : Type 0} (rules : Rules S C O) (w v : GroupWorld S C O) (h : History C) (adds more : ℕ → C → Type 0) →
    NodeGoesOn rules w h (λ x c. adds x c × more x c) v → NodeGoesOn rules w h adds v
node_may rules w v h adds more g =
    record {
      history = g.history;
      extends = g.extends;
      active = g.active;
      sound = g.sound;
      ballots = g.ballots;
      added = λ b k e. may_add adds more h b k (g.added b k e);
      tells = g.tells;
    }

-- the master changes no list
begun_same : {C : Type 0} (start_of : ℕ → C) (h i : History C) → i.line ≡ h.line → AreBegun start_of h → AreBegun start_of i
begun_same {C = C} start_of h i e begun b k f = begun b k (ap (λ (g : ℕ → Option (Line C)). g b) (sym e) ∙ f)

-- whatever happens
pub group_goes_on : {S C O : Type 0} (rules : Rules S C O) (m k : MasterState) (w v : GroupWorld S C O) (h : History C) →
    IsSoundWorld rules w h → AreLong w h → AreReplays rules w → IsMaster m h → (step : MomentStep rules m w k v) → StepGoesOn rules w h k v (adds_of step)
group_goes_on {C = C} rules m k w v h s long all master (takes n r input {new = new} {given = given} stands runs may loses) =
    let g = lossy_goes_on rules w h n r (λ b c. AddsBy rules r input b c × BeginsOrFollows rules.start_of h b c) (replica_step rules r input) _ _ s stands
    (keeps_begun rules w h n r input s long stands (all n r stands runs) may) loses in
    let x = node_may rules w _ h (AddsBy rules r input) (BeginsOrFollows rules.start_of h) g in
    record {
      run = record {
        group = by_history rules w _ h m _ (proposal_by r input) master x (λ rows own. own_goes_on rules w _ h r input rows x own);
        long = long_moved rules w _ h _ n r new given s stands g long refl (loses_begins rules r input _ _ loses);
        replays = step_replays rules w h n r input new given _ s g stands runs all loses;
        begun = λ begun. begun_lines rules w _ h _ (λ b c a. a.1) s g begun;
      };
      tells = g.tells;
      gives = λ b o e. inl (sym (ap (λ (y : History C). y.given b) g.ballots) ∙ e);
      activates = λ b j. inl (subst (λ bs. In b bs) (ap (λ (y : History C). y.activated) g.ballots) j);
    }
group_goes_on {C = C} rules m k w v h s long all master (stops n r stands) =
    let g = keeps_halted rules w h n r s stands [] none in
    record {
      run = record {
        group = by_history rules w _ h m _ [] master g (λ rows own. own_goes_on rules w _ h r Ticks rows g own);
        long = long_moved rules w _ h _ n r _ [] s stands g long refl (inl (λ f. (f, refl)));
        replays = replays_moved rules w n r _ [] stands all (λ going. cc);
        begun = λ begun. begun_lines rules w _ h _ (λ b c a. absurd a) s g begun;
      };
      tells = g.tells;
      gives = λ b o e. inl (sym (ap (λ (y : History C). y.given b) g.ballots) ∙ e);
      activates = λ b j. inl (subst (λ bs. In b bs) (ap (λ (y : History C). y.activated) g.ballots) j);
    }
group_goes_on rules m k w v h s long all master (assigns config member) =
    let a = assign_goes_on rules m w h config s master member in
    record {
      run = record { group = by_master rules w h m _ a; long = long_same w h a.goes_on.history a.lists long; replays = all; begun = λ begun. begun_same rules.start_of h a.goes_on.history a.lists begun };
      tells = λ x c j t. inl (a.told x c j t);
      gives = a.gives;
      activates = a.activates;
    }
group_goes_on rules m k w v h s long all master (hears from b sent) =
    let a = activate_goes_on rules m w h b from s master sent m.waiting refl in
    record {
      run = record { group = by_master rules w h m _ a; long = long_same w h a.goes_on.history a.lists long; replays = all; begun = λ begun. begun_same rules.start_of h a.goes_on.history a.lists begun };
      tells = λ x c j t. inl (a.told x c j t);
      gives = a.gives;
      activates = a.activates;
    }
group_goes_on rules m k w v h s long all master (assigns_unheard config member) =
    let a = assign_goes_on rules m w h config s master member in
    record {
      run = record { group = by_lost rules w h m _ a; long = long_same w h a.lost.history a.lost_lists long; replays = all; begun = λ begun. begun_same rules.start_of h a.lost.history a.lost_lists begun };
      tells = λ x c j t. inl (a.lost_told x c j t);
      gives = a.lost_gives;
      activates = a.lost_activates;
    }
group_goes_on rules m k w v h s long all master (hears_unanswered from b sent) =
    let a = activate_goes_on rules m w h b from s master sent m.waiting refl in
    record {
      run = record { group = by_lost rules w h m _ a; long = long_same w h a.lost.history a.lost_lists long; replays = all; begun = λ begun. begun_same rules.start_of h a.lost.history a.lost_lists begun };
      tells = λ x c j t. inl (a.lost_told x c j t);
      gives = a.lost_gives;
      activates = a.lost_activates;
    }

-- a group opens so
pub opening_begun : {C : Type 0} (start_of : ℕ → C) (config : Config) → AreBegun start_of (opening_history C config)
opening_begun {C = C} start_of config b l e = inl (first_lined C config b l e).0
