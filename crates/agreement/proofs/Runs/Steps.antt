-- Steps.antt: a node's step as what it may add, and what a group is after a move of a node or of
-- its master.
use Rattle.std.proofs.Common.{[], inl, ◌≡◌, ℕ, ◌+◌, List, Some, Option, refl, ap, sym, ◌∙◌, subst}
use Rattle.std.specs.Prelude.{slice_get}
use Rattle.machine.specs.Machine.{Rules}
use Rattle.agreement.specs.whole_logs.Messages.{Body}
use Rattle.agreement.specs.whole_logs.Messages.Body.{NewBallot, Join, State, Install, Installed, Activate, Activated, Superseded, Append, Held, Commit}
use Rattle.agreement.specs.whole_logs.Protocol.{Input, received, replica_step}
use Rattle.agreement.specs.whole_logs.Protocol.Input.{Receives, Proposes, Ticks}
use Rattle.agreement.specs.whole_logs.Replica.{ReplicaState}
use Rattle.agreement.specs.World.{GroupWorld}
use Rattle.lists.specs.Lists.{In}
use Rattle.agreement.specs.Inside.Ballots.{Line, History}
use Rattle.agreement.specs.Inside.MomentSteps.{AddsBy}
use Rattle.agreement.specs.Steps.{MayTake, sends_from_master}
use Rattle.agreement.specs.Inside.Keeps.{HistoryGoesOn, NodeGoesOn, KeepsAdding}
use Rattle.agreement.specs.Inside.Keeps.LineAdds.{as_it_was}
use Rattle.agreement.specs.Inside.Own.{OwnLines}
use Rattle.agreement.specs.MasterState.{MasterState, MasterOutcome}
use Rattle.agreement.specs.Inside.Masters.{IsMaster}
use Rattle.agreement.specs.Inside.MovesAt.{with_lines}
use Rattle.agreement.specs.Replays.{IsReplay}
use Rattle.agreement.specs.Inside.Sound.{IsSoundWorld}
use Rattle.agreement.proofs.Serving.ActiveTicks.{keeps_tick_active}
use Rattle.agreement.proofs.Changing.Activating.{keeps_activated}
use Rattle.agreement.proofs.Frame.Adding.{adds_less}
use Rattle.agreement.proofs.Changing.Answering.{keeps_install}
use Rattle.agreement.proofs.Serving.Appending.{keeps_append}
use Rattle.agreement.proofs.Masters.Assigned.{Assigned}
use Rattle.agreement.proofs.Serving.Committing.{keeps_commit}
use Rattle.agreement.proofs.Serving.Holding.{keeps_held}
use Rattle.agreement.proofs.Changing.Installings.{keeps_installed}
use Rattle.agreement.proofs.Changing.Joins.{keeps_join}
use Rattle.agreement.proofs.Changing.NewBallots.{keeps_new_ballot}
use Rattle.agreement.proofs.Orders.OwnSteps.{OwnGoesOn}
use Rattle.agreement.proofs.Orders.Owning.{own_starts}
use Rattle.agreement.proofs.Serving.Proposing.{keeps_proposed}
use Rattle.agreement.proofs.Frame.Quiet.{keeps_nothing}
use Rattle.agreement.proofs.Changing.States.{keeps_state}
use Rattle.agreement.proofs.Changing.Superseding.{keeps_superseded}
use Rattle.agreement.proofs.Serving.Ticking.{keeps_tick}

-- a message that comes
keeps_received : {S C O : Type 0} (rules : Rules S C O) (w : GroupWorld S C O) (h : History C) (n : ℕ) (r : ReplicaState S C) (from : ℕ)
    (body : Body C) → IsSoundWorld rules w h → slice_get w.nodes n ≡ Some r → IsReplay rules r → In (n + 1, record { from = from; body = body }) w.sent →
    KeepsAdding rules w h n (λ b c. c ≡ rules.start_of b) (received rules r from body)
keeps_received rules w h n r from (NewBallot b members a old) s e ran i = adds_less rules w h n (λ b c. ⊥) (λ b c. c ≡ rules.start_of b) _ (λ b c z. absurd z) (keeps_new_ballot rules w h n r from b a members old s e i)
keeps_received rules w h n r from (Join b a) s e ran i = adds_less rules w h n (λ b c. ⊥) (λ b c. c ≡ rules.start_of b) _ (λ b c z. absurd z) (keeps_join rules w h n r from b a s e i)
keeps_received rules w h n r from (State b log) s e ran i = adds_less rules w h n (λ b c. ⊥) (λ b c. c ≡ rules.start_of b) _ (λ b c z. absurd z) (keeps_state rules w h n r from b log s e i)
keeps_received rules w h n r from (Install b log) s e ran i = adds_less rules w h n (λ b c. ⊥) (λ b c. c ≡ rules.start_of b) _ (λ b c z. absurd z) (keeps_install rules w h n r from b log s e i)
keeps_received rules w h n r from (Installed b held) s e ran i = adds_less rules w h n (λ b c. ⊥) (λ b c. c ≡ rules.start_of b) _ (λ b c z. absurd z) (keeps_installed rules w h n r from b held s e i)
keeps_received rules w h n r from (Activate b) s e ran i = adds_less rules w h n (λ b c. ⊥) (λ b c. c ≡ rules.start_of b) _ (λ b c z. absurd z) (keeps_nothing rules w h n r _ s e refl)
keeps_received rules w h n r from (Activated b) s e ran i = keeps_activated rules w h n r from b s e ran i
keeps_received rules w h n r from (Superseded b) s e ran i = adds_less rules w h n (λ b c. ⊥) (λ b c. c ≡ rules.start_of b) _ (λ b c z. absurd z) (keeps_superseded rules w h n r b s e)
keeps_received rules w h n r from (Append b place c) s e ran i = adds_less rules w h n (λ b c. ⊥) (λ b c. c ≡ rules.start_of b) _ (λ b c z. absurd z) (keeps_append rules w h n r from b place c s e i)
keeps_received rules w h n r from (Held b held) s e ran i = adds_less rules w h n (λ b c. ⊥) (λ b c. c ≡ rules.start_of b) _ (λ b c z. absurd z) (keeps_held rules w h n r from b held s e ran i)
keeps_received rules w h n r from (Commit b held) s e ran i = adds_less rules w h n (λ b c. ⊥) (λ b c. c ≡ rules.start_of b) _ (λ b c z. absurd z) (keeps_commit rules w h n r from b held s e i)

-- the step of a node
pub keeps_step : {S C O : Type 0} (rules : Rules S C O) (w : GroupWorld S C O) (h : History C) (n : ℕ) (r : ReplicaState S C) (input : Input C) →
    IsSoundWorld rules w h → slice_get w.nodes n ≡ Some r → IsReplay rules r → MayTake w n input → KeepsAdding rules w h n (AddsBy rules r input) (replica_step rules r input)
keeps_step rules w h n r (Receives message) s e ran i = keeps_received rules w h n r message.from message.body s e ran i
keeps_step rules w h n r (Proposes c) s e ran i = keeps_proposed rules w h n r c s e ran
keeps_step rules w h n r Ticks s e ran i =
    keeps_tick rules w h n r s e (λ a. keeps_tick_active rules w h n r s e a) r.role refl

-- a group continues soundly
pub record GroupGoesOn {S C O : Type 0} (rules : Rules S C O) (w : GroupWorld S C O) (h : History C) (m : MasterState) (v : GroupWorld S C O)
    (adds : List (ℕ × C)) : Type 0 where
  pub goes_on : HistoryGoesOn rules w h v
  pub master : IsMaster m goes_on.history
  -- and the order of proposals, of which it adds at most its own
  pub own : (rows : List (ℕ × C)) → OwnLines rules.start_of h rows → OwnGoesOn rules.start_of goes_on.history rows adds

-- the master's fields say nothing of lists
pub master_same : {C : Type 0} (m : MasterState) (h : History C) (line : ℕ → Option (Line C)) → IsMaster m h → IsMaster m (with_lines h line)
master_same m h line k =
    record { older = k.older; newest = k.newest; active_members = k.active_members; numbered = k.numbered; waits = k.waits }

-- after a move of a node
abbrev pub by_history : {S C O : Type 0} (rules : Rules S C O) (w v : GroupWorld S C O) (h : History C) (m : MasterState) (adds : ℕ → C → Type 0) (news : List (ℕ × C)) →
    IsMaster m h → (g : NodeGoesOn rules w h adds v) →
    ((rows : List (ℕ × C)) → OwnLines rules.start_of h rows → OwnGoesOn rules.start_of g.history rows news) → GroupGoesOn rules w h m v news
by_history {S = S} {C = C} rules w v h m adds news k g own =
    record {
      goes_on = record { history = g.history; extends = g.extends; active = g.active; sound = g.sound };
      master = subst (λ (i : History C). IsMaster m i) (sym g.ballots) (master_same m h g.history.line k);
      own = own;
    }

-- after a message of the master
abbrev pub by_master : {S C O : Type 0} (rules : Rules S C O) (w : GroupWorld S C O) (h : History C) (m : MasterState) (o : MasterOutcome C) →
    Assigned rules m w h o → GroupGoesOn rules w h o.state (sends_from_master w o) []
by_master {S = S} {C = C} rules w h m o a =
    record {
      goes_on = a.goes_on;
      master = a.master;
      own = λ rows s. record {
        later = rows;
        way = inl refl;
        own = own_starts rules.start_of (λ b c. ⊥) h a.goes_on.history rows (λ b c z. absurd z)
            (λ b l e. (l, ap (λ (f : ℕ → Option (Line C)). f b) a.lists ∙ e))
            (λ b k e. as_it_was (ap (λ (f : ℕ → Option (Line C)). f b) (sym a.lists) ∙ e)) s;
      };
    }

-- and if it is lost
abbrev pub by_lost : {S C O : Type 0} (rules : Rules S C O) (w : GroupWorld S C O) (h : History C) (m : MasterState) (o : MasterOutcome C) →
    Assigned rules m w h o → GroupGoesOn rules w h o.state w []
by_lost {S = S} {C = C} rules w h m o a =
    record {
      goes_on = a.lost;
      master = a.lost_master;
      own = λ rows s. record {
        later = rows;
        way = inl refl;
        own = own_starts rules.start_of (λ b c. ⊥) h a.lost.history rows (λ b c z. absurd z)
            (λ b l e. (l, ap (λ (f : ℕ → Option (Line C)). f b) a.lost_lists ∙ e))
            (λ b k e. as_it_was (ap (λ (f : ℕ → Option (Line C)). f b) (sym a.lost_lists) ∙ e)) s;
      };
    }
