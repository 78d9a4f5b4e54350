-- Nodes are led out by an Assign and the messages of a way out.
use Rattle.std.proofs.Common.{◌≡◌, inr, ◌<◌, ℕ, ◌+◌, ◌-◌, List, [], ◌∷◌, ◌++◌, length, Some, refl, sym, ap, ◌∙◌, subst}
use Rattle.std.specs.Prelude.{slice_get}
use Rattle.ballot_base.specs.declared.config.Config.{Config}
use Rattle.ballot_base.specs.declared.message.Message.{Message}
use Rattle.broker_spec.specs.declared.command.Command.{Command}
use Rattle.broker_spec.specs.declared.command.Output.{Output}
use Rattle.broker_base.specs.State.{State}
use Rattle.headline.specs.node_group.Group.{replica_of}
use Rattle.agreement.specs.MasterState.{MasterState, assigning}
use Rattle.agreement.specs.cut_logs.Masters.{assigned}
use Rattle.agreement.specs.cut_logs.Moments.{Moment, Moments, whole_moment}
use Rattle.agreement.specs.cut_logs.Whole.{whole}
use Rattle.world_base.specs.node_core.Core.{CountedCore, rules}
use Rattle.agreement.proofs.of_cut_logs.MomentsKept.{StandsFor, moments_stand}
use Rattle.agreement.proofs.of_cut_logs.Views.{get_whole}
use Rattle.world_nodes.specs.ExactSteps.{after_giving}
use Rattle.world_nodes.specs.Nodes.{NodesState}
use Rattle.recovery.specs.replicas.Deliveries.{recovery_messages}
use Rattle.recovery.specs.replicas.Theorems.{CanBeLed, StartsGiveNothing}
use Rattle.recovery.proofs.of_replicas.Premises.{joined_below}
use Rattle.recovery.specs.replicas.CutDeliveries.{assigned_moment}
use Rattle.recovery.specs.replicas.CutTheorems.{LeadsOut}
use Rattle.recovery.proofs.of_replicas.CutGroupsLed.{cut_groups_have_recoveries}
use Rattle.world_nodes.specs.recoveries.Deliveries.{AreCalm, Come, IsSeen}
use Rattle.world_nodes.specs.recoveries.Led.{AreLedOut, NodesAreLedOut}
use Rattle.world_nodes.proofs.of_recoveries.NodesFollow.{deliveries_are_followed, replica_at}

-- the broker gives nothing at the start of a ballot
starts_give_nothing : StartsGiveNothing rules
starts_give_nothing s b = refl

pub assigned_seen : (a : Moment State Command Output) (n : NodesState) (new : Config) → IsSeen a n → IsSeen (assigned_moment new a) (after_giving new n)
assigned_seen a n new s =
    record {
      master = ap (λ (m : MasterState). assigning m new) s.master;
      nodes = s.nodes;
      sent = ap (λ (l : List (ℕ × Message Command)). l ++ ((assigned Command a.master new).receiver, record { from = 0; body = (assigned Command a.master new).body }) ∷ []) s.sent
          ∙ ap (λ (m : MasterState). n.sent ++ ((assigned Command m new).receiver, record { from = 0; body = (assigned Command m new).body }) ∷ []) s.master;
      archive = s.archive;
    }

-- no node has joined a ballot that is given next
pub low_before : (config : Config) (a : Moment State Command Output) (moments : List (Moment State Command Output)) → Moments rules config (a ∷ moments) → (n : NodesState) → IsSeen a n →
    (at : ℕ) (node : CountedCore) → slice_get n.nodes at ≡ Some node → node.core.replica.state.joined < a.master.given + 1
low_before config a moments came n s at node there =
    joined_below rules config (whole_moment a) stands.earlier stands.kept.came at (whole a.world.archive (replica_of node.core))
    (get_whole (whole a.world.archive) a.world.nodes at (replica_of node.core) (replica_at a n s at node there))
  where
    stands : StandsFor rules config a moments
    stands = moments_stand rules config a moments came

-- and there is a way out
pub recovery_of : (config : Config) (a : Moment State Command Output) (moments : List (Moment State Command Output)) → Moments rules config (a ∷ moments) → (new : Config) (index source : ℕ)
    (log : List Command) → CanBeLed (whole_moment a) new index source log → LeadsOut rules config (a ∷ moments) a new index log
recovery_of config a moments came new index source log can = cut_groups_have_recoveries rules starts_give_nothing config a moments came new index source log can

pub nodes_are_led_out : NodesAreLedOut
nodes_are_led_out config a moments came new index source log can n end s comes = by (recovery_of config a moments came new index source log can)
  where
    fresh : AreCalm (a.master.given + 1) (after_giving new n)
    fresh at node there = inr (low_before config a moments came n s at node there)

    same : recovery_messages (length n.sent) (length n.master.members) index (length new.members - 1)
        ≡ recovery_messages (length a.world.sent) (length a.master.members) index (length new.members - 1)
    same = ap (λ (l : List (ℕ × Message Command)). recovery_messages (length l) (length n.master.members) index (length new.members - 1)) (sym s.sent)
        ∙ ap (λ (m : MasterState). recovery_messages (length a.world.sent) (length m.members) index (length new.members - 1)) (sym s.master)

    by : LeadsOut rules config (a ∷ moments) a new index log → AreLedOut config (a ∷ moments) a new index log n end
    by way =
        let z = deliveries_are_followed (a.master.given + 1) (assigned_moment new a) way.last _ way.delivered (after_giving new n) end
        (subst (λ ks. Come (after_giving new n) ks end) same comes) (assigned_seen a n new s) fresh in
        record { way = way; seen = z.seen; calm = z.calm; names = z.names }
