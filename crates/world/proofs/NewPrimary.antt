-- In a world that was led to the next ballot: its primary can open a connection, and the others follow.
use Rattle.std.proofs.Common.{◌≡◌, ◌<◌, ◌≤◌, ◌+◌, ◌^◌, ◌&&◌, ◌==◌, ℕ, suc, true, List, [], ◌∷◌, Some, length, slice_get, sym, ap, ◌∙◌, subst, arith}
use Rattle.std.specs.Prelude.{nat_le}
use Rattle.std.specs.List.{list_any}
use Rattle.std.proofs.lemmas.Bool.{and_parts}
use Rattle.agreement.specs.MasterState.{MasterState}
use Rattle.machine.specs.Ballots.{max_ballot}
use Rattle.agreement.specs.whole_logs.Replica.{ReplicaState as WholeState}
use Rattle.ballot_base.specs.declared.config.Config.{Config}
use Rattle.ballot_base.specs.LawfulConfig.{are_rising, is_lawful}
use Rattle.ballot_base.specs.Replica.{ReplicaState, others}
use Rattle.broker_spec.specs.declared.command.Command.{Command}
use Rattle.broker_spec.specs.Connection.{ConnectionName}
use Rattle.broker_spec.specs.declared.command.Output.{Output}
use Rattle.broker_spec.specs.Place.{Client}
use Rattle.broker_base.specs.State.{State}
use Rattle.world_nodes.specs.recoveries.Answered.{begun_log}
use Rattle.world_nodes.specs.recoveries.Opened.{CanOpen}
use Rattle.recovery.specs.replicas.Deliveries.{NumbersAreApart, NodeIs}
use Rattle.recovery.specs.replicas.LedStates.{Follows, LeadsWhole}
use Rattle.world_nodes.proofs.of_recoveries.LedOut.{low_before}
use Rattle.recovery.proofs.of_replicas.RisingMembers.{rising_apart}
use Rattle.recovery.proofs.of_replicas.Rows.{others_first}
use Rattle.headline.specs.node_group.Group.{moment_of_nodes, replica_of}
use Rattle.agreement.specs.cut_logs.Moments.{Moment, Moments, whole_moment}
use Rattle.agreement.specs.cut_logs.Whole.{whole}
use Rattle.headline.specs.byte_world.World.{ByteWorld}
use Rattle.headline.specs.byte_world.Steps.{Reached}
use Rattle.headline.proofs.of_node_group.Placed.{get_mapped}
use Rattle.headline.proofs.of_byte_world.NodesHoused.{nodes_are_orderly}
use Rattle.lists.specs.Lists.{In}
use Rattle.lists.specs.Lists.In.{here}
use Rattle.world_base.specs.node_core.Core.{CoreState, CountedCore, rules}
use Rattle.world_nodes.specs.RecoveryChecks.{whole_log_of}
use Rattle.world_nodes.specs.Nodes.{cores_of}
use Rattle.world_nodes.specs.RunningNodes.{is_running}
use Rattle.world_pipes.specs.declared.events.event.Event.{Event}
use Rattle.world.specs.Recovery.{CanEscape}
use Rattle.world.specs.Found.{port_at_node}
use Rattle.world.specs.StandsFor.{ModelStepsTo, WorldStandsFor}
use Rattle.world.specs.World.{WorldState}
use Rattle.world.proofs.CanLead.{each_passes, runs_here, seen_as}
use Rattle.world.proofs.Joined.{reached_on}
use Rattle.world.proofs.LedWorld.{LedTo}
use Rattle.world.proofs.OpensAgain.{new_name, new_port}
use Rattle.world_pipes.proofs.of_clients.Turned.{mapped_from}

-- The primary of a ballot that was led to its start can open a connection in this world, under the next number; these others follow
-- it, each another node.
pub record IsNewPrimary (b : Moment State Command Output) (ballot : ℕ) (log : List Command) (first : ℕ) (os : List ℕ) (w : WorldState) : Type 0 where
  pub index : ℕ
  pub number : first ≡ suc index
  pub node : CountedCore
  pub possible : CanOpen b w.nodes ballot index node os log (port_at_node (suc (length w.connections)))
  pub apart : NumbersAreApart os
  pub out : In (index + 1) os → ⊥
  pub each : (k : ℕ) → In k os → NodeIs (Follows ballot log) (whole_moment b).world.nodes k

-- ---- the members but the first

module _ (greatest first : ℕ) (os : List ℕ) (lawful : is_lawful greatest (first ∷ os) first ≡ true) where
  members_apart : NumbersAreApart (first ∷ os)
  members_apart =
      rising_apart greatest 0 (first ∷ os) (and_parts (are_rising greatest 0 (first ∷ os))
      (nat_le 1 (length (first ∷ os)) && (nat_le (length (first ∷ os)) 7 && list_any (λ member. member == first) (first ∷ os))) lawful).0

  rest_apart : NumbersAreApart os
  rest_apart = members_apart.1

  not_among : In first os → ⊥
  not_among = members_apart.0

-- ---- the new primary

module _ (config : Config) {nodes : ℕ} {cs : List Client} (m : ByteWorld) (trail : Reached nodes config cs m) (w : WorldState) (s : WorldStandsFor m w)
    (moments : List (Moment State Command Output)) (came : Moments rules config (moment_of_nodes m.group ∷ moments)) (first : ℕ) (os : List ℕ) (name : Client)
    (possible : CanEscape (first ∷ os) name w) (more : List Event) (new : WorldState)
    (l : LedTo config m.group moments (first ∷ os) possible.index (whole_log_of w.nodes possible.source) more w new)
    (lawful : is_lawful w.nodes.master.greatest (first ∷ os) first ≡ true) (given : w.nodes.master.given < max_ballot) where
  abbrev ballot : ℕ
  ballot = m.group.master.given + 1

  abbrev log : List Command
  log = begun_log (whole_log_of w.nodes possible.source) ballot

  abbrev b : Moment State Command Output
  b = l.pair.last

  others_are : others first (first ∷ os) ≡ os
  others_are = others_first first os (not_among w.nodes.master.greatest first os lawful)

  primary : NodeIs (LeadsWhole ballot log os) (whole_moment b).world.nodes first
  primary = subst (λ (xs : List ℕ). NodeIs (LeadsWhole ballot log xs) (whole_moment b).world.nodes first) others_are l.pair.led.primary

  each : (k : ℕ) → In k os → NodeIs (Follows ballot log) (whole_moment b).world.nodes k
  each k i = l.pair.led.each k (subst (λ (xs : List ℕ). In k xs) (sym others_are) i)

  abbrev index : ℕ
  index = primary.index

  number : first ≡ suc index
  number = let e = primary.number in omega (arith, e)

  -- it is at its index
  record Standing : Type 0 where
    node : CountedCore
    stands : slice_get l.mid.nodes.nodes index ≡ Some node
    serves : LeadsWhole ballot log os (index + 1) (whole b.world.archive (replica_of node.core))

  standing : Standing
  standing =
      let q = mapped_from (whole b.world.archive) b.world.nodes index primary.replica primary.stands in
      let core = mapped_from replica_of (cores_of l.mid.nodes.nodes) index q.x
      (ap (λ (xs : List (ReplicaState State Command)). slice_get xs index) (sym l.followed.seen.nodes) ∙ q.found) in
      let node = mapped_from (λ (c : CountedCore). c.core) l.mid.nodes.nodes index core.x core.found in
      let same : whole b.world.archive (replica_of node.x.core) ≡ primary.replica =
      ap (λ (c : CoreState). whole b.world.archive (replica_of c)) node.is ∙ ap (whole b.world.archive) core.is ∙ q.is in
      record {
        node = node.x;
        stands = node.found;
        serves = subst (λ (r : WholeState State Command). LeadsWhole ballot log os (index + 1) r) (sym same) (subst (λ (k : ℕ). LeadsWhole ballot log os k primary.replica) primary.number primary.is);
      }

  abbrev node : CountedCore
  node = standing.node

  -- it gave no name in the ballot
  low : node.core.last_name.ballot < ballot
  low =
      let r = runs_here w.nodes.nodes first (each_passes (is_running w.nodes.nodes) (first ∷ os) first possible.live here) in
      let here_too : slice_get l.mid.nodes.nodes r.at ≡ Some node =
      ap (slice_get l.mid.nodes.nodes) (let e : r.at ≡ index = (let x = r.number in let y = primary.number in omega (arith, x, y)) in e) ∙ standing.stands in
      let kept = ap (λ (x : ConnectionName). x.ballot) (l.followed.names r.at r.node node r.stands here_too) in
      let in_model : slice_get m.group.nodes r.at ≡ Some r.node.core =
      ap (λ (xs : List CoreState). slice_get xs r.at) s.nodes.nodes ∙ get_mapped (λ (c : CountedCore). c.core) w.nodes.nodes r.at r.node r.stands in
      let within = (nodes_are_orderly nodes config cs m trail r.at r.node.core in_model).within in
      let joined = low_before config (moment_of_nodes m.group) moments came w.nodes (seen_as m.group w.nodes s.nodes) r.at r.node r.stands in
      omega (arith, kept, within, joined)

  to : ModelStepsTo [] m l.mid
  to = l.world nodes config cs m trail s

  most : ballot ≤ 2 ^ 32
  most = let same = ap (λ (x : MasterState). x.given) s.nodes.master in omega (arith, same, given)

  can_open : CanOpen b l.mid.nodes ballot index node os log (port_at_node (suc (length l.mid.connections)))
  can_open =
      record {
        seen = l.followed.seen;
        calm = l.followed.calm;
        stands = standing.stands;
        serves = standing.serves;
        low = low;
        most = most;
        free = new_port to.after (reached_on trail to.steps) l.mid to.stands l.housed index node standing.stands;
        unnamed = new_name to.after (reached_on trail to.steps) l.mid to.stands l.housed index node standing.stands ballot low;
      }

  pub new_primary : IsNewPrimary b ballot log first os l.mid
  new_primary =
      record {
        index = index;
        number = number;
        node = node;
        possible = can_open;
        apart = rest_apart w.nodes.master.greatest first os lawful;
        out = subst (λ (k : ℕ). In k os → ⊥) primary.number (not_among w.nodes.master.greatest first os lawful);
        each = each;
      }
