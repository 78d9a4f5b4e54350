-- Where a world has a way out its nodes can be led: by the member that is asked for its log, to the next ballot.
use Rattle.std.proofs.Common.{◌≡◌, ◌≤◌, ◌+◌, ℕ, zero, suc, Bool, true, false, not, List, [], ◌∷◌, Option, Some, None, length, map, refl, sym, ap, ◌∙◌, arith}
use Rattle.std.specs.Prelude.{slice_get}
use Rattle.std.specs.List.{list_all, position}
use Rattle.std.proofs.lemmas.Bool.{and_parts}
use Rattle.std.proofs.lemmas.List.Quantifiers.{position-Some}
use Rattle.std.proofs.lemmas.Option.{get_or_from_slice_get}
use Rattle.agreement.specs.MasterState.{MasterState, refusal}
use Rattle.ballot_base.specs.declared.config.Config.{Config}
use Rattle.ballot_base.specs.Service.{max_places}
use Rattle.broker_spec.specs.declared.command.Command.{Command}
use Rattle.broker_spec.specs.declared.command.Output.{Output}
use Rattle.broker_spec.specs.Place.{Client}
use Rattle.broker_base.specs.State.{State}
use Rattle.world_nodes.specs.recoveries.Deliveries.{IsSeen}
use Rattle.recovery.specs.replicas.Deliveries.{NodeIs}
use Rattle.recovery.specs.replicas.LedStates.{IsRunning}
use Rattle.recovery.specs.replicas.Theorems.{CanBeLed}
use Rattle.world_nodes.proofs.of_recoveries.NodesFollow.{replica_at}
use Rattle.headline.specs.node_group.Group.{Group, moment_of_nodes, replica_of}
use Rattle.agreement.specs.cut_logs.Moments.{Moment, Moments, whole_moment}
use Rattle.agreement.specs.cut_logs.Whole.{whole, whole_log}
use Rattle.agreement.proofs.of_cut_logs.Fronts.{whole_long}
use Rattle.agreement.proofs.of_cut_logs.MomentsKept.{moments_stand}
use Rattle.agreement.proofs.of_cut_logs.Views.{get_whole}
use Rattle.lists.specs.Lists.{In}
use Rattle.lists.specs.Lists.In.{here, there}
use Rattle.world_base.specs.node_core.Core.{CountedCore, rules}
use Rattle.world_nodes.specs.RecoveryChecks.{whole_log_in, whole_log_of}
use Rattle.world_nodes.specs.RunningNodes.{is_running, is_up, numbered_node}
use Rattle.world_nodes.specs.Nodes.{NodesState, NodesStandFor}
use Rattle.world.specs.Recovery.{CanEscape, configuration_of, log_length_of}
use Rattle.world.specs.World.{WorldState}

-- nodes that a group corresponds to are seen as its moment
pub seen_as : (g : Group) (n : NodesState) → NodesStandFor g n → IsSeen (moment_of_nodes g) n
seen_as g n s = record { master = s.master; nodes = ap (map replica_of) s.nodes; sent = s.sent; archive = s.archive }

-- ---- tests on lists

pub each_passes : (test : ℕ → Bool) (xs : List ℕ) (x : ℕ) → list_all test xs ≡ true → In x xs → test x ≡ true
each_passes test [] x all i = elim i [ ]
each_passes test (y ∷ xs) x all here = (and_parts (test x) (list_all test xs) all).0
each_passes test (y ∷ xs) x all (there i) = each_passes test xs x (and_parts (test y) (list_all test xs) all).1 i

first_passes : (test : ℕ → Bool) (xs : List ℕ) (i x : ℕ) → position test xs ≡ Some i → slice_get xs i ≡ Some x → test x ≡ true
first_passes test xs i x e stands = sym (ap test (get_or_from_slice_get xs i x x stands)) ∙ (position-Some test xs i x e).1

-- ---- a node that runs

pub record RunsHere (nodes : List CountedCore) (m : ℕ) : Type 0 where
  pub at : ℕ
  pub number : m ≡ at + 1
  pub node : CountedCore
  pub stands : slice_get nodes at ≡ Some node
  pub runs : node.core.replica.state.stopped ≡ false

pub runs_here : (nodes : List CountedCore) (m : ℕ) → is_running nodes m ≡ true → RunsHere nodes m
runs_here nodes zero e = cc
runs_here nodes (suc at) e = by (slice_get nodes at) refl e
  where
    up : (b : Bool) → not b ≡ true → b ≡ false
    up true f = cc
    up false f = refl

    by : (o : Option CountedCore) → slice_get nodes at ≡ o → is_up o ≡ true → RunsHere nodes (suc at)
    by None f g = cc
    by (Some node) f g =
        record { at = at; number = omega arith; node = node; stands = f; runs = up node.core.replica.state.stopped g }

-- ---- what a way out asks for

module _ (config : Config) (g : Group) (moments : List (Moment State Command Output)) (came : Moments rules config (moment_of_nodes g ∷ moments)) (w : WorldState) (s : NodesStandFor g w.nodes)
    (members : List ℕ) (name : Client) (possible : CanEscape members name w) where
  abbrev a : Moment State Command Output
  a = moment_of_nodes g

  seen : IsSeen a w.nodes
  seen = seen_as g w.nodes s

  whole_at : (at : ℕ) (node : CountedCore) → slice_get w.nodes.nodes at ≡ Some node → slice_get (whole_moment a).world.nodes at ≡ Some (whole g.archive (replica_of node.core))
  whole_at at node stands = get_whole (whole g.archive) a.world.nodes at (replica_of node.core) (replica_at a w.nodes seen at node stands)

  source : RunsHere w.nodes.nodes possible.source
  source = runs_here w.nodes.nodes possible.source (first_passes (is_running w.nodes.nodes) w.nodes.master.members possible.index possible.source possible.first possible.asked)

  node_is : numbered_node w.nodes.nodes possible.source ≡ Some source.node
  node_is = ap (numbered_node w.nodes.nodes) (source.number ∙ (let e : source.at + 1 ≡ suc source.at = omega arith in e)) ∙ source.stands

  log_is : whole_log g.archive source.node.core.replica.state.log ≡ whole_log_of w.nodes possible.source
  log_is = ap (λ (l : List Command). whole_log l source.node.core.replica.state.log) s.archive ∙ sym (ap (whole_log_in w.nodes.archive) node_is)

  pub long : length (whole_log_of w.nodes possible.source) + 2 ≤ max_places
  long =
      let q = moments_stand rules config a moments came in
      let within = (q.kept.nodes source.at (replica_of source.node.core) (replica_at a w.nodes seen source.at source.node source.stands)).0.within in
      let whole_is = whole_long g.archive source.node.core.replica.state.log within in
      let same = ap (λ (l : List Command). length l) log_is in
      let held = ap log_length_of node_is in
      let room = possible.room in
      omega (arith, whole_is, same, held, room)

  pub can_be_led : CanBeLed (whole_moment a) (configuration_of members) possible.index possible.source (whole_log_of w.nodes possible.source)
  can_be_led =
      record {
        granted = ap (λ (m : MasterState). refusal m (configuration_of members)) s.master ∙ possible.granted;
        live = λ m i. live m (each_passes (is_running w.nodes.nodes) members m possible.live (in_members members m i));
        asked = ap (λ (m : MasterState). slice_get m.members possible.index) s.master ∙ possible.asked;
        gives = record {
          index = source.at;
          number = source.number;
          replica = whole g.archive (replica_of source.node.core);
          stands = whole_at source.at source.node source.stands;
          is = record { runs = source.runs; log_is = log_is };
        };
        room = (let l = long in omega (arith, l));
      }
    where
      in_members : (ms : List ℕ) (m : ℕ) → In m (configuration_of ms).members → In m ms
      in_members [] m i = i
      in_members (x ∷ ms) m i = i

      live : (m : ℕ) → is_running w.nodes.nodes m ≡ true → NodeIs IsRunning (whole_moment a).world.nodes m
      live m e =
          let r = runs_here w.nodes.nodes m e in
          record { index = r.at; number = r.number; replica = whole g.archive (replica_of r.node.core); stands = whole_at r.at r.node r.stands; is = record { runs = r.runs } }
