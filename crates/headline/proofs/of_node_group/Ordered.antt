-- The packets of a connection are in each log, and in the agreed list, in the order in which they
-- were put.
use Rattle.std.proofs.Common.{◌≡◌, ℕ, Bool, true, false, if◌then◌else◌, List, [], ◌∷◌, Some, slice_get, refl, sym, ap, ◌∙◌, subst}
use Rattle.lists.specs.Lists.{Each, In, IsPrefixOf}
use Rattle.lists.specs.Lists.In.{here, there}
use Rattle.lists.proofs.Prefixes.{prefix_then}
use Rattle.ballot_base.specs.declared.config.Config.{Config}
use Rattle.ballot_base.specs.Replica.{ReplicaState}
use Rattle.broker_base.specs.State.{State}
use Rattle.broker_spec.specs.declared.command.Command.{Command}
use Rattle.broker_spec.specs.Connection.{ConnectionName}
use Rattle.exactly_once.specs.StoryCommands.{is_packet_of}
use Rattle.agreement.specs.cut_logs.Moments.{IsAgreed}
use Rattle.agreement.specs.Proposals.{IsOfBallot, IsPartOf, commands_of}
use Rattle.agreement.specs.cut_logs.Proposals.{proposals_of, taken_of}
use Rattle.agreement.specs.Proposals.IsPartOf.{nothing_left, with_one, without_one}
use Rattle.agreement.proofs.of_cut_logs.MomentsAgree.{nodes_agree}
use Rattle.agreement.specs.whole_logs.Replica.{ReplicaState as WholeState}
use Rattle.agreement.specs.cut_logs.Whole.{whole, whole_log}
use Rattle.agreement.proofs.of_cut_logs.Orders.{keeps_the_order, node_at}
use Rattle.agreement.proofs.Orders.NamesInLists.{filter_prefix}
use Rattle.world_base.specs.node_core.Core.{rules}
use Rattle.headline.specs.node_group.Ballots.{IsInItsBallot}
use Rattle.headline.specs.node_group.Group.{Group, moment_of_nodes, replica_of}
use Rattle.headline.specs.node_group.Steps.{all_proposed, groups_on_trace}
use Rattle.headline.specs.node_group.Order.{GroupsKeepTheOrder, packet_commands}
use Rattle.headline.specs.node_group.GroupMoments.{HasMoments, packets_in}
use Rattle.headline.proofs.of_node_group.GroupsHaveMoments.{groups_have_moments}
use Rattle.headline.proofs.of_node_group.NamesInGroups.{puts_in_the_ballot_of_the_name}
use Rattle.headline.proofs.of_node_group.Placed.{get_mapped}

part_in : (row : ℕ × Command) (xs ys : List (ℕ × Command)) → IsPartOf xs ys → In row xs → In row ys
part_in row xs ys nothing_left i = i
part_in row xs ys (with_one part) here = here
part_in row xs ys (with_one {one = x} {xs = us} {ys = vs} part) (there i) = there (part_in row us vs part i)
part_in row xs ys (without_one {xs = us} {ys = vs} part) i = there (part_in row us vs part i)

of_each : (rows : List (ℕ × Command)) (row : ℕ × Command) → Each IsInItsBallot rows → In row rows → IsInItsBallot row
of_each (one ∷ rows) row each here = each.0
of_each (one ∷ rows) row each (there i) = of_each rows row each.1 i
of_each [] row each i = elim i [ ]

-- the packets among the commands of rows
packets_of_rows : (x : ConnectionName) (rows : List (ℕ × Command)) → packet_commands x (commands_of rows) ≡ commands_of (packets_in x rows)
packets_of_rows x [] = refl
packets_of_rows x (row ∷ rows) = by (is_packet_of row.1 x) (packets_of_rows x rows)
  where
    by : (b : Bool) → packet_commands x (commands_of rows) ≡ commands_of (packets_in x rows)
        → (if b then row.1 ∷ packet_commands x (commands_of rows) else packet_commands x (commands_of rows))
        ≡ commands_of (if b then row ∷ packets_in x rows else packets_in x rows)
    by true same = ap (λ l. row.1 ∷ l) same
    by false same = same

in_log : (config : Config) (g : Group) (groups : List Group) (put : List (ℕ × Command)) → HasMoments config g groups put → Each IsInItsBallot put → (x : ConnectionName) (n : ℕ)
    (r : ReplicaState State Command) → slice_get (moment_of_nodes g).world.nodes n ≡ Some r → IsPrefixOf (packet_commands x (whole_log g.archive r.log)) (packet_commands x (commands_of put))
in_log config g groups put of each x n r stands =
    subst (IsPrefixOf (packet_commands x (whole_log g.archive r.log))) ordered
    ((keeps_the_order rules config (moment_of_nodes g) of.earlier of.moments).1 (λ (command : Command). is_packet_of command x) x.ballot own n r stands)
  where
    ordered : packet_commands x (commands_of (taken_of of.moments)) ≡ packet_commands x (commands_of put)
    ordered = packets_of_rows x (taken_of of.moments) ∙ ap commands_of (of.taken x) ∙ sym (packets_of_rows x put)

    own : IsOfBallot rules.start_of (λ (command : Command). is_packet_of command x) x.ballot (taken_of of.moments)
    own =
        record {
          starts = λ b. refl;
          only = λ row i named.
              sym (of_each put row each
              (subst (In row) of.proposed (part_in row (taken_of of.moments) (proposals_of of.moments) (keeps_the_order rules config (moment_of_nodes g) of.earlier of.moments).0 i)) x named);
        }

pub in_agreed : (config : Config) (g : Group) (groups : List Group) (put : List (ℕ × Command)) (of : HasMoments config g groups put) → Each IsInItsBallot put → (x : ConnectionName)
    (xs : List Command) → IsAgreed config (moment_of_nodes g ∷ of.earlier) xs → IsPrefixOf (packet_commands x xs) (packet_commands x (commands_of put))
in_agreed config g groups put of each x xs is =
    let holds = (nodes_agree rules config (moment_of_nodes g) of.earlier xs of.moments is).1 in
    let at = node_at (whole g.archive) (moment_of_nodes g).world.nodes holds.node holds.replica holds.stands in
    prefix_then (filter_prefix (λ (command : Command). is_packet_of command x) xs holds.replica.log holds.held)
    (subst (λ (l : List Command). IsPrefixOf (packet_commands x l) (packet_commands x (commands_of put))) (ap (λ (w : WholeState State Command). w.log) at.2)
    (in_log config g groups put of each x holds.node at.0 at.1))

pub groups_keep_the_order : GroupsKeepTheOrder
groups_keep_the_order nodes config g went =
    let of = groups_have_moments nodes config g went in
    let each = puts_in_the_ballot_of_the_name nodes config g went in
    record {
      of = of;
      logs = λ x n core at. in_log config g (groups_on_trace went) (all_proposed went) of each x n (replica_of core) (get_mapped replica_of g.nodes n core at);
      agreed = λ x xs is. in_agreed config g (groups_on_trace went) (all_proposed went) of each x xs is;
    }
