use Rattle.std.proofs.Common.{refl}
use Rattle.ballot_base.specs.LawfulConfig.{max_node}
use Rattle.headline.specs.node_group.Group.{opening_group}
use Rattle.headline.specs.node_group.Steps.GroupTrace.{opened}
use Rattle.world.proofs.StaysReached.{are_reached}
use Rattle.world.proofs.OpensReached.{housed_none, opens_reached}
use Rattle.world.proofs.world.World.opening_with.Goals as goal

pub returns-clause-reached : goal.returns-clause-reached
returns-clause-reached c =
    are_reached c.args.nodes c.args.config (opening_group max_node c.args.nodes c.args.config) c.in_ok-opened.opened (opened max_node c.in_ok-opened.ensures.can) c.in_ok-opened.ensures.opens

pub returns-clause-exact : goal.returns-clause-exact
returns-clause-exact c =
    λ apart. opens_reached c.args.nodes c.args.config c.args.clients.now _ c.in_ok-opened.ensures.can c.in_ok-opened.ensures.opens c.in_ok-keepers.ensures.stand apart

pub invariant_of-result : goal.invariant_of-result
invariant_of-result c = (
  rw c.new.ensures.items (housed_none c.in_ok-keepers.keepers.items c.args.clients.now c.in_ok-keepers.ensures.stand),
  rw (c.new-2.ensures.items, c.new.ensures.items) refl,
)
