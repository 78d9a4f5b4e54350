use Rattle.std.proofs.Common.{ap, sym, subst, ◌∙◌}
use Rattle.node.specs.Growth.{bytes_since_cut, saturated}
use Rattle.node.specs.HandedCounts.{CountsAreRight}
use Rattle.node.specs.State.{items_of}
use Rattle.node.proofs.CountsInRun.{none_counted, none_taken}
use Rattle.node.proofs.Recorded.{none_of_lanes}
use Rattle.node.proofs.Replaying.{opened}
use Rattle.node.proofs.node_state.NodeState.new.Goals as goal

pub invariant_of-result : goal.invariant_of-result
invariant_of-result g c = (
  opened g.J.NodeNaming.first_of c.args.receiver c.args.node.node c.requires.fresh c.requires.first,
  ap (λ taken. saturated (bytes_since_cut taken)) (sym c.requires.fresh),
  c.requires.number,
  none_taken c.args.receiver.inbox c.args.node.log c.requires.none ∙ sym (ap items_of c.requires.fresh),
  none_of_lanes c.args.receiver c.requires.fresh,
  subst (CountsAreRight g.H.RunNaming.nodes g.H.RunNaming.config c.args.node.index c.args.node.log) (sym c.new.ensures)
      (none_counted g.H.RunNaming.nodes g.H.RunNaming.config c.args.node.index c.args.receiver.inbox c.args.node.log c.requires.number c.requires.none),
)
