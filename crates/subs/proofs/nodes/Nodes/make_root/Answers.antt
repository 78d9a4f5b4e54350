-- A root that holds nothing is a tree without rows.
use Rattle.std.proofs.Common.{◌∙◌, ap, sym}
use Rattle.subs.specs.Shape.{rows}
use Rattle.subs.specs.Inside.{shape_of}
use Rattle.subs.proofs.NodeSets.{number_of}
use Rattle.subs.proofs.RootIsMade.{tree_rooted, rows_rooted}
use Rattle.subs.proofs.nodes.Nodes.make_root.Goals as goal

pub returns-clause-sound : goal.returns-clause-sound
returns-clause-sound c =
    tree_rooted (shape_of c.args.self.now.slab) (shape_of c.add_node.new.nodes) c.in_ok-root.root.number c.in_ok-root.ensures.adds c.in_ok-root.ensures.bare

pub returns-clause-rows : goal.returns-clause-rows
returns-clause-rows c =
    rows_rooted (shape_of c.args.self.now.slab) (shape_of c.add_node.new.nodes) c.in_ok-root.root.number c.in_ok-root.ensures.adds c.in_ok-root.ensures.bare
    ∙ ap (λ r. rows (shape_of c.args.self.now.slab) (number_of r)) (sym c.in_default.is)
