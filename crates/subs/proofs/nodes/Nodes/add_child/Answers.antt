-- The new node comes after its level, or was taken out again.
use Rattle.subs.specs.Inside.{shape_of}
use Rattle.subs.specs.Shown.{root_of}
use Rattle.subs.proofs.ChildIsMade.{made, unmade}
use Rattle.subs.proofs.nodes.Nodes.add_child.Goals as goal

pub returns-in-Ok-clause-leads : goal.returns-in-Ok-clause-leads
returns-in-Ok-clause-leads c =
    (made (shape_of c.args.self.now.slab) (shape_of c.add_node.new.nodes) (shape_of c.link.new.nodes) (root_of c.args.self.now) c.args.at.number c.in_ok-child.child.number c.args.level.now
    c.requires.sound c.requires.there c.requires.none c.in_ok-child.ensures.adds c.in_ok-child.ensures.bare c.in-Ok.ensures.ok).leads

pub returns-in-Ok-clause-rows : goal.returns-in-Ok-clause-rows
returns-in-Ok-clause-rows c =
    (made (shape_of c.args.self.now.slab) (shape_of c.add_node.new.nodes) (shape_of c.link.new.nodes) (root_of c.args.self.now) c.args.at.number c.in_ok-child.child.number c.args.level.now
    c.requires.sound c.requires.there c.requires.none c.in_ok-child.ensures.adds c.in_ok-child.ensures.bare c.in-Ok.ensures.ok).rows

pub returns-in-Ok-clause-sound : goal.returns-in-Ok-clause-sound
returns-in-Ok-clause-sound c =
    (made (shape_of c.args.self.now.slab) (shape_of c.add_node.new.nodes) (shape_of c.link.new.nodes) (root_of c.args.self.now) c.args.at.number c.in_ok-child.child.number c.args.level.now
    c.requires.sound c.requires.there c.requires.none c.in_ok-child.ensures.adds c.in_ok-child.ensures.bare c.in-Ok.ensures.ok).tree

pub returns-in-Err-clause-rows : goal.returns-in-Err-clause-rows
returns-in-Err-clause-rows c =
    (unmade (shape_of c.args.self.now.slab) (shape_of c.add_node.new.nodes) (shape_of c.link.new.nodes) (shape_of c.free_node.new.nodes) (root_of c.args.self.now) c.in_ok-child.child.number
    c.requires.sound c.in_ok-child.ensures.adds c.in-Err.ensures.err c.free_node.ensures).1

pub returns-in-Err-clause-sound : goal.returns-in-Err-clause-sound
returns-in-Err-clause-sound c =
    (unmade (shape_of c.args.self.now.slab) (shape_of c.add_node.new.nodes) (shape_of c.link.new.nodes) (shape_of c.free_node.new.nodes) (root_of c.args.self.now) c.in_ok-child.child.number
    c.requires.sound c.in_ok-child.ensures.adds c.in-Err.ensures.err c.free_node.ensures).0
