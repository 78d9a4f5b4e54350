-- The node that held nothing is given up.
use Rattle.std.proofs.Common.{sym}
use Rattle.subs.specs.Inside.{shape_of}
use Rattle.subs.specs.Shown.{root_of}
use Rattle.subs.proofs.NodeGoes.{gone, bare_after}
use Rattle.subs.proofs.nodes.Nodes.drop_empty.Goals as goal

pub free_node-requires : goal.free_node-requires
free_node-requires c =
    bare_after (shape_of c.args.self.now.slab) (shape_of c.unlink.new.nodes) c.args.at.number c.in-Some.below.number c.args.level.now
    (c.is_empty.ensures c.if-is_empty.true) c.unlink.ensures

pub returns-then-is_empty-clause-rows : goal.returns-then-is_empty-clause-rows
returns-then-is_empty-clause-rows c =
    (gone (shape_of c.args.self.now.slab) (shape_of c.unlink.new.nodes) (shape_of c.free_node.new.nodes) (root_of c.args.self.now) c.args.at.number c.in-Some.below.number c.args.level.now
    c.requires.sound c.requires.there (sym c.in-Some.ensures) (c.is_empty.ensures c.if-is_empty.true) c.unlink.ensures c.free_node.ensures).rows

pub returns-then-is_empty-clause-sound : goal.returns-then-is_empty-clause-sound
returns-then-is_empty-clause-sound c =
    (gone (shape_of c.args.self.now.slab) (shape_of c.unlink.new.nodes) (shape_of c.free_node.new.nodes) (root_of c.args.self.now) c.args.at.number c.in-Some.below.number c.args.level.now
    c.requires.sound c.requires.there (sym c.in-Some.ensures) (c.is_empty.ensures c.if-is_empty.true) c.unlink.ensures c.free_node.ensures).tree

pub returns-then-is_empty-clause-ways : goal.returns-then-is_empty-clause-ways
returns-then-is_empty-clause-ways c =
    (gone (shape_of c.args.self.now.slab) (shape_of c.unlink.new.nodes) (shape_of c.free_node.new.nodes) (root_of c.args.self.now) c.args.at.number c.in-Some.below.number c.args.level.now
    c.requires.sound c.requires.there (sym c.in-Some.ensures) (c.is_empty.ensures c.if-is_empty.true) c.unlink.ensures c.free_node.ensures).ways
