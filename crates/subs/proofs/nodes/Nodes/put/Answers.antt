-- The rows are put in at the slot of the filter, once its nodes are there.
use Rattle.std.proofs.Common.{[], ◌∙◌, ap}
use Rattle.topics.specs.Text.{levels}
use Rattle.subs.specs.Ways.{led, slot}
use Rattle.subs.specs.Inside.{Asked, shape_of, with_rows}
use Rattle.subs.specs.Rows.{qos_of_client}
use Rattle.subs.specs.Shown.{root_of}
use Rattle.subs.proofs.Written.{filled, tree_filled}
use Rattle.subs.proofs.nodes.Nodes.put.Goals as goal

pub put_at-requires : goal.put_at-requires
put_at-requires c =
    c.in_ok-slot.ensures.sound.used (slot (levels c.args.text.now)).0 c.in_ok-slot.slot.node.number
    (c.in_ok-slot.ensures.leads [] (ap (λ r. led (shape_of c.make_root.new.self.slab).child r []) c.in_ok-root.ensures.root))

pub returns-clause-ok : goal.returns-clause-ok
returns-clause-ok c =
    let filter = levels c.args.text.now in
    let way = c.in_ok-slot.ensures.leads [] (ap (λ r. led (shape_of c.make_root.new.self.slab).child r []) c.in_ok-root.ensures.root) in
    filled (shape_of c.make_slot.new.self.slab) (shape_of c.put_at.new.nodes) (root_of c.make_slot.new.self) filter c.in_ok-slot.slot.node.number c.in_ok-slot.slot.rest
    (qos_of_client c.args.rows) c.in_ok-slot.ensures.sound way c.in_ok-slot.ensures.side c.put_at.ensures
    ∙ ap (λ (a : Asked). with_rows a filter (qos_of_client c.args.rows)) (c.in_ok-slot.ensures.rows ∙ c.in_ok-root.ensures.rows)

pub returns-clause-sound : goal.returns-clause-sound
returns-clause-sound c =
    tree_filled (shape_of c.make_slot.new.self.slab) (shape_of c.put_at.new.nodes) (root_of c.make_slot.new.self) c.in_ok-slot.slot.node.number c.in_ok-slot.slot.rest
    (qos_of_client c.args.rows) c.in_ok-slot.ensures.sound c.put_at.ensures
