-- The row of the filter is set at its slot, once its nodes are there.
use Rattle.std.proofs.Common.{Some, [], ◌∙◌, sym, ap}
use Rattle.topics.specs.Text.{levels}
use Rattle.subs_base.proofs.ContentAfter.{on_ok, on_err}
use Rattle.subs.specs.Ways.{led, slot}
use Rattle.subs.specs.Inside.{Asked, shape_of, asked_with}
use Rattle.subs.specs.Shown.{root_of}
use Rattle.subs.proofs.ContentOfTree.{anyhow}
use Rattle.subs.proofs.SlotIsFound.{written_at, row_of}
use Rattle.subs.proofs.nodes.Nodes.set_below.Goals as goal

pub returns-in_err-slot-clause-absent : goal.returns-in_err-slot-clause-absent
returns-in_err-slot-clause-absent c =
    anyhow c.from_residual.result
    (c.in_err-slot.ensures.none [] c.args.client.now (ap (λ r. led (shape_of c.args.self.now.slab).child r []) c.requires.root))

pub set_at-requires : goal.set_at-requires
set_at-requires c =
    c.in_ok-slot.ensures.sound.used (slot (levels c.args.text.now)).0 c.in_ok-slot.slot.node.number
    (c.in_ok-slot.ensures.leads [] (ap (λ r. led (shape_of c.args.self.now.slab).child r []) c.requires.root))

pub returns-clause-ok : goal.returns-clause-ok
returns-clause-ok c =
    let filter = levels c.args.text.now in
    let way = c.in_ok-slot.ensures.leads [] (ap (λ r. led (shape_of c.args.self.now.slab).child r []) c.requires.root) in
    on_ok c.set_at.result
    (λ writes.
    written_at (shape_of c.make_slot.new.self.slab) (shape_of c.set_at.new.nodes) (root_of c.make_slot.new.self) filter c.in_ok-slot.slot.node.number c.in_ok-slot.slot.rest
    c.args.client.now (Some c.args.qos) c.in_ok-slot.ensures.sound way c.in_ok-slot.ensures.side writes
    ∙ ap (λ (a : Asked). asked_with a filter c.args.client.now (Some c.args.qos)) c.in_ok-slot.ensures.rows)
    c.set_at.ensures.ok

pub returns-clause-absent : goal.returns-clause-absent
returns-clause-absent c =
    let filter = levels c.args.text.now in
    let way = c.in_ok-slot.ensures.leads [] (ap (λ r. led (shape_of c.args.self.now.slab).child r []) c.requires.root) in
    on_err c.set_at.result
    (λ none.
    ap (λ (a : Asked). a filter c.args.client.now) (sym c.in_ok-slot.ensures.rows)
    ∙ row_of (shape_of c.make_slot.new.self.slab) (root_of c.make_slot.new.self) filter c.in_ok-slot.slot.node.number c.in_ok-slot.slot.rest c.args.client.now way c.in_ok-slot.ensures.side
    ∙ none)
    c.set_at.ensures.absent
