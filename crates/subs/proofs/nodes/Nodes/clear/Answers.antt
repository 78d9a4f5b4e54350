-- The row of the filter goes from its slot, if the nodes of its levels are there.
use Rattle.std.proofs.Common.{None, ◌∙◌, sym, ap, is_some}
use Rattle.topics.specs.Text.{levels}
use Rattle.subs.specs.Ways.{slot}
use Rattle.subs.specs.Inside.{shape_of}
use Rattle.subs.specs.Shown.{root_of, rows_at_levels}
use Rattle.subs.proofs.NodeSets.{number_of}
use Rattle.subs.proofs.SlotIsFound.{from_root, row_missing, nothing_goes, written_at, row_of}
use Rattle.subs.proofs.nodes.Nodes.clear.Goals as goal

pub returns-in_default-find_slot-clause-found : goal.returns-in_default-find_slot-clause-found
returns-in_default-find_slot-clause-found c =
    let filter = levels c.args.text.now in
    let child = (shape_of c.args.self.now.slab).child in
    let way = from_root child (root_of c.args.self.now) c.in-Some.root.number (slot filter).0 (ap number_of c.in-Some.is) ∙ sym c.in_default-find_slot.ensures.node in
    let none = row_missing (shape_of c.args.self.now.slab) (root_of c.args.self.now) filter c.args.client.now way in
    (λ h. ap is_some none ∙ h, λ h. sym (ap is_some none) ∙ h)

pub returns-in_default-find_slot-clause-after : goal.returns-in_default-find_slot-clause-after
returns-in_default-find_slot-clause-after c =
    let filter = levels c.args.text.now in
    let child = (shape_of c.args.self.now.slab).child in
    let way = from_root child (root_of c.args.self.now) c.in-Some.root.number (slot filter).0 (ap number_of c.in-Some.is) ∙ sym c.in_default-find_slot.ensures.node in
    nothing_goes (rows_at_levels c.args.self.now) filter c.args.client.now
    (row_missing (shape_of c.args.self.now.slab) (root_of c.args.self.now) filter c.args.client.now way)

pub clear_at-found-requires : goal.clear_at-found-requires
clear_at-found-requires c =
    let filter = levels c.args.text.now in
    let child = (shape_of c.args.self.now.slab).child in
    c.requires.used (slot filter).0 c.in-Some-find_slot.slot.node.number
    (from_root child (root_of c.args.self.now) c.in-Some.root.number (slot filter).0 (ap number_of c.in-Some.is) ∙ sym c.in-Some-find_slot.ensures.node)

pub returns-clause-found : goal.returns-clause-found
returns-clause-found c =
    let filter = levels c.args.text.now in
    let child = (shape_of c.args.self.now.slab).child in
    let way = from_root child (root_of c.args.self.now) c.in-Some.root.number (slot filter).0 (ap number_of c.in-Some.is) ∙ sym c.in-Some-find_slot.ensures.node in
    let same =
    c.clear_at-found.ensures.found
    ∙ ap is_some (sym (row_of (shape_of c.args.self.now.slab) (root_of c.args.self.now) filter c.in-Some-find_slot.slot.node.number c.in-Some-find_slot.slot.rest c.args.client.now way c.in-Some-find_slot.ensures.side)) in
    (λ h. sym same ∙ h, λ h. same ∙ h)

pub returns-clause-after : goal.returns-clause-after
returns-clause-after c =
    let filter = levels c.args.text.now in
    let child = (shape_of c.args.self.now.slab).child in
    let way = from_root child (root_of c.args.self.now) c.in-Some.root.number (slot filter).0 (ap number_of c.in-Some.is) ∙ sym c.in-Some-find_slot.ensures.node in
    c.prune.ensures.rows
    ∙ written_at (shape_of c.args.self.now.slab) (shape_of c.clear_at-found.new.nodes) (root_of c.args.self.now) filter c.in-Some-find_slot.slot.node.number c.in-Some-find_slot.slot.rest
    c.args.client.now None c.requires way c.in-Some-find_slot.ensures.side c.clear_at-found.ensures.after
