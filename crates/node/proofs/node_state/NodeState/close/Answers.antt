use Rattle.std.proofs.Common.{All, EachIndex, ℕ, List, length, slice_index, ◌≡◌, ◌∙◌, ap, subst, sym, arith}
use Rattle.std.specs.Prelude.{slice_index_or}
use Rattle.mailbox.specs.Delivery.{items_of_lane}
use Rattle.mailbox.specs.Ends.{ArrivesWhole, ReceiverView}
use Rattle.mailbox.proofs.ItemsOfALane.{items_of-append}
use Rattle.world_base.specs.declared.node_core.item.Item.{Item}
use Rattle.node.specs.Report.{ReportView, ReportsAll}
use Rattle.node.specs.State.{NodeStateView}
use Rattle.node.proofs.WrittenBack.{written_back}
use Rattle.node.proofs.node_state.NodeState.close.Goals as goal

pub returns-clause-whole : goal.returns-clause-whole
returns-clause-whole g c =
    subst (λ (report : ReportView). All (ArrivesWhole report.taken report.left) c.take_rest.new.lanes) (sym c.new.ensures)
    (subst (λ counts. All (ArrivesWhole counts c.open_all.new.left.items) c.take_rest.new.lanes)
    (sym (written_back c.args.space.taken.len c.take_rest.new.counts c.args.space.taken.items (omega (arith, c.as_mut_slice.ensures.len))))
    (subst (λ (left : List (ℕ × Item)). All (ArrivesWhole c.take_rest.new.counts left) c.take_rest.new.lanes) (sym c.open_all.ensures)
    c.take_rest.ensures.whole))

pub returns-clause-counted : goal.returns-clause-counted
returns-clause-counted g c =
    subst (λ (report : ReportView). EachIndex report.taken (λ lane. slice_index report.taken lane ≡ length (items_of_lane lane c.args.self.receiver.taken)))
    (sym c.new.ensures)
    (subst (λ counts. EachIndex counts (λ lane. slice_index counts lane ≡ length (items_of_lane lane c.args.self.receiver.taken)))
    (sym (written_back c.args.space.taken.len c.take_rest.new.counts c.args.space.taken.items (omega (arith, c.as_mut_slice.ensures.len))))
    (subst (λ (s : NodeStateView). EachIndex c.take_rest.new.counts (λ lane. slice_index c.take_rest.new.counts lane ≡ length (items_of_lane lane s.receiver.taken)))
    c.self.view_is c.take_rest.ensures.counted))

pub returns-clause-each : goal.returns-clause-each
returns-clause-each g c =
    ap (λ (report : ReportView). length report.taken) c.new.ensures
    ∙ ap length (written_back c.args.space.taken.len c.take_rest.new.counts c.args.space.taken.items (omega (arith, c.as_mut_slice.ensures.len)))
    ∙ (omega (arith, c.as_mut_slice.ensures.len, c.args.space.taken.ok.0, c.requires.capacity.0))

pub returns-clause-all : goal.returns-clause-all
returns-clause-all g c =
    subst (λ (report : ReportView). All (ReportsAll c.args.self.receiver.taken report.left) c.take_rest.new.lanes) (sym c.new.ensures)
    (subst (λ (left : List (ℕ × Item)). All (ReportsAll c.args.self.receiver.taken left) c.take_rest.new.lanes) (sym c.open_all.ensures)
    (subst (λ (s : NodeStateView). All (ReportsAll s.receiver.taken c.take_rest.new.left.items) c.take_rest.new.lanes)
    c.self.view_is
    (λ place other within.
    let lane : ℕ = (slice_index_or c.take_rest.new.lanes place other).lane in
    sym (items_of-append lane _ c.take_rest.new.left.items)
    ∙ sym (ap (λ (r : ReceiverView Item). items_of_lane lane r.taken) c.take_rest.ensures.taken)
    ∙ c.take_rest.ensures.arrived place other within)))

pub returns-clause-number : goal.returns-clause-number
returns-clause-number g c =
    ap (λ (report : ReportView). report.number) c.new.ensures
    ∙ (c.number-number.ensures ∙ ap (λ (s : NodeStateView). s.receiver.inbox) c.self.view_is)
