use Rattle.std.proofs.Common.{◌∙◌, sym, ap, refl, arith}
use Rattle.mailbox.proofs.AllLanesByIndex.{all_by_index, as_many, placed_of_all}
use Rattle.mailbox.proofs.PassNumbers.{not_false}
use Rattle.mailbox.proofs.receiver.Receiver.has_all.Goals as goal
use Rattle.mailbox.proofs.receiver.Receiver.has_all.Goals.{then-number-via-then-number, then-number-via-else-number+then-from-index}

pub returns-then-lanes : goal.returns-then-lanes
returns-then-lanes g c = (
  (λ t. absurd (not_false t)),
  λ are. absurd (c.if-lanes.true (as_many c.args.self.now c.args.lanes.now are ∙ sym c.lanes.ensures)),
)

pub returns-then-number : goal.returns-then-number
returns-then-number g c = (
  (λ t. absurd (not_false t)),
  λ are.
      let is = placed_of_all c.args.self.now c.args.lanes.now c.loop-index.index are (omega arith) c.index-lanes-index.result in
      absurd (elim c.then-number.branch [
        | then-number-via-then-number w ↦ omega (arith, is.0, w.if-number.true, ap (λ s. s.inbox) c.index-lanes-index.is)
        | then-number-via-else-number+then-from-index w ↦ omega (arith, is.1, w.if-from-index.true, ap (λ s. s.lane) c.index-lanes-index.is)
      ]),
)

pub returns : goal.returns
returns g c = (
  (λ _. all_by_index c.args.self.now c.args.lanes.now (c.if-lanes.false ∙ c.lanes.ensures) (λ k within. c.loop-index.invariant k (omega arith))),
  λ _. refl,
)
