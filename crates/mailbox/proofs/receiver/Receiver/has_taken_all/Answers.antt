use Rattle.std.proofs.Common.{◌≡◌, ◌∙◌, sym, ap, subst, arith}
use Rattle.std.specs.Prelude.{slice_index_or}
use Rattle.std.proofs.lemmas.List.Elements.{AllWithin-more_set}
use Rattle.std.proofs.Math.Seq.{map-set_same}
use Rattle.mailbox.specs.Ends.{unmet}
use Rattle.mailbox.specs.Kept.{IsDrained}
use Rattle.mailbox.proofs.RestIsTaken.{all_like, met_all}
use Rattle.mailbox.proofs.receiver.Receiver.has_taken_all.Goals as goal

pub meet-requires : goal.meet-requires
meet-requires g c =
    all_like (λ s. s.inbox ≡ c.args.self.now.inbox) unmet _ _ c.loop-lane.invariant.lanes c.requires _ _ (omega arith)
    ∙ sym (ap (λ r. r.inbox) c.loop-lane.invariant.receiver)

pub returns-then-meet-count-clause-lanes : goal.returns-then-meet-count-clause-lanes
returns-then-meet-count-clause-lanes g c =
    map-set_same unmet c.loop-lane.lanes c.loop-lane.lane-index c.meet.new.lane c.lane-item.result (ap unmet c.meet.ensures.lane) ∙ c.loop-lane.invariant.lanes

pub loop-lane-preserved : goal.loop-lane-preserved
loop-lane-preserved g c =
    let known : c.meet.new.self ≡ c.args.self.now = c.meet.ensures.receiver ∙ c.loop-lane.invariant.receiver in
    let same : c.meet.new.self.taken ≡ c.loop-lane.self.taken = ap (λ r. r.taken) c.meet.ensures.receiver in
    let met = c.meet.ensures in record {
      receiver = known;
      lanes = map-set_same unmet c.loop-lane.lanes c.loop-lane.lane-index c.meet.new.lane c.lane-item.result (ap unmet met.lane) ∙ c.loop-lane.invariant.lanes;
      so_far =
          AllWithin-more_set c.loop-lane.lanes c.loop-lane.lane-index c.meet.new.lane (omega arith) (IsDrained c.meet.new.self.taken)
          (λ k d low below. subst (λ l. IsDrained l (slice_index_or c.loop-lane.lanes k d)) (sym same) (c.loop-lane.invariant.so_far k d low below))
          (met_all c.loop-lane.self.taken _ (slice_index_or c.loop-lane.lanes c.loop-lane.lane-index c.lane-item.result) _ _ _ met.lane met.first c.count.ensures c.if-meet-count.false same);
    }
