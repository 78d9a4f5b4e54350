use Rattle.std.proofs.Common.{◌≡◌, ◌<◌, ◌∙◌, ◌++◌, length, sym, ap, append_assoc, refl, arith}
use Rattle.std.specs.Prelude.{slice_index}
use Rattle.mailbox.specs.Delivery.{items_of_lane}
use Rattle.mailbox.proofs.RestIsTaken.{of_all_lanes, still_all_lanes, all_arrives}
use Rattle.mailbox.proofs.receiver.Receiver.take_rest.Goals as goal

pub has_taken_all-requires : goal.has_taken_all-requires
has_taken_all-requires g c =
    of_all_lanes (λ s. s.inbox ≡ c.drain.new.self.inbox) c.args.self.now c.loop.lanes
    (still_all_lanes c.args.self.now _ c.args.lanes.now c.loop.invariant.lanes c.requires.lanes)
    (λ k within. sym (ap (λ r. r.inbox) c.drain.ensures.history ∙ ap (λ r. r.inbox) c.loop.invariant.receiver))

pub returns-then-has_taken_all-clause-whole : goal.returns-then-has_taken_all-clause-whole
returns-then-has_taken_all-clause-whole g c =
    let drained = c.drain.ensures in
    let lanes = ap (λ r. r.lanes) c.self.view_is in
    let taken = ap (λ r. r.taken) c.self.view_is in
    all_arrives c.copy_from_slice.new.self c.args.self.now.taken c.drain.new.self.taken c.drain.new.left.items c.args.self.now _
    (ap (λ r. r.taken) drained.history
    ∙ ap (λ l. l ++ drained.more) (ap (λ r. r.taken) c.loop.invariant.receiver)
    ∙ append_assoc c.args.self.now.taken _ drained.more
    ∙ ap (λ l. c.args.self.now.taken ++ l) (sym drained.listed))
    (λ k within.
    let place : k < length c.self.inside.counts.items = omega (arith, lanes, within) in
    ap (λ l. slice_index l k) (c.copy_from_slice.ensures.after ∙ c.as_slice.ensures.value)
    ∙ c.self.invariant.counted k place
    ∙ ap (λ l. length (items_of_lane k l)) taken)
    (still_all_lanes c.args.self.now _ c.args.lanes.now (c.has_taken_all.ensures.lanes ∙ c.loop.invariant.lanes) c.requires.lanes)
    (c.if-has_taken_all.ensures.all refl)
