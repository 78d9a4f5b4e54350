use Rattle.std.proofs.Common.{◌≡◌, ◌+◌, ◌-◌, ◌++◌, ap, arith, length, take, ◌∙◌}
use Rattle.std.proofs.lemmas.List.{length-take}
use Rattle.admin.proofs.BytesKept.{fed}
use Rattle.admin.proofs.reader.RequestReader.feed.Goals as goal

pub returns-clause-kept : goal.returns-clause-kept
returns-clause-kept c =
    let same : length c.as_slice.result.now ≡ length c.args.self.now = ap length (c.as_slice.ensures.value ∙ c.self.view_is) in
    let room : length c.args.self.now + (4097 - length c.as_slice.result.now) ≡ 4097 = omega (arith, same, c.as_slice.ensures.len, c.self.invariant.0) in
    fed c.extend_from_slice.result c.args.self.now c.extend_from_slice.new.self.items c.args.piece.now (4097 - length c.as_slice.result.now) c.min-count.result
    (c.extend_from_slice.ensures.succeeds (omega (arith, same, c.as_slice.ensures.len, c.min-count.ensures, c.self.invariant.0, c.self.invariant.1, length-take c.min-count.result c.args.piece.now)))
    (rw c.self.view_is at c.extend_from_slice.ensures.items) c.min-count.ensures
    ∙ ap (λ n. take n (c.args.self.now ++ c.args.piece.now)) room
