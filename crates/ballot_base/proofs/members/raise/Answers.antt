use Rattle.std.proofs.Common.{◌<◌, length, set, ap, ◌∙◌, arith}
use Rattle.std.proofs.lemmas.List.{get_or_default}
use Rattle.std.proofs.lemmas.List.Edits.{map_over_more}
use Rattle.ballot_base.specs.Service.{raised_progress}
use Rattle.ballot_base.proofs.members.raise.Goals as goal

pub loop-reached-preserved : goal.loop-reached-preserved
loop-reached-preserved c =
    let i = c.loop-reached.reached-index in
    let below : i < length c.loop-reached.progress = omega arith in
    ap (λ x. set c.loop-reached.progress i x) c.raised_progress.ensures
    ∙ map_over_more (raised_progress c.args.member c.args.held) c.args.progress.now c.loop-reached.progress i _
    (omega arith) c.loop-reached.invariant (get_or_default c.loop-reached.progress i _ _ below)
