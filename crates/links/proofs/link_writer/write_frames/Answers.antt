use Rattle.std.proofs.Common.{◌<◌, ◌≤◌, ◌∷◌, ◌∙◌, List, [], length, drop, sym, ap, arith}
use Rattle.links.proofs.of_message_form.Appended.{on_ok}
use Rattle.links.specs.seal.Frames.{moved_on}
use Rattle.links.specs.Written.{frames_of}
use Rattle.links.proofs.Framing.{frames_last, frames_more, wrote_all, wrote_more, wrote_prefix, wrote_renamed}
use Rattle.links.proofs.link_writer.write_frames.Goals as goal

pub returns-in_err-write_frame-clause-prefix : goal.returns-in_err-write_frame-clause-prefix
returns-in_err-write_frame-clause-prefix g c =
    let long : 65536 < length c.frames.rest.now = omega arith in
    wrote_prefix _ _ _ c.args.sealer.now c.frames.sealer c.args.parts.now c.frames.rest.now c.split_at.result.0.now (frames_of (drop 65536 c.frames.rest.now)) c.frames.invariant
    (frames_more c.frames.rest.now long ∙ ap (λ (f : List _). f ∷ frames_of (drop 65536 c.frames.rest.now)) (sym c.split_at.ensures.front))
    c.write_frame.ensures.prefix

pub frames-preserved : goal.frames-preserved
frames-preserved g c =
    let long : 65536 < length c.frames.rest.now = omega arith in
    let more = wrote_more _ _ _ c.args.sealer.now c.frames.sealer c.args.parts.now c.frames.rest.now c.split_at.result.0.now c.frames.invariant long c.split_at.ensures.front
    c.in_ok-write_frame.ensures.whole in
    wrote_renamed _ _ c.args.sealer.now (moved_on c.frames.sealer) c.write_frame.new.sealer c.args.parts.now (drop 65536 c.frames.rest.now) c.split_at.result.1.now
    c.in_ok-write_frame.ensures.next c.split_at.ensures.back more

pub returns-clause-whole : goal.returns-clause-whole
returns-clause-whole g c =
    let short : length c.frames.rest.now ≤ 65536 = omega arith in
    on_ok c.write_frame-2.result _ _ (λ h. wrote_all _ _ _ c.args.sealer.now c.frames.sealer c.args.parts.now c.frames.rest.now c.frames.invariant short h) c.write_frame-2.ensures.whole

pub returns-clause-prefix : goal.returns-clause-prefix
returns-clause-prefix g c =
    let short : length c.frames.rest.now ≤ 65536 = omega arith in
    wrote_prefix _ _ _ c.args.sealer.now c.frames.sealer c.args.parts.now c.frames.rest.now c.frames.rest.now [] c.frames.invariant (frames_last c.frames.rest.now short) c.write_frame-2.ensures.prefix
