use Rattle.std.proofs.Common.{◌++◌, List, length, ap, ◌∙◌}
use Rattle.std.specs.Int.{w32, to_be_bytes}
use Rattle.links.specs.seal.Frames.{Place, frame_tag}
use Rattle.links.proofs.of_seal.SealedFrames.{appended}
use Rattle.links.proofs.seal.frames.Sealer.write.Goals as goal

pub returns-clause-ok : goal.returns-clause-ok
returns-clause-ok c =
    appended c.args.out.now.items c.put_bytes.new.out.items c.put_bytes-2.new.out.items c.put_bytes-3.new.out.items
    (to_be_bytes w32 (length c.args.frame.now)) c.args.frame.now c.tag_of-tag.result _
    (c.put_bytes.ensures.items ∙ ap (λ (l : List _). l ++ c.to_be_bytes.result) c.reserve.ensures.items
    ∙ ap (λ (l : List _). c.args.out.now.items ++ l) c.to_be_bytes.ensures)
    c.put_bytes-2.ensures.items c.put_bytes-3.ensures.items
    (c.tag_of-tag.ensures ∙ ap (λ (p : Place). frame_tag p.key p.next c.args.frame.now) c.self.view_is)
