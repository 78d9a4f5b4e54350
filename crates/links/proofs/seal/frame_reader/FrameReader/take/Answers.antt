use Rattle.links.proofs.of_seal.SealedFrames.{accepted_now}
use Rattle.links.proofs.seal.frame_reader.FrameReader.take.Goals as goal

pub returns-in-Ok-clause-frame : goal.returns-in-Ok-clause-frame
returns-in-Ok-clause-frame c =
    accepted_now c.args.self.now c.self.inside.opener c.pass.new.self c.self.inside.limit c.self.inside.bytes.items c.self.view_is
    c.requires.open_before c.args.len c.requires.whole.fits c.deref.result.now c.in-Ok.frame.items c.advance.new.self.items
    c.deref.ensures c.in-Ok.ensures.ok c.advance.ensures.items c.pass.ensures
