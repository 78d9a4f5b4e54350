use Rattle.std.proofs.Common.{arith}
use Rattle.links.proofs.of_frames.PartsJoined.{parts_counted}
use Rattle.links.proofs.frames.parts.written_len.Goals as goal

pub returns : goal.returns
returns c = omega (arith, parts_counted c.args.message.now, c.saturating_sub-full.ensures)
