use Rattle.std.proofs.Common.{arith}
use Rattle.master.proofs.Archived.{added_some}
use Rattle.master.proofs.cut_places.record.Goals as goal

pub returns-clause-ok : goal.returns-clause-ok
returns-clause-ok g c =
    added_some c.append_copies.result c.args.archive.now.items c.append_copies.new.list.items c.args.rest.now c.args.base c.args.committed c.len.result
    c.saturating_sub-to.result (omega (arith, c.len.ensures, c.args.archive.now.ok.0)) c.saturating_sub-to.ensures (omega (arith, c.if-to-from.false))
    c.append_copies.ensures.ok
