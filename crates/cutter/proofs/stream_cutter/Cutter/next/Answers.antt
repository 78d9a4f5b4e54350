use Rattle.cutter.proofs.Taking.{taken}
use Rattle.cutter.proofs.stream_cutter.Cutter.next.Goals as goal

pub returns-in-Ok-Whole : goal.returns-in-Ok-Whole
returns-in-Ok-Whole c =
    rw (← c.self.view_is)
    (taken c.self.inside.bytes.items c.deref.result.now c.advance.new.self.items c.self.inside.failed c.in-Ok-Whole.field-0 _ _
    c.in-Ok-Whole.field-0-is c.deref.ensures c.if-self.false c.in-Ok-Whole.ensures.exact c.in-Ok-Whole.ensures.found c.advance.ensures.items)
