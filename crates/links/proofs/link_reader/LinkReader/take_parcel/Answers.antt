use Rattle.std.proofs.Common.{ap}
use Rattle.links.specs.Links.{LinkView}
use Rattle.links.proofs.Stepping.{at_front, refused_here, refused_so}
use Rattle.links.proofs.link_reader.LinkReader.take_parcel.Goals as goal

pub returns-in-Ok-Some-clause-refused : goal.returns-in-Ok-Some-clause-refused
returns-in-Ok-Some-clause-refused c =
    let given = rw c.in-Ok-Some.field-0-is at c.in-Ok-Some.ensures.message in
    refused_so c.args.self.now c.in-Ok-Some.bytes.items c.next.new.self.bytes c.in-Err-parcel_at.fault
    (at_front c.args.self.now _ _ _ _ c.self.inside.joiner c.in-Ok-Some.bytes.items c.next.new.self.bytes c.self.view_is c.self.invariant.1 given.1)
    (refused_here c.self.inside.way c.args.self.now.way _ c.in-Ok-Some.bytes.items c.in-Err-parcel_at.fault (ap (λ (v : LinkView). v.way) c.self.view_is) c.deref.ensures.value c.in-Err-parcel_at.ensures.refused)
