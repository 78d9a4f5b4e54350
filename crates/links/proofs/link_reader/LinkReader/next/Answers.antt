use Rattle.std.proofs.Common.{◌≡◌, ◌∙◌, sym, ap, rules}
use Rattle.links.specs.Links.{LinkView}
use Rattle.links.specs.Inside.{OpensOne}
use Rattle.links.proofs.Stepping.{opens_one, refuses_failed, still_open}
use Rattle.links.proofs.link_reader.LinkReader.next.Goals as goal

pub returns-then-self-clause-refused : goal.returns-then-self-clause-refused
returns-then-self-clause-refused c = refuses_failed c.args.self.now (sym (ap (λ (v : LinkView). v.failed) c.self.view_is) ∙ c.if-self.true)

pub frames-preserved : goal.frames-preserved
frames-preserved c =
    let same : c.take_parcel.new.self ≡ c.frames.self = search rules in
    let one : OpensOne c.take_parcel.new.self c.open_frame.new.self = search rules in
    record {
      open_now = still_open c.frames.self c.take_parcel.new.self c.open_frame.new.self one same c.frames.invariant.open_now;
      opened = opens_one c.args.self.now c.frames.self c.take_parcel.new.self c.open_frame.new.self c.frames.invariant.opened one same;
    }
