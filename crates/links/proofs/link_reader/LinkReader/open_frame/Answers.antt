use Rattle.std.proofs.Common.{[], ◌∷◌, ◌++◌, ◌∙◌, ap, subst, List}
use Rattle.links.specs.Links.{LinkView}
use Rattle.links.specs.Inside.{Opens}
use Rattle.links.proofs.Stepping.{opens_frame}
use Rattle.links.proofs.link_reader.LinkReader.open_frame.Goals as goal

pub returns-in-Ok-clause-opened : goal.returns-in-Ok-clause-opened
returns-in-Ok-clause-opened c =
    let accepts = rw c.in-Ok-Some.field-0-is at c.in-Ok-Some.ensures.frame in
    let joined = c.in-Ok.ensures.ok ∙ ap (λ (l : List _). record c.self.inside.joiner { bytes = c.self.inside.joiner.bytes ++ l }) c.deref.ensures.value in
    let opens = opens_frame c.self.inside.way c.self.inside.failed c.self.inside.frames c.next.new.self c.self.inside.joiner c.feed.new.self c.in-Ok-Some.frame.items
    c.self.invariant.0 accepts joined in
    let after : LinkView =
    record {
      way = c.self.inside.way;
      place = c.next.new.self.place;
      unopened = c.next.new.self.bytes;
      parts = c.feed.new.self.bytes;
      failed = c.self.inside.failed;
    } in
    λ _. (c.in-Ok-Some.frame.items, subst (λ (v : LinkView). Opens v (c.in-Ok-Some.frame.items ∷ []) after) c.self.view_is opens)
