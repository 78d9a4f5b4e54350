use Rattle.links.proofs.of_frames.Walking.{given_now}
use Rattle.links.proofs.frames.joiner.Joiner.next.Goals as goal

pub returns-in_ok-message-in-End-clause-message : goal.returns-in_ok-message-in-End-clause-message
returns-in_ok-message-in-End-clause-message c =
    given_now c.args.self.now c.self.inside.limit c.self.inside.bytes.items c.self.inside.failed c.self.view_is c.if-self.false
    c.deref.result.now c.deref-in-End.result.now c.deref.ensures c.deref-in-End.ensures c.in-End.end c.in-End.size c.in-End.ensures
    c.in_ok-message-in-End.message.items c.advance.new.self.items c.in_ok-message-in-End.ensures.ok c.advance.ensures.items
