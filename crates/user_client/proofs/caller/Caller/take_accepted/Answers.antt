use Rattle.user_client.proofs.CallsAreSteps.{taken_out}
use Rattle.user_client.proofs.caller.Caller.take_accepted.Goals as goal

pub returns : goal.returns
returns c = record {
  trace = taken_out c.self.inside.core c.self.inside.was_accepted c.self.inside.answers c.take_accepted.new.self c.take_accepted.result.items
      c.self.view_is c.take_accepted.ensures.taken c.take_accepted.ensures.left;
}
