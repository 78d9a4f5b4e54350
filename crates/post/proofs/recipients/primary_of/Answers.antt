use Rattle.std.proofs.Common.{rules}
use Rattle.post.proofs.HighestFound.{found_is_highest, none_is_found}
use Rattle.post.proofs.recipients.primary_of.Goals as goal

pub returns-in-Some-clause-some : goal.returns-in-Some-clause-some
returns-in-Some-clause-some c =
    found_is_highest c.in-Some.best _ c.loop-shown.shown-index c.args.nodes.now (search rules) c.loop-shown.invariant c.in-Some.is

pub returns-in-None-clause-none : goal.returns-in-None-clause-none
returns-in-None-clause-none c = λ _.
    none_is_found _ c.loop-shown.shown-index c.args.nodes.now (search rules) c.loop-shown.invariant c.in-None.is
