use Rattle.std.proofs.Common.{◌≡◌, ◌++◌, map}
use Rattle.ballot_base.specs.declared.message.Effect.TheVariants.{Out}
use Rattle.ballot_base.proofs.application.append_outputs.Given as goal

abbrev pub invariant-loop-output : goal.invariant-loop-output
invariant-loop-output g l = l.out.items ≡ l.initial.out.items ++ map (Out l.place) l.yielded
