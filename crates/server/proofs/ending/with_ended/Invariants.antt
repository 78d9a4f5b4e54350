use Rattle.std.proofs.Common.{take}
use Rattle.std.specs.List.{All}
use mathlib.Core.List.{IsPrefix}
use Rattle.server.specs.Ended.{EndedView}
use Rattle.server.proofs.ending.with_ended.Given as goal

abbrev pub invariant-loop-one : goal.invariant-loop-one
invariant-loop-one g l = record {
  seen : IsPrefix l.seen l.joined;
  known : All (λ (one : EndedView). IsPrefix one.log l.joined) (take l.one-index l.served);
}
