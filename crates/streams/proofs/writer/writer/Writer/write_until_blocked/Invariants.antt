use Rattle.std.specs.Arc.{arc_value}
use Rattle.streams.specs.WriteTokens.{IsTokenOf}
use Rattle.streams.proofs.writer.writer.Writer.write_until_blocked.Given as goal

abbrev pub invariant-loop : goal.invariant-loop
invariant-loop g l = record {
  can : (goal.iterator-loop g).can_next l.iterator';
  ends : (goal.iterator-loop g).is_finite l.iterator';
  port : IsTokenOf (arc_value l.link).port l.token;
}
