use Rattle.std.proofs.Common.{◌≡◌, ◌++◌, drop, map, take}
use Rattle.play.specs.Inside.{lines_unwritten, written_at}
use Rattle.play.proofs.played_world.write_all_new.Given as goal

abbrev pub invariant-loop-recipient : goal.invariant-loop-recipient
invariant-loop-recipient l = record {
  recipients : l.recipients ≡ map (written_at l.world) (take l.recipient-index l.initial.recipients) ++ drop l.recipient-index l.initial.recipients;
  lines : l.transcript.items ≡ l.initial.transcript.items ++ lines_unwritten (take l.recipient-index l.initial.recipients) l.world;
}
