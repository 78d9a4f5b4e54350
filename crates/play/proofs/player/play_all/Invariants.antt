use Rattle.std.proofs.Common.{◌≡◌, take}
use Rattle.play.specs.Inside.{AppendsLines, AreWritten, names_of}
use Rattle.play.proofs.player.play_all.Given as goal

abbrev pub invariant-loop-index : goal.invariant-loop-index
invariant-loop-index l = record {
  named : names_of l.played.recipients.items ≡ names_of l.initial.played.recipients.items;
  written : AreWritten l.played.recipients.items l.played.world;
  all : AppendsLines (names_of l.initial.played.recipients.items) (take l.index l.lines) l.initial.played.world l.played.world l.initial.transcript.items l.transcript.items;
}
