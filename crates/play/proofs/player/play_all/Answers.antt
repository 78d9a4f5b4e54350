use Rattle.std.proofs.Common.{refl, ◌∙◌, arith}
use Rattle.play.proofs.PlayedToTheEnd.{appends_more, appends_none, renamed}
use Rattle.play.proofs.player.play_all.Goals as goal

pub loop-index-init : goal.loop-index-init
loop-index-init c = record { named = refl; written = c.requires.written; all = appends_none _ _ _ }

pub loop-index-preserved : goal.loop-index-preserved
loop-index-preserved c = record {
  named = c.in_ok-play.ensures.named ∙ c.loop-index.invariant.named;
  written = c.in_ok-play.ensures.written;
  all =
      appends_more _ c.args.lines.now c.loop-index.index c.index-lines-index.result _ _ _ _ _ _ (omega arith) c.index-lines-index.is
      c.loop-index.invariant.all (renamed c.loop-index.invariant.named c.in_ok-play.ensures.lines);
}
