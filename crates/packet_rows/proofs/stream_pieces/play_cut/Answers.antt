use Rattle.std.proofs.Common.{sym, ◌∙◌}
use Rattle.packet_rows.proofs.PieceAnswers.{cut_more}
use Rattle.packet_rows.proofs.stream_pieces.play_cut.Goals as goal

pub loop-at-preserved : goal.loop-at-preserved
loop-at-preserved c =
    cut_more c.args.bytes.now _ _ c.args.wanted.now c.in_ok-answers.answers.items c.as_slice.result.now c.loop-at.at
    c.split_at.ensures.front c.split_at.ensures.back c.in_ok-answers.ensures c.as_slice.ensures.value
    (sym c.are_equal.ensures ∙ c.if-not-are_equal.false)
    c.loop-at.invariant
