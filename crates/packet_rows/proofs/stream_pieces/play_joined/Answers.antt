use Rattle.std.proofs.Common.{ℕ, List, ◌++◌, ap, ◌∙◌}
use Rattle.rows.specs.Fields.{texts}
use Rattle.packet_rows.specs.StreamRuns.{joined}
use Rattle.packet_rows.proofs.PieceAnswers.{same_in_pieces}
use Rattle.packet_rows.proofs.stream_pieces.play_joined.Goals as goal

pub returns : goal.returns
returns c agrees =
    same_in_pieces (texts c.args.pieces.now) c.in_ok-wanted.wanted.items c.as_slice-2.result.now c.append_joined.new.bytes.items
    c.as_slice.result.now c.in_ok-wanted.ensures
    (c.in_ok-append_joined.ensures ∙ ap (λ (before : List ℕ). before ++ joined (texts c.args.pieces.now)) c.new-bytes.ensures.items)
    c.as_slice.ensures.value c.as_slice-2.ensures.value
    (c.play_bytes.ensures.cut agrees) (c.play_bytes.ensures.each agrees)
