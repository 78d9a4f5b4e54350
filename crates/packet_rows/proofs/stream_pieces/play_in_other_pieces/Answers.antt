use Rattle.packet_rows.proofs.PieceAnswers.{same_pieces}
use Rattle.packet_rows.proofs.stream_pieces.play_in_other_pieces.Goals as goal

pub returns : goal.returns
returns c agrees =
    same_pieces c.new-pieces.result.items c.append_pieces.new.pieces.items c.as_slice.result.now _ c.new-pieces.ensures.items
    c.in_ok-append_pieces.ensures c.as_slice.ensures.value (c.play_joined.ensures agrees)
