use Rattle.std.proofs.Common.{arith}
use Rattle.links.proofs.Hellos.{piece_behind}
use Rattle.links.proofs.handshake.read_behind.Goals as goal

pub returns-clause-read : goal.returns-clause-read
returns-clause-read g c =
    let front = c.split_at_mut-room.ensures.front in
    let front_len = c.split_at_mut-room.ensures.front_len in
    let back_len = c.split_at_mut-room.ensures.back_len in
    let size = c.read_piece.auto.buffer in
    piece_behind c.args.from c.in_ok-count.count c.args.bytes.now c.split_at_mut-room.result.0.now c.read_piece.new.buffer _ _
    front (omega (arith, front_len)) (omega (arith, front_len, back_len, size)) c.in_ok-count.ensures.0 c.in_ok-count.ensures.1 c.in_ok-count.ensures.2
