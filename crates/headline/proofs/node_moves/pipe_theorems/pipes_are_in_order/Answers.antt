use Rattle.headline.proofs.of_node_moves.PacketsComeOut.{pipe_opens, pipe_grows, pipe_carries, pipe_gives, pipe_gives_next, pipe_has_no_fault}
use Rattle.headline.proofs.node_moves.pipe_theorems.pipes_are_in_order.Goals as goal

pub returns : goal.returns
returns c =
    record { opens = pipe_opens; grows = pipe_grows; carries = pipe_carries; gives = pipe_gives; next = pipe_gives_next; no_fault = pipe_has_no_fault }
