use Rattle.std.proofs.Common.{◌<◌, ◌++◌, List, take, length, arith, ap, ◌∙◌}
use Rattle.links.specs.frames.Parts.{part, parts_of}
use Rattle.links.proofs.of_frames.PartsJoined.{moved_on, left_room}
use Rattle.links.proofs.frames.parts.put_parts.Goals as goal

pub put_part-requires-clause-room : goal.put_part-requires-clause-room
put_part-requires-clause-room c =
    let left = left_room c.parts.rest.now (omega arith) in
    omega (arith, left, c.split_at.ensures.front_len, c.parts.invariant.room)

pub parts-preserved : goal.parts-preserved
parts-preserved c =
    let long : 65536 < length c.parts.rest.now = omega arith in
    let left = left_room c.parts.rest.now long in
    let on = moved_on c.args.out.now.items c.parts.out.items c.parts.rest.now c.args.message.now long c.parts.invariant.written in
    record {
      written =
          ap (λ (l : List _). l ++ parts_of c.split_at.result.1.now) c.put_part.ensures.items
          ∙ ap (λ (l : List _). (c.parts.out.items ++ part 1 l) ++ parts_of c.split_at.result.1.now) c.split_at.ensures.front
          ∙ ap (λ (l : List _). (c.parts.out.items ++ part 1 (take 65536 c.parts.rest.now)) ++ parts_of l) c.split_at.ensures.back
          ∙ on;
      room = omega (
        arith,
        left,
        c.parts.invariant.room,
        c.put_part.ensures.len,
        c.put_part.ensures.capacity,
        c.split_at.ensures.front_len,
        ap (λ (l : List _). length (parts_of l)) c.split_at.ensures.back,
      );
    }
