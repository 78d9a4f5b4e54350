use Rattle.std.proofs.Common.{Option, Ok, Err, subst}
use Rattle.packet.specs.declared.packet.Packet.{Packet}
use Rattle.cutter.specs.Stream.{Takes}
use Rattle.cutter.specs.declared.error.CutError.{CutError}
use Rattle.packet_rows.proofs.StreamAnswers.{take_fault, take_more, take_none}
use Rattle.packet_rows.proofs.stream_steps.+take_all.Goals as goal

pub returns-in_ok-goes_on-in-Ok-Some : goal.returns-in_ok-goes_on-in-Ok-Some
returns-in_ok-goes_on-in-Ok-Some t c =
    let P : Option Packet → Type 0 = λ taken. Takes c.args.cutter.now (Ok taken) c.next.new.self in (
      c.in_ok-goes_on-in-Ok-Some.ensures.0,
      take_more c.args.cutter.now c.next.new.self c.take_all.new.cutter c.in-Ok-Some.packet c.args.answers.now.items
          c.put_packet-is_put.new.answers.items c.take_all.new.answers.items (subst P c.in-Ok-Some.field-0-is c.in-Ok-Some.ensures)
          c.in_ok-is_put-in-Ok-Some.ensures c.in_ok-goes_on-in-Ok-Some.ensures.1,
    )

pub returns-in-Ok-None : goal.returns-in-Ok-None
returns-in-Ok-None t c =
    let P : Option Packet → Type 0 = λ taken. Takes c.args.cutter.now (Ok taken) c.next.new.self in
    take_none c.args.cutter.now c.next.new.self c.args.answers.now.items (subst P c.in-Ok-None.field-0-is c.in-Ok-None.ensures)

pub returns-in_ok-put_fault-in-Err-Decode : goal.returns-in_ok-put_fault-in-Err-Decode
returns-in_ok-put_fault-in-Err-Decode t c =
    let P : CutError → Type 0 = λ error. Takes c.args.cutter.now (Err error) c.next.new.self in
    take_fault c.args.cutter.now c.next.new.self c.in-Err-Decode.fault c.args.answers.now.items c.put_fault.new.answers.items
    (subst P c.in-Err-Decode.field-0-is c.in-Err-Decode.ensures) c.in_ok-put_fault-in-Err-Decode.ensures
