use Rattle.std.proofs.Common.{Option, Ok, subst}
use Rattle.packet.specs.declared.packet.Packet.{Packet}
use Rattle.client.specs.Inside.PacketSteps.{TakesNext}
use Rattle.client.proofs.HandlingFails.{handling_fails}
use Rattle.client.proofs.client_core.ClientCore.read_one.Goals as goal

pub returns-in-Err-handle-clause-one : goal.returns-in-Err-handle-clause-one
returns-in-Err-handle-clause-one c =
    handling_fails c.args.self.now c.next_packet.new.self c.handle.new.self c.in-Ok-Some.packet c.in-Err-handle.error
    (subst (λ (found : Option Packet). TakesNext c.args.self.now (Ok found) c.next_packet.new.self)
    c.in-Ok-Some.field-0-is c.in-Ok-Some.ensures)
    c.in-Err-handle.ensures
