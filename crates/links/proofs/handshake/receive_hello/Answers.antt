use Rattle.std.proofs.Common.{◌≡◌, ◌≤◌, length, take, sym, arith}
use Rattle.links.proofs.Hellos.{not_unfinished, read_all, read_more}
use Rattle.links.proofs.handshake.receive_hello.Goals as goal

pub returns-in-Some-clause-fails : goal.returns-in-Some-clause-fails
returns-in-Some-clause-fails g c = (
  take c.in-Ok.end c.read_behind.new.bytes,
  read_more _ _ _ c.loop-end.end c.in-Ok.end c.loop-end.bytes c.read_behind.new.bytes c.loop-end.invariant.read c.in-Ok.ensures.read,
  c.in-Some.ensures.1,
  c.in-Some.ensures.0,
)

pub returns-in-Err-read-clause-fails : goal.returns-in-Err-read-clause-fails
returns-in-Err-read-clause-fails g c =
    let size : length c.loop-end.bytes ≡ 55 = c.loop-end-test.array_long in
    let all : length c.loop-end.bytes ≤ c.loop-end.end = omega (arith, size) in
    let said = sym c.in-Err-read.ensures in
    (c.loop-end.bytes, read_all _ _ c.loop-end.end c.loop-end.bytes all c.loop-end.invariant.read, said, not_unfinished c.args.rules c.args.membership c.loop-end.bytes c.in-Err-read.fault size said)
