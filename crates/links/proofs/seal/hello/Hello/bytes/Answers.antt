use Rattle.std.proofs.Common.{◌∷◌, [], List, length, replicate, refl, ap, arith}
use Rattle.std.specs.Int.{w16, w32, to_be_bytes}
use Rattle.links.proofs.of_seal.HelloWritten.{written}
use Rattle.links.proofs.seal.hello.Hello.bytes.Goals as goal

pub returns : goal.returns
returns c =
    written c.to_be_bytes.result c.to_be_bytes-2.result c.args.self.now.cluster (c.args.self.now.number ∷ []) c.args.self.now.random
    (replicate 55 0) c.put.new.bytes c.put-2.new.bytes c.put-3.new.bytes c.put-4.new.bytes c.put-5.new.bytes
    (ap (λ (l : List _). length l) c.to_be_bytes.ensures) (ap (λ (l : List _). length l) c.to_be_bytes-2.ensures) (omega arith) refl (omega arith)
    c.put-5.array_long c.put.ensures c.put-2.ensures c.put-3.ensures c.put-4.ensures c.put-5.ensures
    (to_be_bytes w16 1) (to_be_bytes w32 c.args.self.now.rules) c.to_be_bytes.ensures c.to_be_bytes-2.ensures
