use Rattle.std.proofs.Common.{◌∷◌, [], List, length, replicate, refl, ap, arith}
use Rattle.cluster.specs.desk.Form.{members_bytes, waiting_bytes}
use Rattle.cluster.proofs.of_desk.Chained.{seven}
use Rattle.cluster.proofs.desk.form.parts_of.Goals as goal

pub returns : goal.returns
returns c =
    seven (1 ∷ []) c.args.cluster.now (c.args.next ∷ []) c.to_be_bytes.result c.to_be_bytes-2.result c.members_bytes.result c.waiting_bytes.result
    (replicate 59 0) c.put.new.bytes c.put-2.new.bytes c.put-3.new.bytes c.put-4.new.bytes c.put-5.new.bytes c.put-6.new.bytes c.put-7.new.bytes
    refl (omega arith) refl (ap (λ (l : List _). length l) c.to_be_bytes.ensures) (ap (λ (l : List _). length l) c.to_be_bytes-2.ensures) (omega arith) (omega arith)
    c.put-7.array_long c.put.ensures c.put-2.ensures c.put-3.ensures c.put-4.ensures c.put-5.ensures c.put-6.ensures c.put-7.ensures
    _ _ (members_bytes c.args.members.now) (waiting_bytes c.args.waiting.now) c.to_be_bytes.ensures c.to_be_bytes-2.ensures c.members_bytes.ensures c.waiting_bytes.ensures
