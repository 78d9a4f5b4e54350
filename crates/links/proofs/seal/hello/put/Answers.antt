use Rattle.std.proofs.Common.{◌+◌, ◌∙◌, ◌++◌, List, take, length, ap, sym, arith}
use Rattle.std.proofs.lemmas.Slice.{take-put_mid}
use Rattle.links.proofs.seal.hello.put.Goals as goal

pub returns : goal.returns
returns c =
    take-put_mid c.args.at _ c.args.bytes.now c.copy_from_slice.new.self (c.args.at + length c.args.part.now)
    (sym (ap (λ (l : List _). c.args.at + length l) c.copy_from_slice.ensures.after)) (omega arith)
    ∙ ap (λ (l : List _). take c.args.at c.args.bytes.now ++ l) c.copy_from_slice.ensures.after
