use Rattle.std.proofs.Common.{◌++◌, ◌∙◌, ap, drop, length, replicate}
use Rattle.std.proofs.lemmas.List.{drop-replicate}
use Rattle.links.proofs.seal.keyed_hash.padded.Goals as goal

pub returns : goal.returns
returns c =
    ap (λ l. l ++ drop (length c.args.key.now) (replicate 64 0)) c.copy_from_slice.ensures.after
    ∙ ap (λ l. c.args.key.now ++ l) (drop-replicate (length c.args.key.now) 64 0)
