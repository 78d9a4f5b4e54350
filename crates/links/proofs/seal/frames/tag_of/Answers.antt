use Rattle.std.proofs.Common.{◌∙◌, ◌++◌, ap, take}
use Rattle.std.specs.Int.{w64, to_be_bytes}
use Rattle.links.specs.seal.Hmac.{hmac}
use Rattle.links.proofs.seal.frames.tag_of.Goals as goal

pub returns : goal.returns
returns c =
    c.first_bytes.ensures
    ∙ ap (take 16) c.hmac-whole.ensures
    ∙ ap (λ head. take 16 (hmac c.args.key.now (head ++ c.to_be_bytes-2.result ++ c.args.frame.now))) c.to_be_bytes.ensures
    ∙ ap (λ middle. take 16 (hmac c.args.key.now (to_be_bytes w64 c.args.number ++ middle ++ c.args.frame.now))) c.to_be_bytes-2.ensures
