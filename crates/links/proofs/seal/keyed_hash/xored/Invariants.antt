use Rattle.std.proofs.Common.{◌≡◌, length, take}
use Rattle.links.specs.seal.Hmac.{xored}
use Rattle.links.proofs.seal.keyed_hash.xored.Given as goal

abbrev pub invariant-bytes : goal.invariant-bytes
invariant-bytes l =
    (length l.out ≡ 64) × (take l.index l.out ≡ xored l.byte (take l.index l.block))
