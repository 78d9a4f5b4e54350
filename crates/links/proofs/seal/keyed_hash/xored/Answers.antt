use Rattle.std.proofs.Common.{ℕ, ◌≡◌, ◌++◌, ◌∷◌, [], ◌∙◌, List, arith, refl, sym, ap, map, bit_xor, slice_index}
use Rattle.std.proofs.lemmas.List.{length-replicate, length-set, map-append, take_all, take_more, take_more_set}
use Rattle.links.proofs.seal.keyed_hash.xored.Goals as goal

pub bytes-init : goal.bytes-init
bytes-init c = (length-replicate {A = ℕ} 64 0, refl)

pub bytes-preserved : goal.bytes-preserved
bytes-preserved c =
    let kept = c.bytes.invariant in
    let each = slice_index c.args.block.now c.bytes.index in
    let byte = bit_xor each c.args.byte in (
      length-set _ _ _ ∙ kept.0,
      take_more_set c.bytes.out c.bytes.index byte (omega arith)
          ∙ ap (λ (l : List _). l ++ byte ∷ []) kept.1
          ∙ sym (map-append _ _ (each ∷ []))
          ∙ sym (ap (map (λ b. bit_xor b c.args.byte)) (take_more c.args.block.now c.bytes.index 0 (omega arith))),
    )

pub returns : goal.returns
returns c =
    let kept = c.bytes.invariant in
    let e : c.bytes.index ≡ 64 = omega arith in
    sym (take_all 64 c.bytes.out (omega arith)) ∙ rw e at kept.1 ∙ ap (map (λ b. bit_xor b c.args.byte)) (take_all 64 c.args.block.now (omega arith))
