-- Prefixes of lists, as the toolchain's logs have them.
use Rattle.std.proofs.Common.{List, ◌++◌, [], refl, ap, sym, ◌∙◌, append_assoc}
use Rattle.std.proofs.lemmas.List.{append-nil}
use mathlib.Core.List.{IsPrefix}

pub prefix_trans : {A : Type 0} (xs ys zs : List A) → IsPrefix xs ys → IsPrefix ys zs → IsPrefix xs zs
prefix_trans xs ys zs first then = (first.0 ++ then.0, sym (append_assoc xs first.0 then.0) ∙ (ap (λ w. w ++ then.0) first.1 ∙ then.1))

pub prefix_more : {A : Type 0} (xs ys : List A) → IsPrefix xs (xs ++ ys)
prefix_more xs ys = (ys, refl)

pub prefix_self : {A : Type 0} (xs : List A) → IsPrefix xs xs
prefix_self xs = ([], append-nil xs)
