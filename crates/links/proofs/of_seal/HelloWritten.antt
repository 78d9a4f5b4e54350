-- HelloWritten.antt: a hello is written part by part.
use Rattle.std.proofs.Common.{◌≡◌, ℕ, ◌+◌, List, ◌++◌, length, take, sym, ap, ◌∙◌, subst, arith}
use Rattle.std.proofs.lemmas.List.{take_all}

at_place : (at n : ℕ) (part new : List ℕ) (old : List ℕ) → take (at + length part) new ≡ take at old ++ part → at + length part ≡ n → take n new ≡ take at old ++ part
at_place at n part new old is size = subst (λ (k : ℕ). take k new ≡ take at old ++ part) size is

pub written : (version rules cluster number random a b c d e f : List ℕ)
    → length version ≡ 2 → length rules ≡ 4 → length cluster ≡ 16 → length number ≡ 1 → length random ≡ 32 → length f ≡ 55
    → take (0 + length version) b ≡ take 0 a ++ version
    → take (2 + length rules) c ≡ take 2 b ++ rules
    → take (6 + length cluster) d ≡ take 6 c ++ cluster
    → take (22 + length number) e ≡ take 22 d ++ number
    → take (23 + length random) f ≡ take 23 e ++ random
    → (v r : List ℕ) → version ≡ v → rules ≡ r → f ≡ v ++ r ++ cluster ++ number ++ random
written version rules cluster number random a b c d e f vl rl cl n ra whole h1 h2 h3 h4 h5 v r v_is r_is =
    let b2 : take 2 b ≡ version = at_place 0 2 version b a h1 (omega (arith, vl)) in
    let c6 : take 6 c ≡ version ++ rules = at_place 2 6 rules c b h2 (omega (arith, rl)) ∙ ap (λ (l : List ℕ). l ++ rules) b2 in
    let d22 : take 22 d ≡ version ++ rules ++ cluster = at_place 6 22 cluster d c h3 (omega (arith, cl)) ∙ ap (λ (l : List ℕ). l ++ cluster) c6 in
    let e23 : take 23 e ≡ version ++ rules ++ cluster ++ number = at_place 22 23 number e d h4 (omega (arith, n)) ∙ ap (λ (l : List ℕ). l ++ number) d22 in
    let f55 : take 55 f ≡ version ++ rules ++ cluster ++ number ++ random = at_place 23 55 random f e h5 (omega (arith, ra)) ∙ ap (λ (l : List ℕ). l ++ random) e23 in
    sym (take_all 55 f (omega (arith, whole))) ∙ f55 ∙ ap (λ (l : List ℕ). l ++ rules ++ cluster ++ number ++ random) v_is ∙ ap (λ (l : List ℕ). v ++ l ++ cluster ++ number ++ random) r_is
