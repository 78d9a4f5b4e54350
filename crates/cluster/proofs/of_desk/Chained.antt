-- Chained.antt: bytes that are written part by part.
use Rattle.std.proofs.Common.{◌≡◌, ℕ, ◌+◌, List, [], ◌++◌, length, take, refl, sym, ap, ◌∙◌, subst, arith}
use Rattle.std.proofs.lemmas.List.{take_all}

step : (at n : ℕ) (part new old front : List ℕ) → take (at + length part) new ≡ take at old ++ part → take at old ≡ front → at + length part ≡ n → take n new ≡ front ++ part
step at n part new old front is before size = subst (λ (k : ℕ). take k new ≡ take at old ++ part) size is ∙ ap (λ (l : List ℕ). l ++ part) before

pub seven : (p1 p2 p3 p4 p5 p6 p7 b0 b1 b2 b3 b4 b5 b6 b7 : List ℕ)
    → length p1 ≡ 1 → length p2 ≡ 16 → length p3 ≡ 1 → length p4 ≡ 8 → length p5 ≡ 8 → length p6 ≡ 8 → length p7 ≡ 17 → length b7 ≡ 59
    → take (0 + length p1) b1 ≡ take 0 b0 ++ p1 → take (1 + length p2) b2 ≡ take 1 b1 ++ p2 → take (17 + length p3) b3 ≡ take 17 b2 ++ p3
    → take (18 + length p4) b4 ≡ take 18 b3 ++ p4 → take (26 + length p5) b5 ≡ take 26 b4 ++ p5 → take (34 + length p6) b6 ≡ take 34 b5 ++ p6
    → take (42 + length p7) b7 ≡ take 42 b6 ++ p7
    → (q4 q5 q6 q7 : List ℕ) → p4 ≡ q4 → p5 ≡ q5 → p6 ≡ q6 → p7 ≡ q7 → b7 ≡ p1 ++ p2 ++ p3 ++ q4 ++ q5 ++ q6 ++ q7
seven p1 p2 p3 p4 p5 p6 p7 b0 b1 b2 b3 b4 b5 b6 b7 l1 l2 l3 l4 l5 l6 l7 whole h1 h2 h3 h4 h5 h6 h7 q4 q5 q6 q7 e4 e5 e6 e7 =
    let t1 : take 1 b1 ≡ p1 = step 0 1 p1 b1 b0 [] h1 refl (omega (arith, l1)) in
    let t2 : take 17 b2 ≡ p1 ++ p2 = step 1 17 p2 b2 b1 p1 h2 t1 (omega (arith, l2)) in
    let t3 : take 18 b3 ≡ p1 ++ p2 ++ p3 = step 17 18 p3 b3 b2 (p1 ++ p2) h3 t2 (omega (arith, l3)) in
    let t4 : take 26 b4 ≡ p1 ++ p2 ++ p3 ++ p4 = step 18 26 p4 b4 b3 (p1 ++ p2 ++ p3) h4 t3 (omega (arith, l4)) in
    let t5 : take 34 b5 ≡ p1 ++ p2 ++ p3 ++ p4 ++ p5 = step 26 34 p5 b5 b4 (p1 ++ p2 ++ p3 ++ p4) h5 t4 (omega (arith, l5)) in
    let t6 : take 42 b6 ≡ p1 ++ p2 ++ p3 ++ p4 ++ p5 ++ p6 = step 34 42 p6 b6 b5 (p1 ++ p2 ++ p3 ++ p4 ++ p5) h6 t5 (omega (arith, l6)) in
    let t7 : take 59 b7 ≡ p1 ++ p2 ++ p3 ++ p4 ++ p5 ++ p6 ++ p7 = step 42 59 p7 b7 b6 (p1 ++ p2 ++ p3 ++ p4 ++ p5 ++ p6) h7 t6 (omega (arith, l7)) in
    sym (take_all 59 b7 (omega (arith, whole))) ∙ t7
    ∙ ap (λ (l : List ℕ). p1 ++ p2 ++ p3 ++ l ++ p5 ++ p6 ++ p7) e4
    ∙ ap (λ (l : List ℕ). p1 ++ p2 ++ p3 ++ q4 ++ l ++ p6 ++ p7) e5
    ∙ ap (λ (l : List ℕ). p1 ++ p2 ++ p3 ++ q4 ++ q5 ++ l ++ p7) e6
    ∙ ap (λ (l : List ℕ). p1 ++ p2 ++ p3 ++ q4 ++ q5 ++ q6 ++ l) e7
