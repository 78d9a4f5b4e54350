-- A stream is cut in one way, and what was given is a prefix of its packets.
use Rattle.std.proofs.Common.{◌≡◌, ℕ, List, [], ◌∷◌, ◌++◌, refl, sym, ◌∙◌, ap, ap₂, subst, append_assoc}
use Rattle.std.proofs.lemmas.List.{append_cancel_left}
use Rattle.packet.specs.Theorems.{NoneBeginsAnother}
use Rattle.packet.specs.declared.packet.Packet.{Packet}
use Rattle.cutter.specs.Stream.{Stream, GoesOnWith, CutsInto}
use Rattle.cutter.specs.Theorems.{OneCut, CutterRan, PacketsOfTheStream}
use Rattle.cutter.specs.Theorems.CutterRan.{begins, feeds, gives, answers}

-- if two packets are at the front, they are equal, and so is what follows
same-front : NoneBeginsAnother → (bytes : List ℕ) (p q : Packet) (x y : List ℕ) → GoesOnWith bytes p x → GoesOnWith bytes q y → (p ≡ q) × (x ≡ y)
same-front law bytes p q x y (a, sa, pa, ea) (b, sb, pb, eb) =
    let h = law p q a b x y pa pb sa sb (sym ea ∙ eb) in
    (h.0, same-rest a x y (sym ea ∙ eb ∙ ap (λ (z : List ℕ). z ++ y) (sym h.1)))
  where
    same-rest : (a x y : List ℕ) → a ++ x ≡ a ++ y → x ≡ y
    same-rest a x y e = append_cancel_left a x y e

pub one-way : NoneBeginsAnother → OneCut
one-way law bytes [] [] rest left c d = (refl, sym c.0 ∙ d.0)
one-way law bytes [] (q ∷ qs) rest left c d = absurd (c.1 q d.0 (subst (λ (z : List ℕ). GoesOnWith z q d.0) c.0 d.1))
one-way law bytes (p ∷ ps) [] rest left c d = absurd (d.1 p c.0 (subst (λ (z : List ℕ). GoesOnWith z p c.0) d.0 c.1))
one-way law bytes (p ∷ ps) (q ∷ qs) rest left c d =
    let h = same-front law bytes p q c.0 d.0 c.1 d.1 in
    let k = one-way law d.0 ps qs rest left (subst (λ (z : List ℕ). CutsInto z ps rest) h.1 c.2) d.2 in
    (ap₂ (λ (z : Packet) (zs : List Packet). z ∷ zs) h.0 k.0, k.1)

-- ---- what was fed continues from what was given

abbrev pub Begins : List ℕ → List Packet → List ℕ → Type 0
Begins bytes [] rest = bytes ≡ rest
Begins bytes (p ∷ ps) rest = (left : List ℕ) × GoesOnWith bytes p left × Begins left ps rest

begins-more : (bytes : List ℕ) (ps : List Packet) (rest piece : List ℕ) → Begins bytes ps rest → Begins (bytes ++ piece) ps (rest ++ piece)
begins-more bytes [] rest piece b = ap (λ (z : List ℕ). z ++ piece) b
begins-more bytes (p ∷ ps) rest piece (left, (front, spelled, packet, e), more) =
    (left ++ piece, (front, spelled, packet, ap (λ (z : List ℕ). z ++ piece) e ∙ append_assoc front left piece), begins-more left ps rest piece more)

begins-last : (bytes : List ℕ) (ps : List Packet) (p : Packet) (rest left : List ℕ) → Begins bytes ps rest → GoesOnWith rest p left → Begins bytes (ps ++ p ∷ []) left
begins-last bytes [] p rest left b g = (left, subst (λ (z : List ℕ). GoesOnWith z p left) (sym b) g, refl)
begins-last bytes (q ∷ ps) p rest left (l, h, more) g = (l, h, begins-last l ps p rest left more g)

pub ran-begins : (fed : List ℕ) (given : List Packet) (s : Stream) → CutterRan fed given s → Begins fed given s.bytes
ran-begins fed given s begins = refl
ran-begins fed given s (feeds {fed = f} {stream = t} piece r) = begins-more f given t.bytes piece (ran-begins f given t r)
ran-begins fed given s (gives {given = g} {old = t} p r k) = begins-last fed g p t.bytes s.bytes (ran-begins fed g t r) k.2
ran-begins fed given s (answers {old = t} result r e k) = subst (λ (z : List ℕ). Begins fed given z) (sym e) (ran-begins fed given t r)

front-of : NoneBeginsAnother → (bytes : List ℕ) (ps qs : List Packet) (held rest : List ℕ) → Begins bytes ps held → CutsInto bytes qs rest → (later : List Packet) × (qs ≡ ps ++ later)
front-of law bytes [] qs held rest b c = (qs, refl)
front-of law bytes (p ∷ ps) [] held rest b c = absurd (c.1 p b.0 (subst (λ (z : List ℕ). GoesOnWith z p b.0) c.0 b.1))
front-of law bytes (p ∷ ps) (q ∷ qs) held rest b c =
    let h = same-front law bytes p q b.0 c.0 b.1 c.1 in
    let k = front-of law c.0 ps qs held rest (subst (λ (z : List ℕ). Begins z ps held) h.1 b.2) c.2 in
    (k.0, ap₂ (λ (z : Packet) (zs : List Packet). z ∷ zs) (sym h.0) k.1)

pub stream-packets : NoneBeginsAnother → PacketsOfTheStream
stream-packets law fed given s r packets rest c = front-of law fed given packets s.bytes rest (ran-begins fed given s r) c
