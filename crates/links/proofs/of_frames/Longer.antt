-- Longer.antt: a message at the front of a stream stays there when more comes.
use Rattle.std.proofs.Common.{◌≡◌, ℕ, ◌+◌, ◌-◌, ◌≤◌, true, false, List, ◌++◌, length, take, drop, refl, sym, ap, ◌∙◌, subst, arith, length-append}
use Rattle.std.proofs.lemmas.List.{take-append-le, drop-append-le, length-drop}
use Rattle.links.specs.declared.frames.head.Head.TheVariants.{Part}
use Rattle.links.specs.frames.Heads.{head_of}
use Rattle.links.specs.frames.Fronts.{Front, Begins, behind, bytes_of, after}
use Rattle.links.specs.frames.Fronts.Front.{whole, unfinished, broken}
use Rattle.links.specs.frames.Fronts.Begins.{in_head, faulty, in_part, ends, goes_on}
use Rattle.links.proofs.of_frames.PartHeads.{head_longer}

drop_longer : (stream later : List ℕ) (len : ℕ) → 5 + len ≤ length stream → drop 5 (stream ++ later) ≡ drop 5 stream ++ later
drop_longer stream later len all = drop-append-le 5 stream later (omega (arith, all))

enough : (stream : List ℕ) (len : ℕ) → 5 + len ≤ length stream → len ≤ length (drop 5 stream)
enough stream len all = omega (arith, all, length-drop 5 stream)

pub longer_bytes : (stream later : List ℕ) (len : ℕ) → 5 + len ≤ length stream → bytes_of len (stream ++ later) ≡ bytes_of len stream
longer_bytes stream later len all =
    ap (λ (l : List ℕ). take len l) (drop_longer stream later len all)
    ∙ take-append-le len (drop 5 stream) later (enough stream len all)

pub longer_after : (stream later : List ℕ) (len : ℕ) → 5 + len ≤ length stream → after len (stream ++ later) ≡ after len stream ++ later
longer_after stream later len all =
    ap (λ (l : List ℕ). drop len l) (drop_longer stream later len all)
    ∙ drop-append-le len (drop 5 stream) later (enough stream len all)

pub longer_all : (stream later : List ℕ) (len : ℕ) → 5 + len ≤ length stream → 5 + len ≤ length (stream ++ later)
longer_all stream later len all = omega (arith, all, length-append stream later)

-- a part before a front
pub part_before : (room len : ℕ) (stream later : List ℕ) (front : Front) → head_of room stream ≡ Part true len → 5 + len ≤ length stream
    → Begins (room - len) (after len stream ++ later) front → Begins room (stream ++ later) (behind (bytes_of len stream) front)
part_before room len stream later front e all b =
    subst (λ (l : List ℕ). Begins room (stream ++ later) (behind l front)) (longer_bytes stream later len all)
    (goes_on {len = len} (head_longer room stream later true len e) (longer_all stream later len all)
    (subst (λ (l : List ℕ). Begins (room - len) l front) (sym (longer_after stream later len all)) b))

longer_end : (room len : ℕ) (stream later : List ℕ) → head_of room stream ≡ Part false len → 5 + len ≤ length stream
    → Begins room (stream ++ later) (whole (bytes_of len stream) (after len stream ++ later))
longer_end room len stream later e all =
    subst (λ (l : List ℕ). Begins room (stream ++ later) (whole (bytes_of len stream) l)) (longer_after stream later len all)
    (subst (λ (l : List ℕ). Begins room (stream ++ later) (whole l (after len (stream ++ later)))) (longer_bytes stream later len all)
    (ends {len = len} (head_longer room stream later false len e) (longer_all stream later len all)))

same_whole : (m n r s : List ℕ) → whole m r ≡ whole n s → (m ≡ n) × (r ≡ s)
same_whole m n r s e = (cc, cc)

longer_by : (room : ℕ) (stream later message rest : List ℕ) (front : Front) → Begins room stream front → front ≡ whole message rest
    → Begins room (stream ++ later) (whole message (rest ++ later))
longer_by room stream later message rest front (in_head e) is = cc
longer_by room stream later message rest front (faulty e) is = cc
longer_by room stream later message rest front (in_part e few) is = cc
longer_by room stream later message rest front (ends {len = n} e all) is =
    let same = same_whole (bytes_of n stream) message (after n stream) rest is in
    subst (λ (l : List ℕ). Begins room (stream ++ later) (whole message (l ++ later))) same.1
    (subst (λ (l : List ℕ). Begins room (stream ++ later) (whole l (after n stream ++ later))) same.0 (longer_end room n stream later e all))
longer_by room stream later message rest front (goes_on {len = n} {front = unfinished} e all b) is = cc
longer_by room stream later message rest front (goes_on {len = n} {front = broken fault} e all b) is = cc
longer_by room stream later message rest front (goes_on {len = n} {front = whole more left} e all b) is =
    let same = same_whole (bytes_of n stream ++ more) message left rest is in
    let again = longer_by (room - n) (after n stream) later more left (whole more left) b refl in
    subst (λ (l : List ℕ). Begins room (stream ++ later) (whole message (l ++ later))) same.1
    (subst (λ (l : List ℕ). Begins room (stream ++ later) (whole l (left ++ later))) same.0 (part_before room n stream later (whole more (left ++ later)) e all again))

pub longer : (room : ℕ) (stream later message rest : List ℕ) → Begins room stream (whole message rest)
    → Begins room (stream ++ later) (whole message (rest ++ later))
longer room stream later message rest b = longer_by room stream later message rest (whole message rest) b refl
