-- PartHeads.antt: what the head of a part says.
use Rattle.std.proofs.Common.{◌≡◌, ℕ, ◌<◌, ◌≤◌, ◌^◌, Bool, true, false, List, [], ◌∷◌, ◌++◌, length, take, Option, Some, None, refl, ap, ◌∙◌, arith, length-append}
use Rattle.std.proofs.Common.{◌==◌, if◌then◌else◌, nat_lt, ltb-false}
use Rattle.std.proofs.lemmas.List.{take-append-le}
use Rattle.std.proofs.lemmas.Nat.{from_be_bytes-to_be_bytes_4}
use Rattle.std.specs.Int.{w32, to_be_bytes, from_be_bytes}
use Rattle.links.specs.declared.frames.head.Head.TheVariants.{Part, Fault}
use Rattle.links.specs.declared.frames.error.PartFault.TheVariants.{Flag, Length, TooLarge}
use Rattle.links.specs.frames.Parts.{part}
use Rattle.links.specs.frames.Heads.{head_of, head_by, len_at, sized}

-- ---- a head that is whole

pub record IsHead (room : ℕ) (stream : List ℕ) (len : ℕ) : Type 0 where
  pub some : 5 ≤ length stream
  pub short : len ≤ 65536
  pub fits : len ≤ room

sized_is : (room n : ℕ) (more is : Bool) (len : ℕ) → sized room more n ≡ Part is len → (n ≡ len) × (len ≤ 65536) × (len ≤ room)
sized_is room n more is len e = by (nat_lt 65536 n) (nat_lt room n) refl refl e
  where
    by : (b c : Bool) → nat_lt 65536 n ≡ b → nat_lt room n ≡ c → (if b then Fault Length else if c then Fault TooLarge else Part more n) ≡ Part is len → (n ≡ len) × (len ≤ 65536) × (len ≤ room)
    by true c t u e = cc
    by false true t u e = cc
    by false false t u e =
        let n_is : n ≡ len = cc in
        let short = ltb-false 65536 n t in
        let fits = ltb-false room n u in
        (n_is, omega (arith, n_is, short), omega (arith, n_is, fits))

len_some : (bytes : List ℕ) (n : ℕ) → len_at bytes ≡ Some n → (4 ≤ length bytes) × (from_be_bytes w32 (take 4 bytes) ≡ n)
len_some bytes n e = by (nat_lt (length bytes) 4) refl e
  where
    by : (b : Bool) → nat_lt (length bytes) 4 ≡ b → (if b then None else Some (from_be_bytes w32 (take 4 bytes))) ≡ Some n → (4 ≤ length bytes) × (from_be_bytes w32 (take 4 bytes) ≡ n)
    by true t e = cc
    by false t e = (ltb-false (length bytes) 4 t, cc)

len_is : (bytes : List ℕ) → 4 ≤ length bytes → len_at bytes ≡ Some (from_be_bytes w32 (take 4 bytes))
len_is bytes some =
    let e : nat_lt (length bytes) 4 ≡ false = grind (arith, some) in
    ap (λ (b : Bool). if b then None else Some (from_be_bytes w32 (take 4 bytes))) e

len_longer : (bytes later : List ℕ) (n : ℕ) → len_at bytes ≡ Some n → len_at (bytes ++ later) ≡ Some n
len_longer bytes later n e =
    let both = len_some bytes n e in
    let some : 4 ≤ length (bytes ++ later) = omega (arith, length-append bytes later, both.0) in
    len_is (bytes ++ later) some ∙ ap (λ (l : List ℕ). Some (from_be_bytes w32 l)) (take-append-le 4 bytes later both.0) ∙ ap (λ (m : ℕ). Some m) both.1

-- a head that is whole, whatever follows
record Whole (room flag : ℕ) (bytes : List ℕ) (more : Bool) (len : ℕ) : Type 0 where
  count : ℕ
  low : nat_lt 1 flag ≡ false
  there : len_at bytes ≡ Some count
  is : sized room (flag == 1) count ≡ Part more len

whole_head : (room flag : ℕ) (bytes : List ℕ) (more : Bool) (len : ℕ) → head_of room (flag ∷ bytes) ≡ Part more len → Whole room flag bytes more len
whole_head room flag bytes more len e = by (nat_lt 1 flag) (len_at bytes) refl refl e
  where
    by : (b : Bool) (o : Option ℕ) → nat_lt 1 flag ≡ b → len_at bytes ≡ o → (if b then Fault Flag else head_by room (flag == 1) o) ≡ Part more len → Whole room flag bytes more len
    by true o t u e = cc
    by false None t u e = cc
    by false (Some n) t u e = record { count = n; low = t; there = u; is = e }

head_is : (room flag : ℕ) (bytes : List ℕ) (n : ℕ) (more : Bool) (len : ℕ) → nat_lt 1 flag ≡ false → len_at bytes ≡ Some n → sized room (flag == 1) n ≡ Part more len → head_of room (flag ∷ bytes) ≡ Part more len
head_is room flag bytes n more len low there is =
    ap (λ (b : Bool). if b then Fault Flag else head_by room (flag == 1) (len_at bytes)) low
    ∙ ap (λ (o : Option ℕ). head_by room (flag == 1) o) there ∙ is

pub is_head : (room : ℕ) (stream : List ℕ) (more : Bool) (len : ℕ) → head_of room stream ≡ Part more len → IsHead room stream len
is_head room [] more len e = cc
is_head room (flag ∷ bytes) more len e =
    let h = whole_head room flag bytes more len e in
    let some = len_some bytes h.count h.there in
    let s = sized_is room h.count (flag == 1) more len h.is in
    record { some = omega (arith, some.0); short = s.1; fits = s.2 }

pub head_longer : (room : ℕ) (stream later : List ℕ) (more : Bool) (len : ℕ) → head_of room stream ≡ Part more len → head_of room (stream ++ later) ≡ Part more len
head_longer room [] later more len e = cc
head_longer room (flag ∷ bytes) later more len e =
    let h = whole_head room flag bytes more len e in
    head_is room flag (bytes ++ later) h.count more len h.low (len_longer bytes later h.count h.there) h.is

-- ---- the head of a part that was written

sized_so : (room n : ℕ) (more : Bool) → n ≤ 65536 → n ≤ room → sized room more n ≡ Part more n
sized_so room n more short fits =
    let a : nat_lt 65536 n ≡ false = grind (arith, short) in
    let b : nat_lt room n ≡ false = grind (arith, fits) in
    ap (λ (c : Bool). if c then Fault Length else if nat_lt room n then Fault TooLarge else Part more n) a
    ∙ ap (λ (c : Bool). if c then Fault TooLarge else Part more n) b

len_again : (n : ℕ) (rest : List ℕ) → n ≤ 65536 → len_at (to_be_bytes w32 n ++ rest) ≡ Some n
len_again n rest short =
    let some : 4 ≤ length (to_be_bytes w32 n ++ rest) = omega (arith, length-append (to_be_bytes w32 n) rest) in
    let small : n < 2 ^ 32 = omega (arith, short) in
    len_is (to_be_bytes w32 n ++ rest) some ∙ ap (λ (m : ℕ). Some m) (from_be_bytes-to_be_bytes_4 n small)

pub last_head : (room : ℕ) (bytes rest : List ℕ) → length bytes ≤ 65536 → length bytes ≤ room → head_of room (part 0 bytes ++ rest) ≡ Part false (length bytes)
last_head room bytes rest short fits =
    head_is room 0 ((to_be_bytes w32 (length bytes) ++ bytes) ++ rest) (length bytes) false (length bytes) refl
    (len_again (length bytes) (bytes ++ rest) short)
    (sized_so room (length bytes) false short fits)

pub more_head : (room : ℕ) (bytes rest : List ℕ) → length bytes ≤ 65536 → length bytes ≤ room → head_of room (part 1 bytes ++ rest) ≡ Part true (length bytes)
more_head room bytes rest short fits =
    head_is room 1 ((to_be_bytes w32 (length bytes) ++ bytes) ++ rest) (length bytes) true (length bytes) refl
    (len_again (length bytes) (bytes ++ rest) short)
    (sized_so room (length bytes) true short fits)
