-- Forms.antt: the bytes of a state are read as it, and only they are.
use Rattle.std.proofs.Common.{◌≡◌, ℕ, suc, ◌+◌, ◌-◌, ◌<◌, ◌≤◌, ◌==◌, min, Bool, true, false, ◌&&◌, nat_lt, nat_le, if◌then◌else◌, List, [], ◌∷◌, ◌++◌, length, take, drop, replicate, get_or, Option, Some, None, Result, Ok, Err, refl, sym, ap, ap₂, ◌∙◌, arith, length-append, append_assoc, ltb-true, leb-true}
use Rattle.std.specs.Prelude.{slice_index}
use Rattle.std.specs.Str.{bytes_eq}
use Rattle.std.specs.Int.{w64, from_be_bytes}
use Rattle.std.proofs.lemmas.Slice.Eq.{bytes_eq-Decides}
use Rattle.std.proofs.lemmas.List.{take-append-drop, length-take-le, drop-drop, take_at, drop_at, get_or-drop, append-nil, length-replicate, drop_all}
use borrow.Rule.Slice.PartMut.{put_mid}
use Rattle.std.proofs.lemmas.Bool.{le-leb}
use Rattle.std.proofs.lemmas.Nat.{from_be_bytes-to_be_bytes_8}
use Rattle.sha2.specs.Sha256.{sha256}
use Rattle.sha2.proofs.Facts256.{length-sha256}
use Rattle.ballot_base.specs.declared.config.Config.{Config}
use Rattle.agreement.specs.MasterState.{MasterState}
use Rattle.cluster.specs.declared.desk.error.FormFault.{FormFault}
use Rattle.cluster.specs.declared.desk.error.FormFault.TheVariants.{Version, Length, Sum, Shape}
use Rattle.cluster.specs.desk.States.{DeskState, is_sound, may_wait, waits_fit}
use Rattle.cluster.specs.desk.Form.{desk_of, form, is_of, length_checked, members_at, members_bytes, padded, parts, shape_checked, state_at, sum_checked, sum_of, waiting_at, waiting_bytes, wide, wide_at}
use Rattle.cluster.specs.desk.FormTheorems.{IsDesk, FormIsRead, FormIsWritten}

equal : (a b : List ℕ) → bytes_eq a b ≡ true → a ≡ b
equal a b e = (bytes_eq-Decides a b).0 e

itself : (a : List ℕ) → bytes_eq a a ≡ true
itself a = (bytes_eq-Decides a a).1 refl

-- ---- only its bytes are read

ok_if : (b : Bool) (x : Result DeskState FormFault) (fault : FormFault) (state : DeskState) → (if b then x else Err fault) ≡ Ok state → (b ≡ true) × (x ≡ Ok state)
ok_if true x fault state e = (refl, e)
ok_if false x fault state e = cc

pub both : (a b : Bool) → (a && b) ≡ true → (a ≡ true) × (b ≡ true)
both true true e = (refl, refl)
both true false e = cc
both false b e = cc

abbrev done : DeskState → Result DeskState FormFault
done a = Ok a

same_state : (a b : DeskState) → done a ≡ done b → a ≡ b
same_state a b e = cc

pub form_written : FormIsWritten
form_written [] state e = cc
form_written (first ∷ rest) state e =
    let bytes : List ℕ = first ∷ rest in
    let a = ok_if (first == 1) (length_checked (first ∷ rest)) (Version first) state e in
    let b = ok_if (length (first ∷ rest) == 67) (sum_checked (first ∷ rest)) Length state a.1 in
    let c = ok_if (bytes_eq (sum_of (take 59 (first ∷ rest))) (drop 59 (first ∷ rest))) (shape_checked (first ∷ rest)) Sum state b.1 in
    let d = ok_if (is_of (state_at (first ∷ rest)) (take 59 (first ∷ rest))) (Ok (state_at (first ∷ rest))) Shape state c.1 in
    let sums : sum_of (take 59 (first ∷ rest)) ≡ drop 59 (first ∷ rest) = equal _ _ c.0 in
    let halves = both (is_sound (state_at (first ∷ rest)).next (state_at (first ∷ rest)).master) (bytes_eq (parts (state_at (first ∷ rest))) (take 59 (first ∷ rest))) d.0 in
    let front : parts (state_at (first ∷ rest)) ≡ take 59 (first ∷ rest) = equal _ _ halves.1 in
    let is : state_at (first ∷ rest) ≡ state = same_state _ _ d.1 in
    sym (take-append-drop 59 (first ∷ rest))
    ∙ ap (λ (l : List ℕ). take 59 (first ∷ rest) ++ l) (sym sums)
    ∙ ap (λ (l : List ℕ). l ++ sum_of l) (sym front)
    ∙ ap (λ (s : DeskState). form s) is

-- ---- its bytes are read

-- what follows the cluster
behind : DeskState → List ℕ → List ℕ
behind s sum = s.next ∷ (wide s.master.given ++ (wide s.master.active ++ (members_bytes s.master.members ++ (waiting_bytes s.master.waiting ++ sum))))

regrouped : (a b c d e f g s : List ℕ) → a ++ b ++ c ++ d ++ e ++ f ++ g ++ s ≡ a ++ (b ++ (c ++ (d ++ (e ++ (f ++ (g ++ s))))))
regrouped a b c d e f g s =
    append_assoc (a ++ b ++ c ++ d ++ e ++ f) g s ∙ append_assoc (a ++ b ++ c ++ d ++ e) f (g ++ s) ∙ append_assoc (a ++ b ++ c ++ d) e (f ++ (g ++ s))
    ∙ append_assoc (a ++ b ++ c) d (e ++ (f ++ (g ++ s))) ∙ append_assoc (a ++ b) c (d ++ (e ++ (f ++ (g ++ s)))) ∙ append_assoc a b (c ++ (d ++ (e ++ (f ++ (g ++ s)))))

form_is : (s : DeskState) → form s ≡ 1 ∷ (s.cluster ++ behind s (sum_of (parts s)))
unfolding behind
form_is s = regrouped (1 ∷ []) s.cluster (s.next ∷ []) (wide s.master.given) (wide s.master.active) (members_bytes s.master.members) (waiting_bytes s.master.waiting) (sum_of (parts s))

-- ranges of a sound state
pub record Ranges (next : ℕ) (m : MasterState) : Type 0 where
  pub first : 1 ≤ next
  pub last : next ≤ 255
  pub one : 1 ≤ m.active
  pub active : m.active ≤ m.given
  pub given : m.given ≤ 4294967296
  pub members : length m.members ≤ 7
  pub fit : waits_fit m.waiting ≡ true
  pub may : may_wait m.active m.given m.waiting ≡ true

pub ranges : (next : ℕ) (m : MasterState) → is_sound next m ≡ true → Ranges next m
ranges next m e =
    let a = both (nat_le 1 next) _ e in
    let b = both (nat_le next 255) _ a.1 in
    let c = both (nat_le 1 m.active) _ b.1 in
    let d = both (nat_le m.active m.given) _ c.1 in
    let f = both (nat_le m.given 4294967296) _ d.1 in
    let g = both (nat_le (length m.members) 7) _ f.1 in
    let h = both (waits_fit m.waiting) (may_wait m.active m.given m.waiting) g.1 in
    record { first = leb-true 1 next a.0; last = leb-true next 255 b.0; one = leb-true 1 m.active c.0; active = leb-true m.active m.given d.0; given = leb-true m.given 4294967296 f.0; members = leb-true (length m.members) 7 g.0; fit = h.0; may = h.1 }

all_true : (a b : Bool) → a ≡ true → b ≡ true → (a && b) ≡ true
all_true true true p q = refl
all_true true false p q = cc
all_true false b p q = cc

pub sound_of : (next : ℕ) (m : MasterState) → 1 ≤ next → next ≤ 255 → 1 ≤ m.active → m.active ≤ m.given → m.given ≤ 4294967296 → length m.members ≤ 7
    → waits_fit m.waiting ≡ true → may_wait m.active m.given m.waiting ≡ true → is_sound next m ≡ true
sound_of next m first last one active given members fit may =
    all_true (nat_le 1 next) _ (le-leb 1 next first)
    (all_true (nat_le next 255) _ (le-leb next 255 last)
    (all_true (nat_le 1 m.active) _ (le-leb 1 m.active one)
    (all_true (nat_le m.active m.given) _ (le-leb m.active m.given active)
    (all_true (nat_le m.given 4294967296) _ (le-leb m.given 4294967296 given)
    (all_true (nat_le (length m.members) 7) _ (le-leb (length m.members) 7 members)
    (all_true (waits_fit m.waiting) (may_wait m.active m.given m.waiting) fit may))))))

padded_len : (members : List ℕ) → length members ≤ 7 → length (padded members) ≡ 7
padded_len members few =
    let zero_number : ℕ = 0 in
    let zeros = length-replicate (7 - length members) zero_number in
    omega (arith, few, length-append members (replicate (7 - length members) zero_number), zeros)

-- from a place after the cluster on
past : (k : ℕ) (cluster tail : List ℕ) → length cluster ≡ 16 → drop (16 + k) (cluster ++ tail) ≡ drop k tail
past k cluster tail size = sym (drop-drop k 16 (cluster ++ tail)) ∙ ap (λ (l : List ℕ). drop k l) (drop_at cluster tail 16 size)

at_past : (k : ℕ) (cluster tail : List ℕ) → length cluster ≡ 16 → get_or (cluster ++ tail) (16 + k) 0 ≡ get_or tail k 0
at_past k cluster tail size = sym (get_or-drop 16 (cluster ++ tail) k 0) ∙ ap (λ (l : List ℕ). get_or l k 0) (drop_at cluster tail 16 size)

-- and after seven numbers of members
past_members : (j : ℕ) (seven rest : List ℕ) → length seven ≡ 7 → drop (7 + j) (seven ++ rest) ≡ drop j rest
past_members j seven rest size = sym (drop-drop j 7 (seven ++ rest)) ∙ ap (λ (l : List ℕ). drop j l) (drop_at seven rest 7 size)

at_past_members : (j : ℕ) (seven rest : List ℕ) → length seven ≡ 7 → get_or (seven ++ rest) (7 + j) 0 ≡ get_or rest j 0
at_past_members j seven rest size = sym (get_or-drop 7 (seven ++ rest) j 0) ∙ ap (λ (l : List ℕ). get_or l j 0) (drop_at seven rest 7 size)

-- a list of members is read from its count and its seven numbers
members_read : (members rest : List ℕ) → length members ≤ 7 → take (min (length members) 7) (padded members ++ rest) ≡ members
members_read members rest few =
    let n : min (length members) 7 ≡ length members = omega (arith, few) in
    ap (λ (k : ℕ). take k (padded members ++ rest)) n
    ∙ ap (λ (l : List ℕ). take (length members) l) (append_assoc members (replicate (7 - length members) 0) rest)
    ∙ take_at members (replicate (7 - length members) 0 ++ rest) (length members) refl

cluster_there : (s : DeskState) (sum : List ℕ) → IsDesk s → take 16 (drop 1 (1 ∷ (s.cluster ++ behind s sum))) ≡ s.cluster
cluster_there s sum is = take_at s.cluster (behind s sum) 16 is.named

next_there : (s : DeskState) (sum : List ℕ) → IsDesk s → slice_index (1 ∷ (s.cluster ++ behind s sum)) 17 ≡ s.next
unfolding behind
next_there s sum is = at_past 0 s.cluster (behind s sum) is.named

given_there : (s : DeskState) (sum : List ℕ) → IsDesk s → wide_at 18 (1 ∷ (s.cluster ++ behind s sum)) ≡ s.master.given
unfolding behind
given_there s sum is =
    let r = ranges s.next s.master is.sound in
    ap (λ (l : List ℕ). from_be_bytes w64 (take 8 l)) (past 1 s.cluster (behind s sum) is.named)
    ∙ from_be_bytes-to_be_bytes_8 s.master.given (let g = r.given in omega (arith, g))

active_there : (s : DeskState) (sum : List ℕ) → IsDesk s → wide_at 26 (1 ∷ (s.cluster ++ behind s sum)) ≡ s.master.active
unfolding behind
active_there s sum is =
    let r = ranges s.next s.master is.sound in
    ap (λ (l : List ℕ). from_be_bytes w64 (take 8 l)) (past 9 s.cluster (behind s sum) is.named)
    ∙ from_be_bytes-to_be_bytes_8 s.master.active (let g = r.given in let a = r.active in omega (arith, g, a))

members_there : (s : DeskState) (sum : List ℕ) → IsDesk s → members_at 34 (1 ∷ (s.cluster ++ behind s sum)) ≡ s.master.members
unfolding behind
members_there s sum is =
    let r = ranges s.next s.master is.sound in
    ap₂ (λ (n : ℕ) (l : List ℕ). take (min n 7) l) (at_past 17 s.cluster (behind s sum) is.named) (past 18 s.cluster (behind s sum) is.named)
    ∙ members_read s.master.members (waiting_bytes s.master.waiting ++ sum) r.members

-- ---- the ballot that waits

-- from the place of the ballot that waits on
deep : (j : ℕ) (s : DeskState) (sum : List ℕ) → IsDesk s → drop (42 + j) (1 ∷ (s.cluster ++ behind s sum)) ≡ drop j (waiting_bytes s.master.waiting ++ sum)
unfolding behind
deep j s sum is =
    let r = ranges s.next s.master is.sound in
    let n : 42 + j ≡ suc (16 + (18 + (7 + j))) = omega arith in
    ap (λ (k : ℕ). drop k (1 ∷ (s.cluster ++ behind s sum))) n
    ∙ past (18 + (7 + j)) s.cluster (behind s sum) is.named
    ∙ sym (drop-drop (7 + j) 18 (behind s sum))
    ∙ past_members j (padded s.master.members) (waiting_bytes s.master.waiting ++ sum) (padded_len s.master.members r.members)

at_deep : (j : ℕ) (s : DeskState) (sum : List ℕ) → IsDesk s → slice_index (1 ∷ (s.cluster ++ behind s sum)) (42 + j) ≡ get_or (waiting_bytes s.master.waiting ++ sum) j 0
at_deep j s sum is =
    let n : 42 + j ≡ (42 + j) + 0 = omega arith in
    ap (λ (k : ℕ). get_or (1 ∷ (s.cluster ++ behind s sum)) k 0) n
    ∙ sym (get_or-drop (42 + j) (1 ∷ (s.cluster ++ behind s sum)) 0 0)
    ∙ ap (λ (l : List ℕ). get_or l 0 0) (deep j s sum is)
    ∙ get_or-drop j (waiting_bytes s.master.waiting ++ sum) 0 0
    ∙ ap (λ (k : ℕ). get_or (waiting_bytes s.master.waiting ++ sum) k 0) (omega arith)

-- what is read from the bytes of a ballot that waits
waiting_of : List ℕ → Option (ℕ × Config)
waiting_of l =
    if from_be_bytes w64 (take 8 l) == 0 then None else
    Some (
      from_be_bytes w64 (take 8 l),
      record {
        members = take (min (get_or l 8 0) 7) (drop 9 l);
        primary = get_or l 16 0;
      },
    )

waiting_deep : (s : DeskState) (sum : List ℕ) → IsDesk s → waiting_at 42 (1 ∷ (s.cluster ++ behind s sum)) ≡ waiting_of (waiting_bytes s.master.waiting ++ sum)
unfolding waiting_of
waiting_deep s sum is = λ i.
    if from_be_bytes w64 (take 8 (deep 0 s sum is i)) == 0 then None else
    Some (
      from_be_bytes w64 (take 8 (deep 0 s sum is i)),
      record {
        members = take (min (at_deep 8 s sum is i) 7) (deep 9 s sum is i);
        primary = at_deep 16 s sum is i;
      },
    )

waits_above : (active given ballot : ℕ) (config : Config) → may_wait active given (Some (ballot, config)) ≡ true → (active < ballot) × (ballot ≤ given)
waits_above active given ballot config e =
    let h = both (nat_lt active ballot) (nat_le ballot given) e in
    (ltb-true active ballot h.0, leb-true ballot given h.1)

not_zero : (n m : ℕ) → m < n → (n == 0) ≡ false
not_zero n m more = grind (arith, more)

waiting_there : (waiting : Option (ℕ × Config)) (sum : List ℕ) (active given : ℕ) → given ≤ 4294967296 → waits_fit waiting ≡ true → may_wait active given waiting ≡ true
    → waiting_of (waiting_bytes waiting ++ sum) ≡ waiting
unfolding waiting_of
waiting_there None sum active given most fit may = refl
waiting_there (Some (ballot, config)) sum active given most fit may =
    let above = waits_above active given ballot config may in
    let few : length config.members ≤ 7 = leb-true (length config.members) 7 fit in
    let line : (wide ballot ++ members_bytes config.members ++ config.primary ∷ []) ++ sum ≡ wide ballot ++ (members_bytes config.members ++ (config.primary ∷ sum)) =
    append_assoc (wide ballot ++ members_bytes config.members) (config.primary ∷ []) sum ∙ append_assoc (wide ballot) (members_bytes config.members) (config.primary ∷ sum) in
    let number : from_be_bytes w64 (take 8 (wide ballot ++ (members_bytes config.members ++ (config.primary ∷ sum)))) ≡ ballot = from_be_bytes-to_be_bytes_8 ballot (omega (arith, above.1, most)) in
    let them : take (min (length config.members) 7) (padded config.members ++ (config.primary ∷ sum)) ≡ config.members = members_read config.members (config.primary ∷ sum) few in
    let last : get_or (padded config.members ++ (config.primary ∷ sum)) 7 0 ≡ config.primary = at_past_members 0 (padded config.members) (config.primary ∷ sum) (padded_len config.members few) in
    let some : (ballot == 0) ≡ false = not_zero ballot active above.0 in
    ap waiting_of line
    ∙ (λ i. if number i == 0 then None else Some (number i, record { members = them i; primary = last i }))
    ∙ ap (λ (b : Bool). if b then None else Some (ballot, config)) some

state_there : (s : DeskState) (sum : List ℕ) → IsDesk s → state_at (1 ∷ (s.cluster ++ behind s sum)) ≡ s
state_there s sum is =
    let r = ranges s.next s.master is.sound in
    let w : waiting_at 42 (1 ∷ (s.cluster ++ behind s sum)) ≡ s.master.waiting =
    waiting_deep s sum is ∙ waiting_there s.master.waiting sum s.master.active s.master.given r.given r.fit r.may in
    λ i. record {
      cluster = cluster_there s sum is i;
      next = next_there s sum is i;
      master = record {
        greatest = sym is.greatest i;
        active = active_there s sum is i;
        members = members_there s sum is i;
        waiting = w i;
        given = given_there s sum is i;
      };
    }

-- ---- lengths

waiting_len : (waiting : Option (ℕ × Config)) → waits_fit waiting ≡ true → length (waiting_bytes waiting) ≡ 17
waiting_len None fit = refl
waiting_len (Some (ballot, config)) fit =
    let seven = padded_len config.members (leb-true (length config.members) 7 fit) in
    let a = length-append (wide ballot ++ members_bytes config.members) (config.primary ∷ []) in
    let b = length-append (wide ballot) (members_bytes config.members) in
    let c : length (members_bytes config.members) ≡ suc (length (padded config.members)) = refl in
    let d : length (wide ballot) ≡ 8 = refl in
    omega (arith, seven, a, b, c, d)

parts_len : (s : DeskState) → IsDesk s → length (parts s) ≡ 59
parts_len s is =
    let r = ranges s.next s.master is.sound in
    let seven = padded_len s.master.members r.members in
    let w = waiting_len s.master.waiting r.fit in
    let a = length-append ((1 ∷ []) ++ s.cluster ++ (s.next ∷ []) ++ wide s.master.given ++ wide s.master.active ++ members_bytes s.master.members) (waiting_bytes s.master.waiting) in
    let b = length-append ((1 ∷ []) ++ s.cluster ++ (s.next ∷ []) ++ wide s.master.given ++ wide s.master.active) (members_bytes s.master.members) in
    let c = length-append ((1 ∷ []) ++ s.cluster ++ (s.next ∷ []) ++ wide s.master.given) (wide s.master.active) in
    let d = length-append ((1 ∷ []) ++ s.cluster ++ (s.next ∷ [])) (wide s.master.given) in
    let e = length-append ((1 ∷ []) ++ s.cluster) (s.next ∷ []) in
    let f : length ((1 ∷ []) ++ s.cluster) ≡ suc (length s.cluster) = refl in
    let g : length (members_bytes s.master.members) ≡ suc (length (padded s.master.members)) = refl in
    let h : length (wide s.master.given) ≡ 8 = refl in
    let j : length (wide s.master.active) ≡ 8 = refl in
    omega (arith, seven, w, a, b, c, d, e, f, g, h, j, is.named)

sum_len : (bytes : List ℕ) → length (sum_of bytes) ≡ 8
sum_len bytes = length-take-le 8 (sha256 bytes) (omega (arith, length-sha256 bytes))

then_true : {X : Type 0} (b : Bool) (x y : X) → b ≡ true → (if b then x else y) ≡ x
then_true true x y e = refl
then_true false x y e = cc

and_true : (a b : Bool) → a ≡ true → b ≡ true → (a && b) ≡ true
and_true true true p q = refl
and_true true false p q = cc
and_true false b p q = cc

equal_numbers : (n m : ℕ) → n ≡ m → (n == m) ≡ true
equal_numbers n m e = grind (arith, e)

pub form_read : FormIsRead
form_read s is =
    let front : take 59 (form s) ≡ parts s = take_at (parts s) (sum_of (parts s)) 59 (parts_len s is) in
    let back : drop 59 (form s) ≡ sum_of (parts s) = drop_at (parts s) (sum_of (parts s)) 59 (parts_len s is) in
    let long : length (form s) ≡ 67 = (let a = length-append (parts s) (sum_of (parts s)) in let b = parts_len s is in let c = sum_len (parts s) in omega (arith, a, b, c)) in
    let state : state_at (form s) ≡ s = ap state_at (form_is s) ∙ state_there s (sum_of (parts s)) is in
    let sums : bytes_eq (sum_of (take 59 (form s))) (drop 59 (form s)) ≡ true =
    ap₂ (λ (l m : List ℕ). bytes_eq (sum_of l) m) front back ∙ itself (sum_of (parts s)) in
    let shape : is_of (state_at (form s)) (take 59 (form s)) ≡ true =
    ap₂ (λ (t : DeskState) (l : List ℕ). is_of t l) state front ∙ and_true (is_sound s.next s.master) (bytes_eq (parts s) (parts s)) is.sound (itself (parts s)) in
    let one : desk_of (form s) ≡ length_checked (form s) = refl in
    one
    ∙ then_true (length (form s) == 67) (sum_checked (form s)) (Err Length) (equal_numbers (length (form s)) 67 long)
    ∙ then_true (bytes_eq (sum_of (take 59 (form s))) (drop 59 (form s))) (shape_checked (form s)) (Err Sum) sums
    ∙ then_true (is_of (state_at (form s)) (take 59 (form s))) (Ok (state_at (form s))) (Err Shape) shape
    ∙ ap (λ (t : DeskState). Ok t) state

-- the parts, and then their check sum
pub placed : (p s z : List ℕ) → length p ≡ 59 → length z ≡ 8 → put_mid 59 8 (p ++ z) s ≡ p ++ s
placed p s z long short =
    ap (λ (l : List ℕ). l ++ (s ++ drop 8 (drop 59 (p ++ z)))) (take_at p z 59 long)
    ∙ ap (λ (l : List ℕ). p ++ (s ++ drop 8 l)) (drop_at p z 59 long)
    ∙ ap (λ (l : List ℕ). p ++ (s ++ l)) (drop_all 8 z (omega (arith, short)))
    ∙ ap (λ (l : List ℕ). p ++ l) (append-nil s)
