-- HelloRead.antt: a hello that was written is read, and only its bytes are.
use Rattle.std.proofs.Common.{◌≡◌, ℕ, zero, suc, ◌+◌, ◌<◌, ◌≤◌, ◌==◌, Bool, true, false, nat_lt, if◌then◌else◌, List, [], ◌∷◌, ◌++◌, length, take, drop, get_or, Result, Ok, Err, refl, sym, ap, ◌∙◌, subst, arith, length-append, append_assoc, ltb-false}
use Rattle.std.specs.Prelude.{slice_index}
use Rattle.std.proofs.lemmas.List.{take-append-drop, length-take-le, length-drop, drop-drop, take_at, drop_at, get_or_at, get_or-drop}
use Rattle.std.proofs.lemmas.Nat.{from_be_bytes-to_be_bytes_4, be_bytes_2, be_bytes_4}
use Rattle.std.proofs.Math.Seq.{drop-cons}
use Rattle.std.specs.Int.{w16, w32, to_be_bytes}
use Rattle.links.specs.declared.seal.hello.Hello.{Hello}
use Rattle.links.specs.declared.seal.hello.HelloFault.{HelloFault}
use Rattle.links.specs.declared.seal.hello.HelloFault.TheVariants.{Unfinished, Version, Rules, Cluster}
use Rattle.links.specs.declared.seal.membership.Membership.{Membership}
use Rattle.links.specs.seal.Clusters.{accepts}
use Rattle.links.specs.seal.Hellos.{IsHello, hello_bytes, hello_of, hello_at, checked, and_then, version_at, rules_at, cluster_at, version_checked, rules_checked, cluster_checked, whole}
use Rattle.links.specs.seal.Theorems.{AreBytes, HelloIsRead, HelloIsWritten, HelloIsAccepted}

checked_ok : (count : ℕ) (right : Bool) (fault : HelloFault) (bytes : List ℕ) → count ≤ length bytes → right ≡ true → checked count right fault bytes ≡ Ok tt
checked_ok count right fault bytes long is =
    let e : nat_lt (length bytes) count ≡ false = grind (arith, long) in
    ap (λ (b : Bool). if b then Err Unfinished else if right then Ok tt else Err fault) e
    ∙ ap (λ (b : Bool). if b then Ok tt else Err fault) is

whole_ok : (bytes : List ℕ) → 55 ≤ length bytes → whole bytes ≡ Ok (hello_at bytes)
whole_ok bytes long =
    let e : nat_lt (length bytes) 55 ≡ false = grind (arith, long) in
    ap (λ (b : Bool). if b then Err Unfinished else Ok (hello_at bytes)) e

eq_self : (n : ℕ) → (n == n) ≡ true
eq_self n = grind arith

read_by : (membership : Membership) (hello : Hello) (bytes : List ℕ) → 55 ≤ length bytes → version_at bytes ≡ 1 → rules_at bytes ≡ hello.rules → accepts membership (cluster_at bytes) ≡ true → hello_at bytes ≡ hello
    → hello_of hello.rules membership bytes ≡ Ok hello
read_by membership hello bytes long v r c h =
    let first = checked_ok 2 (version_at bytes == 1) (Version (version_at bytes)) bytes (omega (arith, long)) (ap (λ (n : ℕ). n == 1) v) in
    let second = checked_ok 6 (rules_at bytes == hello.rules) (Rules (rules_at bytes)) bytes (omega (arith, long)) (ap (λ (n : ℕ). n == hello.rules) r ∙ eq_self hello.rules) in
    let third = checked_ok 22 (accepts membership (cluster_at bytes)) Cluster bytes (omega (arith, long)) c in
    ap (λ (x : Result (Unit {0}) HelloFault). and_then x (and_then (rules_checked hello.rules bytes) (and_then (cluster_checked membership bytes) (whole bytes)))) first
    ∙ ap (λ (x : Result (Unit {0}) HelloFault). and_then x (and_then (cluster_checked membership bytes) (whole bytes))) second
    ∙ ap (λ (x : Result (Unit {0}) HelloFault). and_then x (whole bytes)) third
    ∙ whole_ok bytes long ∙ ap (λ (x : Hello). Ok x) h

-- what follows version and rules
tail_of : Hello → List ℕ → List ℕ
tail_of hello rest = hello.cluster ++ (hello.number ∷ (hello.random ++ rest))

regrouped : (hello : Hello) (rest : List ℕ) → hello_bytes hello ++ rest ≡ to_be_bytes w16 1 ++ (to_be_bytes w32 hello.rules ++ tail_of hello rest)
unfolding tail_of
regrouped hello rest =
    let e : ((hello.cluster ++ hello.number ∷ []) ++ hello.random) ++ rest ≡ hello.cluster ++ (hello.number ∷ (hello.random ++ rest)) =
    append_assoc (hello.cluster ++ hello.number ∷ []) hello.random rest ∙ append_assoc hello.cluster (hello.number ∷ []) (hello.random ++ rest) in
    ap (λ (l : List ℕ). to_be_bytes w16 1 ++ (to_be_bytes w32 hello.rules ++ l)) e

number_there : (hello : Hello) (rest : List ℕ) → length hello.cluster ≡ 16 → slice_index (to_be_bytes w16 1 ++ (to_be_bytes w32 hello.rules ++ tail_of hello rest)) 22 ≡ hello.number
unfolding tail_of
number_there hello rest size = get_or_at hello.cluster hello.number (hello.random ++ rest) 0 16 size

random_there : (hello : Hello) (rest : List ℕ) → IsHello hello → take 32 (drop 23 (to_be_bytes w16 1 ++ (to_be_bytes w32 hello.rules ++ tail_of hello rest))) ≡ hello.random
unfolding tail_of
random_there hello rest is =
    let e : drop 17 (hello.cluster ++ (hello.number ∷ (hello.random ++ rest))) ≡ hello.random ++ rest =
    sym (drop-drop 1 16 (hello.cluster ++ (hello.number ∷ (hello.random ++ rest))))
    ∙ ap (λ (l : List ℕ). drop 1 l) (drop_at hello.cluster (hello.number ∷ (hello.random ++ rest)) 16 is.cluster) in
    ap (λ (l : List ℕ). take 32 l) e ∙ take_at hello.random rest 32 is.random

cluster_there : (hello : Hello) (rest : List ℕ) → length hello.cluster ≡ 16 → cluster_at (to_be_bytes w16 1 ++ (to_be_bytes w32 hello.rules ++ tail_of hello rest)) ≡ hello.cluster
unfolding tail_of
cluster_there hello rest size = take_at hello.cluster (hello.number ∷ (hello.random ++ rest)) 16 size

tail_long : (hello : Hello) (rest : List ℕ) → IsHello hello → 49 ≤ length (tail_of hello rest)
unfolding tail_of
tail_long hello rest is = omega (arith, is.cluster, is.random, length-append hello.cluster (hello.number ∷ (hello.random ++ rest)), length-append hello.random rest)

read_again : (membership : Membership) (hello : Hello) (rest : List ℕ) → IsHello hello → accepts membership hello.cluster ≡ true
    → hello_of hello.rules membership (to_be_bytes w16 1 ++ (to_be_bytes w32 hello.rules ++ tail_of hello rest)) ≡ Ok hello
read_again membership hello rest is may =
    let bytes : List ℕ = to_be_bytes w16 1 ++ (to_be_bytes w32 hello.rules ++ tail_of hello rest) in
    let long : 55 ≤ length (to_be_bytes w16 1 ++ (to_be_bytes w32 hello.rules ++ tail_of hello rest)) = (let t = tail_long hello rest is in omega (arith, t)) in
    let r : rules_at (to_be_bytes w16 1 ++ (to_be_bytes w32 hello.rules ++ tail_of hello rest)) ≡ hello.rules = from_be_bytes-to_be_bytes_4 hello.rules is.rules in
    let c = cluster_there hello rest is.cluster in
    let n = number_there hello rest is.cluster in
    let d = random_there hello rest is in
    let h : hello_at (to_be_bytes w16 1 ++ (to_be_bytes w32 hello.rules ++ tail_of hello rest)) ≡ hello =
    λ i. record { rules = r i; cluster = c i; number = n i; random = d i } in
    let a : accepts membership (cluster_at (to_be_bytes w16 1 ++ (to_be_bytes w32 hello.rules ++ tail_of hello rest))) ≡ true = ap (λ (l : List ℕ). accepts membership l) c ∙ may in
    read_by membership hello (to_be_bytes w16 1 ++ (to_be_bytes w32 hello.rules ++ tail_of hello rest)) long refl r a h

pub hello_read : HelloIsRead
hello_read membership hello rest is may =
    ap (λ (l : List ℕ). hello_of hello.rules membership l) (regrouped hello rest) ∙ read_again membership hello rest is may

-- ---- only its bytes are

then_ok : (r : Result (Unit {0}) HelloFault) (next : Result Hello HelloFault) (hello : Hello) → and_then r next ≡ Ok hello → (r ≡ Ok tt) × (next ≡ Ok hello)
then_ok (Ok tt) next hello e = (refl, e)
then_ok (Err fault) next hello e = cc

abbrev pick : Bool → Bool → HelloFault → Result (Unit {0}) HelloFault
pick short right fault = if short then Err Unfinished else if right then Ok tt else Err fault

picked : (short right : Bool) (fault : HelloFault) → pick short right fault ≡ Ok tt → (short ≡ false) × (right ≡ true)
picked true right fault e = cc
picked false true fault e = (refl, refl)
picked false false fault e = cc

checked_so : (count : ℕ) (right : Bool) (fault : HelloFault) (bytes : List ℕ) → checked count right fault bytes ≡ Ok tt → (count ≤ length bytes) × (right ≡ true)
checked_so count right fault bytes e =
    let both = picked (nat_lt (length bytes) count) right fault e in
    (ltb-false (length bytes) count both.0, both.1)

abbrev pick_whole : Bool → Hello → Result Hello HelloFault
pick_whole short hello = if short then Err Unfinished else Ok hello

picked_whole : (short : Bool) (read hello : Hello) → pick_whole short read ≡ Ok hello → (short ≡ false) × (read ≡ hello)
picked_whole true read hello e = cc
picked_whole false read hello e = (refl, cc)

whole_so : (bytes : List ℕ) (hello : Hello) → whole bytes ≡ Ok hello → (55 ≤ length bytes) × (hello_at bytes ≡ hello)
whole_so bytes hello e =
    let both = picked_whole (nat_lt (length bytes) 55) (hello_at bytes) hello e in
    (ltb-false (length bytes) 55 both.0, both.1)

first_too : (x : ℕ) (bytes : List ℕ) → x < 256 → AreBytes bytes → (i : ℕ) → get_or (x ∷ bytes) i 0 < 256
first_too x bytes small are zero = small
first_too x bytes small are (suc i) = are i

bytes_taken : (n : ℕ) (bytes : List ℕ) → AreBytes bytes → AreBytes (take n bytes)
bytes_taken zero bytes are = λ i. omega arith
bytes_taken (suc n) [] are = are
bytes_taken (suc n) (x ∷ bytes) are = first_too x (take n bytes) (are 0) (bytes_taken n bytes (λ i. are (suc i)))

bytes_dropped : (n : ℕ) (bytes : List ℕ) → AreBytes bytes → AreBytes (drop n bytes)
bytes_dropped n bytes are = λ i. (let e = are (n + i) in subst (λ (k : ℕ). k < 256) (sym (get_or-drop n bytes i 0)) e)

same_number : (n m : ℕ) → (n == m) ≡ true → n ≡ m
same_number n m e = grind (arith, e)

-- the parts of the bytes, joined
joined : (bytes : List ℕ) → 55 ≤ length bytes
    → bytes ≡ take 2 bytes ++ (take 4 (drop 2 bytes) ++ (take 16 (drop 6 bytes) ++ (slice_index bytes 22 ∷ (take 32 (drop 23 bytes) ++ drop 55 bytes))))
joined bytes long =
    let a : drop 2 bytes ≡ take 4 (drop 2 bytes) ++ drop 6 bytes = sym (take-append-drop 4 (drop 2 bytes)) ∙ ap (λ (l : List ℕ). take 4 (drop 2 bytes) ++ l) (drop-drop 4 2 bytes) in
    let b : drop 6 bytes ≡ take 16 (drop 6 bytes) ++ drop 22 bytes = sym (take-append-drop 16 (drop 6 bytes)) ∙ ap (λ (l : List ℕ). take 16 (drop 6 bytes) ++ l) (drop-drop 16 6 bytes) in
    let c : drop 22 bytes ≡ slice_index bytes 22 ∷ drop 23 bytes = drop-cons bytes 22 0 (omega (arith, long)) in
    let d : drop 23 bytes ≡ take 32 (drop 23 bytes) ++ drop 55 bytes = sym (take-append-drop 32 (drop 23 bytes)) ∙ ap (λ (l : List ℕ). take 32 (drop 23 bytes) ++ l) (drop-drop 32 23 bytes) in
    sym (take-append-drop 2 bytes)
    ∙ ap (λ (l : List ℕ). take 2 bytes ++ l) a
    ∙ ap (λ (l : List ℕ). take 2 bytes ++ (take 4 (drop 2 bytes) ++ l)) b
    ∙ ap (λ (l : List ℕ). take 2 bytes ++ (take 4 (drop 2 bytes) ++ (take 16 (drop 6 bytes) ++ l))) c
    ∙ ap (λ (l : List ℕ). take 2 bytes ++ (take 4 (drop 2 bytes) ++ (take 16 (drop 6 bytes) ++ (slice_index bytes 22 ∷ l)))) d

written_by : (bytes : List ℕ) → AreBytes bytes → 55 ≤ length bytes → version_at bytes ≡ 1
    → bytes ≡ to_be_bytes w16 1 ++ (to_be_bytes w32 (rules_at bytes) ++ tail_of (hello_at bytes) (drop 55 bytes))
unfolding tail_of
written_by bytes are long v =
    let first : to_be_bytes w16 1 ≡ take 2 bytes = be_bytes_2 (take 2 bytes) 1 (length-take-le 2 bytes (omega (arith, long))) (bytes_taken 2 bytes are) (sym v) in
    let second : to_be_bytes w32 (rules_at bytes) ≡ take 4 (drop 2 bytes) =
    be_bytes_4 (take 4 (drop 2 bytes)) (rules_at bytes) (length-take-le 4 (drop 2 bytes) (omega (arith, long, length-drop 2 bytes)))
    (bytes_taken 4 (drop 2 bytes) (bytes_dropped 2 bytes are)) refl in
    joined bytes long
    ∙ ap (λ (l : List ℕ). l ++ (take 4 (drop 2 bytes) ++ (take 16 (drop 6 bytes) ++ (slice_index bytes 22 ∷ (take 32 (drop 23 bytes) ++ drop 55 bytes))))) (sym first)
    ∙ ap (λ (l : List ℕ). to_be_bytes w16 1 ++ (l ++ (take 16 (drop 6 bytes) ++ (slice_index bytes 22 ∷ (take 32 (drop 23 bytes) ++ drop 55 bytes))))) (sym second)

-- what was read: the checks passed, and the rest is the hello
pub record Passed (rules : ℕ) (membership : Membership) (bytes : List ℕ) (hello : Hello) : Type 0 where
  pub first : version_at bytes ≡ 1
  pub same : rules_at bytes ≡ rules
  pub belongs : accepts membership (cluster_at bytes) ≡ true
  pub long : 55 ≤ length bytes
  pub is : hello_at bytes ≡ hello

passed : (rules : ℕ) (membership : Membership) (bytes : List ℕ) (hello : Hello) → hello_of rules membership bytes ≡ Ok hello → Passed rules membership bytes hello
passed rules membership bytes hello e =
    let a = then_ok (version_checked bytes) (and_then (rules_checked rules bytes) (and_then (cluster_checked membership bytes) (whole bytes))) hello e in
    let b = then_ok (rules_checked rules bytes) (and_then (cluster_checked membership bytes) (whole bytes)) hello a.1 in
    let c = then_ok (cluster_checked membership bytes) (whole bytes) hello b.1 in
    let d = whole_so bytes hello c.1 in
    let v = checked_so 2 (version_at bytes == 1) (Version (version_at bytes)) bytes a.0 in
    let r = checked_so 6 (rules_at bytes == rules) (Rules (rules_at bytes)) bytes b.0 in
    let m = checked_so 22 (accepts membership (cluster_at bytes)) Cluster bytes c.0 in
    record {
      first = same_number (version_at bytes) 1 v.1;
      same = same_number (rules_at bytes) rules r.1;
      belongs = m.1;
      long = d.0;
      is = d.1;
    }

pub hello_written : HelloIsWritten
hello_written rules membership bytes hello are e =
    let p = passed rules membership bytes hello e in
    let parts = written_by bytes are p.long p.first ∙ sym (regrouped (hello_at bytes) (drop 55 bytes)) in
    parts ∙ ap (λ (h : Hello). hello_bytes h ++ drop 55 bytes) p.is

pub hello_accepted : HelloIsAccepted
hello_accepted rules membership bytes hello e =
    let p = passed rules membership bytes hello e in (
      sym (ap (λ (h : Hello). h.rules) p.is) ∙ p.same,
      ap (λ (h : Hello). accepts membership h.cluster) (sym p.is) ∙ p.belongs,
    )
