-- CountsRight.antt: counts that are right stay right.
use Rattle.std.proofs.Common.{◌≡◌, ℕ, ◌+◌, ◌-◌, ◌^◌, ◌%◌, ◌==◌, ◌&&◌, ◌<◌, ◌≤◌, zero, suc, Bool, true, false, if◌then◌else◌, nat_lt, min, List, Option, Some, None, replicate, refl, ◌∙◌, ap, sym, subst, arith}
use Rattle.std.specs.Prelude.{slice_get, IfSome}
use Rattle.std.proofs.lemmas.Bool.Decides.{nat_tests}
use Rattle.lists.proofs.Places.{get_set, get_set_other}
use Rattle.node.specs.HandedCounts.{counted_at, counts_after, count_after, count_says, opening_counts, place_says, with_count}
use Rattle.node.specs.declared.handed_counts.HandedCount.{HandedCount}
use Rattle.world_base.specs.declared.node_connections.port.Port.{Port}

-- what the counts say of each port is right, where so many bytes were handed over for each
abbrev pub AreRight : (Port → ℕ) → List HandedCount → Type 0
AreRight handed counts = (port : Port) → IfSome (counted_at counts port) (λ bytes. bytes ≡ handed port)

-- ---- the opening

abbrev none_yet : HandedCount
none_yet = record { port = record { 0 = 0 }; bytes = 0 }

none_says : (port : Port) → IfSome (count_says none_yet port) (λ (bytes : ℕ). bytes ≡ 0)
none_says port = by (nat_lt 0 port.0) (0 == port.0)
  where
    by : (b c : Bool) → IfSome (if b then Some 0 else (if c && true then Some 0 else None)) (λ (bytes : ℕ). bytes ≡ 0)
    by true c = refl
    by false true = refl
    by false false = tt

row_says : (n place : ℕ) (port : Port) → IfSome (place_says (slice_get (replicate n none_yet) place) port) (λ (bytes : ℕ). bytes ≡ 0)
row_says zero place port = tt
row_says (suc n) zero port = none_says port
row_says (suc n) (suc place) port = row_says n place port

same_some : (said : Option ℕ) (bytes other : ℕ) → bytes ≡ other → IfSome said (λ (b : ℕ). b ≡ bytes) → IfSome said (λ (b : ℕ). b ≡ other)
same_some said bytes other same = subst (λ (c : ℕ). IfSome said (λ (b : ℕ). b ≡ c)) same

pub opening_right : (handed : Port → ℕ) → ((port : Port) → handed port ≡ 0) → AreRight handed opening_counts
opening_right handed none port = same_some (counted_at opening_counts port) 0 (handed port) (sym (none port)) (row_says 64 (port.0 % 64) port)

-- ---- what one count says

earlier_says : (count : HandedCount) (port : Port) → count.port.0 < port.0 → count_says count port ≡ Some 0
earlier_says count port less = grind (arith, nat_tests, less)

own_says : (count : HandedCount) (port : Port) → count.port.0 ≡ port.0 → count.bytes < 2 ^ 62 → count_says count port ≡ Some count.bytes
own_says count port same few = grind (arith, nat_tests, same, few)

past_says : (count : HandedCount) (port : Port) → count.port.0 ≡ port.0 → 2 ^ 62 ≤ count.bytes → count_says count port ≡ None
past_says count port same many = grind (arith, nat_tests, same, many)

later_says : (count : HandedCount) (port : Port) → port.0 < count.port.0 → count_says count port ≡ None
later_says count port less = grind (arith, nat_tests, less)

takes_place : (count : HandedCount) (port : Port) (n : ℕ) → count.port.0 < port.0 → count_after count port n ≡ record { port = port; bytes = n }
takes_place count port n less = grind (arith, nat_tests, less)

counts_on : (count : HandedCount) (port : Port) (n : ℕ) → count.port.0 ≡ port.0 → count_after count port n ≡ record { port = port; bytes = min (count.bytes + n) (2 ^ 64 - 1) }
counts_on count port n same = grind (arith, nat_tests, same)

leaves : (count : HandedCount) (port : Port) (n : ℕ) → port.0 < count.port.0 → count_after count port n ≡ count
leaves count port n less = grind (arith, nat_tests, less)

-- ---- one count, after more bytes

-- how many more bytes there are for a port
abbrev pub more_at : Port → ℕ → Port → ℕ
more_at port n other = if port.0 == other.0 then n else 0

more_own : (port : Port) (n : ℕ) (other : Port) → port.0 ≡ other.0 → more_at port n other ≡ n
more_own port n other same = grind (arith, nat_tests, same)

more_other : (port : Port) (n : ℕ) (other : Port) → (port.0 ≡ other.0 → ⊥) → more_at port n other ≡ 0
more_other port n other apart = grind (arith, nat_tests, apart)

-- three ways in which two numbers lie
data Lies (x y : ℕ) : Type 0 where
  below : x < y → Lies x y
  same : x ≡ y → Lies x y
  above : y < x → Lies x y

lies : (x y : ℕ) → Lies x y
lies zero zero = same refl
lies zero (suc y) = below (omega arith)
lies (suc x) zero = above (omega arith)
lies (suc x) (suc y) = by (lies x y)
  where
    by : Lies x y → Lies (suc x) (suc y)
    by (below less) = below (omega (arith, less))
    by (same is) = same (omega (arith, is))
    by (above more) = above (omega (arith, more))

abbrev Right : ℕ → HandedCount → Port → Type 0
Right handed count port = IfSome (count_says count port) (λ (bytes : ℕ). bytes ≡ handed)

-- what is said is right if it is said so
right_some : (handed bytes : ℕ) (count : HandedCount) (port : Port) → count_says count port ≡ Some bytes → bytes ≡ handed → Right handed count port
right_some handed bytes count port says is = subst (λ (o : Option ℕ). IfSome o (λ (b : ℕ). b ≡ handed)) (sym says) is

right_none : (handed : ℕ) (count : HandedCount) (port : Port) → count_says count port ≡ None → Right handed count port
right_none handed count port says = subst (λ (o : Option ℕ). IfSome o (λ (b : ℕ). b ≡ handed)) (sym says) tt

-- what is said and right
is_right : (handed bytes : ℕ) (count : HandedCount) (port : Port) → count_says count port ≡ Some bytes → Right handed count port → bytes ≡ handed
is_right handed bytes count port says right = subst (λ (o : Option ℕ). IfSome o (λ (b : ℕ). b ≡ handed)) says right

-- a count that says 0 of later ports, and of its own these bytes
by_port : (handed : ℕ) (count : HandedCount) (other : Port) → (count.port.0 < other.0 → handed ≡ 0)
    → (count.port.0 ≡ other.0 → count.bytes < 2 ^ 62 → count.bytes ≡ handed) → Right handed count other
by_port handed count other later own = by (lies count.port.0 other.0)
  where
    by : Lies count.port.0 other.0 → Right handed count other
    by (below less) = right_some handed 0 count other (earlier_says count other less) (sym (later less))
    by (above more) = right_none handed count other (later_says count other more)
    by (same is) = few (lies count.bytes (2 ^ 62))
      where
        few : Lies count.bytes (2 ^ 62) → Right handed count other
        few (below less) = right_some handed count.bytes count other (own_says count other is less) (own is less)
        few (same many) = right_none handed count other (past_says count other is (omega (arith, many)))
        few (above many) = right_none handed count other (past_says count other is (omega (arith, many)))

pub count_stays : (was is : ℕ) (count : HandedCount) (port other : Port) (n : ℕ) → Right was count port → Right is count other
    → (port.0 ≡ other.0 → was ≡ is) → Right (is + more_at port n other) (count_after count port n) other
count_stays was is count port other n here there same_port = by (lies count.port.0 port.0)
  where
    to : HandedCount → Type 0
    to after = Right (is + more_at port n other) after other

    by : Lies count.port.0 port.0 → Right (is + more_at port n other) (count_after count port n) other
    by (below less) = subst to (sym (takes_place count port n less))
        (by_port (is + more_at port n other) (record { port = port; bytes = n }) other
        (λ later.
        let none : 0 ≡ is = is_right is 0 count other (earlier_says count other (omega (arith, less, later))) there in
        let no_more = more_other port n other (λ same. omega (arith, later, same)) in
        omega (arith, none, no_more))
        (λ own few.
        let none : 0 ≡ was = is_right was 0 count port (earlier_says count port less) here in
        let both = same_port own in
        let more = more_own port n other own in
        omega (arith, none, both, more)))
    by (same at) = subst to (sym (counts_on count port n at))
        (by_port (is + more_at port n other) (record { port = port; bytes = min (count.bytes + n) (2 ^ 64 - 1) }) other
        (λ later.
        let none : 0 ≡ is = is_right is 0 count other (earlier_says count other (omega (arith, at, later))) there in
        let no_more = more_other port n other (λ same. omega (arith, later, same)) in
        omega (arith, none, no_more))
        (λ own few.
        let bytes : count.bytes ≡ was = is_right was count.bytes count port (own_says count port at (omega (arith, few))) here in
        let both = same_port own in
        let more = more_own port n other own in
        omega (arith, bytes, both, more, few)))
    by (above more) = subst to (sym (leaves count port n more))
        (by_port (is + more_at port n other) count other
        (λ later.
        let none : 0 ≡ is = is_right is 0 count other (earlier_says count other later) there in
        let no_more = more_other port n other (λ same. omega (arith, later, more, same)) in
        omega (arith, none, no_more))
        (λ own few.
        let bytes : count.bytes ≡ is = is_right is count.bytes count other (own_says count other own few) there in
        let no_more = more_other port n other (λ same. omega (arith, own, more, same)) in
        omega (arith, bytes, no_more)))

-- ---- all counts

module _ (handed next : Port → ℕ) (counts : List HandedCount) (port : Port) (n : ℕ) (right : AreRight handed counts)
    (alike : (other : Port) → port.0 ≡ other.0 → handed port ≡ handed other)
    (more : (other : Port) → next other ≡ handed other + more_at port n other) where
  -- what the count at a port's place says of it
  there : (other : Port) (at : Option HandedCount) → slice_get counts (other.0 % 64) ≡ at → IfSome (place_says at other) (λ (bytes : ℕ). bytes ≡ handed other)
  there other at is = subst (λ (o : Option HandedCount). IfSome (place_says o other) (λ (bytes : ℕ). bytes ≡ handed other)) is (right other)

  -- a port of another place
  elsewhere : (other : Port) (after : List HandedCount) → (other.0 % 64 ≡ port.0 % 64 → ⊥) → slice_get after (other.0 % 64) ≡ slice_get counts (other.0 % 64)
      → IfSome (counted_at after other) (λ (bytes : ℕ). bytes ≡ next other)
  elsewhere other after far is =
      let none = more_other port n other (λ at. far (ap (λ (m : ℕ). m % 64) (sym at))) in
      let now : handed other ≡ next other = omega (arith, more other, none) in
      subst (λ (o : Option HandedCount). IfSome (place_says o other) (λ (bytes : ℕ). bytes ≡ next other)) (sym is)
      (same_some (counted_at counts other) (handed other) (next other) now (right other))

  -- a port of the same place
  here : (other : Port) (at : Option HandedCount) → slice_get counts (port.0 % 64) ≡ at → other.0 % 64 ≡ port.0 % 64
      → IfSome (place_says (slice_get (with_count counts (port.0 % 64) at port n) (port.0 % 64)) other) (λ (bytes : ℕ). bytes ≡ next other)
  here other None is near = subst (λ (o : Option HandedCount). IfSome (place_says o other) (λ (bytes : ℕ). bytes ≡ next other)) (sym is) tt
  here other (Some count) is near =
      subst (λ (o : Option HandedCount). IfSome (place_says o other) (λ (bytes : ℕ). bytes ≡ next other))
      (sym (get_set counts (port.0 % 64) count (count_after count port n) is))
      (same_some (count_says (count_after count port n) other) (handed other + more_at port n other) (next other) (sym (more other))
      (count_stays (handed port) (handed other) count port other n (there port (Some count) is)
      (there other (Some count) (ap (slice_get counts) near ∙ is)) (alike other)))

  by_place : (other : Port) (at : Option HandedCount) → slice_get counts (port.0 % 64) ≡ at → Lies (other.0 % 64) (port.0 % 64)
      → IfSome (counted_at (with_count counts (port.0 % 64) at port n) other) (λ (bytes : ℕ). bytes ≡ next other)
  by_place other at is (same near) =
      subst (λ (m : ℕ). IfSome (place_says (slice_get (with_count counts (port.0 % 64) at port n) m) other) (λ (bytes : ℕ). bytes ≡ next other)) (sym near)
      (here other at is near)
  by_place other None is (below less) = elsewhere other counts (λ near. omega (arith, near, less)) refl
  by_place other None is (above less) = elsewhere other counts (λ near. omega (arith, near, less)) refl
  by_place other (Some count) is (below less) =
      elsewhere other (with_count counts (port.0 % 64) (Some count) port n) (λ near. omega (arith, near, less))
      (get_set_other counts (port.0 % 64) (other.0 % 64) (count_after count port n) (λ near. omega (arith, near, less)))
  by_place other (Some count) is (above less) =
      elsewhere other (with_count counts (port.0 % 64) (Some count) port n) (λ near. omega (arith, near, less))
      (get_set_other counts (port.0 % 64) (other.0 % 64) (count_after count port n) (λ near. omega (arith, near, less)))

  -- after so many bytes more for a port the counts are right
  pub counts_stay : AreRight next (counts_after counts port n)
  counts_stay other = by_place other (slice_get counts (port.0 % 64)) refl (lies (other.0 % 64) (port.0 % 64))

-- counts of the same
pub right_still : (handed next : Port → ℕ) (counts : List HandedCount) → ((port : Port) → next port ≡ handed port) → AreRight handed counts → AreRight next counts
right_still handed next counts alike right port = same_some (counted_at counts port) (handed port) (next port) (sym (alike port)) (right port)
