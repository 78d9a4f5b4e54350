-- OpenBytes.antt: no byte is left out of the count of those that are not known to be agreed.
use Rattle.std.proofs.Common.{◌≡◌, ℕ, ◌+◌, ◌≤◌, Bool, true, false, nat_le, nat_lt, min, if◌then◌else◌, List, [], ◌∷◌, Some, refl, arith}
use Rattle.ballot_base.specs.declared.status.Status.{Status}
use Rattle.node.specs.Intake.{IntakeView, is_agreed, took}
use Rattle.node.specs.OpenBytes.{Counts, Taken, bytes_behind, committed_of, held_of}
use Rattle.node.specs.OpenBytes.Counts.{admits, begins, shows, takes}
use Rattle.node.specs.Theorems.{OpenBytesAreCounted}

-- what is known about the bytes that were taken and their count
record Known (all : List Taken) (intake : IntakeView) : Type 0 where
  none : bytes_behind (held_of intake.status) all ≤ 0
  after_earlier : bytes_behind intake.earlier_end all ≤ intake.later
  counted : bytes_behind (committed_of intake.status) all ≤ intake.earlier + intake.later

falls_one : (low high bytes places : ℕ) → low ≤ high
    → (if nat_lt high places then bytes else 0) ≤ (if nat_lt low places then bytes else 0)
falls_one low high bytes places least = grind (arith, least)

-- after more places there are no more bytes
falls : (low high : ℕ) (all : List Taken) → low ≤ high → bytes_behind high all ≤ bytes_behind low all
falls low high [] least = omega arith
falls low high (taken ∷ all) least =
    let a = falls_one low high taken.bytes taken.places least in let e = falls low high all least in omega (arith, a, e)

at_most : (places bytes place : ℕ) → (if nat_lt places place then bytes else 0) ≤ bytes
at_most places bytes place = grind arith

none_behind : (places bytes : ℕ) → (if nat_lt places places then bytes else 0) ≤ 0
none_behind places bytes = grind arith

known_taken : (bytes : ℕ) (all : List Taken) (intake : IntakeView) → Known all intake
    → Known (record { bytes = min bytes intake.in_transit; places = held_of intake.status } ∷ all) (took bytes intake)
known_taken bytes all intake known = record {
  none = let a = none_behind (held_of intake.status) (min bytes intake.in_transit) in let e = known.none in omega (arith, a, e);
  after_earlier = let a = at_most intake.earlier_end (min bytes intake.in_transit) (held_of intake.status) in let e = known.after_earlier in omega (arith, a, e);
  counted = let a = at_most (committed_of intake.status) (min bytes intake.in_transit) (held_of intake.status) in
      let e = known.counted in omega (arith, a, e);
}

below_earlier_end : (earlier_end committed : ℕ) → nat_le earlier_end committed ≡ true → earlier_end ≤ committed
below_earlier_end earlier_end committed below = grind (arith, below)

below_held : (earlier_end held committed : ℕ) → nat_le (min earlier_end held) committed ≡ true → nat_le earlier_end committed ≡ false → held ≤ committed
below_held earlier_end held committed agreed above = grind (arith, agreed, above)

-- what is agreed reaches to the end of the earlier places, or to that of the log
reaches : (b : Bool) (earlier_end held committed : ℕ) (all : List Taken) (later : ℕ) → nat_le earlier_end committed ≡ b
    → nat_le (min earlier_end held) committed ≡ true
    → bytes_behind earlier_end all ≤ later → bytes_behind held all ≤ 0 → bytes_behind committed all ≤ later
reaches true earlier_end held committed all later below agreed after_earlier none =
    let a = falls earlier_end committed all (below_earlier_end earlier_end committed below) in omega (arith, a, after_earlier)
reaches false earlier_end held committed all later above agreed after_earlier none =
    let a = falls held committed all (below_held earlier_end held committed agreed above) in omega (arith, a, none)

known_shown : (b : Bool) (status : Status) (all : List Taken) (intake : IntakeView) → is_agreed intake.earlier_end status ≡ b
    → Known all intake → held_of intake.status ≤ status.held → committed_of intake.status ≤ status.committed
    → Known all
    (if b
    then record intake { status = Some status; earlier_end = status.held; earlier = intake.later; later = 0 }
    else record intake { status = Some status })
known_shown true status all intake agreed known held committed =
    let n = known.none in
    let f = falls (held_of intake.status) status.held all held in
    let none : bytes_behind status.held all ≤ 0 = omega (arith, n, f) in
    let r = reaches (nat_le intake.earlier_end status.committed) intake.earlier_end status.held status.committed all intake.later refl agreed known.after_earlier none in
    record { none = none; after_earlier = none; counted = omega (arith, r) }
known_shown false status all intake unagreed known held committed =
    let n = known.none in
    let f = falls (held_of intake.status) status.held all held in
    let m = known.after_earlier in
    let c = known.counted in
    let g = falls (committed_of intake.status) status.committed all committed in
    record { none = omega (arith, n, f); after_earlier = m; counted = omega (arith, c, g) }

known : (all : List Taken) (intake : IntakeView) → Counts all intake → Known all intake
known _ _ begins = record { none = omega arith; after_earlier = omega arith; counted = omega arith }
known all _ (admits {intake = intake} bytes counts) =
    let k = known all intake counts in record { none = k.none; after_earlier = k.after_earlier; counted = k.counted }
known _ _ (takes {all = all} {intake = intake} bytes counts) = known_taken bytes all intake (known all intake counts)
known all _ (shows {intake = intake} status counts held committed) =
    known_shown (is_agreed intake.earlier_end status) status all intake refl (known all intake counts) held committed

pub open_bytes_counted : OpenBytesAreCounted
open_bytes_counted all intake counts = (known all intake counts).counted
