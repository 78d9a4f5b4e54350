-- A list of events in which nothing is lost, taken apart: each event that can happen is done exactly.
use Rattle.std.proofs.Common.{inl, inr, ◌≤◌, ◌-◌, ◌^◌, ℕ, true, List, [], ◌∷◌, ◌++◌, Result, Ok, Err, refl, ap, arith}
use Rattle.master.specs.declared.event.Idle.{Idle}
use Rattle.world_pipes.specs.declared.events.event.Event.{Event}
use Rattle.world.specs.Cannot.{CannotHappen}
use Rattle.world.specs.EventSteps.{DoesEvent}
use Rattle.world.specs.Trace.{WorldLosesNothing}
use Rattle.world.specs.Events.{EventHappens, EventsHappen}
use Rattle.world.specs.World.{WorldState}
use Rattle.world.proofs.Joined.{worlds_split}
use Rattle.world.proofs.UncountedIsExact.{uncounted_is_exact}

-- counts do not fall, as long as they are counts that there are
abbrev Rises : ℕ → ℕ → Type 0
Rises old new = (old ≤ new) × (new ≤ 2 ^ 64 - 1)

happens_rises : (event : Event) (old : WorldState) (result : Result (Unit {0}) Idle) (new : WorldState) → old.losses ≤ 2 ^ 64 - 1 → EventHappens event old result new →
    Rises old.losses new.losses
happens_rises event old (Err idle) new low h = let same = ap (λ (w : WorldState). w.losses) h.1 in (omega (arith, same), omega (arith, same, low))
happens_rises event old (Ok done) new low (inl exact) = let same = exact.uncounted in (omega (arith, same), omega (arith, same, low))
happens_rises event old (Ok done) new low (inr losing) =
    let more = ap (λ (w : WorldState). w.losses) losing.counted in (omega (arith, more, low), omega (arith, more, low))

run_rises : (events : List Event) (old new : WorldState) → old.losses ≤ 2 ^ 64 - 1 → EventsHappen events old new → Rises old.losses new.losses
run_rises [] old new low same = let e = ap (λ (w : WorldState). w.losses) same in (omega (arith, e), omega (arith, e, low))
run_rises (event ∷ events) old new low r =
    let one = happens_rises event old r.1 r.0 low r.2 in
    let more = run_rises events r.0 new one.1 r.3 in
    let x = one.0 in let y = more.0 in (omega (arith, x, y), more.1)

low_count : (old new : WorldState) → WorldLosesNothing old new → old.losses ≤ 2 ^ 64 - 1
low_count old new none = let low = none.1 in omega (arith, low)

-- the first event was done exactly, and the others lose nothing
pub record First (event : Event) (events : List Event) (old new : WorldState) : Type 0 where
  pub after : WorldState
  pub does : DoesEvent true event old after
  pub rest : EventsHappen events after new
  pub whole : WorldLosesNothing after new

pub first_done : (event : Event) (events : List Event) (old new : WorldState) → EventsHappen (event ∷ events) old new → WorldLosesNothing old new → (CannotHappen event old → ⊥) →
    First event events old new
first_done event events old new r none possible = by r.1 r.2
  where
    split : WorldLosesNothing old r.0 × WorldLosesNothing r.0 new
    split =
        let one = happens_rises event old r.1 r.0 (low_count old new none) r.2 in
        worlds_split old r.0 new one.0 (run_rises events r.0 new one.1 r.3).0 none

    by : (result : Result (Unit {0}) Idle) → EventHappens event old result r.0 → First event events old new
    by (Err idle) h = absurd (possible h.0)
    by (Ok done) h = record { after = r.0; does = (uncounted_is_exact event old r.0 h split.0).does; rest = r.3; whole = split.1 }

-- a list in two parts
pub record InTwo (xs ys : List Event) (old new : WorldState) : Type 0 where
  pub mid : WorldState
  pub first : EventsHappen xs old mid
  pub last : EventsHappen ys mid new

run_split : (xs ys : List Event) (old new : WorldState) → EventsHappen (xs ++ ys) old new → InTwo xs ys old new
run_split [] ys old new r = record { mid = old; first = refl; last = r }
run_split (x ∷ xs) ys old new r =
    let more = run_split xs ys r.0 new r.3 in record { mid = more.mid; first = (r.0, r.1, r.2, more.first); last = more.last }

-- and neither of them loses anything
pub record WholeInTwo (xs ys : List Event) (old new : WorldState) : Type 0 where
  pub mid : WorldState
  pub first : EventsHappen xs old mid
  pub whole_first : WorldLosesNothing old mid
  pub last : EventsHappen ys mid new
  pub whole_last : WorldLosesNothing mid new

pub in_two : (xs ys : List Event) (old new : WorldState) → EventsHappen (xs ++ ys) old new → WorldLosesNothing old new → WholeInTwo xs ys old new
in_two xs ys old new r none =
    let s = run_split xs ys old new r in
    let one = run_rises xs old s.mid (low_count old new none) s.first in
    let w = worlds_split old s.mid new one.0 (run_rises ys s.mid new one.1 s.last).0 none in
    record { mid = s.mid; first = s.first; whole_first = w.0; last = s.last; whole_last = w.1 }
