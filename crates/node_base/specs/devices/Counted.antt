-- What is known about a device whose failed calls are counted.
use Rattle.std.specs.Prelude.{ℕ, ◌+◌, ◌-◌, ◌^◌, min}

-- a device, and how many of its calls have failed
pub record CountedView (D : Type 0) : Type 0 where
  pub device : D
  pub faults : ℕ

-- the count after one more failed call: it stays at 2^64 - 1
abbrev pub counted_once : ℕ → ℕ
counted_once faults = min (faults + 1) (2 ^ 64 - 1)
