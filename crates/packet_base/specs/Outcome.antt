-- How the result of a call follows from what reading gives. Memory may run out instead, unless
-- another clause says when.
use Rattle.std.specs.Prelude.{◌≡◌, ◌≢◌, ℕ, List, Result, Ok, Err}
use Rattle.topics.specs.declared.malformed.MalformedKind.TheVariants as kinds
use Rattle.packet_base.specs.declared.stop.Stop.{Stop}
use Rattle.packet_base.specs.declared.stop.Stop.TheVariants as stops

-- reading stops for this reason, unless memory ran out
abbrev pub StopsBy : {Y : Type 0} → Stop → Result Y Stop → Type 0
StopsBy stops.More read = read ≡ Err stops.More
StopsBy (stops.Malformed kinds.Memory) read = Unit {0}
StopsBy (stops.Malformed kind) read = read ≡ Err (stops.Malformed kind)
StopsBy (stops.Refused code) read = read ≡ Err (stops.Refused code)

-- the result of a call is, after this conversion, what reading gives
abbrev pub Gives : {X Y : Type 0} → (X → Y) → Result X Stop → Result Y Stop → Type 0
Gives view (Ok value) read = read ≡ Ok (view value)
Gives view (Err stop) read = StopsBy stop read

-- the result of a reader's call is what reading gives, and these bytes are left unread
abbrev pub Reads : {X Y : Type 0} → (X → Y) → Result X Stop → List ℕ
    → Result (Y × List ℕ) Stop → Type 0
Reads view (Ok value) rest read = read ≡ Ok (view value, rest)
Reads view (Err stop) rest read = StopsBy stop read

-- reading stopped because memory ran out
abbrev pub IsOutOfMemory : {X : Type 0} → Result X Stop → Type 0
IsOutOfMemory result = result ≡ Err (stops.Malformed kinds.Memory)

-- no memory is needed, so it does not run out
abbrev pub TakesNoMemory : {X : Type 0} → Result X Stop → Type 0
TakesNoMemory result = result ≢ Err (stops.Malformed kinds.Memory)
