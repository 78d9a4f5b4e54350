-- Shorter.antt: a reader that hands over a parcel has less left.
use Rattle.std.proofs.Common.{◌≡◌, ℕ, ◌+◌, ◌-◌, ◌<◌, ◌≤◌, List, [], ◌∷◌, ◌++◌, length, drop, ap, arith, length-append}
use Rattle.std.specs.Int.{w32, to_be_bytes}
use Rattle.std.proofs.lemmas.List.{length-drop}
use Rattle.links.specs.frames.Fronts.{Front, Begins, behind, bytes_of, after}
use Rattle.links.specs.frames.Fronts.Front.{whole, unfinished, broken}
use Rattle.links.specs.frames.Fronts.Begins.{in_head, faulty, in_part, ends, goes_on}
use Rattle.links.specs.seal.Frames.{Place, frame_tag, moved_on}
use Rattle.links.specs.seal.FrameStreams.{sealed, all_sealed}
use Rattle.links.specs.declared.parcel.Parcel.{Parcel}
use Rattle.links.specs.Links.{LinkView, Hands, bytes_in, max_parcel}

-- what is left after a message is shorter
abbrev Shorter : List ℕ → Front → Type 0
Shorter stream (whole message rest) = length rest + 5 ≤ length stream
Shorter stream unfinished = Unit {0}
Shorter stream (broken fault) = Unit {0}

passed : (stream later bytes : List ℕ) (front : Front) → length later ≤ length stream → Shorter later front → Shorter stream (behind bytes front)
passed stream later bytes (whole message rest) less h = omega (arith, less, h)
passed stream later bytes unfinished less h = tt
passed stream later bytes (broken fault) less h = tt

shorter : (room : ℕ) (stream : List ℕ) (front : Front) → Begins room stream front → Shorter stream front
shorter room stream front (in_head h) = tt
shorter room stream front (faulty h) = tt
shorter room stream front (in_part h few) = tt
shorter room stream front (ends {len = len} h all) = omega (arith, all, length-drop 5 stream, length-drop len (drop 5 stream))
shorter room stream front (goes_on {len = len} {front = next} h all b) =
    passed stream (after len stream) (bytes_of len stream) next (omega (arith, all, length-drop 5 stream, length-drop len (drop 5 stream)))
    (shorter (room - len) (after len stream) next b)

sealed_longer : (place : Place) (frames : List (List ℕ)) → length (bytes_in frames) ≤ length (all_sealed place frames)
sealed_longer place [] = omega arith
sealed_longer place (f ∷ frames) =
    let more = sealed_longer (moved_on place) frames in
    let tag = frame_tag place.key place.next f in
    let one = length-append f (bytes_in frames) in
    let two = length-append (sealed place f) (all_sealed (moved_on place) frames) in
    let three = length-append (to_be_bytes w32 (length f)) (f ++ tag) in
    let four = length-append f tag in
    omega (arith, more, one, two, three, four)

pub hands_shorter : (old new : LinkView) (parcel : Parcel) → Hands old (parcel ∷ []) new
    → length new.unopened + length new.parts < length old.unopened + length old.parts
hands_shorter old new parcel h =
    let last : h.join.0 ≡ new.parts = h.join.2 in
    let less = shorter max_parcel (old.parts ++ bytes_in h.frames) (whole _ h.join.0) h.join.1 in
    let size = ap (λ (l : List ℕ). length l) last in
    let one = length-append old.parts (bytes_in h.frames) in
    let two = sealed_longer old.place h.frames in
    let three = ap (λ (l : List ℕ). length l) h.bear in
    let four = length-append (all_sealed old.place h.frames) new.unopened in
    omega (arith, less, size, one, two, three, four)
