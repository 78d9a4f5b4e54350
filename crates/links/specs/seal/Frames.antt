-- The tag of a frame, which depends on the key, on the frame's number in its direction of a
-- connection, and on all of its bytes.
use Rattle.std.specs.Prelude.{ℕ, ◌+◌, ◌-◌, ◌^◌, Bool, List, ◌++◌, length, take}
use Rattle.std.specs.Int.{w64, to_be_bytes}
use Rattle.links.specs.seal.Hmac.{hmac}

-- bytes of a tag
abbrev pub tag_length : ℕ
tag_length = 16

-- the tag of the frame with this number: the first bytes of the HMAC of the number and the frame's
-- length, eight bytes each, and of its bytes
abbrev pub frame_tag : List ℕ → ℕ → List ℕ → List ℕ
frame_tag key number frame =
    take tag_length (hmac key (to_be_bytes w64 number ++ to_be_bytes w64 (length frame) ++ frame))

-- one end of a direction: its key, and the number of the next frame, from 0 on
pub record Place : Type 0 where
  pub key : List ℕ
  pub next : ℕ

-- an end that takes frames, and whether it refused one
pub record Opening : Type 0 where
  pub place : Place
  pub failed : Bool

-- the number that no frame has
abbrev pub spent : ℕ
spent = 2 ^ 64 - 1

-- the end after one more frame
abbrev pub moved_on : Place → Place
moved_on place = record place { next = place.next + 1 }
