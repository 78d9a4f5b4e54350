-- The keys of a connection, which follow from one key that all nodes have and from the hellos with
-- which the two ends began.
use Rattle.std.specs.Prelude.{ℕ, List, [], ◌∷◌, ◌++◌}
use Rattle.links.specs.declared.seal.keys.Purpose.{Purpose}
use Rattle.links.specs.declared.seal.keys.Purpose.TheVariants.{ProvesDialler, ProvesListener, SealsDialler, SealsListener}
use Rattle.links.specs.declared.seal.keys.Side.{Side}
use Rattle.links.specs.declared.seal.keys.Side.TheVariants.{Dialler, Listener}
use Rattle.links.specs.seal.Hmac.{hmac}

-- the byte of each purpose
abbrev pub purpose_byte : Purpose → ℕ
purpose_byte ProvesDialler = 0
purpose_byte ProvesListener = 1
purpose_byte SealsDialler = 2
purpose_byte SealsListener = 3

-- the 32 bytes for a purpose: those of the end that dialled come first under the key
abbrev pub derived : List ℕ → Purpose → List ℕ → List ℕ → List ℕ
derived key purpose dialler listener =
    hmac key ((purpose_byte purpose ∷ []) ++ dialler ++ listener)

-- the purposes of each end
abbrev pub proves : Side → Purpose
proves Dialler = ProvesDialler
proves Listener = ProvesListener

abbrev pub seals : Side → Purpose
seals Dialler = SealsDialler
seals Listener = SealsListener

-- the other end
abbrev pub other_side : Side → Side
other_side Dialler = Listener
other_side Listener = Dialler

-- the 32 bytes for a purpose, from the own hello and that of the other end
abbrev pub derived_at : Side → List ℕ → Purpose → List ℕ → List ℕ → List ℕ
derived_at Dialler key purpose own other = derived key purpose own other
derived_at Listener key purpose own other = derived key purpose other own
