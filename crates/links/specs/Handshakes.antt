-- How two ends of a connection begin: each sends its hello, and then proves that it has the key.
use Rattle.std.specs.Prelude.{◌≡◌, ◌≢◌, ℕ, ◌+◌, ◌<◌, ◌≤◌, false, Option, List, ◌++◌, length, take, Ok, Err}
use Rattle.std.specs.Io.KnownBytes.{Appends, Consumes}
use Rattle.links.specs.seal.Frames.{Place, Opening}
use Rattle.links.specs.seal.Hellos.{hello_bytes, hello_of}
use Rattle.links.specs.seal.Keys.{derived_at, other_side, proves, seals}
use Rattle.links.specs.declared.seal.hello.Hello.{Hello}
use Rattle.links.specs.declared.seal.hello.HelloFault.TheVariants.{Unfinished}
use Rattle.links.specs.declared.seal.keys.Side.{Side}
use Rattle.links.specs.declared.seal.membership.Membership.{Membership}
use Rattle.links.specs.declared.handshake.HandshakeFault.{HandshakeFault}
use Rattle.links.specs.declared.handshake.HandshakeFault.TheVariants as faults
use Rattle.links.specs.Devices.{WritesPrefix}

-- what an end writes, once it knows the other's hello
abbrev pub written_by : Side → List ℕ → Hello → List ℕ → List ℕ
written_by side key own other =
    hello_bytes own ++ derived_at side key (proves side) (hello_bytes own) other

-- the proof that it wants of the other end
abbrev pub wanted : Side → List ℕ → Hello → List ℕ → List ℕ
wanted side key own other = derived_at side key (proves (other_side side)) (hello_bytes own) other

-- the place at which it seals, and that at which it opens
abbrev pub sends_from : Side → List ℕ → Hello → List ℕ → Place
sends_from side key own other =
    record { key = derived_at side key (seals side) (hello_bytes own) other; next = 0 }

abbrev pub opens_from : Side → List ℕ → Hello → List ℕ → Place
opens_from side key own other =
    record { key = derived_at side key (seals (other_side side)) (hello_bytes own) other; next = 0 }

-- The other end's hello and proof were read, and no byte more; the own ones were written.
pub record Meets
    (side : Side) (key : List ℕ) (own : Hello) (membership : Membership)
    (unread left held now : Option (List ℕ))
    (other : Hello) (sealer : Place) (opener : Opening)
    : Type 0 where
  pub bytes : List ℕ
  pub size : length bytes ≡ 55
  pub read : Consumes unread left (bytes ++ wanted side key own bytes)
  pub said : hello_of own.rules membership bytes ≡ Ok other
  pub written : Appends held now (written_by side key own bytes)
  pub seals_so : sealer ≡ sends_from side key own bytes
  pub opens_so : opener ≡ record { place = opens_from side key own bytes; failed = false }

-- bytes that are no proof
abbrev pub IsNoProof : Side → List ℕ → Hello → List ℕ → List ℕ → Type 0
IsNoProof side key own other given = (length given ≡ 32) × (given ≢ wanted side key own other)

-- why two ends do not meet, by what was read
abbrev pub FailsSo :
    Side → List ℕ → Hello → Membership → Option (List ℕ) → Option (List ℕ) → HandshakeFault →
    Type 0
FailsSo side key own membership unread left (faults.Hello fault) =
    (bytes : List ℕ) × Consumes unread left bytes
    × (hello_of own.rules membership bytes ≡ Err fault) × (fault ≢ Unfinished)
FailsSo side key own membership unread left faults.Proof =
    (bytes given : List ℕ) × Consumes unread left (bytes ++ given)
    × IsNoProof side key own bytes given
FailsSo side key own membership unread left (faults.Device fault) = Unit {0}

-- what was written of a handshake that failed is a prefix of the own hello and proof
abbrev pub WritesSome :
    Side → List ℕ → Hello → Option (List ℕ) → Option (List ℕ) → Type 0
WritesSome side key own held now =
    (other : List ℕ) × WritesPrefix held now (written_by side key own other)

-- ---- cited by private clauses alone

-- a fault of the device
abbrev pub IsOfDevice : HandshakeFault → Type 0
IsOfDevice (faults.Device fault) = Unit {0}
IsOfDevice fault = ⊥

-- why a hello is not taken
abbrev pub HelloFails :
    ℕ → Membership → Option (List ℕ) → Option (List ℕ) → HandshakeFault → Type 0
HelloFails rules membership unread left (faults.Hello fault) =
    (bytes : List ℕ) × Consumes unread left bytes
    × (hello_of rules membership bytes ≡ Err fault) × (fault ≢ Unfinished)
HelloFails rules membership unread left faults.Proof = ⊥
HelloFails rules membership unread left (faults.Device fault) = Unit {0}

-- a piece was read after this many bytes, and ends there
pub record ReadsBehind
    (from : ℕ) (old : List ℕ) (end : ℕ) (new : List ℕ) (unread left : Option (List ℕ))
    : Type 0 where
  pub piece : List ℕ
  pub some : 0 < length piece
  pub ends : end ≡ from + length piece
  pub within : end ≤ 55
  pub front : take end new ≡ take from old ++ piece
  pub read : Consumes unread left piece
