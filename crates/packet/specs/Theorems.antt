-- Theorems about the grammar, proved by `src/theorems.rt`.
use Rattle.std.specs.Prelude.{◌≡◌, ◌≢◌, ℕ, List, ◌∷◌, ◌++◌, Err}
use Rattle.packet_base.specs.declared.stop.Stop.{Stop}
use Rattle.packet_base.specs.declared.stop.Stop.TheVariants as stops
use Rattle.packet.specs.declared.packet.Packet.{Packet}
use Rattle.packet.specs.Spelling.{Spells, IsPacket, spelling}
use Rattle.packet.specs.Verdict.{verdict, IsUnfinished}

-- each packet has exactly one spelling
abbrev pub HasOneSpelling : Type 0
HasOneSpelling = (packet : Packet) → IsPacket packet → (bytes : List ℕ) × Spells packet bytes
    × ((other : List ℕ) → Spells packet other → other ≡ bytes)

-- these bytes spell the packet, and no others do
abbrev pub SpellingSpells : Type 0
SpellingSpells = (packet : Packet) → IsPacket packet →
    Spells packet (spelling packet)
    × ((other : List ℕ) → Spells packet other → other ≡ spelling packet)

-- if two spellings are prefixes of the same bytes, they are equal, and spell the same packet
abbrev pub NoneBeginsAnother : Type 0
NoneBeginsAnother = (packet other : Packet) (bytes other_bytes rest other_rest : List ℕ)
    → IsPacket packet → IsPacket other
    → Spells packet bytes → Spells other other_bytes
    → bytes ++ rest ≡ other_bytes ++ other_rest → (packet ≡ other) × (bytes ≡ other_bytes)

-- a proper prefix of a spelling is no whole packet and has no fault
abbrev pub FrontsAreUnfinished : Type 0
FrontsAreUnfinished = (packet : Packet) (front more : List ℕ) (next : ℕ) → IsPacket packet
    → Spells packet (front ++ next ∷ more) → IsUnfinished front

-- a fault is the same whatever bytes follow
abbrev pub FaultsStay : Type 0
FaultsStay = (bytes more : List ℕ) (stop : Stop) → stop ≢ stops.More
    → verdict bytes ≡ Err stop → verdict (bytes ++ more) ≡ Err stop
