-- The bytes of a client's CONNECT, and of the CONNACK that answers it.
use Rattle.std.proofs.Common.{◌≡◌, ◌+◌, ◌≤◌, ℕ, true, false, IsTrue, List, [], ◌∷◌, length, Result, Ok, refl, sym, ap, ◌∙◌, subst, arith}
use Rattle.std.specs.Prelude.{nat_lt, nat_le}
use Rattle.std.proofs.lemmas.Bool.{and_parts, lt-ltb, leb-true}
use Rattle.std.proofs.lemmas.List.{append-nil}
use Rattle.packet.specs.declared.connect.Connect.{Connect}
use Rattle.packet.specs.declared.packet.Packet.{Packet}
use Rattle.packet.specs.declared.packet.Packet.TheVariants as packets
use Rattle.packet_base.specs.ClientId.{is_client}
use Rattle.packet_base.specs.declared.stop.Stop.{Stop}
use Rattle.packet.specs.Spelling.{IsPacket, body, spelling}
use Rattle.packet.specs.Verdict.{verdict}
use Rattle.packet_base.proofs.Clients.{client_parts, client_short}
use Rattle.packet.proofs.OneSpelling.{spelling_is}
use Rattle.packet.proofs.PacketReads.{verdict_again}
use Rattle.client.specs.Core.{AppendsAll}
use Rattle.world_nodes.specs.recoveries.Answered.{session_present}

-- what is spelled is read, and nothing is left
pub verdict_spelled : (p : Packet) → IsPacket p → verdict (spelling p) ≡ Ok (p, [])
verdict_spelled p whole = ap verdict (sym (append-nil (spelling p))) ∙ verdict_again p (spelling p) [] whole (spelling_is p whole).0

-- only one packet was written
pub alone : (p : Packet) (out : List ℕ) → IsPacket p → AppendsAll [] out (p ∷ []) → out ≡ spelling p
alone p out whole (between, (bytes, spells, is), last) = last ∙ is ∙ (spelling_is p whole).1 bytes spells

-- ---- CONNECT

abbrev pub keeps : List ℕ → ℕ → Connect
keeps client keep_alive = record { client = client; clean = false; keep_alive = keep_alive }

module _ (client : List ℕ) (fits : IsTrue (is_client client)) where
  abbrev p : Packet
  p = packets.Connect (keeps client 0)

  is_packet : IsPacket p
  is_packet = ((omega arith, fits), tt, (let short = client_short client fits in omega (arith, short)))

  short : length client ≤ 64
  short = leb-true (length client) 64 (and_parts (nat_lt 0 (length client)) (nat_le (length client) 64) (client_parts client fits).1).1

  long : length (body p) ≡ 12 + length client
  long = omega arith

  -- one byte is enough for the length of the rest
  spelled_long : length (spelling p) ≡ 14 + length client
  unfolding spelling
  spelled_long =
      let l = long in let s = short in
      let few : nat_lt (length (body p)) 128 ≡ true = lt-ltb (length (body p)) 128 (omega (arith, l, s)) in
      rw few (omega (arith, l))

  pub connect_spelled : (keep_alive : ℕ) (out : List ℕ) → keep_alive ≡ 0 → AppendsAll [] out (packets.Connect (keeps client keep_alive) ∷ []) →
      (verdict out ≡ Ok (packets.Connect (keeps client keep_alive), [])) × (length out ≡ 14 + length client)
  connect_spelled keep_alive out none written =
      let is = alone p out is_packet (subst (λ (k : ℕ). AppendsAll [] out (packets.Connect (keeps client k) ∷ [])) none written) in (
        ap verdict is ∙ verdict_spelled p is_packet
            ∙ ap (λ (k : ℕ). let r : Result (Packet × List ℕ) Stop = Ok (packets.Connect (keeps client k), []) in r) (sym none),
        ap (λ (l : List ℕ). length l) is ∙ spelled_long,
      )

-- ---- CONNACK

connack_is_packet : IsPacket session_present
connack_is_packet = (tt, tt, omega arith)

pub connack_read : verdict (spelling session_present) ≡ Ok (session_present, [])
connack_read = verdict_spelled session_present connack_is_packet

pub connack_long : length (spelling session_present) ≡ 4
unfolding spelling
connack_long = refl
