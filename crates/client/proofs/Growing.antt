-- Growing.antt: what is appended makes a list longer, and what is kept makes the client write.
use Rattle.std.proofs.Common.{◌≡◌, ◌≢◌, ℕ, true, false, ◌<◌, ◌+◌, List, [], ◌∷◌, ◌++◌, length, map, arith, ap}
use Rattle.std.proofs.lemmas.List.{length-append, length-map}
use Rattle.packet.specs.declared.packet.Packet.{Packet}
use Rattle.packet.specs.declared.packet.Packet.TheVariants as packets
use Rattle.client_base.specs.State.{ClientState, kept_count, publish_kept, resent}
use Rattle.client.specs.Core.{AppendsAll}

pub one_longer : {X : Type 0} (xs : List X) (x : X) → length xs < length (xs ++ x ∷ [])
one_longer xs x = omega (arith, length-append xs (x ∷ []))

-- each publication that is kept is sent once more
resent_count : (state : ClientState) → length (resent state) ≡ kept_count state
resent_count state =
    let released = map packets.Pubrel state.released in
    let sent = map (publish_kept true) state.sent in
    let queued = map (publish_kept false) state.queued in
    omega (
      arith,
      length-append (released ++ sent) queued,
      length-append released sent,
      length-map state.released packets.Pubrel,
      length-map state.sent (publish_kept true),
      length-map state.queued (publish_kept false),
    )

pub some_resent : (state : ClientState) → 0 < kept_count state → resent state ≢ []
some_resent state some none = omega (arith, some, resent_count state, ap length none)

-- bytes are written only for a packet
some_written : (bytes : List ℕ) (packets : List Packet) → AppendsAll [] bytes packets → 0 < length bytes → 0 < length packets
some_written bytes [] same some = absurd (omega (arith, some, ap length same))
some_written bytes (packet ∷ packets) all some = omega arith

-- so they are written only if something is kept
pub some_kept : (state : ClientState) (bytes : List ℕ) → AppendsAll [] bytes (resent state) → 0 < length bytes → 0 < kept_count state
some_kept state bytes all some = omega (arith, some_written bytes (resent state) all some, resent_count state)
