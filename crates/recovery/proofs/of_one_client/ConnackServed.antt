-- A client that handles a CONNACK 0 with session present is online then.
use Rattle.std.proofs.Common.{◌≡◌, ◌⊎◌, inl, inr, ℕ, true, List, [], ◌++◌, Option, Some, None, Result, Ok, Err, refl, sym, ap, ◌∙◌, subst}
use Rattle.client.specs.Core.{Core, nothing_read}
use Rattle.client.specs.Input.{EndsWith, Handles, OnBytes, ReadsPacket, StopsFor, fed, outcome_of_packet}
use Rattle.client.specs.Input.Handles.{none, more}
use Rattle.client_base.specs.Answered.{ClientOutcome}
use Rattle.client_base.specs.Calls.{client_receives}
use Rattle.client_base.specs.State.{ClientState, is_online}
use Rattle.client_base.specs.declared.error.ClientError.{ClientError}
use Rattle.client_base.specs.declared.error.ClientError.TheVariants as errors
use Rattle.client_base.specs.declared.stage.Stage.{Stage}
use Rattle.client_base.specs.declared.stage.Stage.TheVariants as stages
use Rattle.cutter.specs.Stream.{IsFault, Stream}
use Rattle.packet_base.specs.declared.stop.Stop.{Stop}
use Rattle.packet_base.specs.declared.stop.Stop.TheVariants as stops
use Rattle.packet.specs.Verdict.{verdict}
use Rattle.packet.specs.declared.connack.Connack.TheVariants as connacks
use Rattle.packet.specs.declared.error.DecodeFault.{DecodeFault}
use Rattle.packet.specs.declared.error.DecodeFault.TheVariants as faults
use Rattle.packet.specs.declared.packet.Packet.{Packet}
use Rattle.packet.specs.declared.packet.Packet.TheVariants as packets
use Rattle.recovery.specs.one_client.Online.{ConnackServes, IsServed}

abbrev connack : Packet
connack = packets.Connack (connacks.Accepted true)

nothing_whole : verdict [] ≡ Err stops.More
unfolding verdict
nothing_whole = refl

-- two answers are one
ok_not_err : {A E : Type 0} (r : Result A E) (a : A) (e : E) → r ≡ Ok a → r ≡ Err e → ⊥
ok_not_err r a e f g = cc

same_packet : (r : Result (Packet × List ℕ) Stop) (p q : Packet) (k l : List ℕ) → r ≡ Ok (p, k) → r ≡ Ok (q, l) → (p ≡ q) × (k ≡ l)
same_packet r p q k l e f =
    let both : (p, k) ≡ (q, l) = cc in (ap (λ (x : Packet × List ℕ). x.0) both, ap (λ (x : Packet × List ℕ). x.1) both)

-- if no whole packet is there, there is no packet, and no fault
no_fault : (bytes : List ℕ) → verdict bytes ≡ Err stops.More → (fault : DecodeFault) → IsFault fault bytes → ⊥
no_fault bytes e (faults.Malformed kind) f = two_stops (verdict bytes) stops.More (stops.Malformed kind) e f.1 (λ g. cc)
  where
    two_stops : (r : Result (Packet × List ℕ) Stop) (s t : Stop) → r ≡ Err s → r ≡ Err t → (s ≡ t → ⊥) → ⊥
    two_stops r s t g h ne = ne (let same : s ≡ t = cc in same)
no_fault bytes e (faults.Refused code) f = two_stops (verdict bytes) stops.More (stops.Refused code) e f (λ g. cc)
  where
    two_stops : (r : Result (Packet × List ℕ) Stop) (s t : Stop) → r ≡ Err s → r ≡ Err t → (s ≡ t → ⊥) → ⊥
    two_stops r s t g h ne = ne (let same : s ≡ t = cc in same)

module _ (piece : List ℕ) (old : Core) (whole : verdict piece ≡ Ok (connack, [])) (opened : old.state.stage ≡ stages.Opened) (fresh : old.unread ≡ nothing_read) where
  held_is : (fed piece old).unread.bytes ≡ piece
  held_is = ap (λ (s : Stream). s.bytes ++ piece) fresh

  stands : verdict (fed piece old).unread.bytes ≡ Ok (connack, [])
  stands = ap verdict held_is ∙ whole

  -- before the CONNACK, or after it
  record After (core : Core) : Type 0 where
    served : IsServed core
    read : core.unread.bytes ≡ []

  -- the next packet is the CONNACK
  reads_it : (packet : Packet) (next : Core) → ReadsPacket (fed piece old) packet next → (packet ≡ connack) × (next.unread.bytes ≡ []) × (next.state ≡ old.state)
  reads_it packet next reads =
      let z = same_packet (verdict (fed piece old).unread.bytes) packet connack next.unread.bytes [] reads.0.1 stands in (z.0, z.1, reads.1)

  turn_is : (packet : Packet) (next : Core) → ReadsPacket (fed piece old) packet next → outcome_of_packet packet next ≡ client_receives connack stages.Opened old.state
  turn_is packet next reads =
      let z = reads_it packet next reads in
      ap (λ (p : Packet). outcome_of_packet p next) z.0 ∙ ap (λ (s : ClientState). client_receives connack s.stage s) z.2 ∙ ap (λ (s : Stage). client_receives connack s old.state) opened

  nothing_more : (core : Core) → core.unread.bytes ≡ [] → verdict core.unread.bytes ≡ Err stops.More
  nothing_more core e = ap verdict e ∙ nothing_whole

  handled : (last : Core) → Handles (fed piece old) last → (last ≡ fed piece old) ⊎ After last
  handled last none = inl refl
  handled last (more {before = s} {read = t} packet before reads taken done) = by (handled s before)
    where
      by : (s ≡ fed piece old) ⊎ After s → (last ≡ fed piece old) ⊎ After last
      by (inl same) =
          let r : ReadsPacket (fed piece old) packet t = subst (λ (x : Core). ReadsPacket x packet t) same reads in
          let turn = turn_is packet t r in
          let state = done.0 ∙ ap (λ (u : ClientOutcome). u.state) turn in
          inr (record {
            served = record { online = ap (λ (k : ClientState). is_online k.stage) state; present = ap (λ (k : ClientState). k.session_present) state };
            read = ap (λ (x : Stream). x.bytes) done.2 ∙ (reads_it packet t r).1;
          })
      by (inr z) = absurd (ok_not_err (verdict s.unread.bytes) (packet, t.unread.bytes) stops.More reads.0.1 (nothing_more s z.read))

  -- it does not end before the CONNACK
  none_stops : (cause : ClientError) → StopsFor cause (fed piece old) → ⊥
  none_stops cause (inl (fault, rest, takes, is)) = by fault takes.1
    where
      by : (f : DecodeFault) → IsFault f (fed piece old).unread.bytes → ⊥
      by (faults.Malformed kind) f = ok_not_err (verdict (fed piece old).unread.bytes) (connack, []) (stops.Malformed kind) stands f.1
      by (faults.Refused code) f = ok_not_err (verdict (fed piece old).unread.bytes) (connack, []) (stops.Refused code) stands f
  none_stops cause (inr (packet, next, reads, refused)) =
      refuses (outcome_of_packet packet next).refusal cause refused (ap (λ (u : ClientOutcome). u.refusal) (turn_is packet next reads))
    where
      refuses : (o : Option ClientError) (e : ClientError) → o ≡ Some e → o ≡ None → ⊥
      refuses o e f g = cc

  -- nor after it
  none_stops_after : (cause : ClientError) (last : Core) → last.unread.bytes ≡ [] → StopsFor cause last → ⊥
  none_stops_after cause last empty (inl (fault, rest, takes, is)) = no_fault last.unread.bytes (nothing_more last empty) fault takes.1
  none_stops_after cause last empty (inr (packet, next, reads, refused)) =
      ok_not_err (verdict last.unread.bytes) (packet, next.unread.bytes) stops.More reads.0.1 (nothing_more last empty)

  -- so it ends after it
  ends : (last new : Core) (result : Result (Unit {0}) ClientError) → (result ≡ Err errors.Memory → ⊥) → (last ≡ fed piece old) ⊎ After last → EndsWith last result new →
      (result ≡ Ok tt) × IsServed new
  ends last new (Ok done) memory (inl same) z =
      absurd (ok_not_err (verdict (fed piece old).unread.bytes) (connack, []) stops.More stands (ap (λ (k : Core). verdict k.unread.bytes) (sym same) ∙ z.0.1))
  ends last new (Ok done) memory (inr after) z = (refl, subst IsServed (sym z.1) after.served)
  ends last new (Err errors.Memory) memory either z = absurd (memory refl)
  ends last new (Err errors.SessionLost) memory (inl same) (packet, next, reads, refused, done) =
      absurd (none_stops errors.SessionLost (inr (packet, next, subst (λ (x : Core). ReadsPacket x packet next) same reads, refused)))
  ends last new (Err errors.SessionLost) memory (inr after) (packet, next, reads, refused, done) =
      absurd (none_stops_after errors.SessionLost last after.read (inr (packet, next, reads, refused)))
  ends last new (Err cause) memory (inl same) z = absurd (none_stops cause (subst (λ (k : Core). StopsFor cause k) same z.0))
  ends last new (Err cause) memory (inr after) z = absurd (none_stops_after cause last after.read z.0)

  pub serves : (new : Core) (result : Result (Unit {0}) ClientError) → (result ≡ Err errors.Memory → ⊥) → OnBytes piece stages.Opened old result new → (result ≡ Ok tt) × IsServed new
  serves new result memory (inl lacks) = absurd (memory lacks.1)
  serves new result memory (inr (last, handles, ends_with)) = ends last new result memory (handled last handles) ends_with

pub connack_serves : ConnackServes
connack_serves piece old new result whole opened fresh memory on_bytes =
    serves piece old whole opened fresh new result memory (subst (λ (s : Stage). OnBytes piece s old result new) opened on_bytes)
