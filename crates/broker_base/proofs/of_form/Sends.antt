-- Everything that a queue sends can be spelled.
use Rattle.std.proofs.Common.{◌≡◌, ℕ, ◌+◌, ◌≤◌, ◌<◌, ◌^◌, suc, Bool, true, false, nat_lt, if◌then◌else◌, List, [], ◌∷◌, ◌++◌, length, refl, arith}
use Rattle.std.specs.List.{AllByRecursion, list_any}
use Rattle.std.proofs.lemmas.List.{length-append}
use Rattle.packet_base.specs.Spelling.{IsId}
use Rattle.packet.specs.Spelling.{IsPacket}
use Rattle.packet.specs.declared.packet.Packet.{Packet}
use Rattle.packet.specs.declared.packet.Packet.TheVariants as packets
use Rattle.packet_base.specs.declared.qos.QoS.{QoS}
use Rattle.packet_base.specs.declared.qos.QoS.TheVariants as qos_levels
use Rattle.session_base.specs.declared.publication.Publication.{Publication}
use Rattle.session_base.specs.declared.awaits.Awaits.TheVariants as waits_for
use Rattle.session_base.specs.Publication.{publish_for, is_answered}
use Rattle.session_base.specs.Queue.{Flight, Queue, started_flight, awaits_pubcomp, enqueue, filled}
use Rattle.session_base.specs.EntryPackets.{fill_sends, resend, pubrec_sends, copies_sent}
use Rattle.broker_spec.specs.Entries.{queued}
use Rattle.session_base.specs.InRange.{CanBeSent, MayWait, IsInFlight, IsQueue}
use Rattle.broker_base.proofs.of_form.Publications.{spelled, spelled_once}
use Rattle.broker_base.proofs.of_form.Queues.{all_append, free_is_id, started_in_range, fill_in_range, enqueued_in_range}

abbrev pub AllPackets : List Packet → Type 0
AllPackets = AllByRecursion IsPacket

-- what starts is sent
pub fills_are_packets : (w n : ℕ) (fs : List Flight) (ps : List Publication) → n < 2 ^ 16 → AllByRecursion IsInFlight fs → AllByRecursion MayWait ps →
    length fs + length ps ≤ n → AllPackets (fill_sends w fs ps)
fills_are_packets w n fs [] m h k few = tt
fills_are_packets w n fs (p ∷ ps) m h k few =
    by (nat_lt (length fs) w)
    (fills_are_packets w n (fs ++ started_flight fs p ∷ []) ps m
    (all_append IsInFlight fs (started_flight fs p ∷ []) h (started_in_range fs p (omega (arith, few, m)) k.0, tt)) k.1
    (let f : length (fs ++ started_flight fs p ∷ []) ≡ length fs + 1 = length-append fs (started_flight fs p ∷ []) in omega (arith, f, few)))
  where
    by : (b : Bool) → AllPackets (fill_sends w (fs ++ started_flight fs p ∷ []) ps) →
        AllPackets (if b then packets.Publish (publish_for false (started_flight fs p).0 p) ∷ fill_sends w (fs ++ started_flight fs p ∷ []) ps else [])
    by true more = (spelled false (started_flight fs p).0 p (free_is_id fs p (omega (arith, few, m))) k.0.1, more)
    by false more = tt

-- what is sent again
pub resends_are_packets : (fs : List Flight) → AllByRecursion IsInFlight fs → AllPackets (resend fs)
resends_are_packets [] h = tt
resends_are_packets ((id, waits_for.Puback p) ∷ fs) h = (spelled true id p h.0.0 h.0.2, resends_are_packets fs h.1)
resends_are_packets ((id, waits_for.Pubrec p) ∷ fs) h = (spelled true id p h.0.0 h.0.2, resends_are_packets fs h.1)
resends_are_packets ((id, waits_for.Pubcomp) ∷ fs) h = ((h.0, tt, omega arith), resends_are_packets fs h.1)

-- PUBREL after PUBREC
pub pubrels_are_packets : (id : ℕ) (fs : List Flight) → IsId id → AllPackets (pubrec_sends id fs)
pubrels_are_packets id fs h = by (list_any (λ flight. awaits_pubcomp id flight) fs)
  where
    by : (b : Bool) → AllPackets (if b then packets.Pubrel id ∷ [] else [])
    by true = ((h, tt, omega arith), tt)
    by false = tt

not_answered : (q : QoS) → is_answered q ≡ false → q ≡ qos_levels.AtMostOnce
not_answered qos_levels.AtMostOnce e = refl
not_answered qos_levels.AtLeastOnce e = absurd (cc)
not_answered qos_levels.ExactlyOnce e = absurd (cc)

-- copies, and what starts after each
pub copies_are_packets : (w n : ℕ) (copies : List Publication) (q : Queue) → n + length (queued copies) < 2 ^ 16 → AllByRecursion CanBeSent copies →
    IsQueue n q → AllPackets (copies_sent w copies q)
copies_are_packets w n [] q m k h = tt
copies_are_packets w n (p ∷ copies) q m k h =
    elim (is_answered p.qos) as (λ (b : Bool). is_answered p.qos ≡ b → n + length (if b then p ∷ queued copies else queued copies) < 2 ^ 16 →
    AllPackets (if b then fill_sends w q.in_flight (enqueue p q).waiting ++ copies_sent w copies (filled w (enqueue p q))
    else packets.Publish (publish_for false 0 p) ∷ copies_sent w copies q)) [
      | true ↦ λ e m.
          let one = enqueued_in_range n p q (e, k.0) h in
          all_append IsPacket (fill_sends w q.in_flight (enqueue p q).waiting) (copies_sent w copies (filled w (enqueue p q)))
          (fills_are_packets w (suc n) q.in_flight (enqueue p q).waiting (omega (arith, m)) one.in_flight one.waiting one.few)
          (copies_are_packets w (suc n) copies (filled w (enqueue p q)) (omega (arith, m)) k.1 (fill_in_range w (suc n) (enqueue p q) (omega (arith, m)) one))
      | false ↦ λ e m. (spelled_once p (not_answered p.qos e) k.0, copies_are_packets w n copies q m k.1 h)
    ] refl m
