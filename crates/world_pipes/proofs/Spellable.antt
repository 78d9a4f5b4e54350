-- Spellable.antt: all that a client writes can be spelled, and so can what it keeps then.
use Rattle.std.proofs.Common.{ℕ, Bool, true, false, not, if◌then◌else◌, List, [], ◌∷◌, ◌++◌, map, filter, None, arith}
use Rattle.std.specs.List.{list_any}
use Rattle.packet_base.specs.Spelling.{IsId}
use Rattle.packet.specs.declared.connack.Connack.TheVariants as connacks
use Rattle.packet.specs.declared.delivery.Delivery.{Delivery}
use Rattle.packet.specs.declared.delivery.Delivery.TheVariants as deliveries
use Rattle.packet.specs.declared.publish.Publish.{Publish}
use Rattle.packet_base.specs.declared.qos.QoS.{QoS}
use Rattle.packet_base.specs.declared.qos.QoS.TheVariants as qos_levels
use Rattle.packet.specs.declared.packet.Packet.{Packet}
use Rattle.packet.specs.declared.packet.Packet.TheVariants as packets
use Rattle.packet.specs.Spelling.{Fits, IsPacket}
use Rattle.lists.specs.Lists.{Each, has_id}
use Rattle.lists.proofs.OfEach.{each_append, each_then}
use Rattle.client_base.specs.declared.unacknowledged_publication.UnacknowledgedPublication.{UnacknowledgedPublication}
use Rattle.client_base.specs.declared.stage.Stage.{Stage}
use Rattle.client_base.specs.declared.stage.Stage.TheVariants as stages
use Rattle.client_base.specs.State.{ClientState, lost, publish_kept, resent}
use Rattle.client_base.specs.Answered.{ClientOutcome, awaits_pubrec, on_publish, on_pubrec}
use Rattle.client_base.specs.Calls.{on_connack, discarded, numbered, loses_session, on_first, on_later, client_receives}
use Rattle.world_pipes.specs.StandsFor.{CanGoOut}

-- what a step writes, and what it leaves
pub record AllSpelled (outcome : ClientOutcome) : Type 0 where
  pub writes : Each IsPacket outcome.writes
  pub left : CanGoOut outcome.state

kept_or_not : {X : Type 0} (P : X → Type 0) (b : Bool) (x : X) (xs : List X) → P x → Each P xs → Each P (if b then x ∷ xs else xs)
kept_or_not P true x xs one all = (one, all)
kept_or_not P false x xs one all = all

pub each_filter : {X : Type 0} (P : X → Type 0) (test : X → Bool) (xs : List X) → Each P xs → Each P (filter test xs)
each_filter P test [] all = tt
each_filter P test (x ∷ xs) all = kept_or_not P (test x) x (filter test xs) all.0 (each_filter P test xs all.1)

each_map : {X Y : Type 0} (P : Y → Type 0) (f : X → Y) (xs : List X) → Each (λ x. P (f x)) xs → Each P (map f xs)
each_map P f [] all = tt
each_map P f (x ∷ xs) all = (all.0, each_map P f xs all.1)

-- ---- a single packet

pub answers_fit : (id : ℕ) → IsId id → IsPacket (packets.Puback id) × IsPacket (packets.Pubrec id) × IsPacket (packets.Pubrel id) × IsPacket (packets.Pubcomp id)
answers_fit id fits = ((fits, tt, omega arith), (fits, tt, omega arith), (fits, tt, omega arith), (fits, tt, omega arith))

-- DUP changes nothing
dup_fits_at : (qos : QoS) (id : ℕ) (retain : Bool) (topic payload : List ℕ) →
    IsPacket (publish_kept false (record { id = id; publication = record { retain = retain; qos = qos; topic = topic; payload = payload } })) →
    IsPacket (publish_kept true (record { id = id; publication = record { retain = retain; qos = qos; topic = topic; payload = payload } }))
dup_fits_at qos_levels.AtMostOnce id retain topic payload fits = fits
dup_fits_at qos_levels.AtLeastOnce id retain topic payload fits = fits
dup_fits_at qos_levels.ExactlyOnce id retain topic payload fits = fits

pub dup_fits : (kept : UnacknowledgedPublication) → IsPacket (publish_kept false kept) → IsPacket (publish_kept true kept)
dup_fits kept fits = dup_fits_at kept.publication.qos kept.id kept.publication.retain kept.publication.topic kept.publication.payload fits

-- ---- after a CONNACK

resent_fits : (state : ClientState) → CanGoOut state → Each IsPacket (resent state)
resent_fits state fits =
    each_append IsPacket (map packets.Pubrel state.released ++ map (publish_kept true) state.sent) (map (publish_kept false) state.queued)
    (each_append IsPacket (map packets.Pubrel state.released) (map (publish_kept true) state.sent)
    (each_map IsPacket packets.Pubrel state.released
    (each_then IsId (λ id. IsPacket (packets.Pubrel id)) state.released (λ id one. (answers_fit id one).2) fits.released))
    (each_map IsPacket (publish_kept true) state.sent (each_then _ _ state.sent dup_fits fits.sent)))
    (each_map IsPacket (publish_kept false) state.queued fits.queued)

confirmed_where : (lacking : Bool) (present : Bool) (state : ClientState) → CanGoOut state →
    let kept = if lacking then discarded state else numbered state in
    Each IsPacket (resent kept) × CanGoOut (record kept { sent = kept.sent ++ kept.queued; queued = []; stage = stages.Online; session_present = present })
confirmed_where true present state fits =
    (tt, record { keep_alive = fits.keep_alive; client = fits.client; released = tt; sent = tt; queued = tt })
confirmed_where false present state fits = (
  resent_fits (numbered state) (record { keep_alive = fits.keep_alive; client = fits.client; released = fits.released; sent = fits.sent; queued = fits.queued }),
  record { keep_alive = fits.keep_alive; client = fits.client; released = fits.released; sent = each_append _ state.sent state.queued fits.sent fits.queued; queued = tt },
)

confirmed_fits : (present : Bool) (state : ClientState) → CanGoOut state → AllSpelled (on_connack present state)
confirmed_fits present state fits =
    let both = confirmed_where (loses_session present state) present state fits in
    record { writes = both.0; left = both.1 }

-- ---- every packet

-- the state in which only this may have changed
silently : (state : ClientState) → CanGoOut state → AllSpelled (record { state = state; writes = []; refusal = None })
silently state fits = record { writes = tt; left = fits }

pub lost_fits : (state : ClientState) → CanGoOut state → CanGoOut (lost state)
lost_fits state fits = record { keep_alive = fits.keep_alive; client = fits.client; released = fits.released; sent = fits.sent; queued = fits.queued }

publish_fits : (p : Publish) (delivery : Delivery) (state : ClientState) → Fits (packets.Publish (record p { delivery = delivery })) → CanGoOut state → AllSpelled (on_publish p delivery state)
publish_fits p deliveries.AtMostOnce state one fits =
    record { writes = tt; left = record { keep_alive = fits.keep_alive; client = fits.client; released = fits.released; sent = fits.sent; queued = fits.queued } }
publish_fits p (deliveries.AtLeastOnce dup id) state one fits =
    record { writes = ((answers_fit id one.1).0, tt); left = record { keep_alive = fits.keep_alive; client = fits.client; released = fits.released; sent = fits.sent; queued = fits.queued } }
publish_fits p (deliveries.ExactlyOnce dup id) state one fits =
    record { writes = ((answers_fit id one.1).1, tt); left = by (has_id id state.received) }
  where
    by : (b : Bool) → CanGoOut (if b then state else record state { accepted = (on_publish p deliveries.AtMostOnce state).state.accepted; received = state.received ++ id ∷ [] })
    by true = fits
    by false = record { keep_alive = fits.keep_alive; client = fits.client; released = fits.released; sent = fits.sent; queued = fits.queued }

pubrec_fits : (id : ℕ) (state : ClientState) → IsId id → CanGoOut state → AllSpelled (on_pubrec id state)
pubrec_fits id state one fits = by (list_any (awaits_pubrec id) state.sent)
  where
    again : (b : Bool) → AllSpelled (record { state = state; writes = if b then packets.Pubrel id ∷ [] else []; refusal = None })
    again true = record { writes = ((answers_fit id one).2, tt); left = fits }
    again false = record { writes = tt; left = fits }

    by : (b : Bool) → AllSpelled (if b then record {
      state = record state { released = state.released ++ id ∷ []; sent = filter (λ kept. not (awaits_pubrec id kept)) state.sent };
      writes = packets.Pubrel id ∷ [];
      refusal = None;
    } else record { state = state; writes = if has_id id state.released then packets.Pubrel id ∷ [] else []; refusal = None })
    by true =
        record {
          writes = ((answers_fit id one).2, tt);
          left = record {
            keep_alive = fits.keep_alive;
            client = fits.client;
            released = each_append IsId state.released (id ∷ []) fits.released (one, tt);
            sent = each_filter _ _ state.sent fits.sent;
            queued = fits.queued;
          };
        }
    by false = again (has_id id state.released)

later_fits : (packet : Packet) (state : ClientState) → Fits packet → CanGoOut state → AllSpelled (on_later packet state)
later_fits (packets.Publish p) state one fits = publish_fits p p.delivery state one fits
later_fits (packets.Puback id) state one fits =
    record { writes = tt; left = record { keep_alive = fits.keep_alive; client = fits.client; released = fits.released; sent = each_filter _ _ state.sent fits.sent; queued = fits.queued } }
later_fits (packets.Pubrec id) state one fits = pubrec_fits id state one fits
later_fits (packets.Pubcomp id) state one fits =
    record { writes = tt; left = record { keep_alive = fits.keep_alive; client = fits.client; released = each_filter IsId _ state.released fits.released; sent = fits.sent; queued = fits.queued } }
later_fits (packets.Pubrel id) state one fits =
    record { writes = ((answers_fit id one).3, tt); left = record { keep_alive = fits.keep_alive; client = fits.client; released = fits.released; sent = fits.sent; queued = fits.queued } }
later_fits (packets.Suback s) state one fits =
    record { writes = tt; left = record { keep_alive = fits.keep_alive; client = fits.client; released = fits.released; sent = fits.sent; queued = fits.queued } }
later_fits (packets.Unsuback id) state one fits =
    record { writes = tt; left = record { keep_alive = fits.keep_alive; client = fits.client; released = fits.released; sent = fits.sent; queued = fits.queued } }
later_fits packets.Pingresp state one fits = record { writes = tt; left = fits }
later_fits _ state one fits = record { writes = tt; left = lost_fits state fits }

first_fits : (packet : Packet) (state : ClientState) → CanGoOut state → AllSpelled (on_first packet state)
first_fits (packets.Connack (connacks.Accepted present)) state fits = confirmed_fits present state fits
first_fits (packets.Connack (connacks.Refused code)) state fits = record { writes = tt; left = lost_fits state fits }
first_fits _ state fits = record { writes = tt; left = lost_fits state fits }

pub received_fits : (packet : Packet) (stage : Stage) (state : ClientState) → Fits packet → CanGoOut state → AllSpelled (client_receives packet stage state)
received_fits packet stages.Closed state one fits = record { writes = tt; left = fits }
received_fits packet stages.Opened state one fits = first_fits packet state fits
received_fits packet stages.Online state one fits = later_fits packet state one fits
