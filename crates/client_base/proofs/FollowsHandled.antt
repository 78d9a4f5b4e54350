-- FollowsHandled.antt: a packet of the server makes the same for a client and of the one with its
-- history.
use Rattle.std.proofs.Common.{◌≡◌, ℕ, suc, Bool, true, false, if◌then◌else◌, List, filter, refl, ap, sym, subst}
use Rattle.std.proofs.lemmas.Bool.{both_ways}
use Rattle.packet.specs.declared.connack.Connack.TheVariants as connacks
use Rattle.packet.specs.declared.packet.Packet.{Packet}
use Rattle.packet.specs.declared.packet.Packet.TheVariants as packets
use Rattle.client_base.specs.declared.request.Request.{Request}
use Rattle.client_base.specs.declared.stage.Stage.{Stage}
use Rattle.client_base.specs.declared.stage.Stage.TheVariants as stages
use Rattle.client_base.specs.State.{ClientState, is_open, is_online, lost}
use Rattle.client_base.specs.Answered.{ClientOutcome}
use Rattle.client_base.specs.Calls.{client_receives, on_later, on_first, opened}
use Rattle.client_base.specs.Keeper.{Keeper, Side}
use Rattle.client_base.specs.Handled as handling
use Rattle.client_base.specs.History.{KeeperStandsFor}
use Rattle.client_base.proofs.FollowsPackets.{Same, silent, puback_follows, pubrel_follows}
use Rattle.client_base.proofs.FollowsPackets.{publish_follows as packet_follows}
use Rattle.client_base.proofs.FollowsReleases.{pubrec_follows, pubcomp_follows}
use Rattle.client_base.proofs.FollowsConnack.{confirmed_follows}

-- ---- what is no handshake

-- the connection is lost
pub lost_stands : (keeper : Keeper) (state : ClientState) → KeeperStandsFor keeper state → KeeperStandsFor (handling.lost keeper) (lost state)
lost_stands keeper state s =
    record {
      client = s.client;
      released = s.released;
      sent = s.sent;
      queued = s.queued;
      received = s.received;
      requests = refl;
      is_open = refl;
      is_online = refl;
      was_served = s.was_served;
      releases_are = s.releases_are;
      sent_first = s.sent_first;
      online_sent = λ e. absurd (both_ways false refl e);
    }

-- other requests
pub requests_stand : (keeper : Keeper) (state : ClientState) (requests : List Request) → KeeperStandsFor keeper state
    → KeeperStandsFor (record keeper { requests = requests }) (record state { requests = requests })
requests_stand keeper state requests s =
    record {
      client = s.client;
      released = s.released;
      sent = s.sent;
      queued = s.queued;
      received = s.received;
      requests = refl;
      is_open = s.is_open;
      is_online = s.is_online;
      was_served = s.was_served;
      releases_are = s.releases_are;
      sent_first = s.sent_first;
      online_sent = s.online_sent;
    }

-- a packet of an accepted connection
later_follows : (packet : Packet) (side : Side ℕ) (state : ClientState) → KeeperStandsFor side.keeper state → Same side (handling.handled_online packet side) (on_later packet state)
later_follows (packets.Publish p) side state s = packet_follows p p.delivery side state s
later_follows (packets.Puback id) side state s = puback_follows id side state s
later_follows (packets.Pubrec id) side state s = pubrec_follows id side state s
later_follows (packets.Pubcomp id) side state s = pubcomp_follows id side state s
later_follows (packets.Pubrel id) side state s = pubrel_follows id side state s
later_follows (packets.Suback a) side state s =
    record {
      stands = subst (λ (requests : List Request). KeeperStandsFor (record side.keeper { requests = filter (handling.not_subscribes a.id) side.keeper.requests }) (record state { requests = requests }))
          (ap (filter (handling.not_subscribes a.id)) (sym s.requests)) (requests_stand side.keeper state (filter (handling.not_subscribes a.id) side.keeper.requests) s);
      writes = silent side.connection;
    }
later_follows (packets.Unsuback id) side state s =
    record {
      stands = subst (λ (requests : List Request). KeeperStandsFor (record side.keeper { requests = filter (handling.not_unsubscribes id) side.keeper.requests }) (record state { requests = requests }))
          (ap (filter (handling.not_unsubscribes id)) (sym s.requests)) (requests_stand side.keeper state (filter (handling.not_unsubscribes id) side.keeper.requests) s);
      writes = silent side.connection;
    }
later_follows packets.Pingresp side state s = record { stands = s; writes = silent side.connection }
later_follows _ side state s = record { stands = lost_stands side.keeper state s; writes = silent side.connection }

first_follows : (packet : Packet) (side : Side ℕ) (state : ClientState) → KeeperStandsFor side.keeper state → side.keeper.is_open ≡ true
    → Same side (handling.handled_first packet side) (on_first packet state)
first_follows (packets.Connack (connacks.Accepted present)) side state s up = confirmed_follows present side state s up
first_follows _ side state s up = record { stands = lost_stands side.keeper state s; writes = silent side.connection }

-- one more packet is counted as handled
abbrev counted : Side ℕ → Side ℕ
counted side = record side { connection = record side.connection { handled = suc side.connection.handled } }

uncounted : (side after : Side ℕ) (outcome : ClientOutcome) → Same (counted side) after outcome → Same side after outcome
uncounted side after outcome same = record { stands = same.stands; writes = same.writes }

pub handled_follows : (packet : Packet) (stage : Stage) (online : Bool) (side : Side ℕ) (state : ClientState) → KeeperStandsFor side.keeper state → is_open stage ≡ true
    → side.keeper.is_open ≡ true → is_online stage ≡ online
    → Same side (if online then handling.handled_online packet (counted side) else handling.handled_first packet (counted side)) (client_receives packet stage state)
handled_follows packet stages.Closed online side state s opened up e = absurd (both_ways false refl opened)
handled_follows packet stages.Opened false side state s opened up e = uncounted side _ _ (first_follows packet (counted side) state s up)
handled_follows packet stages.Opened true side state s opened up e = absurd (both_ways false refl e)
handled_follows packet stages.Online true side state s opened up e = uncounted side _ _ (later_follows packet (counted side) state s)
handled_follows packet stages.Online false side state s opened up e = absurd (both_ways true e refl)
