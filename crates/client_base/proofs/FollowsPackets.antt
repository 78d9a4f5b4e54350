-- FollowsPackets.antt: what a packet of an accepted connection does to a client is what it does to
-- the one with its history.
use Rattle.std.proofs.Common.{◌≡◌, ℕ, Bool, true, false, not, ◌&&◌, ◌||◌, ◌==◌, if◌then◌else◌, List, [], ◌∷◌, ◌++◌, map, filter, None, refl, ap, sym, ◌∙◌, append-nil}
use Rattle.std.proofs.lemmas.Bool.{both_ways}
use Rattle.lists.specs.Lists.{has_id}
use Rattle.lists.proofs.Identifiers.{has_append}
use Rattle.packet.specs.declared.packet.Packet.{Packet}
use Rattle.packet.specs.declared.packet.Packet.TheVariants as packets
use Rattle.packet.specs.declared.delivery.Delivery.{Delivery}
use Rattle.packet.specs.declared.delivery.Delivery.TheVariants as deliveries
use Rattle.packet.specs.declared.publish.Publish.{Publish}
use Rattle.session_base.specs.Publication.{publication_of, is_qos1}
use Rattle.client_base.specs.declared.accepted.Accepted.{Accepted}
use Rattle.client_base.specs.State.{ClientState}
use Rattle.client_base.specs.Answered.{ClientOutcome, awaits_puback, on_publish, on_puback, on_pubrel}
use Rattle.session_base.specs.Identifiers.{without_id}
use Rattle.client_base.specs.Keeper.{Own, ClientConnection, Keeper, Side}
use Rattle.client_base.specs.Written.{plain, writing}
use Rattle.client_base.specs.Handshakes.{own_at_puback, takes_in}
use Rattle.client_base.specs.History.{KeeperStandsFor, WritesMore, IsSentFirst}
use Rattle.client_base.proofs.Readings.{puback_sent, puback_queued, puback_released}
use Rattle.client_base.proofs.Released.{has_without}

-- what follows: the state corresponds to the client, and the same is written
pub record Same (before after : Side ℕ) (outcome : ClientOutcome) : Type 0 where
  pub stands : KeeperStandsFor after.keeper outcome.state
  pub writes : WritesMore before.connection after.connection outcome.writes

-- nothing is written
pub silent : (connection : ClientConnection ℕ) → WritesMore connection connection []
silent connection = ([], sym (append-nil connection.written), refl)

-- one packet is
pub one_written : (connection : ClientConnection ℕ) (packet : Packet) → WritesMore connection (record connection { written = connection.written ++ plain packet ∷ [] }) (packet ∷ [])
one_written connection packet = (plain packet ∷ [], refl, refl)

-- ---- received identifiers

-- with other received identifiers, and others accepted
pub received_stands : (keeper : Keeper) (state : ClientState) (xs ys : List ℕ) (accepted : List Accepted) → KeeperStandsFor keeper state → ((j : ℕ) → has_id j xs ≡ has_id j ys)
    → KeeperStandsFor (record keeper { received = ys }) (record state { received = xs; accepted = accepted })
received_stands keeper state xs ys accepted s same =
    record {
      client = s.client;
      released = s.released;
      sent = s.sent;
      queued = s.queued;
      received = same;
      requests = s.requests;
      is_open = s.is_open;
      is_online = s.is_online;
      was_served = s.was_served;
      releases_are = s.releases_are;
      sent_first = s.sent_first;
      online_sent = s.online_sent;
    }

either_end : (j id : ℕ) (xs ys : List ℕ) → has_id j xs ≡ has_id j ys → has_id j (xs ++ id ∷ []) ≡ has_id j (id ∷ ys)
either_end j id xs ys same = has_append j xs (id ∷ []) ∙ ap (λ b. b || has_id j (id ∷ [])) same ∙ swap (has_id j ys) (j == id)
  where
    swap : (a b : Bool) → (a || (b || false)) ≡ (b || a)
    swap true true = refl
    swap true false = refl
    swap false true = refl
    swap false false = refl

publish_two : (p : Publish) (dup : Bool) (id : ℕ) (side : Side ℕ) (state : ClientState) → KeeperStandsFor side.keeper state
    → Same side (takes_in (deliveries.ExactlyOnce dup id) (publication_of p) side) (on_publish p (deliveries.ExactlyOnce dup id) state)
publish_two p dup id side state s = by (has_id id state.received) (has_id id side.keeper.received) (s.received id)
  where
    taken : Side ℕ
    taken =
        record {
          keeper = record side.keeper { received = id ∷ side.keeper.received };
          connection = record side.connection { accepted = side.connection.accepted ++ publication_of p ∷ [] };
        }

    accepting : ClientState
    accepting =
        record state {
          received = state.received ++ id ∷ [];
          accepted = state.accepted ++ record { session = state.session; qos = (publication_of p).qos; retain = p.retain; topic = p.topic; payload = p.payload } ∷ [];
        }

    by : (b c : Bool) → b ≡ c → Same side (writing (plain (packets.Pubrec id) ∷ []) (if c then side else taken))
        (record { state = if b then state else accepting; writes = packets.Pubrec id ∷ []; refusal = None })
    by true true e = record { stands = s; writes = one_written side.connection (packets.Pubrec id) }
    by false false e =
        record {
          stands = received_stands side.keeper state (state.received ++ id ∷ []) (id ∷ side.keeper.received) accepting.accepted s
              (λ j. either_end j id state.received side.keeper.received (s.received j));
          writes = one_written side.connection (packets.Pubrec id);
        }
    by true false e = absurd (both_ways false refl (sym e))
    by false true e = absurd (both_ways false refl e)

pub publish_follows : (p : Publish) (delivery : Delivery) (side : Side ℕ) (state : ClientState) → KeeperStandsFor side.keeper state
    → Same side (takes_in delivery (publication_of p) side) (on_publish p delivery state)
publish_follows p deliveries.AtMostOnce side state s =
    record { stands = received_stands side.keeper state state.received side.keeper.received _ s s.received; writes = silent side.connection }
publish_follows p (deliveries.AtLeastOnce dup id) side state s =
    record { stands = received_stands side.keeper state state.received side.keeper.received _ s s.received; writes = one_written side.connection (packets.Puback id) }
publish_follows p (deliveries.ExactlyOnce dup id) side state s = publish_two p dup id side state s

pub pubrel_follows : (id : ℕ) (side : Side ℕ) (state : ClientState) → KeeperStandsFor side.keeper state
    → Same side (writing (plain (packets.Pubcomp id) ∷ []) (record side { keeper = record side.keeper { received = without_id id side.keeper.received } })) (on_pubrel id state)
pubrel_follows id side state s =
    record {
      stands = received_stands side.keeper state (without_id id state.received) (without_id id side.keeper.received) state.accepted s
          (λ j. has_without j id state.received ∙ ap (λ b. not (id == j) && b) (s.received j) ∙ sym (has_without j id side.keeper.received));
      writes = one_written side.connection (packets.Pubcomp id);
    }

-- ---- its own publications

first_puback : (i : ℕ) (own : List Own) → IsSentFirst own → IsSentFirst (map (own_at_puback i) own)
first_puback i [] first = tt
first_puback i (Own.Queued k p id ∷ own) first =
    (puback_sent i own ∙ ap (λ l. filter (λ one. not (awaits_puback i one)) l) first.0, first_puback i own first.1)
first_puback i (Own.Sent k p id ∷ own) first = by ((i == id) && is_qos1 p.qos) (first_puback i own first)
  where
    by : (b : Bool) → IsSentFirst (map (own_at_puback i) own) → IsSentFirst ((if b then Own.Done k p else Own.Sent k p id) ∷ map (own_at_puback i) own)
    by true ih = ih
    by false ih = ih
first_puback i (Own.Released k p id ∷ own) first = first_puback i own first
first_puback i (Own.Done k p ∷ own) first = first_puback i own first

pub puback_follows : (i : ℕ) (side : Side ℕ) (state : ClientState) → KeeperStandsFor side.keeper state
    → Same side (record side { keeper = record side.keeper { own = map (own_at_puback i) side.keeper.own } }) (on_puback i state)
puback_follows i side state s =
    record {
      stands = record {
        client = s.client;
        released = s.released;
        sent = ap (λ l. filter (λ one. not (awaits_puback i one)) l) s.sent ∙ sym (puback_sent i side.keeper.own);
        queued = s.queued ∙ sym (puback_queued i side.keeper.own);
        received = s.received;
        requests = s.requests;
        is_open = s.is_open;
        is_online = s.is_online;
        was_served = s.was_served;
        releases_are = λ j. s.releases_are j ∙ ap (has_id j) (sym (puback_released i side.keeper.own));
        sent_first = first_puback i side.keeper.own s.sent_first;
        online_sent = λ e. puback_queued i side.keeper.own ∙ s.online_sent e;
      };
      writes = silent side.connection;
    }
