-- FollowsReleases.antt: PUBREC, PUBCOMP and CONNACK 0 make the same for a client and of the one
-- with its history.
use Rattle.std.proofs.Common.{◌≡◌, ℕ, Bool, true, false, not, ◌&&◌, ◌||◌, ◌==◌, if◌then◌else◌, List, [], ◌∷◌, ◌++◌, map, filter, None, refl, ap, ap₂, sym, ◌∙◌}
use Rattle.std.proofs.lemmas.Bool.{both_ways}
use Rattle.std.specs.List.{list_any}
use Rattle.lists.specs.Lists.{has_id}
use Rattle.lists.proofs.Identifiers.{has_append}
use Rattle.packet.specs.declared.packet.Packet.TheVariants as packets
use Rattle.session_base.specs.Publication.{is_qos1}
use Rattle.client_base.specs.State.{ClientState}
use Rattle.client_base.specs.Answered.{awaits_pubrec, on_pubrec, on_pubcomp}
use Rattle.session_base.specs.Identifiers.{without_id}
use Rattle.client_base.specs.Keeper.{Own, Keeper, Side}
use Rattle.client_base.specs.Written.{plain, writing}
use Rattle.client_base.specs.Handshakes.{own_at_pubrec, own_at_pubcomp, is_sent_with, pubrec_answered}
use Rattle.client_base.specs.History.{KeeperStandsFor, released_of, IsSentFirst}
use Rattle.client_base.proofs.Readings.{pubrec_sent, pubrec_queued, pubrec_waits, pubcomp_sent, pubcomp_queued, pubcomp_released}
use Rattle.client_base.proofs.Released.{has_without, pubrec_released}
use Rattle.client_base.proofs.FollowsPackets.{Same, silent, one_written}

-- ---- PUBREC

first_pubrec : (i : ℕ) (own : List Own) → IsSentFirst own → IsSentFirst (map (own_at_pubrec i) own)
first_pubrec i [] first = tt
first_pubrec i (Own.Queued k p id ∷ own) first =
    (pubrec_sent i own ∙ ap (λ l. filter (λ one. not (awaits_pubrec i one)) l) first.0, first_pubrec i own first.1)
first_pubrec i (Own.Sent k p id ∷ own) first = by ((i == id) && not (is_qos1 p.qos)) (first_pubrec i own first)
  where
    by : (b : Bool) → IsSentFirst (map (own_at_pubrec i) own) → IsSentFirst ((if b then Own.Released k p id else Own.Sent k p id) ∷ map (own_at_pubrec i) own)
    by true ih = ih
    by false ih = ih
first_pubrec i (Own.Released k p id ∷ own) first = first_pubrec i own first
first_pubrec i (Own.Done k p ∷ own) first = first_pubrec i own first

-- the released one comes last
released_last : (i : ℕ) (keeper : Keeper) (state : ClientState) → KeeperStandsFor keeper state → is_sent_with i keeper.own ≡ true
    → KeeperStandsFor (record keeper { own = map (own_at_pubrec i) keeper.own; releases = keeper.releases ++ i ∷ [] })
    (record state { released = state.released ++ i ∷ []; sent = filter (λ one. not (awaits_pubrec i one)) state.sent })
released_last i keeper state s waits =
    record {
      client = s.client;
      released = ap (λ l. l ++ i ∷ []) s.released;
      sent = ap (λ l. filter (λ one. not (awaits_pubrec i one)) l) s.sent ∙ sym (pubrec_sent i keeper.own);
      queued = s.queued ∙ sym (pubrec_queued i keeper.own);
      received = s.received;
      requests = s.requests;
      is_open = s.is_open;
      is_online = s.is_online;
      was_served = s.was_served;
      releases_are = λ j.
          has_append j keeper.releases (i ∷ []) ∙ ap₂ (λ x y. x || y) (s.releases_are j) (alone (j == i) ∙ ap (λ b. (j == i) && b) (sym waits))
          ∙ sym (pubrec_released j i keeper.own);
      sent_first = first_pubrec i keeper.own s.sent_first;
      online_sent = λ e. pubrec_queued i keeper.own ∙ s.online_sent e;
    }
  where
    alone : (b : Bool) → (b || false) ≡ (b && true)
    alone true = refl
    alone false = refl

pub pubrec_follows : (i : ℕ) (side : Side ℕ) (state : ClientState) → KeeperStandsFor side.keeper state → Same side (pubrec_answered i side) (on_pubrec i state)
pubrec_follows i side state s =
    by (list_any (awaits_pubrec i) state.sent) (is_sent_with i side.keeper.own)
    (ap (λ l. list_any (awaits_pubrec i) l) s.sent ∙ pubrec_waits i side.keeper.own) refl
    (has_id i state.released) (has_id i side.keeper.releases) (ap (has_id i) s.released)
  where
    left : ClientState
    left = record state { released = state.released ++ i ∷ []; sent = filter (λ one. not (awaits_pubrec i one)) state.sent }

    right : Side ℕ
    right = record side { keeper = record side.keeper { own = map (own_at_pubrec i) side.keeper.own; releases = side.keeper.releases ++ i ∷ [] } }

    again : (d e : Bool) → d ≡ e
        → Same side (if e then writing (plain (packets.Pubrel i) ∷ []) side else side) (record { state = state; writes = if d then packets.Pubrel i ∷ [] else []; refusal = None })
    again true true h = record { stands = s; writes = one_written side.connection (packets.Pubrel i) }
    again false false h = record { stands = s; writes = silent side.connection }
    again true false h = absurd (both_ways false refl (sym h))
    again false true h = absurd (both_ways false refl h)

    by : (b c : Bool) → b ≡ c → is_sent_with i side.keeper.own ≡ c → (d e : Bool) → d ≡ e
        → Same side (if c then writing (plain (packets.Pubrel i) ∷ []) right else if e then writing (plain (packets.Pubrel i) ∷ []) side else side)
        (if b then record { state = left; writes = packets.Pubrel i ∷ []; refusal = None }
        else record { state = state; writes = if d then packets.Pubrel i ∷ [] else []; refusal = None })
    by true true h waits d e g = record { stands = released_last i side.keeper state s waits; writes = one_written side.connection (packets.Pubrel i) }
    by false false h waits d e g = again d e g
    by true false h waits d e g = absurd (both_ways false refl (sym h))
    by false true h waits d e g = absurd (both_ways false refl h)

-- ---- PUBCOMP

first_pubcomp : (i : ℕ) (own : List Own) → IsSentFirst own → IsSentFirst (map (own_at_pubcomp i) own)
first_pubcomp i [] first = tt
first_pubcomp i (Own.Queued k p id ∷ own) first = (pubcomp_sent i own ∙ first.0, first_pubcomp i own first.1)
first_pubcomp i (Own.Sent k p id ∷ own) first = first_pubcomp i own first
first_pubcomp i (Own.Released k p id ∷ own) first = by (i == id) (first_pubcomp i own first)
  where
    by : (b : Bool) → IsSentFirst (map (own_at_pubcomp i) own) → IsSentFirst ((if b then Own.Done k p else Own.Released k p id) ∷ map (own_at_pubcomp i) own)
    by true ih = ih
    by false ih = ih
first_pubcomp i (Own.Done k p ∷ own) first = first_pubcomp i own first

pub pubcomp_follows : (i : ℕ) (side : Side ℕ) (state : ClientState) → KeeperStandsFor side.keeper state
    → Same side (record side { keeper = record side.keeper { own = map (own_at_pubcomp i) side.keeper.own; releases = without_id i side.keeper.releases } }) (on_pubcomp i state)
pubcomp_follows i side state s =
    record {
      stands = record {
        client = s.client;
        released = ap (without_id i) s.released;
        sent = s.sent ∙ sym (pubcomp_sent i side.keeper.own);
        queued = s.queued ∙ sym (pubcomp_queued i side.keeper.own);
        received = s.received;
        requests = s.requests;
        is_open = s.is_open;
        is_online = s.is_online;
        was_served = s.was_served;
        releases_are = λ j.
            has_without j i side.keeper.releases ∙ ap (λ b. not (i == j) && b) (s.releases_are j) ∙ sym (has_without j i (released_of side.keeper.own))
            ∙ ap (has_id j) (sym (pubcomp_released i side.keeper.own));
        sent_first = first_pubcomp i side.keeper.own s.sent_first;
        online_sent = λ e. pubcomp_queued i side.keeper.own ∙ s.online_sent e;
      };
      writes = silent side.connection;
    }
