-- FollowsCalls.antt: publishing makes the same for a client and of the one with its history.
use Rattle.std.proofs.Common.{◌≡◌, ℕ, Bool, true, false, if◌then◌else◌, List, [], ◌∷◌, ◌++◌, None, refl, ap, ap₂, sym, ◌∙◌, append-nil}
use Rattle.std.proofs.lemmas.Bool.{both_ways}
use Rattle.lists.specs.Lists.{has_id}
use Rattle.packet.specs.declared.packet.Packet.TheVariants as packets
use Rattle.session_base.specs.declared.publication.Publication.{Publication}
use Rattle.session_base.specs.Publication.{publish_for}
use Rattle.client_base.specs.declared.unacknowledged_publication.UnacknowledgedPublication.{UnacknowledgedPublication}
use Rattle.client_base.specs.State.{ClientState}
use Rattle.client_base.specs.Answered.{ClientOutcome}
use Rattle.client_base.specs.Keeper.{Own, Keeper, Side, next_own_number}
use Rattle.client_base.specs.Written.{written_publish}
use Rattle.client_base.specs.History.{KeeperStandsFor, sent_of, queued_of, released_of, IsSentFirst}
use Rattle.client_base.proofs.SentAll.{sent_more, queued_more, released_more}
use Rattle.client_base.proofs.FollowsPackets.{Same}

-- ---- one more publication, and what was sent still comes first

abbrev is_none : {X : Type 0} → List X → Bool
is_none [] = true
is_none (x ∷ xs) = false

-- one that was not sent, or is done
first_after : (own : List Own) (o : Own) → sent_of (o ∷ []) ≡ [] → IsSentFirst (o ∷ []) → IsSentFirst own → IsSentFirst (own ++ o ∷ [])
first_after [] o none alone first = alone
first_after (Own.Queued k p id ∷ own) o none alone first =
    (sent_more own (o ∷ []) ∙ ap₂ (λ x y. x ++ y) first.0 none, first_after own o none alone first.1)
first_after (Own.Sent k p id ∷ own) o none alone first = first_after own o none alone first
first_after (Own.Released k p id ∷ own) o none alone first = first_after own o none alone first
first_after (Own.Done k p ∷ own) o none alone first = first_after own o none alone first

-- one that was sent, if all were
first_sent : (own : List Own) (k : ℕ) (p : Publication) (id : ℕ) → queued_of own ≡ [] → IsSentFirst (own ++ Own.Sent k p id ∷ [])
first_sent [] k p id none = tt
first_sent (Own.Queued n q i ∷ own) k p id none = absurd (both_ways false refl (ap is_none none))
first_sent (Own.Sent n q i ∷ own) k p id none = first_sent own k p id none
first_sent (Own.Released n q i ∷ own) k p id none = first_sent own k p id none
first_sent (Own.Done n q ∷ own) k p id none = first_sent own k p id none

-- ---- publishing, with one identifier on both sides

abbrev pub own_of : Publication → ℕ → ℕ → Bool → Bool → Own
own_of p id n answered online = if answered then (if online then Own.Sent n p id else Own.Queued n p id) else Own.Done n p

abbrev pub kept_of : Publication → ℕ → UnacknowledgedPublication
kept_of p id = record { id = id; publication = p }

abbrev pub side_of : Publication → ℕ → Side ℕ → Bool → Bool → Side ℕ
side_of p id side answered online =
    record {
      keeper = record side.keeper { own = side.keeper.own ++ own_of p id (next_own_number side.keeper) answered online ∷ [] };
      connection = record side.connection { written = side.connection.written ++ (if online then written_publish false (next_own_number side.keeper) id p ∷ [] else []) };
    }

abbrev pub publish_outcome : Publication → ℕ → ClientState → Bool → Bool → ClientOutcome
publish_outcome p id state answered online =
    if online
    then record {
      state = if answered then record state { sent = state.sent ++ kept_of p id ∷ [] } else state;
      writes = packets.Publish (publish_for false id p) ∷ [];
      refusal = None;
    }
    else record { state = record state { queued = state.queued ++ kept_of p id ∷ [] }; writes = []; refusal = None }

-- with one more of its own
own_stands : (keeper : Keeper) (state : ClientState) (o : Own) (sent queued : List UnacknowledgedPublication) → KeeperStandsFor keeper state
    → sent ≡ sent_of (o ∷ []) → queued ≡ queued_of (o ∷ []) → released_of (o ∷ []) ≡ [] → IsSentFirst (keeper.own ++ o ∷ [])
    → (keeper.is_online ≡ true → queued ≡ [])
    → KeeperStandsFor (record keeper { own = keeper.own ++ o ∷ [] }) (record state { sent = state.sent ++ sent; queued = state.queued ++ queued })
own_stands keeper state o sent queued s is_sent is_queued released first online =
    record {
      client = s.client;
      released = s.released;
      sent = ap₂ (λ x y. x ++ y) s.sent is_sent ∙ sym (sent_more keeper.own (o ∷ []));
      queued = ap₂ (λ x y. x ++ y) s.queued is_queued ∙ sym (queued_more keeper.own (o ∷ []));
      received = s.received;
      requests = s.requests;
      is_open = s.is_open;
      is_online = s.is_online;
      was_served = s.was_served;
      releases_are = λ j.
          s.releases_are j ∙ ap (has_id j) (sym (append-nil (released_of keeper.own)) ∙ ap (λ l. released_of keeper.own ++ l) (sym released) ∙ sym (released_more keeper.own (o ∷ [])));
      sent_first = first;
      online_sent = λ e. queued_more keeper.own (o ∷ []) ∙ ap₂ (λ x y. x ++ y) (s.online_sent e) (sym is_queued ∙ online e);
    }

-- nothing more is nothing
none_more : (state : ClientState) (sent queued : List UnacknowledgedPublication) (keeper : Keeper) → state.sent ≡ sent → state.queued ≡ queued
    → KeeperStandsFor keeper (record state { sent = sent; queued = queued }) → KeeperStandsFor keeper state
none_more state sent queued keeper e f s =
    record {
      client = s.client;
      released = s.released;
      sent = e ∙ s.sent;
      queued = f ∙ s.queued;
      received = s.received;
      requests = s.requests;
      is_open = s.is_open;
      is_online = s.is_online;
      was_served = s.was_served;
      releases_are = s.releases_are;
      sent_first = s.sent_first;
      online_sent = s.online_sent;
    }

sent_stands : (p : Publication) (id n : ℕ) (keeper : Keeper) (state : ClientState) → KeeperStandsFor keeper state → keeper.is_online ≡ true
    → KeeperStandsFor (record keeper { own = keeper.own ++ Own.Sent n p id ∷ [] }) (record state { sent = state.sent ++ kept_of p id ∷ [] })
sent_stands p id n keeper state s online =
    none_more (record state { sent = state.sent ++ kept_of p id ∷ [] }) (state.sent ++ kept_of p id ∷ []) (state.queued ++ []) _ refl (sym (append-nil state.queued))
    (own_stands keeper state (Own.Sent n p id) (kept_of p id ∷ []) [] s refl refl refl (first_sent keeper.own n p id (s.online_sent online)) (λ e. refl))

queued_stands : (p : Publication) (id n : ℕ) (keeper : Keeper) (state : ClientState) → KeeperStandsFor keeper state → keeper.is_online ≡ false
    → KeeperStandsFor (record keeper { own = keeper.own ++ Own.Queued n p id ∷ [] }) (record state { queued = state.queued ++ kept_of p id ∷ [] })
queued_stands p id n keeper state s offline =
    none_more (record state { queued = state.queued ++ kept_of p id ∷ [] }) (state.sent ++ []) (state.queued ++ kept_of p id ∷ []) _ (sym (append-nil state.sent)) refl
    (own_stands keeper state (Own.Queued n p id) [] (kept_of p id ∷ []) s refl refl refl (first_after keeper.own (Own.Queued n p id) refl (refl, tt) s.sent_first)
    (λ e. absurd (both_ways keeper.is_online offline e)))

done_stands : (p : Publication) (n : ℕ) (keeper : Keeper) (state : ClientState) → KeeperStandsFor keeper state
    → KeeperStandsFor (record keeper { own = keeper.own ++ Own.Done n p ∷ [] }) state
done_stands p n keeper state s =
    none_more state (state.sent ++ []) (state.queued ++ []) _ (sym (append-nil state.sent)) (sym (append-nil state.queued))
    (own_stands keeper state (Own.Done n p) [] [] s refl refl refl (first_after keeper.own (Own.Done n p) refl tt s.sent_first) (λ e. refl))

pub publish_follows : (p : Publication) (id : ℕ) (side : Side ℕ) (state : ClientState) (answered online up : Bool) → KeeperStandsFor side.keeper state → online ≡ up
    → side.keeper.is_online ≡ up → (answered ≡ false → online ≡ true) → Same side (side_of p id side answered up) (publish_outcome p id state answered online)
publish_follows p id side state true true true s e f g =
    record { stands = sent_stands p id (next_own_number side.keeper) side.keeper state s f; writes = (written_publish false (next_own_number side.keeper) id p ∷ [], refl, refl) }
publish_follows p id side state true false false s e f g =
    record { stands = queued_stands p id (next_own_number side.keeper) side.keeper state s f; writes = ([], refl, refl) }
publish_follows p id side state false true true s e f g =
    record { stands = done_stands p (next_own_number side.keeper) side.keeper state s; writes = (written_publish false (next_own_number side.keeper) id p ∷ [], refl, refl) }
publish_follows p id side state false false up s e f g = absurd (both_ways false refl (g refl))
publish_follows p id side state answered true false s e f g = absurd (both_ways false refl (sym e))
publish_follows p id side state answered false true s e f g = absurd (both_ways false refl e)
