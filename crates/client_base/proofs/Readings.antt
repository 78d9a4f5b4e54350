-- Readings.antt: what an answer of the server does to all that was published, it does to what is
-- kept of it.
use Rattle.std.proofs.Common.{◌≡◌, ℕ, Bool, true, false, not, ◌&&◌, ◌||◌, ◌==◌, if◌then◌else◌, List, [], ◌∷◌, map, filter, refl, ap}
use Rattle.std.specs.List.{list_any}
use Rattle.session_base.specs.Publication.{is_qos1}
use Rattle.client_base.specs.declared.unacknowledged_publication.UnacknowledgedPublication.{UnacknowledgedPublication}
use Rattle.client_base.specs.Answered.{awaits_puback, awaits_pubrec}
use Rattle.session_base.specs.Identifiers.{without_id}
use Rattle.client_base.specs.Keeper.{Own}
use Rattle.client_base.specs.Handshakes.{own_at_puback, own_at_pubrec, own_at_pubcomp, is_sent_with}
use Rattle.client_base.specs.History.{sent_of, queued_of, released_of}

-- ---- PUBACK

pub puback_sent : (i : ℕ) (own : List Own) → sent_of (map (own_at_puback i) own) ≡ filter (λ one. not (awaits_puback i one)) (sent_of own)
puback_sent i [] = refl
puback_sent i (Own.Queued k p id ∷ own) = puback_sent i own
puback_sent i (Own.Sent k p id ∷ own) = by ((i == id) && is_qos1 p.qos) (puback_sent i own)
  where
    left : List UnacknowledgedPublication
    left = filter (λ one. not (awaits_puback i one)) (sent_of own)

    by : (b : Bool) → sent_of (map (own_at_puback i) own) ≡ left
        → sent_of ((if b then Own.Done k p else Own.Sent k p id) ∷ map (own_at_puback i) own) ≡ (if not b then record { id = id; publication = p } ∷ left else left)
    by true ih = ih
    by false ih = ap (λ (l : List UnacknowledgedPublication). record { id = id; publication = p } ∷ l) ih
puback_sent i (Own.Released k p id ∷ own) = puback_sent i own
puback_sent i (Own.Done k p ∷ own) = puback_sent i own

pub puback_queued : (i : ℕ) (own : List Own) → queued_of (map (own_at_puback i) own) ≡ queued_of own
puback_queued i [] = refl
puback_queued i (Own.Queued k p id ∷ own) = ap (λ (l : List UnacknowledgedPublication). record { id = id; publication = p } ∷ l) (puback_queued i own)
puback_queued i (Own.Sent k p id ∷ own) = by ((i == id) && is_qos1 p.qos) (puback_queued i own)
  where
    by : (b : Bool) → queued_of (map (own_at_puback i) own) ≡ queued_of own → queued_of ((if b then Own.Done k p else Own.Sent k p id) ∷ map (own_at_puback i) own) ≡ queued_of own
    by true ih = ih
    by false ih = ih
puback_queued i (Own.Released k p id ∷ own) = puback_queued i own
puback_queued i (Own.Done k p ∷ own) = puback_queued i own

pub puback_released : (i : ℕ) (own : List Own) → released_of (map (own_at_puback i) own) ≡ released_of own
puback_released i [] = refl
puback_released i (Own.Queued k p id ∷ own) = puback_released i own
puback_released i (Own.Sent k p id ∷ own) = by ((i == id) && is_qos1 p.qos) (puback_released i own)
  where
    by : (b : Bool) → released_of (map (own_at_puback i) own) ≡ released_of own → released_of ((if b then Own.Done k p else Own.Sent k p id) ∷ map (own_at_puback i) own) ≡ released_of own
    by true ih = ih
    by false ih = ih
puback_released i (Own.Released k p id ∷ own) = ap (λ l. id ∷ l) (puback_released i own)
puback_released i (Own.Done k p ∷ own) = puback_released i own

-- ---- PUBREC

pub pubrec_sent : (i : ℕ) (own : List Own) → sent_of (map (own_at_pubrec i) own) ≡ filter (λ one. not (awaits_pubrec i one)) (sent_of own)
pubrec_sent i [] = refl
pubrec_sent i (Own.Queued k p id ∷ own) = pubrec_sent i own
pubrec_sent i (Own.Sent k p id ∷ own) = by ((i == id) && not (is_qos1 p.qos)) (pubrec_sent i own)
  where
    left : List UnacknowledgedPublication
    left = filter (λ one. not (awaits_pubrec i one)) (sent_of own)

    by : (b : Bool) → sent_of (map (own_at_pubrec i) own) ≡ left
        → sent_of ((if b then Own.Released k p id else Own.Sent k p id) ∷ map (own_at_pubrec i) own) ≡ (if not b then record { id = id; publication = p } ∷ left else left)
    by true ih = ih
    by false ih = ap (λ (l : List UnacknowledgedPublication). record { id = id; publication = p } ∷ l) ih
pubrec_sent i (Own.Released k p id ∷ own) = pubrec_sent i own
pubrec_sent i (Own.Done k p ∷ own) = pubrec_sent i own

pub pubrec_queued : (i : ℕ) (own : List Own) → queued_of (map (own_at_pubrec i) own) ≡ queued_of own
pubrec_queued i [] = refl
pubrec_queued i (Own.Queued k p id ∷ own) = ap (λ (l : List UnacknowledgedPublication). record { id = id; publication = p } ∷ l) (pubrec_queued i own)
pubrec_queued i (Own.Sent k p id ∷ own) = by ((i == id) && not (is_qos1 p.qos)) (pubrec_queued i own)
  where
    by : (b : Bool) → queued_of (map (own_at_pubrec i) own) ≡ queued_of own → queued_of ((if b then Own.Released k p id else Own.Sent k p id) ∷ map (own_at_pubrec i) own) ≡ queued_of own
    by true ih = ih
    by false ih = ih
pubrec_queued i (Own.Released k p id ∷ own) = pubrec_queued i own
pubrec_queued i (Own.Done k p ∷ own) = pubrec_queued i own

pub pubrec_waits : (i : ℕ) (own : List Own) → list_any (awaits_pubrec i) (sent_of own) ≡ is_sent_with i own
pubrec_waits i [] = refl
pubrec_waits i (Own.Queued k p id ∷ own) = pubrec_waits i own
pubrec_waits i (Own.Sent k p id ∷ own) = ap (λ b. ((i == id) && not (is_qos1 p.qos)) || b) (pubrec_waits i own)
pubrec_waits i (Own.Released k p id ∷ own) = pubrec_waits i own
pubrec_waits i (Own.Done k p ∷ own) = pubrec_waits i own

-- ---- PUBCOMP

pub pubcomp_sent : (i : ℕ) (own : List Own) → sent_of (map (own_at_pubcomp i) own) ≡ sent_of own
pubcomp_sent i [] = refl
pubcomp_sent i (Own.Queued k p id ∷ own) = pubcomp_sent i own
pubcomp_sent i (Own.Sent k p id ∷ own) = ap (λ (l : List UnacknowledgedPublication). record { id = id; publication = p } ∷ l) (pubcomp_sent i own)
pubcomp_sent i (Own.Released k p id ∷ own) = by (i == id) (pubcomp_sent i own)
  where
    by : (b : Bool) → sent_of (map (own_at_pubcomp i) own) ≡ sent_of own → sent_of ((if b then Own.Done k p else Own.Released k p id) ∷ map (own_at_pubcomp i) own) ≡ sent_of own
    by true ih = ih
    by false ih = ih
pubcomp_sent i (Own.Done k p ∷ own) = pubcomp_sent i own

pub pubcomp_queued : (i : ℕ) (own : List Own) → queued_of (map (own_at_pubcomp i) own) ≡ queued_of own
pubcomp_queued i [] = refl
pubcomp_queued i (Own.Queued k p id ∷ own) = ap (λ (l : List UnacknowledgedPublication). record { id = id; publication = p } ∷ l) (pubcomp_queued i own)
pubcomp_queued i (Own.Sent k p id ∷ own) = pubcomp_queued i own
pubcomp_queued i (Own.Released k p id ∷ own) = by (i == id) (pubcomp_queued i own)
  where
    by : (b : Bool) → queued_of (map (own_at_pubcomp i) own) ≡ queued_of own → queued_of ((if b then Own.Done k p else Own.Released k p id) ∷ map (own_at_pubcomp i) own) ≡ queued_of own
    by true ih = ih
    by false ih = ih
pubcomp_queued i (Own.Done k p ∷ own) = pubcomp_queued i own

pub pubcomp_released : (i : ℕ) (own : List Own) → released_of (map (own_at_pubcomp i) own) ≡ without_id i (released_of own)
pubcomp_released i [] = refl
pubcomp_released i (Own.Queued k p id ∷ own) = pubcomp_released i own
pubcomp_released i (Own.Sent k p id ∷ own) = pubcomp_released i own
pubcomp_released i (Own.Released k p id ∷ own) = by (i == id) (pubcomp_released i own)
  where
    by : (b : Bool) → released_of (map (own_at_pubcomp i) own) ≡ without_id i (released_of own)
        → released_of ((if b then Own.Done k p else Own.Released k p id) ∷ map (own_at_pubcomp i) own) ≡ (if not b then id ∷ without_id i (released_of own) else without_id i (released_of own))
    by true ih = ih
    by false ih = ap (λ l. id ∷ l) ih
pubcomp_released i (Own.Done k p ∷ own) = pubcomp_released i own
