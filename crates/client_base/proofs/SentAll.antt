-- SentAll.antt: after a CONNACK 0 all is sent, in the order in which it was published; and one more
-- is published.
use Rattle.std.proofs.Common.{◌≡◌, true, false, List, [], ◌∷◌, ◌++◌, map, refl, ap, sym, ◌∙◌}
use Rattle.packet.specs.declared.packet.Packet.{Packet}
use Rattle.client_base.specs.declared.unacknowledged_publication.UnacknowledgedPublication.{UnacknowledgedPublication}
use Rattle.client_base.specs.State.{publish_kept}
use Rattle.client_base.specs.Keeper.{Own, Written}
use Rattle.client_base.specs.Written.{sent_all, written_again, written_first}
use Rattle.client_base.specs.History.{sent_of, queued_of, released_of, IsSentFirst}

-- ---- all are sent

pub all_queued : (own : List Own) → queued_of (sent_all own) ≡ []
all_queued [] = refl
all_queued (Own.Queued k p id ∷ own) = all_queued own
all_queued (Own.Sent k p id ∷ own) = all_queued own
all_queued (Own.Released k p id ∷ own) = all_queued own
all_queued (Own.Done k p ∷ own) = all_queued own

pub all_released : (own : List Own) → released_of (sent_all own) ≡ released_of own
all_released [] = refl
all_released (Own.Queued k p id ∷ own) = all_released own
all_released (Own.Sent k p id ∷ own) = all_released own
all_released (Own.Released k p id ∷ own) = ap (λ l. id ∷ l) (all_released own)
all_released (Own.Done k p ∷ own) = all_released own

pub all_first : (own : List Own) → IsSentFirst (sent_all own)
all_first [] = tt
all_first (Own.Queued k p id ∷ own) = all_first own
all_first (Own.Sent k p id ∷ own) = all_first own
all_first (Own.Released k p id ∷ own) = all_first own
all_first (Own.Done k p ∷ own) = all_first own

-- those that were sent come first
pub all_sent : (own : List Own) → IsSentFirst own → sent_of (sent_all own) ≡ sent_of own ++ queued_of own
all_sent [] first = refl
all_sent (Own.Queued k p id ∷ own) first =
    ap (λ (l : List UnacknowledgedPublication). record { id = id; publication = p } ∷ l) (all_sent own first.1 ∙ ap (λ l. l ++ queued_of own) first.0)
    ∙ sym (ap (λ (l : List UnacknowledgedPublication). l ++ queued_of (Own.Queued k p id ∷ own)) first.0)
all_sent (Own.Sent k p id ∷ own) first = ap (λ (l : List UnacknowledgedPublication). record { id = id; publication = p } ∷ l) (all_sent own first)
all_sent (Own.Released k p id ∷ own) first = all_sent own first
all_sent (Own.Done k p ∷ own) first = all_sent own first

-- ---- what is sent

abbrev pub packets_in : List Written → List Packet
packets_in = map (λ written. written.packet)

pub again_same : (own : List Own) → packets_in (written_again own) ≡ map (publish_kept true) (sent_of own)
again_same [] = refl
again_same (Own.Queued k p id ∷ own) = again_same own
again_same (Own.Sent k p id ∷ own) = ap (λ l. publish_kept true (record { id = id; publication = p }) ∷ l) (again_same own)
again_same (Own.Released k p id ∷ own) = again_same own
again_same (Own.Done k p ∷ own) = again_same own

pub first_same : (own : List Own) → packets_in (written_first own) ≡ map (publish_kept false) (queued_of own)
first_same [] = refl
first_same (Own.Queued k p id ∷ own) = ap (λ l. publish_kept false (record { id = id; publication = p }) ∷ l) (first_same own)
first_same (Own.Sent k p id ∷ own) = first_same own
first_same (Own.Released k p id ∷ own) = first_same own
first_same (Own.Done k p ∷ own) = first_same own

-- ---- one more

pub sent_more : (own more : List Own) → sent_of (own ++ more) ≡ sent_of own ++ sent_of more
sent_more [] more = refl
sent_more (Own.Queued k p id ∷ own) more = sent_more own more
sent_more (Own.Sent k p id ∷ own) more = ap (λ (l : List UnacknowledgedPublication). record { id = id; publication = p } ∷ l) (sent_more own more)
sent_more (Own.Released k p id ∷ own) more = sent_more own more
sent_more (Own.Done k p ∷ own) more = sent_more own more

pub queued_more : (own more : List Own) → queued_of (own ++ more) ≡ queued_of own ++ queued_of more
queued_more [] more = refl
queued_more (Own.Queued k p id ∷ own) more = ap (λ (l : List UnacknowledgedPublication). record { id = id; publication = p } ∷ l) (queued_more own more)
queued_more (Own.Sent k p id ∷ own) more = queued_more own more
queued_more (Own.Released k p id ∷ own) more = queued_more own more
queued_more (Own.Done k p ∷ own) more = queued_more own more

pub released_more : (own more : List Own) → released_of (own ++ more) ≡ released_of own ++ released_of more
released_more [] more = refl
released_more (Own.Queued k p id ∷ own) more = released_more own more
released_more (Own.Sent k p id ∷ own) more = released_more own more
released_more (Own.Released k p id ∷ own) more = ap (λ l. id ∷ l) (released_more own more)
released_more (Own.Done k p ∷ own) more = released_more own more
