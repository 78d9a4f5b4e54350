-- What SUBSCRIBE, UNSUBSCRIBE, PUBLISH and PUBREL leave of filters and received identifiers, and what the copies of
-- a command are: each in its range.
use Rattle.std.proofs.Common.{ℕ, Bool, true, false, if◌then◌else◌, Option, Some, None, List, [], ◌∷◌, map}
use Rattle.std.specs.Prelude.{bytes_eq, option_map}
use Rattle.std.specs.declared.cmp.Ordering.{Ordering}
use Rattle.std.specs.declared.cmp.Ordering.TheVariants.{Less, Equal, Greater}
use Rattle.std.specs.Ordering.{match_ordering, nat_cmp}
use Rattle.std.specs.List.{AllByRecursion}
use Rattle.std.proofs.lemmas.List.Elements.{recursion_from_All}
use Rattle.topics.specs.Matching.{is_match}
use Rattle.packet_base.specs.Spelling.{IsId}
use Rattle.packet.specs.Subscribe.{FitsSubscription}
use Rattle.packet.specs.declared.subscribe.Subscription.{Subscription}
use Rattle.packet.specs.declared.publish.Publish.{Publish}
use Rattle.packet.specs.declared.delivery.Delivery.{Delivery}
use Rattle.packet.specs.declared.delivery.Delivery.TheVariants as deliveries
use Rattle.packet.specs.Delivery.{FitsDelivery, delivery_qos}
use Rattle.packet.specs.declared.packet.Packet.TheVariants as packets
use Rattle.packet_base.specs.declared.qos.QoS.{QoS}
use Rattle.retained.specs.declared.retained_publication.RetainedPublication.{RetainedPublication}
use Rattle.retained.specs.Retained.{RetainedTopics, matching_entries}
use Rattle.session_base.specs.Publication.{publication_of}
use Rattle.packet_base.specs.QoS.{lower_qos}
use Rattle.session_base.specs.Identifiers.{with_id}
use Rattle.session_base.specs.Subscriptions.{GrantedSubscription, with_subscription, with_subscriptions, without_filter, without_filters, granted_qos}
use Rattle.broker_spec.specs.Place.{Client, same_client, Mark}
use Rattle.broker_spec.specs.Subscriptions.{as_granted, granted_of, subscriptions_after}
use Rattle.broker_spec.specs.Received.{receives, received_by}
use Rattle.broker_spec.specs.Entries.{copy_of, retained_copy, copies_for, copies_for_all}
use Rattle.broker_spec.specs.Logged.{IsBrokerCommand}
use Rattle.broker_spec.specs.declared.command.Command.{Command}
use Rattle.broker_spec.specs.declared.command.Command.TheVariants as commands
use Rattle.broker_base.specs.SessionStep.{copies_with}
use Rattle.session_base.specs.InRange.{CanBeSent, IsGrantedSubscription}
use Rattle.broker_base.specs.form.InRange.{IsRetained}
use Rattle.broker_base.proofs.of_form.Publications.{marked, lower, lower_asked, carried}
use Rattle.broker_base.proofs.of_form.Queues.{all_append, all_filter}

-- one of two lists
pub all_if : {A : Type 0} (P : A → Type 0) (b : Bool) (xs ys : List A) → AllByRecursion P xs → AllByRecursion P ys → AllByRecursion P (if b then xs else ys)
all_if P true xs ys h k = h
all_if P false xs ys h k = k

pub all_granted : {A : Type 0} (P : A → Type 0) (xs : List A) (which : List Bool) → AllByRecursion P xs → AllByRecursion P (granted_of xs which)
all_granted P [] [] h = tt
all_granted P [] (b ∷ which) h = tt
all_granted P (x ∷ xs) [] h = tt
all_granted P (x ∷ xs) (true ∷ which) h = (h.0, all_granted P xs which h.1)
all_granted P (x ∷ xs) (false ∷ which) h = all_granted P xs which h.1

-- ---- filters

held_one : (new : GrantedSubscription) (held : List GrantedSubscription) → IsGrantedSubscription new → AllByRecursion IsGrantedSubscription held → AllByRecursion IsGrantedSubscription (with_subscription new held)
held_one new [] n h = (n, tt)
held_one new (old ∷ others) n h =
    elim (bytes_eq new.0 old.0) as (λ (b : Bool). AllByRecursion IsGrantedSubscription (if b then (old.0, new.1) ∷ others else old ∷ with_subscription new others)) [
      | true ↦ h
      | false ↦ (h.0, held_one new others n h.1)
    ]

held_more : (new : List Subscription) (held : List GrantedSubscription) → AllByRecursion FitsSubscription new → AllByRecursion IsGrantedSubscription held →
    AllByRecursion IsGrantedSubscription (with_subscriptions (map as_granted new) held)
held_more [] held n h = h
held_more (one ∷ new) held n h = held_more new (with_subscription (as_granted one) held) n.1 (held_one (as_granted one) held n.0 h)

given_up : (filters : List (List ℕ)) (held : List GrantedSubscription) → AllByRecursion IsGrantedSubscription held → AllByRecursion IsGrantedSubscription (without_filters filters held)
given_up [] held h = h
given_up (one ∷ filters) held h = given_up filters (without_filter one held) (all_filter IsGrantedSubscription _ held h)

pub filters_in_range : (command : Command) (mark : Mark) (c : Client) (held : List GrantedSubscription) → IsBrokerCommand command →
    AllByRecursion IsGrantedSubscription held → AllByRecursion IsGrantedSubscription (subscriptions_after command mark c held)
filters_in_range (commands.Packet x (packets.Subscribe s)) (Mark.Granted d which) c held k h =
    all_if IsGrantedSubscription (same_client d c) _ held
    (held_more (granted_of s.filters which) held
    (all_granted FitsSubscription s.filters which (recursion_from_All FitsSubscription s.filters k.1.1)) h) h
filters_in_range (commands.Packet x (packets.Unsubscribe u)) (Mark.Handled d) c held k h =
    all_if IsGrantedSubscription (same_client d c) _ held (given_up u.filters held h) h
filters_in_range _ _ c held k h = h

-- ---- received identifiers

one_more : (id : ℕ) (ids : List ℕ) → IsId id → AllByRecursion IsId ids → AllByRecursion IsId (with_id id ids)
one_more id [] i h = (i, tt)
one_more id (other ∷ ids) i h =
    elim (nat_cmp id other) as (λ (o : Ordering). AllByRecursion IsId (match_ordering o (id ∷ other ∷ ids) (other ∷ ids) (other ∷ with_id id ids))) [
      | Less ↦ (i, h)
      | Equal ↦ h
      | Greater ↦ (h.0, one_more id ids i h.1)
    ]

received_one : (delivery : Delivery) (ids : List ℕ) → FitsDelivery delivery → AllByRecursion IsId ids → AllByRecursion IsId (receives delivery ids)
received_one (deliveries.ExactlyOnce dup id) ids i h = one_more id ids i h
received_one (deliveries.AtLeastOnce dup id) ids i h = h
received_one deliveries.AtMostOnce ids i h = h

pub received_in_range : (command : Command) (mark : Mark) (c : Client) (ids : List ℕ) → IsBrokerCommand command →
    AllByRecursion IsId ids → AllByRecursion IsId (received_by command mark c ids)
received_in_range (commands.Packet x (packets.Publish p)) (Mark.Taken d) c ids k h =
    all_if IsId (same_client d c) _ ids (received_one p.delivery ids k.1.1 h) h
received_in_range (commands.Packet x (packets.Pubrel id)) (Mark.Handled d) c ids k h =
    all_if IsId (same_client d c) _ ids (all_filter IsId _ ids h) h
received_in_range _ _ c ids k h = h

-- ---- copies

copy_in_range : (p : Publish) (asked : Option QoS) → CanBeSent (publication_of p) →
    AllByRecursion CanBeSent (copy_of (publication_of p) (option_map (lower_qos (publication_of p).qos) asked))
copy_in_range p None h = tt
copy_in_range p (Some qos) h =
    (marked p.retain false (lower_qos (delivery_qos p.delivery) qos) p.topic p.payload (lower p.retain (delivery_qos p.delivery) qos p.topic p.payload h), tt)

retained_copies : (asked : QoS) (content : RetainedTopics) → AllByRecursion IsRetained content → AllByRecursion CanBeSent (map (retained_copy asked) content)
retained_copies asked [] h = tt
retained_copies asked (row ∷ content) h = (lower_asked true row.1.qos asked row.0 row.1.payload h.0.1, retained_copies asked content h.1)

all_retained : (content : RetainedTopics) (filters : List Subscription) → AllByRecursion IsRetained content → AllByRecursion CanBeSent (copies_for_all content filters)
all_retained content [] h = tt
all_retained content (s ∷ more) h =
    all_append CanBeSent (copies_for content s) (copies_for_all content more)
    (retained_copies s.qos (matching_entries content s.filter) (all_filter IsRetained (λ (row : List ℕ × RetainedPublication). is_match s.filter row.0) content h)) (all_retained content more h)

pub copies_can_be_sent : (command : Command) (mark : Mark) (content : RetainedTopics) (c : Client) (held : List GrantedSubscription) → IsBrokerCommand command →
    AllByRecursion IsRetained content → AllByRecursion CanBeSent (copies_with command mark content c held)
copies_can_be_sent (commands.Packet x (packets.Publish p)) (Mark.Taken d) content c held k h =
    copy_in_range p (granted_qos p.topic held) (carried p (k.1, k.2.0, k.2.1))
copies_can_be_sent (commands.Packet x (packets.Subscribe s)) (Mark.Granted d which) content c held k h =
    all_if CanBeSent (same_client d c) _ [] (all_retained content (granted_of s.filters which) h) tt
copies_can_be_sent _ _ content c held k h = tt
