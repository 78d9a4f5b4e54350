-- What a session is frozen to is read as that session.
use Rattle.std.proofs.Common.{◌≡◌, ℕ, ◌-◌, ◌≤◌, ◌<◌, ◌^◌, List, [], ◌∷◌, ◌++◌, length, refl, ap, ◌∙◌, arith, append_assoc}
use Rattle.std.specs.List.{AllByRecursion}
use Rattle.std.specs.List.Sorted.{IsStrictlySortedBy}
use Rattle.std.specs.declared.cmp.Ordering.TheVariants.{Less}
use Rattle.std.specs.Ordering.{nat_cmp}
use Rattle.std.proofs.lemmas.List.Elements.{All-from_recursion}
use Rattle.std.proofs.lemmas.Map.Views.{length-le_from_below}
use Rattle.packet_base.specs.Spelling.{IsId, number}
use Rattle.packet_base.specs.Readers.{byte_at, number_at, id_at}
use Rattle.packet_base.proofs.FieldsAgain.{number_again, id_again}
use Rattle.session_base.specs.InRange.{IsGrantedSubscription, IsInFlight, MayWait}
use Rattle.session_base.specs.Counted.{counted_bytes}
use Rattle.session_base.specs.Form.{one_byte, granted_subscription_bytes, flight_bytes, publication_bytes, granted_subscription_at, flight_at, waiting_at, is_new_filter, is_above, may_follow, anything}
use Rattle.session_base.specs.SessionForm.{state_at}
use Rattle.session_base.specs.FormTheorems.{FrozenIsRead}
use Rattle.session_base.proofs.Counted.{IsReadAgain, counted_again}
use Rattle.session_base.proofs.Fields.{held_again, flight_again, waiting_again}
use Rattle.session_base.proofs.Follows.{filters_follow, received_follow, flights_follow, waiting_follow}

-- what holds for each in range holds for each
pub each : {A : Type 0} (P Q : A → Type 0) → ((one : A) → P one → Q one) → (xs : List A) → AllByRecursion P xs → AllByRecursion Q xs
each P Q to [] h = tt
each P Q to (x ∷ xs) h = (to x h.0, each P Q to xs h.1)

above_zero : (i : ℕ) → IsId i → nat_cmp 0 i ≡ Less
above_zero i h = let some = h.0 in grind (arith, some)

-- rising identifiers are no more than there are
pub few_ids : (ids : List ℕ) → IsStrictlySortedBy nat_cmp ids → AllByRecursion IsId ids → length ids ≤ 65535
unfolding IsStrictlySortedBy
few_ids ids rising h =
    let all : length (0 ∷ ids) ≤ 2 ^ 16 = length-le_from_below (2 ^ 16) (0 ∷ ids) (each IsId (λ (i : ℕ). nat_cmp 0 i ≡ Less) above_zero ids h, rising)
    (All-from_recursion (λ (i : ℕ). i < 2 ^ 16) (0 ∷ ids) (omega arith, each IsId (λ (i : ℕ). i < 2 ^ 16) (λ i k. k.1) ids h)) in
    omega (arith, all)

-- four parts and the rest
regrouped : (a b c d rest : List ℕ) → (a ++ (b ++ (c ++ d))) ++ rest ≡ a ++ (b ++ (c ++ (d ++ rest)))
regrouped a b c d rest =
    append_assoc a (b ++ (c ++ d)) rest ∙ ap (λ (z : List ℕ). a ++ z) (append_assoc b (c ++ d) rest ∙ ap (λ (z : List ℕ). b ++ z) (append_assoc c d rest))

pub frozen_is_read : FrozenIsRead
unfolding state_at
frozen_is_read window small s rest h fits =
    let few = h.queue.few in
    let a = counted_bytes one_byte granted_subscription_bytes s.subscriptions in
    let b = counted_bytes number number s.received in
    let c = counted_bytes number flight_bytes s.queue.in_flight in
    let d = counted_bytes number publication_bytes s.queue.waiting in
    ap (λ (z : List ℕ). state_at window z) (regrouped a b c d rest)
    ∙ rw (
      counted_again one_byte byte_at is_new_filter granted_subscription_bytes granted_subscription_at 64 s.subscriptions (b ++ (c ++ (d ++ rest)))
          (λ n small rest. refl) h.few_filters (each IsGrantedSubscription (IsReadAgain granted_subscription_bytes granted_subscription_at) held_again s.subscriptions h.filters)
          (filters_follow s.subscriptions h.filters_apart),
      counted_again number number_at is_above number id_at 65535 s.received (c ++ (d ++ rest))
          (λ n small rest. number_again n rest (omega (arith, small))) (few_ids s.received h.rising h.received)
          (each IsId (IsReadAgain number id_at) (λ id i rest. id_again id rest i.0 i.1) s.received h.received) (received_follow s.received h.rising),
      counted_again number number_at may_follow flight_bytes flight_at window s.queue.in_flight (d ++ rest)
          (λ n within rest. number_again n rest (omega (arith, within, small))) fits
          (each IsInFlight (IsReadAgain flight_bytes flight_at) flight_again s.queue.in_flight h.queue.in_flight)
          (flights_follow s.queue.in_flight h.distinct h.released_first),
      counted_again number number_at anything publication_bytes waiting_at (4096 - length s.queue.in_flight) s.queue.waiting rest
          (λ n small rest. number_again n rest (omega (arith, small))) (omega (arith, few))
          (each MayWait (IsReadAgain publication_bytes waiting_at) waiting_again s.queue.waiting h.queue.waiting) (waiting_follow s.queue.waiting),
    ) refl
