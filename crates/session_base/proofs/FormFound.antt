-- A session that was read has a form.
use Rattle.std.proofs.Common.{ℕ, ◌-◌, List, length, arith}
use Rattle.packet_base.specs.Spelling.{IsId}
use Rattle.packet_base.specs.Readers.{AreBytes, byte_at, number_at, id_at}
use Rattle.packet_base.proofs.Steps.{then_if}
use Rattle.session_base.specs.Session.{SessionState}
use Rattle.session_base.specs.InRange.{IsGrantedSubscription, IsInFlight, MayWait}
use Rattle.session_base.specs.Counted.{counted_items_at}
use Rattle.session_base.specs.Form.{granted_subscription_at, flight_at, waiting_at, is_new_filter, is_above, may_follow, anything}
use Rattle.session_base.specs.SessionForm.{state_at}
use Rattle.session_base.specs.FormTheorems.{HasForm, FitsIn, ReadHasForm}
use Rattle.session_base.proofs.Found.{AreRead, counted_found}
use Rattle.session_base.proofs.FieldsFound.{a_byte, a_number, an_id, a_held_one, a_flight, a_waiting_one}
use Rattle.session_base.proofs.FollowsFound.{filters_are_apart, received_rise, flights_are_distinct, released_come_first}

pub read_has_form : ReadHasForm
unfolding state_at
read_has_form window small bytes fits =
    let Q : SessionState × List ℕ → Type 0 = λ x. HasForm x.0 × FitsIn window x.0 × AreBytes x.1 in
    then_if (counted_items_at byte_at is_new_filter granted_subscription_at 64 bytes) _ (λ x. AreRead is_new_filter IsGrantedSubscription 64 x.0 × AreBytes x.1) Q
    (counted_found byte_at is_new_filter granted_subscription_at IsGrantedSubscription 64 a_byte a_held_one bytes fits) (λ filters a.
    then_if (counted_items_at number_at is_above id_at 65535 filters.1) _ (λ x. AreRead is_above IsId 65535 x.0 × AreBytes x.1) Q
    (counted_found number_at is_above id_at IsId 65535 a_number an_id filters.1 a.1) (λ ids b.
    then_if (counted_items_at number_at may_follow flight_at window ids.1) _ (λ x. AreRead may_follow IsInFlight window x.0 × AreBytes x.1) Q
    (counted_found number_at may_follow flight_at IsInFlight window a_number a_flight ids.1 b.1) (λ flights c.
    then_if (counted_items_at number_at anything waiting_at (4096 - length flights.0) flights.1) _
    (λ x. AreRead anything MayWait (4096 - length flights.0) x.0 × AreBytes x.1) Q
    (counted_found number_at anything waiting_at MayWait (4096 - length flights.0) a_number a_waiting_one flights.1 c.1) (λ waiting d. (
      record {
        filters_apart = filters_are_apart filters.0 a.0.follow;
        filters = a.0.each;
        few_filters = a.0.few;
        rising = received_rise ids.0 b.0.follow;
        received = b.0.each;
        distinct = flights_are_distinct flights.0 c.0.follow;
        released_first = released_come_first flights.0 c.0.follow;
        queue = record { in_flight = c.0.each; waiting = d.0.each; few = (let f = c.0.few in let w = d.0.few in omega (arith, f, w, small)) };
      },
      c.0.few,
      d.1,
    )))))
