-- NumbersStay.antt: whatever is called or comes, the n-th publication has number n.
use Rattle.std.proofs.Common.{◌≡◌, ◌+◌, ℕ, suc, Bool, true, false, not, ◌&&◌, if◌then◌else◌, List, [], ◌∷◌, ◌++◌, length, refl, subst, arith}
use Rattle.packet.specs.declared.connack.Connack.TheVariants as connacks
use Rattle.packet.specs.declared.delivery.Delivery.{Delivery}
use Rattle.packet.specs.declared.delivery.Delivery.TheVariants as deliveries
use Rattle.packet.specs.declared.packet.Packet.{Packet}
use Rattle.packet.specs.declared.packet.Packet.TheVariants as packets
use Rattle.lists.specs.Lists.{has_id}
use Rattle.session_base.specs.declared.publication.Publication.{Publication}
use Rattle.session_base.specs.Publication.{is_answered, publication_of}
use Rattle.client_base.specs.Keeper.{Own, Keeper, Side, next_own_number, number_in}
use Rattle.client_base.specs.Handled.{discarded, packet_handled, handled_online, handled_first}
use Rattle.client_base.specs.Handshakes.{own_at_puback, own_at_pubrec, own_at_pubcomp, is_sent_with, pubrec_answered, takes_in}
use Rattle.client_base.specs.Steps.{Call}
use Rattle.client_base.specs.Called.{adds_own, keeper_goes}
use Rattle.client_base.specs.OrderTheorems.{AreNumbered, NumbersStay}
use Rattle.client_base.proofs.PublishingOrder.{changed, puback_same, pubrec_same, pubcomp_same, all_numbered, one_more}

-- the earlier ones from 0 on, and the others after them
abbrev pub AreAllNumbered : Keeper → Type 0
AreAllNumbered keeper = AreNumbered 0 keeper.earlier × AreNumbered (length keeper.earlier) keeper.own

joined : (n : ℕ) (xs ys : List Own) → AreNumbered n xs → AreNumbered (n + length xs) ys → AreNumbered n (xs ++ ys)
joined n [] ys h g = let same : n + 0 ≡ n = omega arith in subst (λ (m : ℕ). AreNumbered m ys) same g
joined n (x ∷ xs) ys h g = let same : n + suc (length xs) ≡ suc n + length xs = omega arith in (h.0, joined (suc n) xs ys h.1 (subst (λ (m : ℕ). AreNumbered m ys) same g))

parted : (n : ℕ) (xs ys : List Own) → AreNumbered n (xs ++ ys) → AreNumbered n xs × AreNumbered (n + length xs) ys
parted n [] ys h = (tt, let same : n ≡ n + 0 = omega arith in subst (λ (m : ℕ). AreNumbered m ys) same h)
parted n (x ∷ xs) ys h =
    let rest = parted (suc n) xs ys h.1 in
    let same : suc n + length xs ≡ n + suc (length xs) = omega arith in
    ((h.0, rest.0), subst (λ (m : ℕ). AreNumbered m ys) same rest.1)

pub joined_numbers : (earlier own : List Own) → AreNumbered 0 earlier → AreNumbered (length earlier) own → AreNumbered 0 (earlier ++ own)
joined_numbers earlier own h g = let same : length earlier ≡ 0 + length earlier = omega arith in joined 0 earlier own h (subst (λ (m : ℕ). AreNumbered m own) same g)

pub parted_numbers : (earlier own : List Own) → AreNumbered 0 (earlier ++ own) → AreNumbered 0 earlier × AreNumbered (length earlier) own
parted_numbers earlier own h =
    let two = parted 0 earlier own h in
    let same : 0 + length earlier ≡ length earlier = omega arith in
    (two.0, subst (λ (m : ℕ). AreNumbered m own) same two.1)

either : {Name : Type 0} (b : Bool) (x y : Side Name) → AreAllNumbered x.keeper → AreAllNumbered y.keeper → AreAllNumbered (if b then x else y).keeper
either true x y e f = e
either false x y e f = f

either_keeper : (b : Bool) (x y : Keeper) → AreAllNumbered x → AreAllNumbered y → AreAllNumbered (if b then x else y)
either_keeper true x y e f = e
either_keeper false x y e f = f

taken_in : {Name : Type 0} (delivery : Delivery) (p : Publication) (side : Side Name) → AreAllNumbered side.keeper → AreAllNumbered (takes_in delivery p side).keeper
taken_in deliveries.AtMostOnce p side numbered = numbered
taken_in (deliveries.AtLeastOnce dup id) p side numbered = numbered
taken_in (deliveries.ExactlyOnce dup id) p side numbered = either (has_id id side.keeper.received) side _ numbered numbered

released : {Name : Type 0} (i : ℕ) (side : Side Name) → AreAllNumbered side.keeper → AreAllNumbered (pubrec_answered i side).keeper
released i side numbered =
    either (is_sent_with i side.keeper.own) _ _ (numbered.0, changed (own_at_pubrec i) (pubrec_same i) (length side.keeper.earlier) side.keeper.own numbered.1)
    (either (has_id i side.keeper.releases) _ side numbered numbered)

online : {Name : Type 0} (packet : Packet) (side : Side Name) → AreAllNumbered side.keeper → AreAllNumbered (handled_online packet side).keeper
online (packets.Publish p) side numbered = taken_in p.delivery (publication_of p) side numbered
online (packets.Puback i) side numbered = (numbered.0, changed (own_at_puback i) (puback_same i) (length side.keeper.earlier) side.keeper.own numbered.1)
online (packets.Pubrec i) side numbered = released i side numbered
online (packets.Pubcomp i) side numbered = (numbered.0, changed (own_at_pubcomp i) (pubcomp_same i) (length side.keeper.earlier) side.keeper.own numbered.1)
online _ side numbered = numbered

first : {Name : Type 0} (packet : Packet) (side : Side Name) → AreAllNumbered side.keeper → AreAllNumbered (handled_first packet side).keeper
first (packets.Connack (connacks.Accepted present)) side numbered =
    let kept = if not present && side.keeper.was_served then discarded side.keeper else side.keeper in
    let all : AreAllNumbered kept =
    either_keeper (not present && side.keeper.was_served) (discarded side.keeper) side.keeper (joined_numbers side.keeper.earlier side.keeper.own numbered.0 numbered.1, tt) numbered in
    (all.0, all_numbered (length kept.earlier) kept.own all.1)
first (packets.Connack (connacks.Refused code)) side numbered = numbered
first _ side numbered = numbered

published : (p : Publication) (id n : ℕ) (answered up : Bool) → number_in (if answered then (if up then Own.Sent n p id else Own.Queued n p id) else Own.Done n p) ≡ n
published p id n true true = refl
published p id n true false = refl
published p id n false up = refl

-- one more is published
pub publishes_numbers : (p : Publication) (keeper : Keeper) → AreAllNumbered keeper → AreAllNumbered (adds_own p keeper)
publishes_numbers p keeper numbered =
    (numbered.0, one_more (length keeper.earlier) keeper.own _ (published p _ (next_own_number keeper) (is_answered p.qos) keeper.is_online) numbered.1)

-- a packet comes
pub handled_numbers : {Name : Type 0} (packet : Packet) (side : Side Name) → AreAllNumbered side.keeper → AreAllNumbered (packet_handled packet side).keeper
handled_numbers packet side numbered = either side.keeper.is_online _ _ (online packet _ numbered) (first packet _ numbered)

goes : (call : Call) (fresh : ℕ) (side : Side ℕ) → AreAllNumbered side.keeper → AreAllNumbered (keeper_goes fresh call side).keeper
goes Call.Opens fresh side numbered = numbered
goes (Call.Publishes p) fresh side numbered = publishes_numbers p side.keeper numbered
goes (Call.Subscribes filter qos) fresh side numbered = numbered
goes (Call.Unsubscribes filter) fresh side numbered = numbered
goes (Call.Receives packet) fresh side numbered = handled_numbers packet side numbered
goes Call.Loses fresh side numbered = numbered
goes Call.Disconnects fresh side numbered = numbered

pub numbers_stay : NumbersStay
numbers_stay call fresh side numbered =
    let after = (keeper_goes fresh call side).keeper in
    let all = goes call fresh side (parted_numbers side.keeper.earlier side.keeper.own numbered) in
    joined_numbers after.earlier after.own all.0 all.1
