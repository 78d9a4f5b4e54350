-- No event loses a number of what a client published, nor the next number.
use Rattle.std.proofs.Common.{◌≡◌, ◌≤◌, ◌+◌, ℕ, suc, Bool, true, false, if◌then◌else◌, List, [], ◌∷◌, ◌++◌, length, map, refl, sym, ◌∙◌, ap, ap₂, arith}
use Rattle.std.proofs.lemmas.List.{length-map, length-append}
use Rattle.packet.specs.declared.connack.Connack.TheVariants as connacks
use Rattle.packet.specs.declared.delivery.Delivery.{Delivery}
use Rattle.packet.specs.declared.delivery.Delivery.TheVariants as deliveries
use Rattle.packet.specs.declared.packet.Packet.{Packet}
use Rattle.packet.specs.declared.packet.Packet.TheVariants as packets
use Rattle.session_base.specs.declared.publication.Publication.{Publication}
use Rattle.session_base.specs.Publication.{publication_of}
use Rattle.lists.specs.Lists.{IsPrefixOf, has_id}
use Rattle.lists.proofs.Prefixes.{prefix_length}
use Rattle.broker_spec.specs.Place.{Limits}
use Rattle.client_base.specs.Keeper.{Own, Keeper, all_own, next_own_number}
use Rattle.client_base.specs.OrderTheorems.{AreNumbered}
use Rattle.client_base.specs.Written.{plain, writing}
use Rattle.client_base.specs.Handled.{discarded, packet_handled, handled_online, handled_first}
use Rattle.client_base.specs.Handshakes.{own_at_pubrec, is_sent_with, takes_in, pubrec_answered}
use Rattle.client_base.proofs.NumbersStay.{AreAllNumbered, joined_numbers}
use Rattle.exactly_once.specs.Sides.{Side}
use Rattle.exactly_once.specs.Story.{Story, StoryStep}
use Rattle.exactly_once.specs.Carried.{is_qos2, own_qos2_numbers, own_publications, own_publication}
use Rattle.exactly_once.proofs.carrying.Distinct.{number_first}
use Rattle.exactly_once.proofs.carrying.KeepsWritten.{events_say}
use Rattle.exactly_once.proofs.subscribing.Given.{one_handled}

-- ---- the numbers are those of the places

abbrev twos : ℕ → List Publication → List ℕ
twos n (p ∷ ps) = if is_qos2 p.qos then n ∷ twos (suc n) ps else twos (suc n) ps
twos n [] = []

published_is : (n : ℕ) (own : List Own) → AreNumbered n own → own_qos2_numbers own ≡ twos n (own_publications own)
published_is n [] h = refl
published_is n (o ∷ own) h =
    let first = number_first n o own h in
    ap₂ (λ k l. if is_qos2 (own_publication o).qos then k ∷ l else l) first.0 (published_is (suc n) own first.1)

twos_more : (n : ℕ) (ps qs : List Publication) → twos n (ps ++ qs) ≡ twos n ps ++ twos (n + length ps) qs
twos_more n [] qs = let same : n ≡ n + 0 = omega arith in ap (λ m. twos m qs) same
twos_more n (p ∷ ps) qs = by (is_qos2 p.qos) (twos_more (suc n) ps qs ∙ (let same : suc n + length ps ≡ n + suc (length ps) = omega arith in ap (λ m. twos (suc n) ps ++ twos m qs) same))
  where
    by : (b : Bool) → twos (suc n) (ps ++ qs) ≡ twos (suc n) ps ++ twos (n + suc (length ps)) qs
        → (if b then n ∷ twos (suc n) (ps ++ qs) else twos (suc n) (ps ++ qs)) ≡ (if b then n ∷ twos (suc n) ps else twos (suc n) ps) ++ twos (n + suc (length ps)) qs
    by true e = ap (λ l. n ∷ l) e
    by false e = e

all_numbered : (keeper : Keeper) → AreAllNumbered keeper → AreNumbered 0 (all_own keeper)
all_numbered keeper h = joined_numbers keeper.earlier keeper.own h.0 h.1

pub published_grows : (limits : Limits) (s t : Story) → AreAllNumbered s.keeper → AreAllNumbered t.keeper → StoryStep limits s t → IsPrefixOf (own_qos2_numbers (all_own s.keeper)) (own_qos2_numbers (all_own t.keeper))
published_grows limits s t before after h =
    let p = events_say limits s t before.1 h in
    let ps = own_publications (all_own s.keeper) in
    record {
      rest = twos (0 + length ps) p.rest;
      is = published_is 0 (all_own t.keeper) (all_numbered t.keeper after) ∙ ap (twos 0) p.is ∙ twos_more 0 ps p.rest
          ∙ ap (λ l. l ++ twos (0 + length ps) p.rest) (sym (published_is 0 (all_own s.keeper) (all_numbered s.keeper before)));
    }

long : (keeper : Keeper) → length (own_publications (all_own keeper)) ≡ next_own_number keeper
long keeper = length-map (all_own keeper) own_publication ∙ length-append keeper.earlier keeper.own

pub next_grows : (limits : Limits) (s t : Story) → AreAllNumbered s.keeper → StoryStep limits s t → next_own_number s.keeper ≤ next_own_number t.keeper
next_grows limits s t before h =
    let l = prefix_length (events_say limits s t before.1 h) in
    let a = long s.keeper in
    let b = long t.keeper in
    omega (arith, l, a, b)

-- ---- what was published before stays so, if no session is lost

taking_earlier : (d : Delivery) (p : Publication) (side : Side) → (takes_in d p side).keeper.earlier ≡ side.keeper.earlier
taking_earlier deliveries.AtMostOnce p side = refl
taking_earlier (deliveries.AtLeastOnce dup id) p side = refl
taking_earlier (deliveries.ExactlyOnce dup id) p side = by (has_id id side.keeper.received)
  where
    by : (b : Bool) → (writing (plain (packets.Pubrec id) ∷ []) (if b then side else record {
      keeper = record side.keeper { received = id ∷ side.keeper.received };
      connection = record side.connection { accepted = side.connection.accepted ++ p ∷ [] };
    })).keeper.earlier ≡ side.keeper.earlier
    by true = refl
    by false = refl

releasing_earlier : (i : ℕ) (side : Side) → (pubrec_answered i side).keeper.earlier ≡ side.keeper.earlier
releasing_earlier i side = by (is_sent_with i side.keeper.own) (has_id i side.keeper.releases)
  where
    by : (b r : Bool) → (if b then writing (plain (packets.Pubrel i) ∷ [])
        (record side { keeper = record side.keeper { own = map (own_at_pubrec i) side.keeper.own; releases = side.keeper.releases ++ i ∷ [] } })
        else if r then writing (plain (packets.Pubrel i) ∷ []) side else side).keeper.earlier ≡ side.keeper.earlier
    by true r = refl
    by false true = refl
    by false false = refl

online_earlier : (packet : Packet) (side : Side) → (handled_online packet side).keeper.earlier ≡ side.keeper.earlier
online_earlier (packets.Publish p) side = taking_earlier p.delivery (publication_of p) side
online_earlier (packets.Pubrec i) side = releasing_earlier i side
online_earlier _ side = refl

-- no CONNACK 0 says that its session is lost
abbrev pub IsKeeping : Packet → Keeper → Type 0
IsKeeping packet keeper = keeper.was_served ≡ true → (packet ≡ packets.Connack (connacks.Accepted false)) → ⊥

first_earlier : (packet : Packet) (side : Side) → IsKeeping packet side.keeper → (handled_first packet side).keeper.earlier ≡ side.keeper.earlier
first_earlier (packets.Connack (connacks.Accepted true)) side keeping = refl
first_earlier (packets.Connack (connacks.Accepted false)) side keeping = by side.keeper.was_served refl
  where
    by : (b : Bool) → side.keeper.was_served ≡ b → (if b then discarded side.keeper else side.keeper).earlier ≡ side.keeper.earlier
    by true e = absurd (keeping e refl)
    by false e = refl
first_earlier (packets.Connack (connacks.Refused code)) side keeping = refl
first_earlier _ side keeping = refl

pub handled_earlier : (packet : Packet) (side : Side) → (side.keeper.is_online ≡ false → IsKeeping packet side.keeper) → (packet_handled packet side).keeper.earlier ≡ side.keeper.earlier
handled_earlier packet side keeping = by side.keeper.is_online refl
  where
    by : (b : Bool) → side.keeper.is_online ≡ b → (if b then handled_online packet (one_handled side) else handled_first packet (one_handled side)).keeper.earlier ≡ side.keeper.earlier
    by true e = online_earlier packet (one_handled side)
    by false e = first_earlier packet (one_handled side) (keeping e)
