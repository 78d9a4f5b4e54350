-- What a client published, by number, and the packets that it wrote of it.
use Rattle.std.proofs.Common.{◌≡◌, ◌+◌, ℕ, suc, Bool, true, false, not, ◌&&◌, ◌==◌, if◌then◌else◌, List, [], ◌∷◌, ◌++◌, map, Option, Some, None, refl, ap, ap₂, sym, ◌∙◌, subst, arith, length}
use Rattle.std.specs.Prelude.{slice_get}
use Rattle.packet_base.specs.declared.qos.QoS.{QoS}
use Rattle.packet_base.specs.declared.qos.QoS.TheVariants as qos_levels
use Rattle.packet.specs.Delivery.{delivery_qos}
use Rattle.packet.specs.declared.packet.Packet.{Packet}
use Rattle.packet.specs.declared.packet.Packet.TheVariants as packets
use Rattle.session_base.specs.declared.publication.Publication.{Publication}
use Rattle.session_base.specs.Publication.{publication_of, publish_for, delivery_with, is_qos1}
use Rattle.lists.specs.Lists.{Each, IsPrefixOf}
use Rattle.lists.proofs.Prefixes.{prefix_get}
use Rattle.lists.proofs.OfEach.{each_append}
use Rattle.client_base.specs.Keeper.{Own, Written, Keeper, all_own}
use Rattle.client_base.specs.Written.{plain, written_again, written_first, sent_all, resent_written}
use Rattle.client_base.specs.Handshakes.{own_at_puback, own_at_pubrec, own_at_pubcomp}
use Rattle.exactly_once.specs.Sides.{ClientConnection}
use Rattle.exactly_once.specs.Carried.{own_publication, own_publications}
use Rattle.client_base.specs.OrderTheorems.{AreNumbered}
use Rattle.std.proofs.lemmas.List.{map-append, length-map}

-- ---- packets

-- a PUBLISH with a number is of the publication of that number
abbrev pub IsOf : List Publication → Packet → Option ℕ → Type 0
IsOf ps (packets.Publish p) (Some k) = slice_get ps k ≡ Some (publication_of p)
IsOf ps _ _ = Unit {0}

abbrev pub IsOfOwn : List Publication → Written → Type 0
IsOfOwn ps w = IsOf ps w.packet w.number

-- each that was written
abbrev pub AreOfOwn : List Publication → List ClientConnection → Type 0
AreOfOwn ps = Each (λ (κ : ClientConnection). Each (IsOfOwn ps) κ.written)

-- while more is published
pub of_more : (ps qs : List Publication) → IsPrefixOf ps qs → (packet : Packet) (number : Option ℕ) → IsOf ps packet number → IsOf qs packet number
of_more ps qs front (packets.Publish p) (Some k) e = prefix_get k (publication_of p) front e
of_more ps qs front (packets.Publish p) None e = tt
of_more ps qs front _ number e = tt

pub plain_of : (ps : List Publication) (packet : Packet) → IsOfOwn ps (plain packet)
plain_of ps (packets.Publish p) = tt
plain_of ps _ = tt

-- what is carried is what was published
pub carried_is : (dup : Bool) (id : ℕ) (p : Publication) → publication_of (publish_for dup id p) ≡ p
carried_is dup id p = λ i. record { retain = p.retain; qos = level p.qos i; topic = p.topic; payload = p.payload }
  where
    level : (q : QoS) → delivery_qos (delivery_with q dup id) ≡ q
    level qos_levels.AtMostOnce = refl
    level qos_levels.AtLeastOnce = refl
    level qos_levels.ExactlyOnce = refl

-- ---- answers change none of it

pub said_puback : (i : ℕ) (own : List Own) → own_publications (map (own_at_puback i) own) ≡ own_publications own
said_puback i [] = refl
said_puback i (Own.Queued k p id ∷ own) = ap (λ l. p ∷ l) (said_puback i own)
said_puback i (Own.Sent k p id ∷ own) = ap₂ (λ q l. q ∷ l) (by ((i == id) && is_qos1 p.qos)) (said_puback i own)
  where
    by : (b : Bool) → own_publication (if b then Own.Done k p else Own.Sent k p id) ≡ p
    by true = refl
    by false = refl
said_puback i (Own.Released k p id ∷ own) = ap (λ l. p ∷ l) (said_puback i own)
said_puback i (Own.Done k p ∷ own) = ap (λ l. p ∷ l) (said_puback i own)

pub said_pubrec : (i : ℕ) (own : List Own) → own_publications (map (own_at_pubrec i) own) ≡ own_publications own
said_pubrec i [] = refl
said_pubrec i (Own.Queued k p id ∷ own) = ap (λ l. p ∷ l) (said_pubrec i own)
said_pubrec i (Own.Sent k p id ∷ own) = ap₂ (λ q l. q ∷ l) (by ((i == id) && not (is_qos1 p.qos))) (said_pubrec i own)
  where
    by : (b : Bool) → own_publication (if b then Own.Released k p id else Own.Sent k p id) ≡ p
    by true = refl
    by false = refl
said_pubrec i (Own.Released k p id ∷ own) = ap (λ l. p ∷ l) (said_pubrec i own)
said_pubrec i (Own.Done k p ∷ own) = ap (λ l. p ∷ l) (said_pubrec i own)

pub said_pubcomp : (i : ℕ) (own : List Own) → own_publications (map (own_at_pubcomp i) own) ≡ own_publications own
said_pubcomp i [] = refl
said_pubcomp i (Own.Queued k p id ∷ own) = ap (λ l. p ∷ l) (said_pubcomp i own)
said_pubcomp i (Own.Sent k p id ∷ own) = ap (λ l. p ∷ l) (said_pubcomp i own)
said_pubcomp i (Own.Released k p id ∷ own) = ap₂ (λ q l. q ∷ l) (by (i == id)) (said_pubcomp i own)
  where
    by : (b : Bool) → own_publication (if b then Own.Done k p else Own.Released k p id) ≡ p
    by true = refl
    by false = refl
said_pubcomp i (Own.Done k p ∷ own) = ap (λ l. p ∷ l) (said_pubcomp i own)

pub said_sent : (own : List Own) → own_publications (sent_all own) ≡ own_publications own
said_sent [] = refl
said_sent (Own.Queued k p id ∷ own) = ap (λ l. p ∷ l) (said_sent own)
said_sent (Own.Sent k p id ∷ own) = ap (λ l. p ∷ l) (said_sent own)
said_sent (Own.Released k p id ∷ own) = ap (λ l. p ∷ l) (said_sent own)
said_sent (Own.Done k p ∷ own) = ap (λ l. p ∷ l) (said_sent own)

-- ---- what is sent after a CONNACK 0

-- these are in the whole from number n on
abbrev StandFrom : List Publication → ℕ → List Publication → Type 0
StandFrom ps n qs = (j : ℕ) (q : Publication) → slice_get qs j ≡ Some q → slice_get ps (n + j) ≡ Some q

behind : (ps : List Publication) (n : ℕ) (q : Publication) (qs : List Publication) → StandFrom ps n (q ∷ qs) → StandFrom ps (suc n) qs
behind ps n q qs stand j r e =
    let same : n + suc j ≡ suc n + j = omega arith in
    subst (λ (m : ℕ). slice_get ps m ≡ Some r) same (stand (suc j) r e)

first_of : (ps : List Publication) (n k : ℕ) (p : Publication) (qs : List Publication) (dup : Bool) (id : ℕ) → k ≡ n → StandFrom ps n (p ∷ qs)
    → slice_get ps k ≡ Some (publication_of (publish_for dup id p))
first_of ps n k p qs dup id e stand =
    let same : n + 0 ≡ k = omega (arith, e) in
    subst (λ (m : ℕ). slice_get ps m ≡ Some p) same (stand 0 p refl) ∙ ap (λ q. Some q) (sym (carried_is dup id p))

again_of : (ps : List Publication) (n : ℕ) (own : List Own) → AreNumbered n own → StandFrom ps n (own_publications own) → Each (IsOfOwn ps) (written_again own)
again_of ps n [] h stand = tt
again_of ps n (Own.Queued k p id ∷ own) h stand = again_of ps (suc n) own h.1 (behind ps n p (own_publications own) stand)
again_of ps n (Own.Sent k p id ∷ own) h stand =
    (first_of ps n k p (own_publications own) true id h.0 stand, again_of ps (suc n) own h.1 (behind ps n p (own_publications own) stand))
again_of ps n (Own.Released k p id ∷ own) h stand = again_of ps (suc n) own h.1 (behind ps n p (own_publications own) stand)
again_of ps n (Own.Done k p ∷ own) h stand = again_of ps (suc n) own h.1 (behind ps n p (own_publications own) stand)

queued_of : (ps : List Publication) (n : ℕ) (own : List Own) → AreNumbered n own → StandFrom ps n (own_publications own) → Each (IsOfOwn ps) (written_first own)
queued_of ps n [] h stand = tt
queued_of ps n (Own.Queued k p id ∷ own) h stand =
    (first_of ps n k p (own_publications own) false id h.0 stand, queued_of ps (suc n) own h.1 (behind ps n p (own_publications own) stand))
queued_of ps n (Own.Sent k p id ∷ own) h stand = queued_of ps (suc n) own h.1 (behind ps n p (own_publications own) stand)
queued_of ps n (Own.Released k p id ∷ own) h stand = queued_of ps (suc n) own h.1 (behind ps n p (own_publications own) stand)
queued_of ps n (Own.Done k p ∷ own) h stand = queued_of ps (suc n) own h.1 (behind ps n p (own_publications own) stand)

releases_of : (ps : List Publication) (ids : List ℕ) → Each (IsOfOwn ps) (map (λ id. plain (packets.Pubrel id)) ids)
releases_of ps [] = tt
releases_of ps (id ∷ ids) = (tt, releases_of ps ids)

-- the others come after these
get_after : (xs ys : List Publication) (j : ℕ) → slice_get (xs ++ ys) (length xs + j) ≡ slice_get ys j
get_after [] ys j = let same : 0 + j ≡ j = omega arith in ap (slice_get ys) same
get_after (x ∷ xs) ys j = let same : suc (length xs) + j ≡ suc (length xs + j) = omega arith in ap (slice_get (x ∷ xs ++ ys)) same ∙ get_after xs ys j

pub said_after : (earlier own later : List Own) → own_publications later ≡ own_publications own → own_publications (earlier ++ later) ≡ own_publications (earlier ++ own)
said_after earlier own later e = map-append own_publication earlier later ∙ ap (λ l. own_publications earlier ++ l) e ∙ sym (map-append own_publication earlier own)

pub resent_of : (keeper : Keeper) → AreNumbered (length keeper.earlier) keeper.own → Each (IsOfOwn (own_publications (all_own keeper))) (resent_written keeper)
resent_of keeper numbered =
    let ps = own_publications (all_own keeper) in
    let n = length keeper.earlier in
    let stand : StandFrom ps n (own_publications keeper.own) = λ j q e.
    ap (λ l. slice_get l (n + j)) (map-append own_publication keeper.earlier keeper.own)
    ∙ ap (λ m. slice_get (own_publications keeper.earlier ++ own_publications keeper.own) (m + j)) (sym (length-map keeper.earlier own_publication))
    ∙ get_after (own_publications keeper.earlier) (own_publications keeper.own) j ∙ e in
    each_append (IsOfOwn ps) (map (λ id. plain (packets.Pubrel id)) keeper.releases ++ written_again keeper.own) (written_first keeper.own)
    (each_append (IsOfOwn ps) (map (λ id. plain (packets.Pubrel id)) keeper.releases) (written_again keeper.own) (releases_of ps keeper.releases)
    (again_of ps n keeper.own numbered stand))
    (queued_of ps n keeper.own numbered stand)
