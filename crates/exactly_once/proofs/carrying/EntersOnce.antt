-- A publication at QoS 2 enters each session at most once, over all places that carry it.
use Rattle.std.proofs.Common.{◌≡◌, ◌≤◌, ℕ, Bool, true, false, ◌==◌, if◌then◌else◌, List, [], ◌∷◌, ◌++◌, length, filter, Option, Some, None, refl, sym, ◌∙◌, ap, subst, arith, inl, inr, ◌⊎◌, append_assoc}
use Rattle.std.proofs.lemmas.Bool.{both_ways}
use Rattle.std.proofs.lemmas.List.{length-append}
use Rattle.packet.specs.Delivery.{delivery_qos}
use Rattle.packet.specs.declared.delivery.Delivery.{Delivery}
use Rattle.packet.specs.declared.delivery.Delivery.TheVariants as deliveries
use Rattle.packet.specs.declared.publish.Publish.{Publish}
use Rattle.packet.specs.declared.packet.Packet.TheVariants as packets
use Rattle.session_base.specs.Publication.{publication_of}
use Rattle.session_base.specs.declared.publication.Publication.{Publication}
use Rattle.broker_spec.specs.Connection.{ConnectionName}
use Rattle.broker_spec.specs.Place.{Client, Mark, Place, Past, Limits}
use Rattle.broker_spec.specs.Received.{is_new, is_exactly_once}
use Rattle.broker_spec.specs.Entries.{Entry}
use Rattle.broker_spec.specs.Times.{entries_of}
use Rattle.broker_spec.specs.OriginTheorems.{is_from_publish}
use Rattle.broker_spec.specs.EndingTheorems.{StandsAt}
use Rattle.broker_spec.specs.TakenTheorems.{takes_publication}
use Rattle.broker_spec.specs.declared.command.Command.{Command}
use Rattle.broker_spec.specs.declared.command.Command.TheVariants as commands
use Rattle.broker_spec.proofs.EntersOnce.{one_if, MadeBelow, none-yet, made-below, count, enters_once}
use Rattle.broker_spec.proofs.EntersWhereTaken.{enters_where_taken}
use Rattle.lists.specs.Lists.{In, IsDistinct}
use Rattle.exactly_once.specs.Story.{Story}
use Rattle.exactly_once.specs.Carried.{carries, is_qos2, more_by, new_numbers, own_qos2_numbers, own_publications, is_this}
use Rattle.exactly_once.specs.Headline.{made_by}
use Rattle.exactly_once.proofs.carrying.PlacesSay.{Says}
use Rattle.exactly_once.proofs.carrying.KeepsPlaces.{IsCarried}
use Rattle.exactly_once.proofs.carrying.Acknowledging.{carried_publish, says_at}
use Rattle.exactly_once.proofs.carrying.Distinct.{IsTwo, two_is, count_id, count_more, count_apart}
use Rattle.client_base.specs.Keeper.{all_own}
use Rattle.client_base.proofs.NumbersStay.{joined_numbers}

-- ---- entries from places after

below_more : (m n : ℕ) (es : List Entry) → m ≤ n → MadeBelow m es → MadeBelow n es
below_more m n [] less h = tt
below_more m n (e ∷ es) less h = ((let first = h.0 in omega (arith, first, less)), below_more m n es less h.1)

-- one of two prefixes of a list has the place, or is not as long
either_side : (later front earlier below : Past) (place : Place) → later ++ earlier ≡ front ++ place ∷ below → StandsAt earlier place below ⊎ (length earlier ≤ length below)
either_side [] front earlier below place e = inl (record { later = front; is = e })
either_side (next ∷ later) [] earlier below place e =
    let same : later ++ earlier ≡ below = cc in
    let long = ap length same in
    let sum = length-append later earlier in
    inr (omega (arith, long, sum))
either_side (next ∷ later) (first ∷ front) earlier below place e = either_side later front earlier below place (rest e)
  where
    rest : next ∷ (later ++ earlier) ≡ first ∷ (front ++ place ∷ below) → later ++ earlier ≡ front ++ place ∷ below
    rest f = cc

-- how many of a session's entries are of the publication that is taken at a place
abbrev entered : Limits → Past → Client → ℕ → ℕ
entered limits earlier d n = length (filter (is_from_publish n) (entries_of limits earlier d))

-- none from a place that takes none
untaken_none : (limits : Limits) (later front earlier below : Past) (place : Place) (d : Client) → later ++ earlier ≡ front ++ place ∷ below
    → takes_publication place.command place.mark ≡ false → entered limits earlier d (length below) ≡ 0
untaken_none limits later front earlier below place d e none = by (either_side later front earlier below place e)
  where
    by : StandsAt earlier place below ⊎ (length earlier ≤ length below) → entered limits earlier d (length below) ≡ 0
    by (inl stands) = enters_where_taken limits earlier place below d stands none
    by (inr less) =
        count (length below) (entries_of limits earlier d)
        ∙ none-yet (length below) (entries_of limits earlier d) (below_more (length earlier) (length below) (entries_of limits earlier d) less (made-below limits earlier d))

-- ---- one place

two_delivered : (d : Delivery) → is_qos2 (delivery_qos d) ≡ true → is_exactly_once d ≡ true
two_delivered deliveries.AtMostOnce e = e
two_delivered (deliveries.AtLeastOnce dup id) e = e
two_delivered (deliveries.ExactlyOnce dup id) e = refl

-- a PUBLISH that is taken at QoS 2 is new; from any other nothing enters
new_or_none : (x : ConnectionName) (p : Publish) (mark : Mark) → is_exactly_once p.delivery ≡ true
    → (is_new (commands.Packet x (packets.Publish p)) mark ≡ true) ⊎ (takes_publication (commands.Packet x (packets.Publish p)) mark ≡ false)
new_or_none x p (Mark.Taken d) two = inl two
new_or_none x p Mark.Unmarked two = inr refl
new_or_none x p Mark.Accepted two = inr refl
new_or_none x p Mark.Full two = inr refl
new_or_none x p (Mark.Leaves d) two = inr refl
new_or_none x p (Mark.Refused d) two = inr refl
new_or_none x p (Mark.Repeat d) two = inr refl
new_or_none x p (Mark.Granted d which) two = inr refl
new_or_none x p (Mark.Handled d) two = inr refl

some_same : {A : Type 0} (a b : A) → Some a ≡ Some b → a ≡ b
some_same a b e = cc

-- what enters from a place that carries it is new there
pub one_place : (limits : Limits) (s : Story) → IsCarried limits s → (later front earlier below : Past) (place : Place) (d : Client) (k : ℕ) → IsTwo (own_publications (all_own s.keeper)) k
    → s.past ≡ later ++ earlier → s.past ≡ front ++ place ∷ below
    → (if is_this k (carries s.connections place.command below) then entered limits earlier d (length below) else 0)
    ≤ count_id k (more_by (is_new place.command place.mark) (carries s.connections place.command below))
one_place limits s c later front earlier below place d k two cut stands = by (carries s.connections place.command below) refl
  where
    says : Says s.keeper.client (own_publications (all_own s.keeper)) s.connections place below
    says = says_at s.keeper.client (own_publications (all_own s.keeper)) s.connections s.past place below c.places (record { later = front; is = stands })

    n : ℕ
    n = entered limits earlier d (length below)

    -- it is at QoS 2
    new_here : carries s.connections place.command below ≡ Some k → (is_new place.command place.mark ≡ true) ⊎ (takes_publication place.command place.mark ≡ false)
    new_here e =
        let publish = carried_publish s.connections place.command below k e in
        let is = says.of k publish.on publish.publish e publish.is in
        let same : two.publication ≡ publication_of publish.publish = some_same two.publication (publication_of publish.publish) (sym two.there' ∙ is) in
        let level : is_exactly_once publish.publish.delivery ≡ true = two_delivered publish.publish.delivery (ap (λ (q : Publication). is_qos2 q.qos) (sym same) ∙ two.two) in
        subst (λ (z : Command). (is_new z place.mark ≡ true) ⊎ (takes_publication z place.mark ≡ false)) (sym publish.is) (new_or_none publish.on publish.publish place.mark level)

    this : (b : Bool) → b ≡ true → (new : Bool) → (new ≡ true) ⊎ (n ≡ 0) → (if b then n else 0) ≤ count_id k (more_by new (Some k))
    this true e true h =
        let once = enters_once limits earlier d (length below) in
        let one : one_if (k == k) ≡ 1 = ap one_if (same_number k) in
        omega (arith, once, one)
      where
        same_number : (m : ℕ) → (m == m) ≡ true
        same_number m = grind arith
    this true e false (inl f) = absurd (both_ways false refl f)
    this true e false (inr none) = omega (arith, none)
    this false e new h = absurd (both_ways false refl e)

    none_or_new : (is_new place.command place.mark ≡ true) ⊎ (takes_publication place.command place.mark ≡ false) → (is_new place.command place.mark ≡ true) ⊎ (n ≡ 0)
    none_or_new (inl new) = inl new
    none_or_new (inr none) = inr (untaken_none limits later front earlier below place d (sym cut ∙ stands) none)

    other : (j : ℕ) (b : Bool) → (j == k) ≡ b → carries s.connections place.command below ≡ Some j
        → (if b then n else 0) ≤ count_id k (more_by (is_new place.command place.mark) (Some j))
    other j false e is = omega arith
    other j true e is =
        let same : j ≡ k = grind (arith, e) in
        let mine : carries s.connections place.command below ≡ Some k = is ∙ ap (λ z. Some z) same in
        subst (λ (z : ℕ). n ≤ count_id k (more_by (is_new place.command place.mark) (Some z))) (sym same)
        (this true refl (is_new place.command place.mark) (none_or_new (new_here mine)))

    by : (o : Option ℕ) → carries s.connections place.command below ≡ o → (if is_this k o then n else 0) ≤ count_id k (more_by (is_new place.command place.mark) o)
    by None e = omega arith
    by (Some j) e = other j (j == k) refl e

-- ---- all places

all_places : (limits : Limits) (s : Story) → IsCarried limits s → (later earlier : Past) (d : Client) (k : ℕ) → IsTwo (own_publications (all_own s.keeper)) k → s.past ≡ later ++ earlier
    → (front past : Past) → s.past ≡ front ++ past → made_by s.connections k past (entries_of limits earlier d) ≤ count_id k (new_numbers s.connections past)
all_places limits s c later earlier d k two cut front [] e = omega arith
all_places limits s c later earlier d k two cut front (place ∷ below) e =
    let ih = all_places limits s c later earlier d k two cut (front ++ place ∷ []) below (e ∙ sym (append_assoc front (place ∷ []) below)) in
    let here = one_place limits s c later front earlier below place d k two cut e in
    let sum = count_more k (new_numbers s.connections below) (more_by (is_new place.command place.mark) (carries s.connections place.command below)) in
    omega (arith, ih, here, sum)

pub publication_enters_once : (limits : Limits) (s : Story) → IsCarried limits s → IsDistinct (new_numbers s.connections s.past)
    → (later earlier : Past) (d : Client) (k : ℕ) → s.past ≡ later ++ earlier → In k (own_qos2_numbers (all_own s.keeper)) → made_by s.connections k s.past (entries_of limits earlier d) ≤ 1
publication_enters_once limits s c apart later earlier d k cut i =
    let few = count_apart k (new_numbers s.connections s.past) apart in
    let all = all_places limits s c later earlier d k (two_is k (all_own s.keeper) (joined_numbers s.keeper.earlier s.keeper.own c.numbers.0 c.numbers.1) i) cut [] s.past refl in
    omega (arith, few, all)
