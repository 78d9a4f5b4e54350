-- What the place says if the list takes the next packet of one of the client's connections.
use Rattle.std.proofs.Common.{◌≡◌, ℕ, zero, suc, Bool, true, false, if◌then◌else◌, List, ◌∷◌, drop, Option, Some, None, refl, sym, ◌∙◌, ap, ap₂, subst, inl, inr, ◌⊎◌}
use Rattle.std.specs.Prelude.{slice_get}
use Rattle.std.proofs.lemmas.Bool.{both_ways}
use Rattle.packet.specs.declared.delivery.Delivery.{Delivery}
use Rattle.packet.specs.declared.delivery.Delivery.TheVariants as deliveries
use Rattle.packet.specs.declared.connect.Connect.{Connect}
use Rattle.packet.specs.declared.publish.Publish.{Publish}
use Rattle.packet.specs.declared.packet.Packet.{Packet}
use Rattle.packet.specs.declared.packet.Packet.TheVariants as packets
use Rattle.session_base.specs.declared.publication.Publication.{Publication}
use Rattle.session_base.specs.Publication.{publication_of}
use Rattle.broker_spec.specs.Connection.{ConnectionName}
use Rattle.broker_spec.specs.Place.{Client, Mark, Past, Limits}
use Rattle.broker_spec.specs.Sessions.{current_connection}
use Rattle.broker_spec.specs.Received.{is_repeat}
use Rattle.broker_spec.specs.Marks.{is_refused, packet_mark, packet_mark_of, mark_of}
use Rattle.broker_spec.specs.Commands.{place_of}
use Rattle.broker_spec.specs.declared.command.Command.TheVariants as commands
use Rattle.lists.specs.Lists.{In}
use Rattle.exactly_once.specs.Handshake.{Forward, Backward}
use Rattle.exactly_once.specs.Exact.{next_of}
use Rattle.exactly_once.specs.HandshakeInvariant.{IsGood}
use Rattle.exactly_once.proofs.Repeats.{good_repeat}
use Rattle.client_base.specs.Keeper.{Written, Keeper}
use Rattle.client_base.specs.Connected.{opening_connect}
use Rattle.exactly_once.specs.Sides.{ClientConnection}
use Rattle.exactly_once.specs.StoryCommands.{with_one_counted, packet_count, command_of}
use Rattle.exactly_once.specs.Carried.{connection_named, written_number_at, new_numbers}
use Rattle.exactly_once.specs.Inside.Projections.{forward_of_own, forward_of_one, backward_of_own, to_come, is_current, transit_of_own, as_publisher}
use Rattle.exactly_once.specs.Inside.Shape.{HasShape}
use Rattle.exactly_once.specs.Inside.ConnectionShape.{ConnectionInShape}
use Rattle.broker_spec.proofs.ConnectionNames.{same_itself}
use Rattle.exactly_once.proofs.places.Owned.{own_owner, none_owns}
use Rattle.exactly_once.proofs.publishing.First.{story_by}
use Rattle.exactly_once.proofs.publishing.Last.{each_there, is_named}
use Rattle.exactly_once.proofs.publishing.Links.{link_by, link_is}
use Rattle.exactly_once.proofs.publishing.kept.Numbers.{same_counted, same_numbers}
use Rattle.exactly_once.proofs.publishing.events.Takes.{current_or_not}
use Rattle.exactly_once.proofs.publishing.events.TakesOwn.{OnCurrent, taken_front}
use Rattle.exactly_once.proofs.publishing.events.TakesPacket.{on_current}
use Rattle.exactly_once.proofs.publishing.events.TakesTwo.{carries_it}
use Rattle.exactly_once.proofs.carrying.Publications.{IsOf}
use Rattle.exactly_once.proofs.carrying.PlacesSay.{is_again, Says, says_nothing}

-- ---- a repeat

next_link : (online : Bool) (m : Forward ℕ) (f : List (Forward ℕ)) (b : List Backward) → next_of (link_by true online (m ∷ f) b) ≡ Some m
next_link true m f b = refl
next_link false m f b = refl

-- what comes next to the broker
next_there : (limits : Limits) (past : Past) (keeper : Keeper) (connections : List ClientConnection) (i : ℕ) (κ : ClientConnection) (p : Publish) (dup : Bool) (id k : ℕ)
    → p.delivery ≡ deliveries.ExactlyOnce dup id → OnCurrent limits past keeper connections i κ (record { packet = packets.Publish p; number = Some k })
    → next_of (as_publisher limits (story_by past connections keeper)).transit ≡ Some (Forward.Publish id k)
next_there limits past keeper connections i κ p dup id k two o =
    let current = current_connection past keeper.client in
    let online = keeper.is_online in
    let f = forward_of_own (drop (suc κ.taken) κ.written) in
    let b = backward_of_own (to_come limits past κ) in
    let front : forward_of_one (packets.Publish p) (Some k) f ≡ Forward.Publish id k ∷ f = ap (λ d. forward_of_one (packets.Publish (record p { delivery = d })) (Some k) f) two in
    let here : is_current current κ.name ≡ true = ap (λ (z : Option ConnectionName). is_current z κ.name) o.current ∙ same_itself κ.name in
    ap next_of (ap (transit_of_own limits past current online) o.last ∙ link_is limits past current online (Some κ)
    ∙ ap₂ (λ c g. link_by c online g b) here (taken_front κ (record { packet = packets.Publish p; number = Some k }) o.next ∙ front))
    ∙ next_link online (Forward.Publish id k) f b

again_known : (limits : Limits) (past : Past) (keeper : Keeper) (connections : List ClientConnection) (i : ℕ) (κ : ClientConnection) (p : Publish) (k : ℕ) (d : Delivery)
    → p.delivery ≡ d → IsGood (as_publisher limits (story_by past connections keeper)) → OnCurrent limits past keeper connections i κ (record { packet = packets.Publish p; number = Some k })
    → is_repeat past keeper.client d ≡ true → In k (new_numbers connections past)
again_known limits past keeper connections i κ p k (deliveries.ExactlyOnce dup id) e good o known =
    good_repeat (as_publisher limits (story_by past connections keeper)) good id k (next_there limits past keeper connections i κ p dup id k e o) known
again_known limits past keeper connections i κ p k deliveries.AtMostOnce e good o known = absurd (both_ways false refl known)
again_known limits past keeper connections i κ p k (deliveries.AtLeastOnce dup id) e good o known = absurd (both_ways false refl known)

-- ---- the mark of a PUBLISH of the current connection

pub only_again : (r f : Bool) (c : Client) → is_again (if r then Mark.Repeat c else if f then Mark.Refused c else Mark.Taken c) ≡ true → r ≡ true
only_again true f c e = refl
only_again false true c e = absurd (both_ways false refl e)
only_again false false c e = absurd (both_ways false refl e)

only_own : (r f : Bool) (c d : Client) → (if r then Mark.Repeat c else if f then Mark.Refused c else Mark.Taken c) ≡ Mark.Taken d → d ≡ c
only_own true f c d e = cc
only_own false true c d e = cc
only_own false false c d e = cc

-- ---- the place

-- a PUBLISH of one of the client's connections, after its CONNECT
publish_says : (limits : Limits) (past : Past) (keeper : Keeper) (connections : List ClientConnection) (ps : List Publication) (i n : ℕ) (κ : ClientConnection) (p : Publish) (number : Option ℕ)
    → HasShape limits (story_by past connections keeper) → IsGood (as_publisher limits (story_by past connections keeper)) → slice_get connections i ≡ Some κ
    → slice_get κ.written κ.taken ≡ Some (record { packet = packets.Publish p; number = number }) → κ.taken ≡ suc n → IsOf ps (packets.Publish p) number
    → Says keeper.client ps (with_one_counted i connections) (place_of limits past (commands.Packet κ.name (packets.Publish p))) past
publish_says limits past keeper connections ps i n κ p None shape good stands next some of =
    let this = each_there (ConnectionInShape limits past keeper.client) i connections κ stands shape.connections in
    says_nothing keeper.client ps (with_one_counted i connections) (place_of limits past (commands.Packet κ.name (packets.Publish p))) past
    (carries_it past i connections κ (record { packet = packets.Publish p; number = None }) Mark.Unmarked shape.names_apart stands next this.counted)
publish_says limits past keeper connections ps i n κ p (Some j) shape good stands next some of =
    record {
      known = λ k e again. subst (λ (m : ℕ). In m (new_numbers (with_one_counted i connections) past)) (number_is k e)
          (subst (In j) (sym (same_numbers connections (with_one_counted i connections) past (same_counted past i connections))) (known again));
      own = λ k e d taken. own d taken;
      of = λ k x q e is.
          let same : p ≡ q = publish_is q x is in
          subst (λ (r : Publish). slice_get ps k ≡ Some (publication_of r)) same (subst (λ (m : ℕ). slice_get ps m ≡ Some (publication_of p)) (number_is k e) of);
    }
  where
    w : Written
    w = record { packet = packets.Publish p; number = Some j }

    c : Client
    c = keeper.client

    mark : Mark
    mark = mark_of limits past (commands.Packet κ.name (packets.Publish p))

    publish_is : (q : Publish) (x : ConnectionName) → commands.Packet κ.name (packets.Publish p) ≡ commands.Packet x (packets.Publish q) → p ≡ q
    publish_is q x e = cc

    carried : written_number_at (packet_count κ.name past) (connection_named κ.name (with_one_counted i connections)) ≡ Some j
    carried = carries_it past i connections κ w Mark.Unmarked shape.names_apart stands next (each_there (ConnectionInShape limits past keeper.client) i connections κ stands shape.connections).counted

    number_is : (k : ℕ) → written_number_at (packet_count κ.name past) (connection_named κ.name (with_one_counted i connections)) ≡ Some k → j ≡ k
    number_is k e = let found : Some j ≡ Some k = sym carried ∙ e in cc

    -- the connection is the current one, or it has no client
    marked : (mark ≡ packet_mark limits past c (packets.Publish p)) × (current_connection past c ≡ Some κ.name) ⊎ (mark ≡ Mark.Unmarked)
    marked = by (current_or_not (current_connection past c) κ.name)
      where
        by : (current_connection past c ≡ Some κ.name) ⊎ (current_connection past c ≡ Some κ.name → ⊥)
            → (mark ≡ packet_mark limits past c (packets.Publish p)) × (current_connection past c ≡ Some κ.name) ⊎ (mark ≡ Mark.Unmarked)
        by (inl current) = inl (ap (packet_mark_of limits past (packets.Publish p)) (own_owner past c connections κ.name shape.nobody_else (is_named i connections κ stands) current), current)
        by (inr not) = inr (ap (packet_mark_of limits past (packets.Publish p)) (none_owns past c connections κ.name shape.nobody_else (is_named i connections κ stands) not))

    known : is_again mark ≡ true → In j (new_numbers connections past)
    known again = by marked
      where
        by : (mark ≡ packet_mark limits past c (packets.Publish p)) × (current_connection past c ≡ Some κ.name) ⊎ (mark ≡ Mark.Unmarked) → In j (new_numbers connections past)
        by (inl (m, current)) =
            again_known limits past keeper connections i κ p j p.delivery refl good (on_current limits past keeper connections i κ n w shape stands next some current)
            (only_again (is_repeat past c p.delivery) (is_refused limits past (publication_of p)) c (sym (ap is_again m) ∙ again))
        by (inr none) = absurd (both_ways (is_again mark) (ap is_again none) again)

    own : (d : Client) → mark ≡ Mark.Taken d → d ≡ c
    own d taken = by marked
      where
        by : (mark ≡ packet_mark limits past c (packets.Publish p)) × (current_connection past c ≡ Some κ.name) ⊎ (mark ≡ Mark.Unmarked) → d ≡ c
        by (inl (m, current)) = only_own (is_repeat past c p.delivery) (is_refused limits past (publication_of p)) c d (sym m ∙ taken)
        by (inr none) = let found : Mark.Unmarked ≡ Mark.Taken d = sym none ∙ taken in cc

-- a CONNECT is no PUBLISH
no_connect : (q : Connect) (p : Publish) → packets.Connect q ≡ packets.Publish p → ⊥
no_connect q p e = cc

no_publish : (c : Client) (p : Publish) (number : Option ℕ) → Some (opening_connect c) ≡ Some (let w : Written = record { packet = packets.Publish p; number = number } in w) → ⊥
no_publish c p number e =
    let same : opening_connect c ≡ (let w : Written = record { packet = packets.Publish p; number = number } in w) = cc in
    no_connect (record { client = c; clean = false; keep_alive = 0 }) p (ap (λ (w : Written). w.packet) same)

-- any packet of one of the client's connections
pub taken_says : (limits : Limits) (past : Past) (keeper : Keeper) (connections : List ClientConnection) (ps : List Publication) (i : ℕ) (κ : ClientConnection) (packet : Packet) (number : Option ℕ) (n : ℕ)
    → HasShape limits (story_by past connections keeper) → IsGood (as_publisher limits (story_by past connections keeper)) → slice_get connections i ≡ Some κ
    → slice_get κ.written κ.taken ≡ Some (record { packet = packet; number = number }) → κ.taken ≡ n → IsOf ps packet number
    → Says keeper.client ps (with_one_counted i connections) (place_of limits past (command_of κ.name n packet)) past
taken_says limits past keeper connections ps i κ (packets.Publish p) number zero shape good stands next some of =
    let this = each_there (ConnectionInShape limits past keeper.client) i connections κ stands shape.connections in
    absurd (no_publish keeper.client p number (sym (ap (λ ws. slice_get ws 0) this.written) ∙ ap (slice_get κ.written) (sym some) ∙ next))
taken_says limits past keeper connections ps i κ (packets.Publish p) number (suc n) shape good stands next some of =
    publish_says limits past keeper connections ps i n κ p number shape good stands next some of
taken_says limits past keeper connections ps i κ (packets.Connect q) number zero shape good stands next some of =
    says_nothing keeper.client ps (with_one_counted i connections) (place_of limits past (command_of κ.name zero (packets.Connect q))) past refl
taken_says limits past keeper connections ps i κ packet number zero shape good stands next some of =
    says_nothing keeper.client ps (with_one_counted i connections) (place_of limits past (command_of κ.name zero packet)) past refl
taken_says limits past keeper connections ps i κ packet number (suc n) shape good stands next some of =
    says_nothing keeper.client ps (with_one_counted i connections) (place_of limits past (command_of κ.name (suc n) packet)) past refl
