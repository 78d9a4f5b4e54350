-- A publication that comes with an identifier that the receiver knows was accepted before.
use Rattle.std.proofs.Common.{◌≡◌, ℕ, Bool, true, false, List, [], ◌∷◌, ◌++◌, map, Some, sym, ◌∙◌, subst, ap}
use Rattle.std.proofs.lemmas.Bool.{both_ways}
use Rattle.std.proofs.lemmas.List.{append-nil}
use Rattle.lists.specs.Lists.{In, Each}
use Rattle.lists.specs.Lists.In.{here, there}
use Rattle.exactly_once.specs.Items.{SenderItem, value_of, sent}
use Rattle.exactly_once.specs.Handshake.{Forward, Transit, Handshake}
use Rattle.exactly_once.specs.HandshakeSteps.{opening_handshake}
use Rattle.exactly_once.specs.HandshakeInvariant.{IsNew, IsSent, FitsTransit, IsGood, ComesToReceiver, publishes_in_transit}
use Rattle.exactly_once.specs.Exact.{next_of, RepeatsWereAccepted}
use Rattle.exactly_once.proofs.Exact.{good_run, good_opening}
use Rattle.exactly_once.proofs.ItemsKnown.{cons_is}

-- the value of a row that is sent is that of an item
sent_value : {V : Type 0} (row : ℕ × V) (items : List (SenderItem V)) → In row (sent items) → In row.1 (map value_of items)
sent_value row [] i = elim i [ ]
sent_value row (SenderItem.Queued v ∷ items) i = there (sent_value row items i)
sent_value row (SenderItem.Sent v id ∷ items) here = here
sent_value row (SenderItem.Sent v id ∷ items) (there i) = there (sent_value row items i)
sent_value row (SenderItem.Released v id ∷ items) i = there (sent_value row items i)
sent_value row (SenderItem.Done v ∷ items) i = there (sent_value row items i)

-- one that is not accepted has an identifier that the receiver does not know
new_unknown : {V : Type 0} (received : ℕ → Bool) (row : ℕ × V) (items : List (SenderItem V)) → Each (IsNew received) items → In row (sent items) → received row.0 ≡ false
new_unknown received row [] h i = elim i [ ]
new_unknown received row (SenderItem.Queued v ∷ items) h i = new_unknown received row items h.1 i
new_unknown received row (SenderItem.Sent v id ∷ items) h here = h.0
new_unknown received row (SenderItem.Sent v id ∷ items) h (there i) = new_unknown received row items h.1 i
new_unknown received row (SenderItem.Released v id ∷ items) h i = elim h.0 [ ]
new_unknown received row (SenderItem.Done v ∷ items) h i = elim h.0 [ ]

-- the first of what comes, by whether the receiver has it
first_known : {V : Type 0} (received : ℕ → Bool) (old new : List (SenderItem V)) (row : ℕ × V) (rows again next more : List (ℕ × V)) → Each (IsNew received) new → received row.0 ≡ true
    → row ∷ rows ≡ again ++ next → Each (IsSent old) again → sent new ≡ next ++ more → In row.1 (map value_of old)
first_known {V = X} received old new row rows (r ∷ again) next more news known is sents front =
    let same = cons_is row r rows (again ++ next) is in
    subst (λ (z : ℕ × X). In z.1 (map value_of old)) (sym same.0) (sent_value r old sents.0)
first_known {V = X} received old new row rows [] next more news known is sents front =
    let first : sent new ≡ row ∷ (rows ++ more) = front ∙ ap (λ z. z ++ more) (sym is) in
    let there' : In row (sent new) = subst (λ (z : List (ℕ × X)). In row z) (sym first) here in
    absurd (both_ways (received row.0) (new_unknown received row new news there') known)

some_is : {A : Type 0} (x y : A) → Some x ≡ Some y → x ≡ y
some_is x y e = cc

link_known : {V : Type 0} (received : ℕ → Bool) (old new : List (SenderItem V)) (l : Transit V) (id : ℕ) (v : V) → Each (IsNew received) new → FitsTransit received old new l
    → next_of l ≡ Some (Forward.Publish id v) → received id ≡ true → In v (map value_of old)
link_known {V = X} received old new (Transit.Joined (m ∷ f) b) id v news j e known =
    let c = subst (λ (z : Forward X). ComesToReceiver old (z ∷ f) (sent new)) (some_is m (Forward.Publish id v) e) j.comes in
    first_known received old new (id, v) (publishes_in_transit f) c.again (sent new) [] news known c.is c.known (sym (append-nil (sent new)))
link_known {V = X} received old new (Transit.Ahead (m ∷ f)) id v news j e known =
    let c = subst (λ (z : Forward X). ComesToReceiver old (z ∷ f) j.next) (some_is m (Forward.Publish id v) e) j.comes in
    first_known received old new (id, v) (publishes_in_transit f) c.again j.next j.more news known c.is c.known j.prefix
link_known received old new (Transit.Joined [] b) id v news j e known = cc
link_known received old new (Transit.Ahead []) id v news j e known = cc
link_known received old new (Transit.Behind b) id v news j e known = cc

pub good_repeat : {V : Type 0} (h : Handshake V) → IsGood h → (id : ℕ) (v : V) → next_of h.transit ≡ Some (Forward.Publish id v) → h.received id ≡ true → In v h.accepted
good_repeat {V = X} h g id v e known =
    subst (λ (z : List X). In v z) (sym g.sides.accepted_is) (link_known h.received g.old g.new h.transit id v g.sides.news g.transit e known)

pub repeats_were_accepted : (V : Type 0) → RepeatsWereAccepted V
repeats_were_accepted V h run = good_repeat h (good_run (opening_handshake V) h (good_opening V) run)
