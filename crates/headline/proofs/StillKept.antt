-- What of a client's QoS 2 publications is not new yet, it still keeps.
use Rattle.std.proofs.Common.{◌≡◌, ◌+◌, ℕ, suc, Bool, true, false, if◌then◌else◌, List, [], ◌∷◌, ◌++◌, map, Option, Some, refl, sym, ap, ap₂, ◌∙◌, subst, arith}
use Rattle.std.specs.Prelude.{slice_get}
use Rattle.session_base.specs.declared.publication.Publication.{Publication}
use Rattle.client_base.specs.History as history
use Rattle.client_base.specs.History.{IsSentFirst, sent_of, queued_of}
use Rattle.client_base.specs.Keeper.{Keeper, Own}
use Rattle.client_base.specs.State.{ClientState}
use Rattle.client_base.specs.declared.unacknowledged_publication.UnacknowledgedPublication.{UnacknowledgedPublication}
use Rattle.exactly_once.specs.Items.{SenderItem, value_of}
use Rattle.exactly_once.specs.HandshakeInvariant.{IsNew}
use Rattle.lists.specs.Lists.{Each}
use Rattle.exactly_once.specs.Carried.{is_qos2, own_publication, own_publications}
use Rattle.exactly_once.specs.Inside.Projections.{items_of_own}
use Rattle.exactly_once.specs.Inside.OwnShape.{AreNumberedFrom}
use Rattle.headline.specs.Shown.{at_qos2, unacknowledged_of}

-- ---- of a handshake

-- those that wait, or are sent
abbrev pub kept_values : List (SenderItem ℕ) → List ℕ
kept_values (SenderItem.Queued v ∷ items) = v ∷ kept_values items
kept_values (SenderItem.Sent v id ∷ items) = v ∷ kept_values items
kept_values (SenderItem.Released v id ∷ items) = kept_values items
kept_values (SenderItem.Done v ∷ items) = kept_values items
kept_values [] = []

pub kept_both : (old new : List (SenderItem ℕ)) → kept_values (old ++ new) ≡ kept_values old ++ kept_values new
kept_both [] new = refl
kept_both (SenderItem.Queued v ∷ old) new = ap (λ (l : List ℕ). v ∷ l) (kept_both old new)
kept_both (SenderItem.Sent v id ∷ old) new = ap (λ (l : List ℕ). v ∷ l) (kept_both old new)
kept_both (SenderItem.Released v id ∷ old) new = kept_both old new
kept_both (SenderItem.Done v ∷ old) new = kept_both old new

-- all that the receiver does not have are
pub new_kept : (received : ℕ → Bool) (new : List (SenderItem ℕ)) → Each (IsNew received) new → kept_values new ≡ map value_of new
new_kept received [] all = refl
new_kept received (SenderItem.Queued v ∷ new) all = ap (λ (l : List ℕ). v ∷ l) (new_kept received new all.1)
new_kept received (SenderItem.Sent v id ∷ new) all = ap (λ (l : List ℕ). v ∷ l) (new_kept received new all.1)
new_kept received (SenderItem.Released v id ∷ new) all = absurd all.0
new_kept received (SenderItem.Done v ∷ new) all = absurd all.0

-- ---- of a client

abbrev kept_own : List Own → List Publication
kept_own (Own.Queued k p id ∷ own) = p ∷ kept_own own
kept_own (Own.Sent k p id ∷ own) = p ∷ kept_own own
kept_own (Own.Released k p id ∷ own) = kept_own own
kept_own (Own.Done k p ∷ own) = kept_own own
kept_own [] = []

abbrev publication_kept : UnacknowledgedPublication → Publication
publication_kept k = k.publication

-- if none was sent
none_sent : (own : List Own) → sent_of own ≡ [] → map publication_kept (queued_of own) ≡ kept_own own
none_sent [] e = refl
none_sent (Own.Queued k p id ∷ own) e = ap (λ (l : List Publication). p ∷ l) (none_sent own e)
none_sent (Own.Sent k p id ∷ own) e = cc
none_sent (Own.Released k p id ∷ own) e = none_sent own e
none_sent (Own.Done k p ∷ own) e = none_sent own e

kept_in_order : (own : List Own) → IsSentFirst own → map publication_kept (sent_of own ++ queued_of own) ≡ kept_own own
kept_in_order [] first = refl
kept_in_order (Own.Queued k p id ∷ own) first =
    ap (λ (l : List UnacknowledgedPublication). map publication_kept (l ++ queued_of (Own.Queued k p id ∷ own))) first.0 ∙ ap (λ (l : List Publication). p ∷ l) (none_sent own first.0)
kept_in_order (Own.Sent k p id ∷ own) first = ap (λ (l : List Publication). p ∷ l) (kept_in_order own first)
kept_in_order (Own.Released k p id ∷ own) first = kept_in_order own first
kept_in_order (Own.Done k p ∷ own) first = kept_in_order own first

kept_is : (keeper : Keeper) (state : ClientState) → history.KeeperStandsFor keeper state → unacknowledged_of state ≡ kept_own keeper.own
kept_is keeper state s = ap₂ (λ (a b : List UnacknowledgedPublication). map publication_kept (a ++ b)) s.sent s.queued ∙ kept_in_order keeper.own s.sent_first

-- ---- by number

-- these are in the whole from number n on
abbrev pub StandFrom : List Publication → ℕ → List Own → Type 0
StandFrom ps n own = (j : ℕ) → slice_get ps (n + j) ≡ slice_get (own_publications own) j

pub after : (ps : List Publication) (n : ℕ) (o : Own) (own : List Own) → StandFrom ps n (o ∷ own) → StandFrom ps (suc n) own
after ps n o own stand j =
    let same : n + suc j ≡ suc n + j = omega arith in
    subst (λ (m : ℕ). slice_get ps m ≡ slice_get (own_publications own) j) same (stand (suc j))

pub first_is : (ps : List Publication) (n k : ℕ) (o : Own) (own : List Own) → k ≡ n → StandFrom ps n (o ∷ own) → slice_get ps k ≡ Some (own_publication o)
first_is ps n k o own e stand =
    let same : n + 0 ≡ k = omega (arith, e) in
    subst (λ (m : ℕ). slice_get ps m ≡ Some (own_publication o)) same (stand 0)

abbrev pub some_of : List Publication → List (Option Publication)
some_of = map (λ (p : Publication). Some p)

one_two : (get : ℕ → Option Publication) (b : Bool) (item : SenderItem ℕ) (k : ℕ) (p : Publication) (items : List (SenderItem ℕ)) (ps : List Publication) → value_of item ≡ k → get k ≡ Some p
    → map get (map value_of items) ≡ some_of ps → map get (map value_of (if b then item ∷ items else items)) ≡ some_of (if b then p ∷ ps else ps)
one_two get true item k p items ps value is more = ap₂ (λ (x : Option Publication) l. x ∷ l) (ap get value ∙ is) more
one_two get false item k p items ps value is more = more

-- all that it published at QoS 2
pub two_numbered : (ps : List Publication) (n : ℕ) (own : List Own) → AreNumberedFrom n own → StandFrom ps n own
    → map (slice_get ps) (map value_of (items_of_own own)) ≡ some_of (at_qos2 (own_publications own))
two_numbered ps n [] h stand = refl
two_numbered ps n (Own.Queued k p id ∷ own) h stand =
    one_two (slice_get ps) (is_qos2 p.qos) (SenderItem.Queued k) k p (items_of_own own) (at_qos2 (own_publications own)) refl (first_is ps n k (Own.Queued k p id) own h.0 stand)
    (two_numbered ps (suc n) own h.1 (after ps n (Own.Queued k p id) own stand))
two_numbered ps n (Own.Sent k p id ∷ own) h stand =
    one_two (slice_get ps) (is_qos2 p.qos) (SenderItem.Sent k id) k p (items_of_own own) (at_qos2 (own_publications own)) refl (first_is ps n k (Own.Sent k p id) own h.0 stand)
    (two_numbered ps (suc n) own h.1 (after ps n (Own.Sent k p id) own stand))
two_numbered ps n (Own.Released k p id ∷ own) h stand =
    one_two (slice_get ps) (is_qos2 p.qos) (SenderItem.Released k id) k p (items_of_own own) (at_qos2 (own_publications own)) refl (first_is ps n k (Own.Released k p id) own h.0 stand)
    (two_numbered ps (suc n) own h.2 (after ps n (Own.Released k p id) own stand))
two_numbered ps n (Own.Done k p ∷ own) h stand =
    one_two (slice_get ps) (is_qos2 p.qos) (SenderItem.Done k) k p (items_of_own own) (at_qos2 (own_publications own)) refl (first_is ps n k (Own.Done k p) own h.0 stand)
    (two_numbered ps (suc n) own h.1 (after ps n (Own.Done k p) own stand))

-- one that it keeps, and one that it does not
one_kept : (get : ℕ → Option Publication) (b : Bool) (k : ℕ) (p : Publication) (item : SenderItem ℕ) (items : List (SenderItem ℕ)) (ps : List Publication)
    → kept_values (item ∷ items) ≡ k ∷ kept_values items → get k ≡ Some p → map get (kept_values items) ≡ some_of ps
    → map get (kept_values (if b then item ∷ items else items)) ≡ some_of (if b then p ∷ ps else ps)
one_kept get true k p item items ps kept is more = ap (map get) kept ∙ ap₂ (λ (x : Option Publication) l. x ∷ l) is more
one_kept get false k p item items ps kept is more = more

none_kept : (get : ℕ → Option Publication) (b : Bool) (item : SenderItem ℕ) (items : List (SenderItem ℕ)) (ps : List Publication) → kept_values (item ∷ items) ≡ kept_values items
    → map get (kept_values items) ≡ some_of ps → map get (kept_values (if b then item ∷ items else items)) ≡ some_of ps
none_kept get true item items ps kept more = ap (map get) kept ∙ more
none_kept get false item items ps kept more = more

kept_numbered : (ps : List Publication) (n : ℕ) (own : List Own) → AreNumberedFrom n own → StandFrom ps n own
    → map (slice_get ps) (kept_values (items_of_own own)) ≡ some_of (at_qos2 (kept_own own))
kept_numbered ps n [] h stand = refl
kept_numbered ps n (Own.Queued k p id ∷ own) h stand =
    one_kept (slice_get ps) (is_qos2 p.qos) k p (SenderItem.Queued k) (items_of_own own) (at_qos2 (kept_own own)) refl (first_is ps n k (Own.Queued k p id) own h.0 stand)
    (kept_numbered ps (suc n) own h.1 (after ps n (Own.Queued k p id) own stand))
kept_numbered ps n (Own.Sent k p id ∷ own) h stand =
    one_kept (slice_get ps) (is_qos2 p.qos) k p (SenderItem.Sent k id) (items_of_own own) (at_qos2 (kept_own own)) refl (first_is ps n k (Own.Sent k p id) own h.0 stand)
    (kept_numbered ps (suc n) own h.1 (after ps n (Own.Sent k p id) own stand))
kept_numbered ps n (Own.Released k p id ∷ own) h stand =
    none_kept (slice_get ps) (is_qos2 p.qos) (SenderItem.Released k id) (items_of_own own) (at_qos2 (kept_own own)) refl
    (kept_numbered ps (suc n) own h.2 (after ps n (Own.Released k p id) own stand))
kept_numbered ps n (Own.Done k p ∷ own) h stand =
    none_kept (slice_get ps) (is_qos2 p.qos) (SenderItem.Done k) (items_of_own own) (at_qos2 (kept_own own)) refl
    (kept_numbered ps (suc n) own h.1 (after ps n (Own.Done k p) own stand))

-- ---- both

pub whole_stands : (own : List Own) → StandFrom (own_publications own) 0 own
whole_stands own j = let same : 0 + j ≡ j = omega arith in ap (slice_get (own_publications own)) same

pub two_published : (own : List Own) → AreNumberedFrom 0 own → map (slice_get (own_publications own)) (map value_of (items_of_own own)) ≡ some_of (at_qos2 (own_publications own))
two_published own numbered = two_numbered (own_publications own) 0 own numbered (whole_stands own)

pub two_kept : (keeper : Keeper) (state : ClientState) → history.KeeperStandsFor keeper state → AreNumberedFrom 0 keeper.own
    → map (slice_get (own_publications keeper.own)) (kept_values (items_of_own keeper.own)) ≡ some_of (at_qos2 (unacknowledged_of state))
two_kept keeper state s numbered =
    kept_numbered (own_publications keeper.own) 0 keeper.own numbered (whole_stands keeper.own) ∙ ap (λ (l : List Publication). some_of (at_qos2 l)) (sym (kept_is keeper state s))
