-- Identifiers of which some are removed stay distinct.
use Rattle.std.proofs.Common.{◌≡◌, ℕ, Bool, true, false, not, ◌&&◌, ◌==◌, if◌then◌else◌, List, [], ◌∷◌, ◌++◌, map, filter}
use Rattle.lists.specs.Lists.{has_id, IsDistinct}
use Rattle.session_base.specs.Publication.{is_qos1}
use Rattle.lists.proofs.Tests.{or_none, none_or}
use Rattle.client_base.specs.Keeper.{Own, ids_of_own}
use Rattle.client_base.specs.declared.request.Request.{Request}
use Rattle.client_base.specs.Handshakes.{own_at_puback, own_at_pubrec, own_at_pubcomp}
use Rattle.client_base.specs.State.{id_of_request}

-- the first ones are among the second ones, in order
pub data IsFewer : List ℕ → List ℕ → Type 0 where
  none : IsFewer [] []
  keeps : {x : ℕ} {xs ys : List ℕ} → IsFewer xs ys → IsFewer (x ∷ xs) (x ∷ ys)
  skips : {x : ℕ} {xs ys : List ℕ} → IsFewer xs ys → IsFewer xs (x ∷ ys)

pub fewer_itself : (xs : List ℕ) → IsFewer xs xs
fewer_itself [] = IsFewer.none
fewer_itself (x ∷ xs) = IsFewer.keeps (fewer_itself xs)

pub fewer_both : (xs ys us vs : List ℕ) → IsFewer xs ys → IsFewer us vs → IsFewer (xs ++ us) (ys ++ vs)
fewer_both xs ys us vs IsFewer.none g = g
fewer_both xs ys us vs (IsFewer.keeps {xs = ps} {ys = qs} f) g = IsFewer.keeps (fewer_both ps qs us vs f g)
fewer_both xs ys us vs (IsFewer.skips {xs = ps} {ys = qs} f) g = IsFewer.skips (fewer_both xs qs us vs f g)

fewer_has : (i : ℕ) (xs ys : List ℕ) → IsFewer xs ys → has_id i ys ≡ false → has_id i xs ≡ false
fewer_has i xs ys IsFewer.none e = e
fewer_has i xs ys (IsFewer.keeps {x = x} {xs = ps} {ys = qs} f) e =
    let h = or_none (i == x) (has_id i qs) e in none_or (i == x) (has_id i ps) h.0 (fewer_has i ps qs f h.1)
fewer_has i xs ys (IsFewer.skips {x = x} {ys = qs} f) e = fewer_has i xs qs f (or_none (i == x) (has_id i qs) e).1

pub fewer_distinct : (xs ys : List ℕ) → IsFewer xs ys → IsDistinct ys → IsDistinct xs
fewer_distinct xs ys IsFewer.none d = tt
fewer_distinct xs ys (IsFewer.keeps {x = x} {xs = ps} {ys = qs} f) d = (fewer_has x ps qs f d.0, fewer_distinct ps qs f d.1)
fewer_distinct xs ys (IsFewer.skips {x = x} {ys = qs} f) d = fewer_distinct xs qs f d.1

-- ---- what the answers leave

pub fewer_puback : (i : ℕ) (own : List Own) → IsFewer (ids_of_own (map (own_at_puback i) own)) (ids_of_own own)
fewer_puback i [] = IsFewer.none
fewer_puback i (Own.Queued k p id ∷ own) = IsFewer.keeps (fewer_puback i own)
fewer_puback i (Own.Sent k p id ∷ own) = by ((i == id) && is_qos1 p.qos) (fewer_puback i own)
  where
    by : (b : Bool) → IsFewer (ids_of_own (map (own_at_puback i) own)) (ids_of_own own)
        → IsFewer (ids_of_own ((if b then Own.Done k p else Own.Sent k p id) ∷ map (own_at_puback i) own)) (id ∷ ids_of_own own)
    by true ih = IsFewer.skips ih
    by false ih = IsFewer.keeps ih
fewer_puback i (Own.Released k p id ∷ own) = IsFewer.keeps (fewer_puback i own)
fewer_puback i (Own.Done k p ∷ own) = fewer_puback i own

pub fewer_pubrec : (i : ℕ) (own : List Own) → IsFewer (ids_of_own (map (own_at_pubrec i) own)) (ids_of_own own)
fewer_pubrec i [] = IsFewer.none
fewer_pubrec i (Own.Queued k p id ∷ own) = IsFewer.keeps (fewer_pubrec i own)
fewer_pubrec i (Own.Sent k p id ∷ own) = by ((i == id) && not (is_qos1 p.qos)) (fewer_pubrec i own)
  where
    by : (b : Bool) → IsFewer (ids_of_own (map (own_at_pubrec i) own)) (ids_of_own own)
        → IsFewer (ids_of_own ((if b then Own.Released k p id else Own.Sent k p id) ∷ map (own_at_pubrec i) own)) (id ∷ ids_of_own own)
    by true ih = IsFewer.keeps ih
    by false ih = IsFewer.keeps ih
fewer_pubrec i (Own.Released k p id ∷ own) = IsFewer.keeps (fewer_pubrec i own)
fewer_pubrec i (Own.Done k p ∷ own) = fewer_pubrec i own

pub fewer_pubcomp : (i : ℕ) (own : List Own) → IsFewer (ids_of_own (map (own_at_pubcomp i) own)) (ids_of_own own)
fewer_pubcomp i [] = IsFewer.none
fewer_pubcomp i (Own.Queued k p id ∷ own) = IsFewer.keeps (fewer_pubcomp i own)
fewer_pubcomp i (Own.Sent k p id ∷ own) = IsFewer.keeps (fewer_pubcomp i own)
fewer_pubcomp i (Own.Released k p id ∷ own) = by (i == id) (fewer_pubcomp i own)
  where
    by : (b : Bool) → IsFewer (ids_of_own (map (own_at_pubcomp i) own)) (ids_of_own own)
        → IsFewer (ids_of_own ((if b then Own.Done k p else Own.Released k p id) ∷ map (own_at_pubcomp i) own)) (id ∷ ids_of_own own)
    by true ih = IsFewer.skips ih
    by false ih = IsFewer.keeps ih
fewer_pubcomp i (Own.Done k p ∷ own) = fewer_pubcomp i own

pub fewer_requests : (test : Request → Bool) (rs : List Request) → IsFewer (map id_of_request (filter test rs)) (map id_of_request rs)
fewer_requests test [] = IsFewer.none
fewer_requests test (r ∷ rs) = by (test r) (fewer_requests test rs)
  where
    by : (b : Bool) → IsFewer (map id_of_request (filter test rs)) (map id_of_request rs)
        → IsFewer (map id_of_request (if b then r ∷ filter test rs else filter test rs)) (id_of_request r ∷ map id_of_request rs)
    by true ih = IsFewer.keeps ih
    by false ih = IsFewer.skips ih

pub fewer_filtered : (test : ℕ → Bool) (xs : List ℕ) → IsFewer (filter test xs) xs
fewer_filtered test [] = IsFewer.none
fewer_filtered test (x ∷ xs) = by (test x) (fewer_filtered test xs)
  where
    by : (b : Bool) → IsFewer (filter test xs) xs → IsFewer (if b then x ∷ filter test xs else filter test xs) (x ∷ xs)
    by true ih = IsFewer.keeps ih
    by false ih = IsFewer.skips ih
