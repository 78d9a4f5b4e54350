-- A granting and a giving up leave each filter once.
use Rattle.std.proofs.Common.{◌≡◌, ℕ, Bool, true, false, not, if◌then◌else◌, List, [], ◌∷◌, refl, sym}
use Rattle.std.specs.Prelude.{bytes_eq}
use Rattle.std.specs.Cmp.Lexicographic.{bytes_decides}
use Rattle.std.proofs.lemmas.Bool.{or_parts, or_from}
use Rattle.session_base.specs.Subscriptions.{GrantedSubscription, is_subscribed, with_subscription, without_filter}
use Rattle.session_base.specs.KeepingTheorems.{AreFiltersApart, FiltersStayApart}

-- texts that differ do so either way round
pub turned : (f g : List ℕ) → bytes_eq f g ≡ false → bytes_eq g f ≡ false
turned f g e = by (bytes_eq g f) refl
  where
    by : (b : Bool) → bytes_eq g f ≡ b → bytes_eq g f ≡ false
    by true h = let k : bytes_eq f g ≡ true = (bytes_decides f g).1 (sym ((bytes_decides g f).0 h)) in absurd (cc)
    by false h = h

held_with : (f : List ℕ) (new : GrantedSubscription) (held : List GrantedSubscription) → bytes_eq f new.0 ≡ false → is_subscribed f held ≡ false → is_subscribed f (with_subscription new held) ≡ false
held_with f new [] e h = or_from (bytes_eq f new.0) false e refl
held_with f new (old ∷ others) e h =
    by (bytes_eq new.0 old.0) (held_with f new others e (or_parts (bytes_eq f old.0) (is_subscribed f others) h).1)
  where
    by : (b : Bool) → is_subscribed f (with_subscription new others) ≡ false → is_subscribed f (if b then (old.0, new.1) ∷ others else old ∷ with_subscription new others) ≡ false
    by true more = h
    by false more = or_from (bytes_eq f old.0) (is_subscribed f (with_subscription new others)) (or_parts (bytes_eq f old.0) (is_subscribed f others) h).0 more

apart_with : (new : GrantedSubscription) (held : List GrantedSubscription) → AreFiltersApart held → AreFiltersApart (with_subscription new held)
apart_with new [] h = (refl, tt)
apart_with new (old ∷ others) h = by (bytes_eq new.0 old.0) refl (apart_with new others h.1)
  where
    by : (b : Bool) → bytes_eq new.0 old.0 ≡ b → AreFiltersApart (with_subscription new others) → AreFiltersApart (if b then (old.0, new.1) ∷ others else old ∷ with_subscription new others)
    by true e more = h
    by false e more = (held_with old.0 new others (turned new.0 old.0 e) h.0, more)

held_without : (f g : List ℕ) (held : List GrantedSubscription) → is_subscribed f held ≡ false → is_subscribed f (without_filter g held) ≡ false
held_without f g [] h = h
held_without f g (old ∷ others) h =
    by (bytes_eq g old.0) (held_without f g others (or_parts (bytes_eq f old.0) (is_subscribed f others) h).1)
  where
    by : (b : Bool) → is_subscribed f (without_filter g others) ≡ false → is_subscribed f (if not b then old ∷ without_filter g others else without_filter g others) ≡ false
    by true more = more
    by false more = or_from (bytes_eq f old.0) (is_subscribed f (without_filter g others)) (or_parts (bytes_eq f old.0) (is_subscribed f others) h).0 more

apart_without : (g : List ℕ) (held : List GrantedSubscription) → AreFiltersApart held → AreFiltersApart (without_filter g held)
apart_without g [] h = h
apart_without g (old ∷ others) h = by (bytes_eq g old.0) (apart_without g others h.1)
  where
    by : (b : Bool) → AreFiltersApart (without_filter g others) → AreFiltersApart (if not b then old ∷ without_filter g others else without_filter g others)
    by true more = more
    by false more = (held_without old.0 g others h.0, more)

pub filters_stay_apart : FiltersStayApart
filters_stay_apart held h = (λ new. apart_with new held h, λ given_up. apart_without given_up held h)
