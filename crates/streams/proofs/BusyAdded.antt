-- BusyAdded.antt: connections that are added one after another, none of an idle lane.
use Rattle.std.proofs.Common.{◌≡◌, ℕ, zero, suc, ◌+◌, ◌≤◌, Bool, true, false, nat_le, if◌then◌else◌, List, [], ◌∷◌, ◌++◌, Option, Some, None, refl, sym, ◌∙◌, ap, arith, add-one, append-nil, append_assoc, length-append}
use Rattle.std.proofs.lemmas.Bool.{cond-false, cond-true, le-leb, lt-leb}
use Rattle.lists.specs.Lists.{Each}
use Rattle.slab.specs.Slab.{Slab, get}
use Rattle.streams.specs.ListedConnections.{AddsBusy, busy_at, busy_between, is_lane_idle, connection_listed_at}
use Rattle.streams.specs.declared.idle_lanes.IdleLanes.{IdleLanes}
use Rattle.streams.specs.declared.link.Link.{Link}

each_join : {A : Type 0} (P : A → Type 0) (xs ys : List A) → Each P xs → Each P ys → Each P (xs ++ ys)
each_join P [] ys first next = next
each_join P (x ∷ xs) ys first next = (first.0, each_join P xs ys first.1 next)

pub adds_none : {H : Type 0} (idle : IdleLanes) (most : ℕ) (before after : List (Link H)) → after ≡ before → AddsBusy idle most before after
adds_none idle most before after same = record {
  added = [];
  is = same ∙ sym (append-nil before);
  busy = tt;
  few = omega arith;
}

-- the connection of one index, if its lane is not idle and there is memory for it
pub adds_at : {H A : Type 0} (link_of : A → Link H) (idle : IdleLanes) (before after : List (Link H)) (all : Bool) (slot : Option A)
    → (all ≡ true → after ≡ before ++ busy_at link_of idle slot) → (all ≡ false → after ≡ before)
    → AddsBusy idle 1 before after
adds_at link_of idle before after false slot is same = adds_none idle 1 before after (same refl)
adds_at link_of idle before after true None is same = adds_none idle 1 before after (is refl ∙ append-nil before)
adds_at link_of idle before after true (Some link) is same = by (is_lane_idle idle (link_of link).port) refl (is refl)
  where
    by : (b : Bool) → is_lane_idle idle (link_of link).port ≡ b
        → after ≡ before ++ (if b then [] else link_of link ∷ []) → AddsBusy idle 1 before after
    by true idles is = adds_none idle 1 before after (is ∙ append-nil before)
    by false busy is = record { added = link_of link ∷ []; is = is; busy = (busy, tt); few = omega arith }

-- no connection is listed
pub none_at : {H A : Type 0} (link_of : A → Link H) (idle : IdleLanes) (before : List (Link H)) (slot : Option A) → slot ≡ None
    → before ≡ before ++ busy_at link_of idle slot
none_at link_of idle before slot none =
    sym (ap (λ s. before ++ busy_at link_of idle s) none ∙ append-nil before)

-- the lane of the listed connection is idle
pub idle_at : {H A : Type 0} (link_of : A → Link H) (idle : IdleLanes) (before : List (Link H)) (slot : Option A) (link : A) → slot ≡ Some link
    → is_lane_idle idle (link_of link).port ≡ true → before ≡ before ++ busy_at link_of idle slot
idle_at link_of idle before slot link is idles =
    sym (ap (λ s. before ++ busy_at link_of idle s) is
    ∙ (ap (λ (b : Bool). before ++ (if b then [] else link_of link ∷ [])) idles ∙ append-nil before))

-- a push that failed
pub not_pushed : {X : Type 0} (ok : Bool) (pushed old new : List X) → new ≡ (if ok then pushed else old) → ok ≡ false → new ≡ old
not_pushed ok pushed old new is failed = is ∙ ap (λ (b : Bool). if b then pushed else old) failed

-- no index lies between one and itself
pub between_none : {H A : Type 0} (link_of : A → Link H) (idle : IdleLanes) (slots : Slab (Option A)) (first : ℕ)
    → busy_between link_of idle slots first first ≡ []
between_none link_of idle slots zero = refl
between_none link_of idle slots (suc n) =
    cond-false (nat_le (suc n) n) (busy_between link_of idle slots (suc n) n ++ busy_at link_of idle (connection_listed_at (get slots n))) []
    (lt-leb (suc n) n (omega arith))

-- one index more
pub between_more : {H A : Type 0} (link_of : A → Link H) (idle : IdleLanes) (slots : Slab (Option A)) (first at : ℕ)
    (before mid after : List (Link H)) → first ≤ at
    → mid ≡ before ++ busy_between link_of idle slots first at
    → after ≡ mid ++ busy_at link_of idle (connection_listed_at (get slots at))
    → after ≡ before ++ busy_between link_of idle slots first (at + 1)
between_more {H = H} link_of idle slots first at before mid after least was adds =
    let one = busy_at link_of idle (connection_listed_at (get slots at)) in
    let others = busy_between link_of idle slots first at in
    adds
    ∙ (ap (λ (links : List (Link H)). links ++ one) was
    ∙ (append_assoc before others one
    ∙ ap (λ (links : List (Link H)). before ++ links)
    (sym (ap (busy_between link_of idle slots first) (add-one at)
    ∙ cond-true (nat_le first at) (others ++ one) [] (le-leb first at least)))))

-- more that are added
pub adds_join : {H : Type 0} (idle : IdleLanes) (few more most : ℕ) (before between after : List (Link H))
    → AddsBusy idle few before between → AddsBusy idle more between after → few + more ≤ most
    → AddsBusy idle most before after
adds_join {H = H} idle few more most before between after first next sum = record {
  added = first.added ++ next.added;
  is = next.is ∙ (ap (λ (links : List (Link H)). links ++ next.added) first.is ∙ append_assoc before first.added next.added);
  busy = each_join (λ (link : Link H). is_lane_idle idle link.port ≡ false) first.added next.added first.busy next.busy;
  few = let a = first.few in let b = next.few in omega (arith, length-append first.added next.added, a, b, sum);
}

pub adds_wider : {H : Type 0} (idle : IdleLanes) (few most : ℕ) (before after : List (Link H))
    → AddsBusy idle few before after → few ≤ most → AddsBusy idle most before after
adds_wider idle few most before after adds least = record {
  added = adds.added;
  is = adds.is;
  busy = adds.busy;
  few = let a = adds.few in omega (arith, a, least);
}
