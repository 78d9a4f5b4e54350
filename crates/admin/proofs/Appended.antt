-- Appended.antt: what a page has after each of its parts.
use Rattle.std.proofs.Common.{◌≡◌, ℕ, ◌+◌, ◌<◌, ◌≤◌, List, [], ◌∷◌, ◌++◌, length, get_or, take, Result, Ok, Err, sym, ap, subst, ◌∙◌, append_assoc}
use Rattle.std.specs.Prelude.{OnOk}
use Rattle.std.specs.List.{flat_map}
use Rattle.std.proofs.lemmas.List.{take_more, take_all, append-nil, get_or_default}
use Rattle.std.proofs.lemmas.Grind.{flat_map-append}
use Rattle.json.specs.Token.{Token}
use Rattle.json.specs.Written.{Written, Writes}
use Rattle.admin.specs.Json.{Adds}
use Rattle.admin.specs.Metrics.{AddsText}

-- ---- lists

-- two parts
pub two_parts : {A : Type 0} (old mid new a b : List A) → mid ≡ old ++ a → new ≡ mid ++ b → new ≡ old ++ (a ++ b)
two_parts {A = A} old mid new a b first second =
    second ∙ ap (λ (l : List A). l ++ b) first ∙ append_assoc old a b

-- the last part, if there is one
pub last_part : {E A : Type 0} (r : Result (Unit {0}) E) (old mid new a b : List A)
    → mid ≡ old ++ a → OnOk r (new ≡ mid ++ b) → OnOk r (new ≡ old ++ (a ++ b))
last_part (Ok u) old mid new a b first second = two_parts old mid new a b first second
last_part (Err e) old mid new a b first second = tt

-- the parts of one more item
taken_more : {X A : Type 0} (f : X → List A) (xs : List X) (i : ℕ) (x : X) → i < length xs → x ≡ get_or xs i x
    → flat_map f (take (i + 1) xs) ≡ flat_map f (take i xs) ++ f x
taken_more {X = X} {A = A} f xs i x there is =
    ap (λ (ys : List X). flat_map f ys) (take_more xs i x there ∙ ap (λ (y : X). take i xs ++ y ∷ []) (sym is))
    ∙ flat_map-append f (take i xs) (x ∷ [])
    ∙ ap (λ (z : List A). flat_map f (take i xs) ++ z) (append-nil (f x))

pub items_more : {X A : Type 0} (f : X → List A) (xs : List X) (i : ℕ) (x : X) (front old new : List A)
    → i < length xs → x ≡ get_or xs i x → old ≡ front ++ flat_map f (take i xs) → new ≡ old ++ f x
    → new ≡ front ++ flat_map f (take (i + 1) xs)
items_more {X = X} {A = A} f xs i x front old new there is so_far added =
    two_parts front old new (flat_map f (take i xs)) (f x) so_far added
    ∙ ap (λ (z : List A). front ++ z) (sym (taken_more f xs i x there is))

pub items_more_at : {X A : Type 0} (f : X → List A) (xs : List X) (i : ℕ) (d : X) (front old new : List A)
    → i < length xs → old ≡ front ++ flat_map f (take i xs) → new ≡ old ++ f (get_or xs i d)
    → new ≡ front ++ flat_map f (take (i + 1) xs)
items_more_at f xs i d front old new there so_far added =
    items_more f xs i (get_or xs i d) front old new there (get_or_default xs i d (get_or xs i d) there) so_far added

pub items_all : {X A : Type 0} (f : X → List A) (xs : List X) (i : ℕ) (front new : List A)
    → length xs ≤ i → new ≡ front ++ flat_map f (take i xs) → new ≡ front ++ flat_map f xs
items_all {X = X} {A = A} f xs i front new past so_far =
    so_far ∙ ap (λ (ys : List X). front ++ flat_map f ys) (take_all i xs past)

-- ---- tokens

pub wrote : {E : Type 0} {r : Result (Unit {0}) E} {old new : Written} {t : Token} → Writes r old new t → Adds r old new (t ∷ [])
wrote w = record { before = w.room.0; added = w.ok }

pub and_then : {E F : Type 0} {u : Unit {0}} {r : Result (Unit {0}) E} {old mid new : Written} {a b : List Token}
    → Adds {E = F} (Ok u) old mid a → Adds r mid new b → Adds r old new (a ++ b)
and_then {r = r} {old = old} {mid = mid} {new = new} {a = a} {b = b} first second = record {
  before = second.before ∙ first.before;
  added = last_part r old.tokens mid.tokens new.tokens a b first.added second.added;
}

pub as_tokens : {E : Type 0} {r : Result (Unit {0}) E} {old new : Written} {a b : List Token}
    → Adds r old new a → a ≡ b → Adds r old new b
as_tokens {r = r} {old = old} {new = new} adds same = subst (λ (l : List Token). Adds r old new l) same adds

-- ---- texts

pub text_then : {E F : Type 0} {u : Unit {0}} {r : Result (Unit {0}) E} {old mid new a b : List ℕ}
    → AddsText {E = F} (Ok u) old mid a → AddsText r mid new b → AddsText r old new (a ++ b)
text_then {r = r} {old = old} {mid = mid} {new = new} {a = a} {b = b} first second = record {
  added = last_part r old mid new a b first.added second.added;
}

pub as_text : {E : Type 0} {r : Result (Unit {0}) E} {old new a b : List ℕ}
    → AddsText r old new a → a ≡ b → AddsText r old new b
as_text {r = r} {old = old} {new = new} adds same = subst (λ (l : List ℕ). AddsText r old new l) same adds
