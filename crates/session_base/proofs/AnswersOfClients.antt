-- What the client's answers leave in flight.
use Rattle.std.proofs.Common.{◌≡◌, ℕ, Bool, true, false, not, ◌&&◌, ◌||◌, ◌==◌, if◌then◌else◌, List, [], ◌∷◌, ◌++◌, filter, refl, ap, ap₂, ◌∙◌}
use Rattle.std.specs.List.{list_any}
use Rattle.std.proofs.lemmas.Bool.{or_parts}
use Rattle.std.proofs.lemmas.List.Elements.{filter-append}
use Rattle.std.proofs.lemmas.List.Folds.{list_any-append}
use Rattle.session_base.specs.declared.awaits.Awaits.{Awaits}
use Rattle.session_base.specs.declared.awaits.Awaits.TheVariants as waits_for
use Rattle.session_base.specs.Queue.{Flight, is_pubcomp, is_pubrec, is_released, awaits_puback, awaits_pubrec, awaits_pubcomp, released_with, on_pubrec}
use Rattle.session_base.specs.OrderTheorems.{OtherAnswersChangeNothing, SecondPubrecChangesNothing, ReleasedComesLast}

-- ---- answers for which nothing waits

kept_all : {A : Type 0} (p : A → Bool) (xs : List A) → list_any p xs ≡ false → filter (λ x. not (p x)) xs ≡ xs
kept_all p [] e = refl
kept_all p (x ∷ xs) e =
    let parts = or_parts (p x) (list_any p xs) e in
    ap (λ b. if not b then x ∷ filter (λ y. not (p y)) xs else filter (λ y. not (p y)) xs) parts.0 ∙ ap (λ ys. x ∷ ys) (kept_all p xs parts.1)

pub others_change_nothing : OtherAnswersChangeNothing
others_change_nothing id fs = (
  kept_all (awaits_puback id) fs,
  λ e. ap (λ b. if b then released_with id fs else fs) e,
  kept_all (awaits_pubcomp id) fs,
)

-- ---- PUBREC

none_pass : {A : Type 0} (p q : A → Bool) → ((x : A) → q x ≡ true → p x ≡ false) → (xs : List A) → list_any p (filter q xs) ≡ false
none_pass p q h [] = refl
none_pass p q h (x ∷ xs) =
    elim (q x) as (λ (b : Bool). q x ≡ b → list_any p (if b then x ∷ filter q xs else filter q xs) ≡ false) [
      | true ↦ λ e. ap (λ b. b || list_any p (filter q xs)) (h x e) ∙ none_pass p q h xs
      | false ↦ λ e. none_pass p q h xs
    ] refl

and_no : (b : Bool) → (b && false) ≡ false
and_no true = refl
and_no false = refl

no_pubrec : (a : Awaits) → is_pubcomp a ≡ true → is_pubrec a ≡ false
no_pubrec (waits_for.Puback p) e = absurd (cc)
no_pubrec (waits_for.Pubrec p) e = absurd (cc)
no_pubrec waits_for.Pubcomp e = refl

second_no : (a b : Bool) → (not a && not b) ≡ true → b ≡ false
second_no a true e = absurd (no (not a) e)
  where
    no : (c : Bool) → (c && false) ≡ true → ⊥
    no true e = cc
    no false e = cc
second_no a false e = refl

waits_no_more : (id : ℕ) (fs : List Flight) → list_any (awaits_pubrec id) (released_with id fs) ≡ false
waits_no_more id fs =
    list_any-append (awaits_pubrec id) (filter is_released fs) ((id, waits_for.Pubcomp) ∷ filter (λ flight. not (is_released flight) && not (awaits_pubrec id flight)) fs)
    ∙ ap₂ (λ a b. a || b)
    (none_pass (awaits_pubrec id) is_released (λ flight e. ap (λ b. (id == flight.0) && b) (no_pubrec flight.1 e) ∙ and_no (id == flight.0)) fs)
    (ap₂ (λ a b. a || b) (and_no (id == id))
    (none_pass (awaits_pubrec id) (λ flight. not (is_released flight) && not (awaits_pubrec id flight)) (λ flight e. second_no (is_released flight) (awaits_pubrec id flight) e) fs))

pub second_pubrec : SecondPubrecChangesNothing
second_pubrec id fs =
    elim (list_any (awaits_pubrec id) fs) as (λ (b : Bool). list_any (awaits_pubrec id) fs ≡ b → on_pubrec id (if b then released_with id fs else fs) ≡ (if b then released_with id fs else fs)) [
      | true ↦ λ e. ap (λ b. if b then released_with id (released_with id fs) else released_with id fs) (waits_no_more id fs)
      | false ↦ λ e. ap (λ b. if b then released_with id fs else fs) e
    ] refl

filter_twice : {A : Type 0} (p : A → Bool) (xs : List A) → filter p (filter p xs) ≡ filter p xs
filter_twice p [] = refl
filter_twice p (x ∷ xs) =
    elim (p x) as (λ (b : Bool). p x ≡ b → filter p (if b then x ∷ filter p xs else filter p xs) ≡ (if b then x ∷ filter p xs else filter p xs)) [
      | true ↦ λ e. ap (λ b. if b then x ∷ filter p (filter p xs) else filter p (filter p xs)) e ∙ ap (λ ys. x ∷ ys) (filter_twice p xs)
      | false ↦ λ e. filter_twice p xs
    ] refl

filter_none : {A : Type 0} (p q : A → Bool) → ((x : A) → q x ≡ true → p x ≡ false) → (xs : List A) → filter p (filter q xs) ≡ []
filter_none p q h [] = refl
filter_none p q h (x ∷ xs) =
    elim (q x) as (λ (b : Bool). q x ≡ b → filter p (if b then x ∷ filter q xs else filter q xs) ≡ []) [
      | true ↦ λ e. ap (λ b. if b then x ∷ filter p (filter q xs) else filter p (filter q xs)) (h x e) ∙ filter_none p q h xs
      | false ↦ λ e. filter_none p q h xs
    ] refl

pub first_no : (a b : Bool) → (not a && b) ≡ true → a ≡ false
first_no true b e = absurd (cc)
first_no false b e = refl

pub released_last : ReleasedComesLast
released_last id fs any =
    ap (λ b. filter is_released (if b then released_with id fs else fs)) any
    ∙ filter-append is_released (filter is_released fs) ((id, waits_for.Pubcomp) ∷ filter (λ flight. not (is_released flight) && not (awaits_pubrec id flight)) fs)
    ∙ ap₂ (λ xs ys. xs ++ (id, waits_for.Pubcomp) ∷ ys) (filter_twice is_released fs)
    (filter_none is_released (λ flight. not (is_released flight) && not (awaits_pubrec id flight)) (λ flight e. first_no (is_released flight) (not (awaits_pubrec id flight)) e) fs)
