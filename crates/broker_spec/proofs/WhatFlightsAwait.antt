-- Filters on lists, and what a sent entry waits for (MQTT 4.3.2, 4.3.3).
use Rattle.std.proofs.Common.{◌≡◌, ℕ, Bool, true, false, not, ◌&&◌, ◌==◌, if◌then◌else◌, List, [], ◌∷◌, map, filter, refl, ap, ◌∙◌}
use Rattle.session_base.specs.declared.publication.Publication.{Publication}
use Rattle.session_base.specs.declared.awaits.Awaits.TheVariants as waits_for
use Rattle.session_base.specs.Publication.{is_qos1}
use Rattle.session_base.specs.Queue.{awaited, is_puback, is_pubrec, is_pubcomp, awaits_puback, awaits_pubrec, awaits_pubcomp}

-- ---- lists

-- what a filter does with the first element, by the test's answer
pub filter_out : {A : Type 0} (test : A → Bool) (x : A) (xs : List A) (b : Bool) → test x ≡ b →
    filter (λ y. not (test y)) (x ∷ xs) ≡ (if b then filter (λ y. not (test y)) xs else x ∷ filter (λ y. not (test y)) xs)
filter_out test x xs true e = rw e refl
filter_out test x xs false e = rw e refl

-- a filter after a map
pub filter_map_is : {A B : Type 0} (f : A → B) (p : B → Bool) (q : A → Bool) → ((x : A) → p (f x) ≡ q x) → (xs : List A) → filter p (map f xs) ≡ map f (filter q xs)
filter_map_is f p q h [] = refl
filter_map_is f p q h (x ∷ xs) =
    rw (h x, filter_map_is f p q h xs)
    elim (q x) as (λ b. (if b then f x ∷ map f (filter q xs) else map f (filter q xs)) ≡ map f (if b then x ∷ filter q xs else filter q xs)) [ true ↦ refl | false ↦ refl ]

-- a filter that lets all pass
pub filter_all_is : {A : Type 0} (p : A → Bool) → ((x : A) → p x ≡ true) → (xs : List A) → filter p xs ≡ xs
filter_all_is p h [] = refl
filter_all_is p h (x ∷ xs) = rw (h x, filter_all_is p h xs) refl

-- ---- what a sent entry waits for

puback_by : (b : Bool) (p : Publication) → is_puback (if b then waits_for.Puback p else waits_for.Pubrec p) ≡ b
puback_by true p = refl
puback_by false p = refl

pubrec_by : (b : Bool) (p : Publication) → is_pubrec (if b then waits_for.Puback p else waits_for.Pubrec p) ≡ not b
pubrec_by true p = refl
pubrec_by false p = refl

pubcomp_by : (b : Bool) (p : Publication) → is_pubcomp (if b then waits_for.Puback p else waits_for.Pubrec p) ≡ false
pubcomp_by true p = refl
pubcomp_by false p = refl

pub awaits_puback_is : (i id : ℕ) (p : Publication) → awaits_puback i (id, awaited p) ≡ ((i == id) && is_qos1 p.qos)
awaits_puback_is i id p = ap (λ b. (i == id) && b) (puback_by (is_qos1 p.qos) p)

pub awaits_pubrec_is : (i id : ℕ) (p : Publication) → awaits_pubrec i (id, awaited p) ≡ ((i == id) && not (is_qos1 p.qos))
awaits_pubrec_is i id p = ap (λ b. (i == id) && b) (pubrec_by (is_qos1 p.qos) p)

pub not_released : (p : Publication) → is_pubcomp (awaited p) ≡ false
not_released p = pubcomp_by (is_qos1 p.qos) p

pub and_no : (b : Bool) → (b && false) ≡ false
and_no true = refl
and_no false = refl

pub and_yes : (b : Bool) → (b && true) ≡ b
and_yes true = refl
and_yes false = refl

pub awaits_no_pubcomp : (i id : ℕ) (p : Publication) → awaits_pubcomp i (id, awaited p) ≡ false
awaits_no_pubcomp i id p = ap (λ b. (i == id) && b) (not_released p) ∙ and_no (i == id)
