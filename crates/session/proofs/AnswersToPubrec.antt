-- What a PUBREC does and is answered, by what the entry with its identifier waits for.
use Rattle.std.proofs.Common.{◌≡◌, ℕ, Bool, true, false, ◌&&◌, ◌||◌, ◌==◌, if◌then◌else◌, Some, None, List, [], ◌∷◌, filter, refl, ap, ◌∙◌, arith}
use Rattle.std.specs.List.{list_any}
use Rattle.std.specs.Map.{lookup}
use Rattle.std.proofs.lemmas.List.Folds.{list_any-append}
use Rattle.packet.specs.declared.packet.Packet.TheVariants as packets
use Rattle.lists.specs.Lists.{has_id, IsDistinct}
use Rattle.session_base.specs.declared.publication.Publication.{Publication}
use Rattle.session_base.specs.declared.awaits.Awaits.{Awaits}
use Rattle.session_base.specs.declared.awaits.Awaits.TheVariants as waits_for
use Rattle.session_base.specs.Queue.{Flight, is_pubrec, is_released, awaits_pubrec, awaits_pubcomp, ids_of, released_with, on_pubrec}
use Rattle.session_base.specs.EntryPackets.{pubrec_sends}

same_number : (i j : ℕ) → (i == j) ≡ true → i ≡ j
same_number i j e = grind arith

same_self : (i : ℕ) → (i == i) ≡ true
same_self i = grind arith

or_false : (b : Bool) → (b || false) ≡ b
or_false true = refl
or_false false = refl

nobody : (test : Awaits → Bool) (id : ℕ) (fs : List Flight) → has_id id (ids_of fs) ≡ false → list_any (λ flight. (id == flight.0) && test flight.1) fs ≡ false
nobody test id [] e = refl
nobody test id (flight ∷ fs) e = by (id == flight.0) e (nobody test id fs)
  where
    by : (b : Bool) → (b || has_id id (ids_of fs)) ≡ false → (has_id id (ids_of fs) ≡ false → list_any (λ flight. (id == flight.0) && test flight.1) fs ≡ false) →
        ((b && test flight.1) || list_any (λ flight. (id == flight.0) && test flight.1) fs) ≡ false
    by true f rest = absurd (cc)
    by false f rest = rest f

-- the test of the entry with this identifier is that of all entries with it
pub only_one : (test : Awaits → Bool) (id : ℕ) (fs : List Flight) (a : Awaits) → IsDistinct (ids_of fs) → lookup (λ other. id == other) fs ≡ Some a →
    list_any (λ flight. (id == flight.0) && test flight.1) fs ≡ test a
only_one test id [] a d e = absurd (cc)
only_one test id (flight ∷ fs) a d e = by (id == flight.0) refl e (only_one test id fs a d.1)
  where
    value_is : (x y : Awaits) → Some x ≡ Some y → x ≡ y
    value_is x y f = cc

    by : (b : Bool) → (id == flight.0) ≡ b → (if b then Some flight.1 else lookup (λ other. id == other) fs) ≡ Some a →
        (lookup (λ other. id == other) fs ≡ Some a → list_any (λ flight. (id == flight.0) && test flight.1) fs ≡ test a) →
        ((b && test flight.1) || list_any (λ flight. (id == flight.0) && test flight.1) fs) ≡ test a
    by true same f rest =
        ap (λ b. test flight.1 || b) (nobody test id fs (ap (λ i. has_id i (ids_of fs)) (same_number id flight.0 same) ∙ d.0))
        ∙ or_false (test flight.1) ∙ ap test (value_is flight.1 a f)
    by false same f rest = rest f

pub nothing : (test : Awaits → Bool) (id : ℕ) (fs : List Flight) → lookup (λ other. id == other) fs ≡ None → list_any (λ flight. (id == flight.0) && test flight.1) fs ≡ false
nothing test id [] e = refl
nothing test id (flight ∷ fs) e = by (id == flight.0) e (nothing test id fs)
  where
    by : (b : Bool) → (if b then Some flight.1 else lookup (λ other. id == other) fs) ≡ None →
        (lookup (λ other. id == other) fs ≡ None → list_any (λ flight. (id == flight.0) && test flight.1) fs ≡ false) →
        ((b && test flight.1) || list_any (λ flight. (id == flight.0) && test flight.1) fs) ≡ false
    by true f rest = absurd (cc)
    by false f rest = rest f

pub pubrec_only : (a : Awaits) → is_pubrec a ≡ true → (p : Publication) × (a ≡ waits_for.Pubrec p)
pubrec_only (waits_for.Puback p) e = absurd (cc)
pubrec_only (waits_for.Pubrec p) e = (p, refl)
pubrec_only waits_for.Pubcomp e = absurd (cc)

-- a PUBREC that released an entry is answered by PUBREL
pub released_is_answered : (id : ℕ) (fs : List Flight) → list_any (awaits_pubrec id) fs ≡ true → pubrec_sends id (on_pubrec id fs) ≡ packets.Pubrel id ∷ []
released_is_answered id fs e =
    ap (λ b. pubrec_sends id (if b then released_with id fs else fs)) e
    ∙ ap (λ b. if b then packets.Pubrel id ∷ [] else [])
    (list_any-append (awaits_pubcomp id) (filter is_released fs) ((id, waits_for.Pubcomp) ∷ _) ∙ by (list_any (awaits_pubcomp id) (filter is_released fs)) (id == id) (same_self id) _)
  where
    by : (a b : Bool) → b ≡ true → (c : Bool) → (a || ((b && true) || c)) ≡ true
    by true b e c = refl
    by false true e c = refl
    by false false e c = absurd (cc)
