-- As many commands are read as their count says; if they are read, the first one is.
use Rattle.std.proofs.Math.Dec.{eqb-suc-zero}
use Rattle.std.proofs.Common.{◌∙◌, if◌then◌else◌, ◌≡◌, ℕ, zero, suc, ◌+◌, ◌≤◌, Bool, true, false, nat_le, List, [], ◌∷◌, ◌++◌, length, Result, Ok, Err, refl, ap, subst, arith, inl, inr}
use Rattle.std.specs.Prelude.{IfOk, ◌||◌, ◌==◌, is_ok}
use Rattle.std.proofs.lemmas.List.{length-append}
use Rattle.packet_base.specs.declared.stop.Stop.{Stop}
use Rattle.packet_base.specs.Lists.{ItemAt}
use Rattle.packet_base.specs.Outcome.{Reads}
use Rattle.packet_base.proofs.ItemsInALoop.{Began}
use Rattle.packet_base.proofs.Steps.{then_if, check_if}
use Rattle.packet_base.specs.Readers.{◌>>=◌, ◌>>◌}
use Rattle.session_base.specs.Counted.{check_form, counted_items_at, items_after}
use Rattle.session_base.proofs.Found.{weaker}
use Rattle.broker_spec.specs.declared.command.Command.{Command}
use Rattle.links.specs.message_form.Numbers.{wide_number_at}
use Rattle.links.specs.message_form.LogReading.{anything, sized_command_at}
use Rattle.links.specs.message_form.Growth.{commands_ask, first_asks, is_asked, sized_asks}

any : {A : Type 0} (r : Result A Stop) → IfOk r (λ x. Unit {0})
any (Ok x) = tt
any (Err stop) = tt

items_many : {A : Type 0} (follows : List A → A → Bool) (item : ItemAt A) (many : ℕ) (front : List A) (bytes : List ℕ) →
    IfOk (items_after follows item many front bytes) (λ x. length x.0 ≡ length front + many)
unfolding items_after
items_many follows item zero front bytes = omega arith
items_many {A} follows item (suc more) front bytes =
    let Q : List A × List ℕ → Type 0 = λ x. length x.0 ≡ length front + suc more in
    then_if (item bytes) _ (λ x. Unit {0}) Q (any (item bytes)) (λ one u.
    check_if (follows front one.0) _ _ Q (λ test.
    weaker (items_after follows item more (front ++ one.0 ∷ []) one.1) (λ x. length x.0 ≡ length (front ++ one.0 ∷ []) + more) Q
    (items_many follows item more (front ++ one.0 ∷ []) one.1)
    (λ x k. let e = length-append front (one.0 ∷ []) in omega (arith, k, e))))

-- so of a call that read them
pub read_few : {X : Type 0} (view : X → List Command) (result : Result X Stop) (many most : ℕ) (rest bytes : List ℕ) →
    Reads view result rest (items_after anything sized_command_at many [] bytes) → many ≤ most → IfOk result (λ x. length (view x) ≤ most)
read_few view (Ok x) many most rest bytes e small =
    let n : length (view x) ≡ 0 + many =
    subst (λ (r : Result (List Command × List ℕ) Stop). IfOk r (λ y. length y.0 ≡ 0 + many)) e (items_many anything sized_command_at many [] bytes) in
    omega (arith, n, small)
read_few view (Err stop) many most rest bytes e small = tt

-- ---- the first of the commands

pub or_left : (a b : Bool) → a ≡ true → (a || b) ≡ true
or_left true b e = refl
or_left false b e = absurd cc

pub or_right : (a b : Bool) → b ≡ true → (a || b) ≡ true
or_right true b e = refl
or_right false b e = e

-- a step that goes on has a value
goes_on : {A B : Type 0} (r : Result A Stop) (f : A → Result B Stop) (x : B) → (r >>= f) ≡ Ok x → is_ok r ≡ true
goes_on (Ok y) f x e = refl
goes_on (Err stop) f x e = absurd cc

from_test : (copies test : Bool) (n : ℕ) (rest : List ℕ) (x : List Command × List ℕ) → copies ≡ true → (check_form test >> items_after anything sized_command_at n [] rest) ≡ Ok x →
    (check_form test >> Ok (if n == 0 then copies else first_asks rest)) ≡ Ok true
unfolding items_after
from_test copies true zero rest x is e = ap (λ (b : Bool). Ok b) is
from_test copies true (suc n) rest x is e =
    let first = or_left (is_ok (sized_command_at rest)) (is_asked (sized_asks rest)) (goes_on (sized_command_at rest) _ x e) in
    let some : (suc n == 0) ≡ false = eqb-suc-zero n in
    ap (λ (b : Bool). Ok (if b then copies else first_asks rest)) some ∙ ap (λ (b : Bool). Ok b) first
from_test copies false n rest x is e = absurd cc

from_count : (copies : Bool) (r : Result (ℕ × List ℕ) Stop) (most : ℕ) (x : List Command × List ℕ) → copies ≡ true →
    (r >>= (λ many. check_form (nat_le many.0 most) >> items_after anything sized_command_at many.0 [] many.1)) ≡ Ok x →
    (r >>= (λ count. check_form (nat_le count.0 most) >> Ok (if count.0 == 0 then copies else first_asks count.1))) ≡ Ok true
from_count copies (Ok (n, rest)) most x is e = from_test copies (nat_le n most) n rest x is e
from_count copies (Err stop) most x is e = absurd cc

-- if all commands are read, memory is needed, if only for a snapshot
pub asked_all : (copies : Bool) (most : ℕ) (bytes : List ℕ) (x : List Command × List ℕ) → copies ≡ true → counted_items_at wide_number_at anything sized_command_at most bytes ≡ Ok x → commands_ask copies most bytes ≡ Ok true
unfolding counted_items_at commands_ask
asked_all copies most bytes x is e = from_count copies (wide_number_at bytes) most x is e

-- ---- in the loop

-- a command was read: the first one, or one after it
pub first_read : (bytes : List ℕ) → is_ok (sized_command_at bytes) ≡ true → first_asks bytes ≡ true
first_read bytes e = or_left (is_ok (sized_command_at bytes)) (is_asked (sized_asks bytes)) e

-- the first one needs memory
pub first_asked : (bytes : List ℕ) → sized_asks bytes ≡ Ok true → first_asks bytes ≡ true
first_asked bytes e = or_right (is_ok (sized_command_at bytes)) (is_asked (sized_asks bytes)) (ap is_asked e)

-- a command that needs memory is the first one, or comes after it
pub began_asks : (start bytes : List ℕ) → sized_asks bytes ≡ Ok true → Began sized_command_at start bytes → first_asks start ≡ true
began_asks start bytes e (inl is) = first_asked start (subst (λ (b : List ℕ). sized_asks b ≡ Ok true) is e)
began_asks start bytes e (inr first) = first_read start first
