-- PrintsJoin.antt: what is printed of two lists, one after another, is what is printed of both.
use Rattle.std.proofs.Common.{◌≡◌, ℕ, ◌+◌, ◌-◌, List, [], ◌∷◌, ◌++◌, length, refl, sym, ap, subst, ◌∙◌, append_assoc, length-append, Option, suc, zero}
use Rattle.std.specs.Prelude.{Result, Ok, Err, OnOk}
use native.Mathlib.Omega.{arith}
use Rattle.std.specs.Io.KnownBytes.{Appends}
use Rattle.std.proofs.KnownBytes.{Appends-trans, Appends-nil}
use Rattle.client_base.specs.declared.accepted.Accepted.{Accepted}
use Rattle.client_base.specs.printed.Lines.{printed_line}
use Rattle.user_client.specs.Traces.{CallerView, Trace}
use Rattle.user_client.specs.Subscriber.{SubscriberView, PrintsNothing, PrintsAccepted, Shows, printed_lines}
use Rattle.user_client.proofs.TracesJoin.{traces_join, traces_follow, traces_end}

pub less_more : (a b c : ℕ) → (a - b) - c ≡ a - (b + c)
less_more a b c = omega arith

pub none_less : (a : ℕ) → a - 0 ≡ a
none_less a = omega arith

pub zero_less : (a : ℕ) → 0 - a ≡ 0
zero_less a = omega arith

pub suc_less : (a b : ℕ) → suc a - suc b ≡ a - b
suc_less a b = omega arith

pub lines_none : (left : ℕ) → printed_lines left [] ≡ []
lines_none zero = refl
lines_none (suc left) = refl

pub lines_join : (left : ℕ) (xs ys : List Accepted)
    → printed_lines left (xs ++ ys) ≡ printed_lines left xs ++ printed_lines (left - length xs) ys
lines_join left [] ys =
    ap (λ (n : ℕ). printed_lines n ys) (sym (none_less left))
    ∙ sym (ap (λ (l : List ℕ). l ++ printed_lines (left - 0) ys) (lines_none left))
lines_join zero (x ∷ xs) ys = ap (λ (n : ℕ). printed_lines n ys) (sym (zero_less (length (x ∷ xs))))
lines_join (suc left) (x ∷ xs) ys =
    ap (λ (l : List ℕ). printed_line x ++ l) (lines_join left xs ys)
    ∙ sym (append_assoc (printed_line x) (printed_lines left xs) (printed_lines (left - length xs) ys))
    ∙ ap (λ (n : ℕ). (printed_line x ++ printed_lines left xs) ++ printed_lines n ys) (sym (suc_less left (length xs)))

-- what was printed, and what was printed after it
pub shows_join : (xs ys : List Accepted) (left middle rest : ℕ) (a b c : Option (List ℕ))
    → Shows xs left middle a b → Shows ys middle rest b c → Shows (xs ++ ys) left rest a c
shows_join xs ys left middle rest a b c one two = (
  two.0 ∙ ap (λ (n : ℕ). n - length ys) one.0 ∙ less_more left (length xs) (length ys)
      ∙ ap (λ (n : ℕ). left - n) (sym (length-append xs ys)),
  subst (Appends a c) (sym (lines_join left xs ys))
      (Appends-trans a b c (printed_lines left xs) (printed_lines (left - length xs) ys) one.1
      (subst (λ (n : ℕ). Appends b c (printed_lines n ys)) one.0 two.1)),
)

-- nothing was printed
pub shows_none : (left : ℕ) (a : Option (List ℕ)) → Shows [] left left a a
shows_none left a = (omega arith, subst (Appends a a) (sym (lines_none left)) (Appends-nil a))

-- nothing was received
pub hears_none : (old : SubscriberView) (a : Option (List ℕ)) → PrintsAccepted old a old a
hears_none old a = ([], Trace.starts, refl, shows_none old.left a)

-- what was received, and what was received after it
pub hears_join : (a b c : Option (List ℕ)) (old middle new : SubscriberView)
    → PrintsAccepted old a middle b → PrintsAccepted middle b new c → PrintsAccepted old a new c
hears_join a b c old middle new one two = (
  one.0 ++ two.0,
  traces_join one.1 two.1,
  two.2 ∙ one.2,
  shows_join one.0 two.0 old.left middle.left new.left a b c one.3 two.3,
)

-- after what printed nothing
pub asks_hears : (a b : Option (List ℕ)) (old middle new : SubscriberView)
    → PrintsNothing old middle → PrintsAccepted middle a new b → PrintsAccepted old a new b
asks_hears a b old middle new one two = (
  two.0,
  traces_follow one.0 two.1,
  two.2 ∙ one.1,
  subst (λ (left : ℕ). Shows two.0 left new.left a b) one.2 two.3,
)

-- before what printed nothing
pub hears_asks : (a b : Option (List ℕ)) (old middle new : SubscriberView)
    → PrintsAccepted old a middle b → PrintsNothing middle new → PrintsAccepted old a new b
hears_asks a b old middle new one two = (
  one.0,
  traces_end one.1 two.0,
  two.1 ∙ one.2,
  subst (λ (rest : ℕ). Shows one.0 old.left rest a b) (sym two.2) one.3,
)

-- a subscriber of these parts
abbrev pub made_of : CallerView → ℕ → ℕ → SubscriberView
made_of caller count left = record { caller = caller; count = count; left = left }

-- its client did something
pub asks_made : (caller new : CallerView) (count left : ℕ) {seen : SubscriberView} → made_of caller count left ≡ seen
    → Trace caller [] new → PrintsNothing seen (made_of new count left)
asks_made caller new count left is trace =
    subst (λ (s : SubscriberView). PrintsNothing s (made_of new count left)) is (trace, refl, refl)

-- if the call that followed was done
pub asks_hears_ok : {T E : Type 0} (a b : Option (List ℕ)) (old middle new : SubscriberView) (result : Result T E)
    → PrintsNothing old middle → OnOk result (PrintsAccepted middle a new b) → OnOk result (PrintsAccepted old a new b)
asks_hears_ok a b old middle new (Ok value) one two = asks_hears a b old middle new one two
asks_hears_ok a b old middle new (Err error) one two = tt
