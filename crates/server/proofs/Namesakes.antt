-- Namesakes.antt: of nodes in rising order each has the inbox for which its number stands.
use Rattle.std.proofs.Common.{◌≡◌, ◌==◌, ℕ, ◌+◌, ◌<◌, Bool, false, List, [], ◌∷◌, ◌++◌, if◌then◌else◌, refl, ◌∙◌, ap, sym, subst, arith}
use Rattle.std.proofs.lemmas.Bool.{eq-eqb}
use Rattle.mailbox.specs.Naming.{no_inbox}
use Rattle.ballot_base.specs.declared.config.Config.{Config}
use Rattle.lists.specs.Lists.{Each}
use Rattle.lists.proofs.OfEach.{each_append, each_then}
use Rattle.server.specs.node_threads.Named.{AreNamed, OpenedView}
use Rattle.server.specs.Opening.{first_in, inbox_among}

above : (number other : ℕ) → number < other → (other == number) ≡ false
above number other less = grind (arith, less)

below : (number other : ℕ) → number < other → (number == other) ≡ false
below number other less = grind (arith, less)

-- one more node changes nothing for the numbers below its own
kept_below : (opened : List OpenedView) (one : OpenedView) (number : ℕ)
    → number < one.number → inbox_among (opened ++ one ∷ []) number ≡ inbox_among opened number
kept_below [] one number less = ap (λ (b : Bool). if b then one.inbox else no_inbox) (above number one.number less)
kept_below (first ∷ opened) one number less =
    ap (λ inbox. if first.number == number then first.inbox else inbox) (kept_below opened one number less)

-- the last node is found if all before it have lower numbers
found_last : (opened : List OpenedView) (one : OpenedView)
    → Each (λ (other : OpenedView). other.number < one.number) opened
    → one.inbox ≡ inbox_among (opened ++ one ∷ []) one.number
found_last [] one less = sym (ap (λ (b : Bool). if b then one.inbox else no_inbox) (eq-eqb one.number one.number refl))
found_last (first ∷ opened) one less =
    found_last opened one less.1
    ∙ sym (ap (λ (b : Bool). if b then first.inbox else inbox_among (opened ++ one ∷ []) one.number)
    (below first.number one.number less.0))

each_by_both : {X : Type 0} (P Q R : X → Type 0) (xs : List X)
    → ((x : X) → P x → Q x → R x) → Each P xs → Each Q xs → Each R xs
each_by_both P Q R [] f ps qs = tt
each_by_both P Q R (x ∷ xs) f ps qs = (f x ps.0 qs.0, each_by_both P Q R xs f ps.1 qs.1)

-- a node of a higher number than all before it, as it opened
named_with : (config : Config) (opened : List OpenedView) (one : OpenedView)
    → Each (λ (other : OpenedView). other.number < one.number) opened
    → AreNamed (inbox_among opened) (first_in config) opened
    → one.node.node ≡ first_in config one.number
    → AreNamed (inbox_among (opened ++ one ∷ [])) (first_in config) (opened ++ one ∷ [])
named_with config opened one less named core =
    each_append _ opened (one ∷ [])
    (each_by_both _ _ _ opened
    (λ other low is. (is.0 ∙ sym (kept_below opened one other.number low), is.1)) less named)
    ((found_last opened one less, core), tt)

-- one more node, of the next number
pub named_more : (config : Config) (number : ℕ) (old new : List OpenedView) (one : OpenedView)
    → new ≡ old ++ one ∷ [] → one.number ≡ number → one.node.node ≡ first_in config number
    → Each (λ (other : OpenedView). other.number < number) old
    → AreNamed (inbox_among old) (first_in config) old
    → AreNamed (inbox_among new) (first_in config) new
named_more config number old new one all is core less named =
    subst (λ (opened : List OpenedView). AreNamed (inbox_among opened) (first_in config) opened) (sym all)
    (named_with config old one
    (subst (λ (n : ℕ). Each (λ (other : OpenedView). other.number < n) old) (sym is) less) named
    (core ∙ ap (first_in config) (sym is)))

pub below_more : (number : ℕ) (old new : List OpenedView) (one : OpenedView)
    → new ≡ old ++ one ∷ [] → one.number ≡ number
    → Each (λ (other : OpenedView). other.number < number) old
    → Each (λ (other : OpenedView). other.number < number + 1) new
below_more number old new one all is less =
    subst (Each (λ (other : OpenedView). other.number < number + 1)) (sym all)
    (each_append _ old (one ∷ [])
    (each_then _ _ old (λ other low. omega (arith, low)) less)
    (omega (arith, is), tt))

-- no node of this number
pub named_same : (config : Config) (old new : List OpenedView) → new ≡ old
    → AreNamed (inbox_among old) (first_in config) old
    → AreNamed (inbox_among new) (first_in config) new
named_same config old new same =
    subst (λ (opened : List OpenedView). AreNamed (inbox_among opened) (first_in config) opened) (sym same)

pub below_same : (number : ℕ) (old new : List OpenedView) → new ≡ old
    → Each (λ (other : OpenedView). other.number < number) old
    → Each (λ (other : OpenedView). other.number < number + 1) new
below_same number old new same less =
    subst (Each (λ (other : OpenedView). other.number < number + 1)) (sym same)
    (each_then _ _ old (λ other low. omega (arith, low)) less)
