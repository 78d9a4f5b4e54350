-- MaxTold.antt: the front of a ballot's list that all members acknowledged, by the messages, is
-- chosen, and nothing longer is.
use Rattle.std.proofs.Common.{◌≡◌, ℕ, ◌<◌, ◌≤◌, ◌⊎◌, inl, inr, cond, max, List, [], ◌∷◌, length, Some, Option, refl, ap, sym, ◌∙◌, subst, arith}
use Rattle.std.specs.Prelude.{◌==◌}
use Rattle.std.proofs.lemmas.Bool.{cases_eq, cases_lt, eq-eqb, ne_eqb}
use Rattle.machine.specs.Machine.{Rules}
use Rattle.agreement.specs.whole_logs.Messages.{Message, Body}
use Rattle.agreement.specs.whole_logs.Messages.Body.{NewBallot, Join, State, Install, Installed, Activate, Activated, Superseded, Append, Held, Commit}
use Rattle.agreement.specs.World.{GroupWorld}
use Rattle.lists.specs.Lists.{In}
use Rattle.lists.specs.Lists.In.{here, there}
use Rattle.agreement.specs.Inside.Ballots.{Given, Line, History, Acknowledged}
use Rattle.agreement.specs.Inside.Ballots.Acknowledged.{told_at_opening, told_by_held, told_by_installed, told_as_primary}
use Rattle.agreement.specs.Inside.Sound.{IsSoundWorld}
use Rattle.agreement.specs.Inside.AcknowledgedLengths.{acknowledged_by, acknowledged_in, max_acknowledged, acknowledged_length}
use Rattle.agreement.proofs.Frame.Framing.{within_of}

-- there is one ballot of a number
pub one_given : (o : Option Given) (g k : Given) → o ≡ Some g → o ≡ Some k → g ≡ k
one_given o g k e f = cc

-- what a message acknowledges was acknowledged
told_of_body : {S C O : Type 0} (w : GroupWorld S C O) (h : History C) (m b receiver : ℕ) (body : Body C) → Acknowledged w h m b 0 →
    In (receiver, record { from = m; body = body }) w.sent → Acknowledged w h m b (acknowledged_by b body)
told_of_body w h m b receiver (NewBallot x members a old) t i = t
told_of_body w h m b receiver (Join x a) t i = t
told_of_body w h m b receiver (State x log) t i = t
told_of_body w h m b receiver (Install x log) t i = t
told_of_body {S = S} {C = C} w h m b receiver (Installed x held) t i = by_ballot (cases_eq x b)
  where
    by_ballot : (x ≡ b) ⊎ (x ≡ b → ⊥) → Acknowledged w h m b (cond (x == b) held 0)
    by_ballot (inl e) =
        subst (λ k. Acknowledged w h m b (cond k held 0)) (sym (eq-eqb x b e))
        (told_by_installed receiver held (subst (λ y. In {X = ℕ × Message C} (receiver, record { from = m; body = Installed y held }) w.sent) e i) (omega arith))
    by_ballot (inr ne) = subst (λ k. Acknowledged w h m b (cond k held 0)) (sym (ne_eqb x b ne)) t
told_of_body w h m b receiver (Activate x) t i = t
told_of_body w h m b receiver (Activated x) t i = t
told_of_body w h m b receiver (Superseded x) t i = t
told_of_body w h m b receiver (Append x place command) t i = t
told_of_body {S = S} {C = C} w h m b receiver (Held x held) t i = by_ballot (cases_eq x b)
  where
    by_ballot : (x ≡ b) ⊎ (x ≡ b → ⊥) → Acknowledged w h m b (cond (x == b) held 0)
    by_ballot (inl e) =
        subst (λ k. Acknowledged w h m b (cond k held 0)) (sym (eq-eqb x b e))
        (told_by_held receiver held (subst (λ y. In {X = ℕ × Message C} (receiver, record { from = m; body = Held y held }) w.sent) e i) (omega arith))
    by_ballot (inr ne) = subst (λ k. Acknowledged w h m b (cond k held 0)) (sym (ne_eqb x b ne)) t
told_of_body w h m b receiver (Commit x held) t i = t

-- and so with its sender
told_of_message : {S C O : Type 0} (w : GroupWorld S C O) (h : History C) (m b receiver : ℕ) (message : Message C) → Acknowledged w h m b 0 →
    In (receiver, message) w.sent → Acknowledged w h m b (acknowledged_in m b message)
told_of_message {S = S} {C = C} w h m b receiver message t i = by_sender (cases_eq message.from m)
  where
    by_sender : (message.from ≡ m) ⊎ (message.from ≡ m → ⊥) → Acknowledged w h m b (cond (message.from == m) (acknowledged_by b message.body) 0)
    by_sender (inl e) =
        subst (λ k. Acknowledged w h m b (cond k (acknowledged_by b message.body) 0)) (sym (eq-eqb message.from m e))
        (told_of_body w h m b receiver message.body t
        (subst (λ y. In {X = ℕ × Message C} (receiver, record { from = y; body = message.body }) w.sent) e i))
    by_sender (inr ne) = subst (λ k. Acknowledged w h m b (cond k (acknowledged_by b message.body) 0)) (sym (ne_eqb message.from m ne)) t

-- a property of two numbers holds for the greater
of_max : (P : ℕ → Type 0) (x y : ℕ) → P x → P y → P (max x y)
of_max P x y p q = by_order (cases_lt x y)
  where
    by_order : (x < y) ⊎ (y ≤ x) → P (max x y)
    by_order (inl less) = let f : max x y ≡ y = omega (arith, less) in subst P (sym f) q
    by_order (inr more) = let f : max x y ≡ x = omega (arith, more) in subst P (sym f) p

-- the most that a member acknowledged was acknowledged
told_most : {S C O : Type 0} (w : GroupWorld S C O) (h : History C) (m b : ℕ) (sent : List (ℕ × Message C)) → Acknowledged w h m b 0 →
    ((x : ℕ × Message C) → In x sent → In x w.sent) → Acknowledged w h m b (max_acknowledged m b sent)
told_most w h m b [] t all = t
told_most w h m b (x ∷ sent) t all =
    of_max (Acknowledged w h m b) (acknowledged_in m b x.1) (max_acknowledged m b sent)
    (told_of_message w h m b x.0 x.1 t (all x here)) (told_most w h m b sent t (λ y i. all y (there i)))

-- and no message acknowledges more
most_of : {C : Type 0} (m b : ℕ) (sent : List (ℕ × Message C)) (x : ℕ × Message C) → In x sent → acknowledged_in m b x.1 ≤ max_acknowledged m b sent
most_of m b [] x i = elim i [ ]
most_of m b (y ∷ sent) x here = omega arith
most_of m b (y ∷ sent) x (there i) = let z = most_of m b sent x i in omega (arith, z)

-- what a member's own messages tell
held_is : (C : Type 0) (m b held : ℕ) → acknowledged_in {C = C} m b (record { from = m; body = Held b held }) ≡ held
held_is C m b held = ap (λ k. cond k (cond (b == b) held 0) 0) (eq-eqb m m refl) ∙ ap (λ k. cond k held 0) (eq-eqb b b refl)

-- the same for Installed
installed_is : (C : Type 0) (m b held : ℕ) → acknowledged_in {C = C} m b (record { from = m; body = Installed b held }) ≡ held
installed_is C m b held = ap (λ k. cond k (cond (b == b) held 0) 0) (eq-eqb m m refl) ∙ ap (λ k. cond k held 0) (eq-eqb b b refl)

-- a member acknowledged its length, if it acknowledged anything
pub told_whole : {S C O : Type 0} (w : GroupWorld S C O) (h : History C) (m b : ℕ) (g : Given) (l : Line C) → h.given b ≡ Some g →
    h.line b ≡ Some l → Acknowledged w h m b 0 → Acknowledged w h m b (acknowledged_length w.sent b g l m)
told_whole w h m b g l given lined t = by_primary (cases_eq m g.primary)
  where
    by_primary : (m ≡ g.primary) ⊎ (m ≡ g.primary → ⊥) → Acknowledged w h m b (cond (m == g.primary) (length l.list) (max_acknowledged m b w.sent))
    by_primary (inl e) =
        subst (λ k. Acknowledged w h m b (cond k (length l.list) (max_acknowledged m b w.sent))) (sym (eq-eqb m g.primary e))
        (told_as_primary g l given (sym e) lined (omega arith))
    by_primary (inr ne) =
        subst (λ k. Acknowledged w h m b (cond k (length l.list) (max_acknowledged m b w.sent))) (sym (ne_eqb m g.primary ne))
        (told_most w h m b w.sent t (λ x i. i))

-- and no node acknowledged more
pub told_at_most : {S C O : Type 0} (rules : Rules S C O) (w : GroupWorld S C O) (h : History C) (m b j : ℕ) (g : Given) (l : Line C) →
    IsSoundWorld rules w h → h.given b ≡ Some g → h.line b ≡ Some l → Acknowledged w h m b j → j ≤ acknowledged_length w.sent b g l m
told_at_most {S = S} {C = C} rules w h m b j g l s given lined t = by_primary (cases_eq m g.primary)
  where
    by_told : (m ≡ g.primary → ⊥) → Acknowledged w h m b j → j ≤ max_acknowledged m b w.sent
    by_told ne (told_at_opening k one none first member) = omega (arith, none)
    by_told ne (told_by_held receiver held i below) =
        let z = most_of m b w.sent _ i in let e = held_is C m b held in omega (arith, z, e, below)
    by_told ne (told_by_installed receiver held i below) =
        let z = most_of m b w.sent _ i in let e = installed_is C m b held in omega (arith, z, e, below)
    by_told ne (told_as_primary k y is primary line below) =
        absurd (ne (sym primary ∙ ap (λ (x : Given). x.primary) (one_given (h.given b) k g is given)))

    by_primary : (m ≡ g.primary) ⊎ (m ≡ g.primary → ⊥) → j ≤ cond (m == g.primary) (length l.list) (max_acknowledged m b w.sent)
    by_primary (inl e) =
        subst (λ k. j ≤ cond k (length l.list) (max_acknowledged m b w.sent)) (sym (eq-eqb m g.primary e)) (within_of rules w h s m b j l lined t)
    by_primary (inr ne) =
        subst (λ k. j ≤ cond k (length l.list) (max_acknowledged m b w.sent)) (sym (ne_eqb m g.primary ne)) (by_told ne t)
