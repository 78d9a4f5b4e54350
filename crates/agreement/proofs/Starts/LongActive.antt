-- LongActive.antt: a ballot with an active primary keeps a list that is longer than its base.
use Rattle.std.proofs.Common.{◌≡◌, ℕ, ◌<◌, ◌⊎◌, inl, inr, List, [], ◌∷◌, length, set, Some, Option, ap, sym, ◌∙◌, subst, arith}
use Rattle.std.specs.Prelude.{slice_get}
use Rattle.std.proofs.lemmas.Bool.{cases_eq}
use Rattle.std.proofs.lemmas.List.{length-append}
use Rattle.machine.specs.Machine.{Rules}
use Rattle.agreement.specs.whole_logs.Messages.{Effect}
use Rattle.agreement.specs.whole_logs.Losses.{Loses}
use Rattle.agreement.specs.whole_logs.Protocol.{Input, replica_step}
use Rattle.agreement.specs.whole_logs.Replica.{ReplicaState}
use Rattle.agreement.specs.World.{GroupWorld, moved}
use Rattle.agreement.specs.Inside.Ballots.{Line, History}
use Rattle.agreement.specs.Inside.Begun.{AreLong}
use Rattle.agreement.specs.Inside.Keeps.{NodeGoesOn}
use Rattle.agreement.specs.Inside.Sound.{IsSoundWorld}
use Rattle.lists.proofs.Places.{get_set, get_set_other}
use Rattle.lists.proofs.Prefixes.{prefix_length}
use Rattle.agreement.proofs.Frame.Bases.{one_line}
use Rattle.agreement.proofs.Starts.StaysActive.{StaysActive}
use Rattle.agreement.proofs.Starts.StepActive.{Begins, step_begins}

-- a node after a step with losses
pub loses_begins : {S C O : Type 0} (rules : Rules S C O) (r : ReplicaState S C) (input : Input C) (new : ReplicaState S C) (given : List (Effect C O)) →
    Loses rules r (replica_step rules r input) new given →
    StaysActive {O = O} r (record { state = new; effects = [] }) ⊎ Begins {O = O} r (record { state = new; effects = [] })
loses_begins {S = S} {C = C} {O = O} rules r input new given (inl (e, thinned)) = by_step (step_begins rules r input)
  where
    by_step : StaysActive r (replica_step rules r input) ⊎ Begins r (replica_step rules r input) →
        StaysActive {O = O} r (record { state = new; effects = [] }) ⊎ Begins {O = O} r (record { state = new; effects = [] })
    by_step (inl f) = inl (λ x. let z = f (sym (ap (λ (y : ReplicaState S C). y.role) e) ∙ x) in (z.0, ap (λ (y : ReplicaState S C). y.joined) e ∙ z.1))
    by_step (inr b) = inr (record { command = b.command; role = b.role; joined = ap (λ (y : ReplicaState S C). y.joined) e ∙ b.joined; log = ap (λ (y : ReplicaState S C). y.log) e ∙ b.log })
loses_begins {S = S} {C = C} rules r input new given (inr (inl (e, f))) =
    inl (λ x. (sym (ap (λ (y : ReplicaState S C). y.role) e) ∙ x, ap (λ (y : ReplicaState S C). y.joined) e))
loses_begins {S = S} {C = C} rules r input new given (inr (inr (e, f))) =
    inl (λ x. (sym (ap (λ (y : ReplicaState S C). y.role) e) ∙ x, ap (λ (y : ReplicaState S C). y.joined) e))

-- the master changes no list
pub long_same : {S C O : Type 0} (w : GroupWorld S C O) (h i : History C) → i.line ≡ h.line → AreLong w h → AreLong w i
long_same {S = S} {C = C} w h i e long = subst (λ (line : ℕ → Option (Line C)). AreLong w (record h { line = line })) (sym e) long

-- after a move of a node
pub long_moved : {S C O : Type 0} (rules : Rules S C O) (w v : GroupWorld S C O) (h : History C) (adds : ℕ → C → Type 0) (n : ℕ) (old new : ReplicaState S C)
    (given : List (Effect C O)) → IsSoundWorld rules w h → slice_get w.nodes n ≡ Some old → (g : NodeGoesOn rules w h adds v) → AreLong w h →
    v ≡ moved w n new given →
    StaysActive {O = O} old (record { state = new; effects = [] }) ⊎ Begins {O = O} old (record { state = new; effects = [] }) → AreLong v g.history
long_moved {S = S} {C = C} {O = O} rules w v h adds n old new given s stands g long same how m r e active = by_place (cases_eq m n)
  where
    nodes : slice_get (set w.nodes n new) m ≡ Some r
    nodes = ap (λ (x : GroupWorld S C O). slice_get x.nodes m) (sym same) ∙ e

    still : (b : ℕ) → (b ≡ 1) ⊎ ((l : Line C) → h.line b ≡ Some l → length l.base < length l.list) → ((l : Line C) × (h.line b ≡ Some l)) →
        (b ≡ 1) ⊎ ((l : Line C) → g.history.line b ≡ Some l → length l.base < length l.list)
    still b (inl one) x = inl one
    still b (inr f) (l, lined) = inr (λ k is.
        let z = g.extends.lines b l lined in
        let one : z.0 ≡ k = one_line (g.history.line b) z.0 k z.1 is in
        let p = prefix_length z.3 in let q = ap length z.2 in let u = f l lined in
        let x = ap (λ (y : Line C). length y.base) one in let y = ap (λ (y : Line C). length y.list) one in omega (arith, p, q, u, x, y))

    by_how : r ≡ new → StaysActive {O = O} old (record { state = new; effects = [] }) ⊎ Begins {O = O} old (record { state = new; effects = [] }) →
        (r.joined ≡ 1) ⊎ ((l : Line C) → g.history.line r.joined ≡ Some l → length l.base < length l.list)
    by_how f (inl stays) =
        let z = stays (sym (ap (λ (y : ReplicaState S C). y.role) f) ∙ active) in
        let j : old.joined ≡ r.joined = sym z.1 ∙ sym (ap (λ (y : ReplicaState S C). y.joined) f) in
        let a = (s.nodes n old stands).active z.0 in
        subst (λ b. (b ≡ 1) ⊎ ((l : Line C) → g.history.line b ≡ Some l → length l.base < length l.list)) j
        (still old.joined (long n old stands z.0) (a.line, a.lined))
    by_how f (inr begins) =
        let t = g.sound.nodes m r e in let a = t.active active in
        let i = (s.nodes n old stands).installing begins.role in
        let j : r.joined ≡ old.joined = ap (λ (y : ReplicaState S C). y.joined) f ∙ begins.joined in
        let log = t.primary_log a.leads.0 a.line (ap g.history.given a.own ∙ a.leads.1) a.leads.2 (ap g.history.line a.own ∙ a.lined) in
        inr (λ k is.
        let z = g.extends.lines old.joined i.line i.lined in
        let one : z.0 ≡ k = one_line (g.history.line old.joined) z.0 k z.1 (ap g.history.line (sym j) ∙ is) in
        let two : a.line ≡ k = one_line (g.history.line r.joined) a.line k a.lined is in
        let p = ap length (sym log ∙ ap (λ (y : ReplicaState S C). y.log) f ∙ begins.log) in
        let q = ap length i.base in let u = length-append old.log (begins.command ∷ []) in
        let x = ap (λ (y : Line C). length y.base) one in let c = ap length z.2 in
        let d = ap (λ (y : Line C). length y.list) two in omega (arith, p, q, u, x, c, d))

    by_place : (m ≡ n) ⊎ (m ≡ n → ⊥) → (r.joined ≡ 1) ⊎ ((l : Line C) → g.history.line r.joined ≡ Some l → length l.base < length l.list)
    by_place (inl here) =
        let z : Some r ≡ Some new = sym nodes ∙ ap (slice_get (set w.nodes n new)) here ∙ get_set w.nodes n old new stands in
        let f : r ≡ new = cc in by_how f how
    by_place (inr ne) =
        let k = sym (get_set_other w.nodes n m new ne) ∙ nodes in
        let a = (s.nodes m r k).active active in still r.joined (long m r k active) (a.line, a.lined)
