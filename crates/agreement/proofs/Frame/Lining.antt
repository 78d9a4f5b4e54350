-- Lining.antt: a move by which the list of one ballot changes, that of the ballot's primary.
use Rattle.std.proofs.Common.{◌≡◌, ℕ, ◌+◌, ◌≤◌, ◌⊎◌, inl, inr, List, length, Some, Option, refl, ap, sym, ◌∙◌, subst, arith}
use Rattle.std.specs.Prelude.{slice_get}
use Rattle.std.proofs.lemmas.Bool.{cases_eq, eq-eqb, ne_eqb}
use Rattle.agreement.specs.whole_logs.Messages.{Message, Body, Effect}
use Rattle.agreement.specs.whole_logs.Messages.Body.{NewBallot, Join, State, Install, Installed, Activate, Activated, Superseded, Append, Held, Commit}
use Rattle.agreement.specs.whole_logs.Replica.{ReplicaState}
use Rattle.agreement.specs.World.{GroupWorld, messages}
use Rattle.lists.specs.Lists.{In, IsPrefixOf}
use Rattle.agreement.specs.Inside.Ballots.{Given, Line, History}
use Rattle.agreement.specs.Inside.MovesAt.{MovesAt, LineGoesOn, TellsNow, lined_at}
use Rattle.agreement.specs.Inside.MovesAt.LineGoesOn.{stays}
use Rattle.lists.proofs.Prefixes.{prefix_same}
use Rattle.agreement.proofs.Frame.Joining.{IsSilent}
use Rattle.agreement.proofs.Frame.Telling.{TellsWithin, tells_of}

-- the list at the ballot, and elsewhere
pub lined_here : {C : Type 0} (b : ℕ) (k : Line C) (line : ℕ → Option (Line C)) → lined_at b k line b ≡ Some k
lined_here b k line = rw (eq-eqb b b refl) refl

pub lined_other : {C : Type 0} (b : ℕ) (k : Line C) (line : ℕ → Option (Line C)) (x : ℕ) → (x ≡ b → ⊥) → lined_at b k line x ≡ line x
lined_other b k line x ne = rw (ne_eqb x b ne) refl

pub lined_cases : {C : Type 0} (b : ℕ) (k : Line C) (line : ℕ → Option (Line C)) (x : ℕ) (l : Line C) → lined_at b k line x ≡ Some l →
    ((x ≡ b) × (k ≡ l)) ⊎ ((x ≡ b → ⊥) × (line x ≡ Some l))
lined_cases {C = C} b k line x l e = by_ballot (cases_eq x b)
  where
    by_ballot : (x ≡ b) ⊎ (x ≡ b → ⊥) → ((x ≡ b) × (k ≡ l)) ⊎ ((x ≡ b → ⊥) × (line x ≡ Some l))
    by_ballot (inl same) =
        let f : lined_at b k line x ≡ Some k = ap (lined_at b k line) same ∙ lined_here b k line in
        let g : k ≡ l = cc in inl (same, g)
    by_ballot (inr ne) = inr (ne, sym (lined_other b k line x ne) ∙ e)

-- a silent body says nothing
pub silent_within : {S C : Type 0} (line : ℕ → Option (Line C)) (old new : ReplicaState S C) (body : Body C) → IsSilent body →
    TellsWithin line old new body
silent_within line old new (NewBallot b m a am) s = tt
silent_within line old new (Join b a) s = tt
silent_within line old new (State b xs) s = tt
silent_within line old new (Install b xs) s = tt
silent_within line old new (Installed b k) s = absurd s
silent_within line old new (Activate b) s = tt
silent_within line old new (Activated b) s = tt
silent_within line old new (Superseded b) s = tt
silent_within line old new (Append b k c) s = tt
silent_within line old new (Held b k) s = absurd s
silent_within line old new (Commit b k) s = tt

-- a move of a ballot's primary by which its list changes to the log
pub list_moves : {S C O : Type 0} (w : GroupWorld S C O) (h : History C) (n : ℕ) (old new : ReplicaState S C) (given : List (Effect C O))
    (b : ℕ) (k : Line C) (g : Given) → slice_get w.nodes n ≡ Some old → old.joined ≤ new.joined → old.committed ≤ new.committed →
    h.given b ≡ Some g → g.primary ≡ n + 1 → LineGoesOn w h b k →
    ((l : Line C) → h.line b ≡ Some l → (k.base ≡ l.base) × IsPrefixOf l.list k.list) →
    old.joined ≤ b → b ≡ new.held_in → new.log ≡ k.list →
    ((to : ℕ) (m : Message C) → In (to, m) (messages given) → (m.from ≡ n + 1) × IsSilent m.body) →
    MovesAt w h (lined_at b k h.line) n old new given
list_moves {S = S} {C = C} {O = O} w h n old new given b k g stands rises committed given_b primary goes prior low held same now =
    record {
      stands = stands;
      rises = rises;
      committed = committed;
      goes_on = λ x y e. by_line x y (lined_cases b k h.line x y e);
      lines = λ x l e. by_ballot x l e (cases_eq x b);
      own = own;
      tells = tells_of w h (lined_at b k h.line) n old new given own
          (λ x l e. fresh x l (lined_cases b k h.line x l e))
          (λ to m i. let z = now to m i in (z.0, silent_within (lined_at b k h.line) old new m.body z.1));
    }
  where
    by_line : (x : ℕ) (y : Line C) → ((x ≡ b) × (k ≡ y)) ⊎ ((x ≡ b → ⊥) × (h.line x ≡ Some y)) → LineGoesOn w h x y
    by_line x y (inl (e, f)) =
        subst (λ z. LineGoesOn w h z y) (sym e) (subst (λ (z : Line C). LineGoesOn w h b z) f goes)
    by_line x y (inr (ne, e)) = stays e

    by_ballot : (x : ℕ) (l : Line C) → h.line x ≡ Some l → (x ≡ b) ⊎ (x ≡ b → ⊥) →
        (y : Line C) × (lined_at b k h.line x ≡ Some y) × (y.base ≡ l.base) × IsPrefixOf l.list y.list
    by_ballot x l e (inl f) =
        let z = prior l (ap h.line (sym f) ∙ e) in
        (k, ap (lined_at b k h.line) f ∙ lined_here b k h.line, z.0, z.1)
    by_ballot x l e (inr ne) = (l, lined_other b k h.line x ne ∙ e, refl, prefix_same l.list)

    own : (x : ℕ) (o : Given) → h.given x ≡ Some o → (o.primary ≡ n + 1 → ⊥) → lined_at b k h.line x ≡ h.line x
    own x o e ne = lined_other b k h.line x (λ f.
        let a : h.given b ≡ Some o = ap h.given (sym f) ∙ e in let d : g ≡ o = cc in
        ne (ap (λ (y : Given). y.primary) (sym d) ∙ primary))

    fresh : (x : ℕ) (l : Line C) → ((x ≡ b) × (k ≡ l)) ⊎ ((x ≡ b → ⊥) × (h.line x ≡ Some l)) →
        (h.line x ≡ Some l) ⊎ TellsNow (lined_at b k h.line) old new x (length l.list)
    fresh x l (inr (ne, e)) = inl e
    fresh x l (inl (e, f)) =
        inr (record {
          low = omega (arith, low, e);
          held = e ∙ held;
          short = (let z = ap length same in let y = ap (λ (u : Line C). length u.list) f in omega (arith, z, y));
          told = k;
          lined = ap (lined_at b k h.line) e ∙ lined_here b k h.line;
          within = (let y = ap (λ (u : Line C). length u.list) f in omega (arith, y));
        })
