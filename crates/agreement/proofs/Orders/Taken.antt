-- Taken.antt: how a proposal to a node goes: its command comes to the end of the log, or the log stays.
use Rattle.std.proofs.Common.{◌≡◌, ℕ, ◌<◌, ◌≤◌, ◌⊎◌, inl, inr, true, false, cond, List, [], ◌∷◌, ◌++◌, length, refl, ap, ◌∙◌, subst, arith}
use Rattle.std.specs.Prelude.{Bool}
use Rattle.std.proofs.lemmas.Bool.{cases_Bool, cases_lt, lt-ltb, le-ltb}
use Rattle.std.proofs.lemmas.List.{length-append}
use Rattle.machine.specs.Machine.{Rules}
use Rattle.lists.specs.Lists.{In}
use Rattle.agreement.specs.whole_logs.Messages.{Effect}
use Rattle.agreement.specs.whole_logs.Losses.{Loses, Thinned, halted}
use Rattle.agreement.specs.whole_logs.Losses.Thinned.{none}
use Rattle.agreement.specs.whole_logs.Protocol.Input.{Proposes}
use Rattle.agreement.specs.whole_logs.Replica.{ReplicaState}
use Rattle.ballot_base.specs.Replica.{is_active}
use Rattle.agreement.specs.whole_logs.StepOutcome.{Outcome, nothing_done}
use Rattle.agreement.specs.whole_logs.Service.{added, proposed}
use Rattle.ballot_base.specs.Service.{max_places}
use Rattle.agreement.proofs.of_whole_logs.StepRows.{proposed-adds, proposed-full, proposed-not_active}
use Rattle.agreement.specs.Proposals.{taken_by}

-- a proposal to a node: it was added, or refused, or the node stopped
pub data Went {S C O : Type 0} (rules : Rules S C O) (r : ReplicaState S C) (c : C) (new : ReplicaState S C)
    (given : List (Effect C O)) : Type 0 where
  was_added : is_active r.role ≡ true → new ≡ (added rules r c).state → Went rules r c new given
  was_refused : new ≡ r → given ≡ [] → Went rules r c new given
  has_stopped : new ≡ halted rules r → given ≡ [] → Went rules r c new given

nothing_thinned : {C O : Type 0} {given : List (Effect C O)} → Thinned given [] → given ≡ []
nothing_thinned none = refl

pub proposal_went : {S C O : Type 0} (rules : Rules S C O) (r : ReplicaState S C) (c : C) (new : ReplicaState S C)
    (given : List (Effect C O)) → Loses rules r (proposed rules r c) new given → Went rules r c new given
proposal_went rules r c new given (inr (inl (e, f))) = was_refused e f
proposal_went rules r c new given (inr (inr (e, f))) = has_stopped e f
proposal_went {S = S} {C = C} {O = O} rules r c new given (inl (e, thinned)) = by_role (cases_Bool (is_active r.role)) (cases_lt (length r.log) max_places)
  where
    refused : proposed rules r c ≡ nothing_done O r → Went rules r c new given
    refused f =
        was_refused (e ∙ ap (λ (o : Outcome S C O). o.state) f)
        (nothing_thinned (subst (λ (o : Outcome S C O). Thinned given o.effects) f thinned))

    by_role : (is_active r.role ≡ true) ⊎ (is_active r.role ≡ false) → (length r.log < max_places) ⊎ (max_places ≤ length r.log) →
        Went rules r c new given
    by_role (inl a) (inl room) = was_added a (e ∙ ap (λ (o : Outcome S C O). o.state) (proposed-adds rules r c a room))
    by_role (inl a) (inr full) = refused (proposed-full rules r c a full)
    by_role (inr a) room = refused (proposed-not_active rules r c a)

-- it is taken where it was added, and not where the log stayed
pub taken_when_added : {S C : Type 0} (r new : ReplicaState S C) (c : C) → new.log ≡ r.log ++ c ∷ [] →
    taken_by r new (Proposes c) ≡ (r.joined, c) ∷ []
taken_when_added {C = C} r new c e =
    let long = ap length e in let one = length-append r.log (c ∷ []) in
    ap (λ b. let rows : List (ℕ × C) = cond b ((r.joined, c) ∷ []) [] in rows)
    (lt-ltb (length r.log) (length new.log) (omega (arith, long, one)))

pub taken_when_same : {S C : Type 0} (r new : ReplicaState S C) (c : C) → new.log ≡ r.log → taken_by r new (Proposes c) ≡ []
taken_when_same {C = C} r new c e =
    let long = ap length e in
    ap (λ b. let rows : List (ℕ × C) = cond b ((r.joined, c) ∷ []) [] in rows)
    (le-ltb (length r.log) (length new.log) (omega (arith, long)))

-- a message and a tick bring no proposal
pub none_taken : {X : Type 0} (b : Bool) → cond b [] [] ≡ (let xs : List X = [] in xs)
none_taken true = refl
none_taken false = refl

pub not_in : {X : Type 0} (x : X) (xs : List X) → xs ≡ [] → In x xs → ⊥
not_in {X = X} x xs e i = by (subst (λ (us : List X). In x us) e i)
  where
    by : In x [] → ⊥
    by j = elim j [ ]
