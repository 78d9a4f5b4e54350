-- Adds.antt: what a step adds to what was proposed, taken and given between moments, on whole logs and in
-- the terms of a group that cuts its logs.
use Rattle.std.proofs.Common.{◌≡◌, ℕ, ◌≤◌, cond, List, [], ◌∷◌, ◌++◌, length, refl, ap, ap₂, sym, ◌∙◌}
use Rattle.std.specs.Prelude.{nat_lt, ◌==◌}
use Rattle.std.proofs.lemmas.List.{append-nil}
use Rattle.machine.specs.Machine.{Rules}
use Rattle.ballot_base.specs.declared.config.Config.{Config}
use Rattle.ballot_base.specs.declared.message.Effect.{Effect}
use Rattle.ballot_base.specs.Protocol.{Input}
use Rattle.ballot_base.specs.Protocol.Input.{Receives, Proposes, Ticks}
use Rattle.ballot_base.specs.Replica.{ReplicaState}
use Rattle.agreement.specs.NodeOutputs.{given_in as whole_given_in, given_of as whole_given_of}
use Rattle.agreement.specs.MasterState.{MasterState}
use Rattle.agreement.specs.Moments.{Learns, Moment as WholeMoment, Moments as WholeMoments}
use Rattle.agreement.specs.Moments.Moments.{went_on, learned}
use Rattle.agreement.specs.Proposals.{proposal_by as whole_proposal_by, proposal_of as whole_proposal_of, proposals_of as whole_proposals_of, taken_at as whole_taken_at, taken_by as whole_taken_by, taken_in as whole_taken_in, taken_of as whole_taken_of, takes_at as whole_takes_at}
use Rattle.agreement.specs.Steps.{MayHappen as WholeMayHappen}
use Rattle.agreement.specs.World.{GroupWorld as WholeWorld, outputs as whole_outputs}
use Rattle.agreement.specs.whole_logs.Messages.{Effect as WholeEffect}
use Rattle.agreement.specs.whole_logs.Protocol.{Input as WholeInput}
use Rattle.agreement.specs.whole_logs.Replica.{ReplicaState as WholeState}
use Rattle.agreement.specs.cut_logs.Proposals.{proposal_by, taken_by}
use Rattle.agreement.specs.cut_logs.Whole.{whole, whole_effects, whole_input}
use Rattle.agreement.specs.cut_logs.World.{outputs}
use Rattle.agreement.proofs.of_cut_logs.Fronts.{whole_long}

-- what is added: proposals, what of them was taken, by which node, and what each node gave
pub record Added (C O : Type 0) : Type 0 where
  pub proposed : List (ℕ × C)
  pub taken : List (ℕ × C)
  pub taken_at : ℕ → List (ℕ × C)
  pub given : ℕ → List (ℕ × O)

abbrev pub nothing_added : (C O : Type 0) → Added C O
nothing_added C O = record { proposed = []; taken = []; taken_at = λ n. []; given = λ n. [] }

-- by a step on whole logs
pub record AddsBy {S C O : Type 0} {rules : Rules S C O} {m : MasterState} {w : WholeWorld S C O} {k : MasterState} {v : WholeWorld S C O}
    (step : WholeMayHappen rules m w k v) (d : Added C O) : Type 0 where
  pub proposes : whole_proposal_of step ≡ d.proposed
  pub takes : whole_taken_in step ≡ d.taken
  pub takes_at : (n : ℕ) → whole_takes_at n step ≡ d.taken_at n
  pub gives : (n : ℕ) → whole_given_in n step ≡ d.given n

-- .. with the step: such a pair can be carried over to an equal world
abbrev pub StepAdds : {S C O : Type 0} → Rules S C O → MasterState → WholeWorld S C O → MasterState → WholeWorld S C O → Added C O → Type 0
StepAdds rules m w k v d = (step : WholeMayHappen rules m w k v) × AddsBy step d

-- to moments
pub record Adds {S C O : Type 0} {rules : Rules S C O} {config : Config} {xs ys : List (WholeMoment S C O)}
    (before : WholeMoments rules config xs) (after : WholeMoments rules config ys) (d : Added C O) : Type 0 where
  pub proposes : whole_proposals_of after ≡ whole_proposals_of before ++ d.proposed
  pub takes : whole_taken_of after ≡ whole_taken_of before ++ d.taken
  pub takes_at : (n : ℕ) → whole_taken_at n after ≡ whole_taken_at n before ++ d.taken_at n
  pub gives : (n : ℕ) → whole_given_of n after ≡ whole_given_of n before ++ d.given n

-- one step more
pub adds_one : {S C O : Type 0} {rules : Rules S C O} {config : Config} {a b : WholeMoment S C O} {earlier : List (WholeMoment S C O)}
    (came : WholeMoments rules config (a ∷ earlier)) (d : Added C O) (s : StepAdds rules a.master a.world b.master b.world d) →
    Adds {ys = b ∷ a ∷ earlier} came (went_on came s.0) d
adds_one came d s =
    record {
      proposes = ap (λ us. whole_proposals_of came ++ us) s.1.proposes;
      takes = ap (λ us. whole_taken_of came ++ us) s.1.takes;
      takes_at = λ n. ap (λ us. whole_taken_at n came ++ us) (s.1.takes_at n);
      gives = λ n. ap (λ us. whole_given_of n came ++ us) (s.1.gives n);
    }

-- a node that learns adds nothing
pub adds_learning : {S C O : Type 0} {rules : Rules S C O} {config : Config} {xs : List (WholeMoment S C O)} {a b : WholeMoment S C O} {earlier : List (WholeMoment S C O)}
    (first : WholeMoments rules config xs) (came : WholeMoments rules config (a ∷ earlier)) (learns : Learns rules (a ∷ earlier) a b) (d : Added C O) →
    Adds first came d → Adds {ys = b ∷ a ∷ earlier} first (learned came learns) d
adds_learning first came learns d q = record { proposes = q.proposes; takes = q.takes; takes_at = q.takes_at; gives = q.gives }

-- nothing was done
pub adds_nothing : {S C O : Type 0} {rules : Rules S C O} {config : Config} {xs : List (WholeMoment S C O)} (came : WholeMoments rules config xs) →
    Adds came came (nothing_added C O)
adds_nothing came =
    record {
      proposes = sym (append-nil (whole_proposals_of came));
      takes = sym (append-nil (whole_taken_of came));
      takes_at = λ n. sym (append-nil (whole_taken_at n came));
      gives = λ n. sym (append-nil (whole_given_of n came));
    }

-- what a node's step adds, by both definitions
abbrev pub added_whole : {S C O : Type 0} → List C → ℕ → ReplicaState S C → Input C → ReplicaState S C → List (Effect C O) → Added C O
added_whole archive n r input new given =
    record {
      proposed = whole_proposal_by (whole archive r) (whole_input archive input);
      taken = whole_taken_by (whole archive r) (whole archive new) (whole_input archive input);
      taken_at = λ i. cond (n == i) (whole_taken_by (whole archive r) (whole archive new) (whole_input archive input)) [];
      given = λ i. cond (n == i) (whole_outputs (whole_effects archive given)) [];
    }

pub proposed_whole : {S C : Type 0} (archive : List C) (r : ReplicaState S C) (input : Input C) →
    whole_proposal_by (whole archive r) (whole_input archive input) ≡ proposal_by r input
proposed_whole archive r (Receives message) = refl
proposed_whole archive r (Proposes command) = refl
proposed_whole archive r Ticks = refl

pub taken_whole : {S C : Type 0} (archive : List C) (r new : ReplicaState S C) (input : Input C) → r.log.base ≤ length archive → new.log.base ≤ length archive →
    whole_taken_by (whole archive r) (whole archive new) (whole_input archive input) ≡ taken_by r new input
taken_whole {C = C} archive r new input within later =
    ap (λ us. cond (nat_lt (length (whole archive r).log) (length (whole archive new).log)) us []) (proposed_whole archive r input)
    ∙ ap₂ (λ i j. cond (nat_lt i j) (proposal_by r input) []) (whole_long archive r.log within) (whole_long archive new.log later)

-- what a step of one node adds, on whole logs
abbrev pub added_at : {S C O : Type 0} → ℕ → WholeState S C → WholeInput C → WholeState S C → List (WholeEffect C O) → Added C O
added_at n r input new given =
    record {
      proposed = whole_proposal_by r input;
      taken = whole_taken_by r new input;
      taken_at = λ i. cond (n == i) (whole_taken_by r new input) [];
      given = λ i. cond (n == i) (whole_outputs given) [];
    }

-- the same by another definition
pub adds_as : {S C O : Type 0} {rules : Rules S C O} {config : Config} {xs ys : List (WholeMoment S C O)} (before : WholeMoments rules config xs)
    (after : WholeMoments rules config ys) (d e : Added C O) → d.proposed ≡ e.proposed → d.taken ≡ e.taken → ((n : ℕ) → d.taken_at n ≡ e.taken_at n) →
    ((n : ℕ) → d.given n ≡ e.given n) → Adds before after d → Adds before after e
adds_as before after d e p t u g q =
    record {
      proposes = q.proposes ∙ ap (λ us. whole_proposals_of before ++ us) p;
      takes = q.takes ∙ ap (λ us. whole_taken_of before ++ us) t;
      takes_at = λ n. q.takes_at n ∙ ap (λ us. whole_taken_at n before ++ us) (u n);
      gives = λ n. q.gives n ∙ ap (λ us. whole_given_of n before ++ us) (g n);
    }

-- nothing was proposed, taken or given between moments
pub record SaysNothing {S C O : Type 0} {rules : Rules S C O} {config : Config} {xs : List (WholeMoment S C O)} (came : WholeMoments rules config xs) : Type 0 where
  pub proposes : whole_proposals_of came ≡ []
  pub takes : whole_taken_of came ≡ []
  pub takes_at : (n : ℕ) → whole_taken_at n came ≡ []
  pub gives : (n : ℕ) → whole_given_of n came ≡ []

-- what a node's step adds, in the terms of a group that cuts its logs
abbrev pub added_by_node : {S C O : Type 0} → ℕ → ReplicaState S C → Input C → ReplicaState S C → List (Effect C O) → Added C O
added_by_node n r input new given =
    record {
      proposed = proposal_by r input;
      taken = taken_by r new input;
      taken_at = λ i. cond (n == i) (taken_by r new input) [];
      given = λ i. cond (n == i) (outputs given) [];
    }
