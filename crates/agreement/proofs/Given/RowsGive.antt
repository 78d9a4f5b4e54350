-- RowsGive.antt: each row between ballots, and each tick, has no output and applies nothing.
use Rattle.std.proofs.Common.{◌≡◌, ℕ, ◌⊎◌, inl, inr, true, false, List, [], ◌∷◌, ◌++◌, length, refl, ap, ◌∙◌}
use Rattle.std.specs.Prelude.{nat_lt, nat_le, ◌&&◌, ◌||◌, ◌==◌}
use Rattle.std.specs.List.{list_any}
use Rattle.std.proofs.lemmas.Bool.{cases_Bool}
use Rattle.agreement.specs.whole_logs.Messages.Body.{Join, Commit}
use Rattle.agreement.specs.whole_logs.Transfer.{on_new_ballot, on_join, on_install, on_state}
use Rattle.agreement.specs.whole_logs.Activation.{on_superseded, on_installed, activates}
use Rattle.agreement.specs.whole_logs.Replica.{ReplicaState}
use Rattle.ballot_base.specs.Replica.{is_fetching, is_installing, others}
use Rattle.ballot_base.specs.declared.status.Role.{Role}
use Rattle.ballot_base.specs.declared.status.Role.TheVariants.{Backup, Fetching, Installing, Active}
use Rattle.agreement.specs.whole_logs.Protocol.{ticked}
use Rattle.agreement.specs.whole_logs.StepOutcome.{Outcome, message_to_followed}
use Rattle.agreement.specs.whole_logs.Service.{appends_after, follows, on_append, on_tick_active}
use Rattle.agreement.specs.World.{outputs}
use Rattle.agreement.proofs.Changing.NewBallots.{outputs_to_each}
use Rattle.agreement.proofs.Effects.{outputs-append, outputs_of_messages}
use Rattle.agreement.proofs.Serving.ActiveTicks.{silent_after}
use Rattle.agreement.proofs.Serving.Ticking.{dumb_installs}

-- no output is given, and nothing applied
pub record GivesNothing {S C O : Type 0} (r : ReplicaState S C) (o : Outcome S C O) : Type 0 where
  pub silent : outputs o.effects ≡ []
  pub same : o.state.committed ≡ r.committed

pub new_ballot_gives : {S C : Type 0} (O : Type 0) (r : ReplicaState S C) (b : ℕ) (members : List ℕ) (a : ℕ) (old : List ℕ) →
    GivesNothing r (on_new_ballot O r b members a old)
unfolding on_new_ballot
new_ballot_gives O r b members a old = by_condition (cases_Bool (nat_lt r.joined b))
  where
    by_condition : (nat_lt r.joined b ≡ true) ⊎ (nat_lt r.joined b ≡ false) → GivesNothing r (on_new_ballot O r b members a old)
    by_condition (inl e) = rw e (record { silent = outputs_to_each O r.id (Join b a) old; same = refl })
    by_condition (inr e) = rw e (record { silent = refl; same = refl })

pub join_gives : {S C : Type 0} (O : Type 0) (r : ReplicaState S C) (from b a : ℕ) → GivesNothing r (on_join O r from b a)
unfolding on_join
join_gives O r from b a = by_condition (cases_Bool (nat_le r.joined b && nat_le a r.held_in)) (cases_Bool (nat_lt r.joined b))
  where
    by_condition : ((nat_le r.joined b && nat_le a r.held_in) ≡ true) ⊎ ((nat_le r.joined b && nat_le a r.held_in) ≡ false) →
        (nat_lt r.joined b ≡ true) ⊎ (nat_lt r.joined b ≡ false) → GivesNothing r (on_join O r from b a)
    by_condition (inl e) (inl f) = rw (e, f) (record { silent = refl; same = refl })
    by_condition (inl e) (inr f) = rw (e, f) (record { silent = refl; same = refl })
    by_condition (inr e) f = rw e (record { silent = refl; same = refl })

pub state_gives : {S C : Type 0} (O : Type 0) (r : ReplicaState S C) (b : ℕ) (log : List C) → GivesNothing r (on_state O r b log)
unfolding on_state
state_gives O r b log = by_condition (cases_Bool (r.joined == b && (is_fetching r.role && nat_le r.committed (length log))))
  where
    by_condition : ((r.joined == b && (is_fetching r.role && nat_le r.committed (length log))) ≡ true)
        ⊎ ((r.joined == b && (is_fetching r.role && nat_le r.committed (length log))) ≡ false) → GivesNothing r (on_state O r b log)
    by_condition (inl e) = rw e (record { silent = dumb_installs O (record r { held_in = b; log = log; role = Installing; lacking = others r.id r.members }) (others r.id r.members); same = refl })
    by_condition (inr e) = rw e (record { silent = refl; same = refl })

pub install_gives : {S C : Type 0} (O : Type 0) (r : ReplicaState S C) (from b : ℕ) (log : List C) → GivesNothing r (on_install O r from b log)
unfolding on_install
install_gives O r from b log =
    by_condition (cases_Bool ((nat_lt r.joined b || (r.joined == b && nat_lt r.held_in b)) && nat_le r.committed (length log)))
    (cases_Bool (r.joined == b && r.held_in == b))
  where
    by_condition : (((nat_lt r.joined b || (r.joined == b && nat_lt r.held_in b)) && nat_le r.committed (length log)) ≡ true)
        ⊎ (((nat_lt r.joined b || (r.joined == b && nat_lt r.held_in b)) && nat_le r.committed (length log)) ≡ false) →
        ((r.joined == b && r.held_in == b) ≡ true) ⊎ ((r.joined == b && r.held_in == b) ≡ false) → GivesNothing r (on_install O r from b log)
    by_condition (inl e) f = rw e (record { silent = refl; same = refl })
    by_condition (inr e) (inl f) = rw (e, f) (record { silent = refl; same = refl })
    by_condition (inr e) (inr f) = rw (e, f) (record { silent = refl; same = refl })

pub installed_gives : {S C : Type 0} (O : Type 0) (r : ReplicaState S C) (from b : ℕ) → GivesNothing r (on_installed O r from b)
unfolding on_installed
installed_gives {S = S} {C = C} O r from b = by_condition (cases_Bool ((r.joined == b && is_installing r.role) && list_any (λ member. member == from) r.lacking))
  where
    dumb : (x : ReplicaState S C) (ms : List ℕ) → outputs (activates O x ms) ≡ []
    dumb x [] = refl
    dumb x (m ∷ ms) = refl

    by_condition : (((r.joined == b && is_installing r.role) && list_any (λ member. member == from) r.lacking) ≡ true)
        ⊎ (((r.joined == b && is_installing r.role) && list_any (λ member. member == from) r.lacking) ≡ false) → GivesNothing r (on_installed O r from b)
    by_condition (inl e) = rw e (record { silent = dumb (record r { lacking = others from r.lacking }) (others from r.lacking); same = refl })
    by_condition (inr e) = rw e (record { silent = refl; same = refl })

pub superseded_gives : {S C : Type 0} (O : Type 0) (r : ReplicaState S C) (b : ℕ) → GivesNothing r (on_superseded O r b)
unfolding on_superseded
superseded_gives O r b = by_condition (cases_Bool (r.joined == b && is_installing r.role))
  where
    by_condition : ((r.joined == b && is_installing r.role) ≡ true) ⊎ ((r.joined == b && is_installing r.role) ≡ false) →
        GivesNothing r (on_superseded O r b)
    by_condition (inl e) = rw e (record { silent = refl; same = refl })
    by_condition (inr e) = rw e (record { silent = refl; same = refl })

pub append_gives : {S C : Type 0} (O : Type 0) (r : ReplicaState S C) (from b place : ℕ) (c : C) → GivesNothing r (on_append O r from b place c)
unfolding on_append
append_gives O r from b place c = by_condition (cases_Bool (follows r b && nat_le place (length r.log)))
  where
    by_condition : ((follows r b && nat_le place (length r.log)) ≡ true) ⊎ ((follows r b && nat_le place (length r.log)) ≡ false) →
        GivesNothing r (on_append O r from b place c)
    by_condition (inl e) = rw e (record { silent = refl; same = refl })
    by_condition (inr e) = rw e (record { silent = refl; same = refl })

pub tick_gives : {S C : Type 0} (O : Type 0) (r : ReplicaState S C) (role : Role) → GivesNothing r (ticked O r role)
unfolding on_tick_active
tick_gives O r Backup = record { silent = refl; same = refl }
tick_gives O r Fetching = record { silent = outputs_to_each O r.id (Join r.joined r.previous) r.previous_members; same = refl }
tick_gives O r Installing = record { silent = dumb_installs O r r.lacking; same = refl }
tick_gives {C = C} O r Active =
    record {
      silent = outputs-append (appends_after O r.id r.joined r.log r.progress) (message_to_followed O r.id (Commit r.joined r.committed) r.progress)
          ∙ ap (λ us. us ++ outputs {C = C} (message_to_followed O r.id (Commit r.joined r.committed) r.progress))
          (silent_after O r.id r.joined r.log r.progress)
          ∙ outputs_of_messages r.id (Commit r.joined r.committed) r.progress;
      same = refl;
    }
