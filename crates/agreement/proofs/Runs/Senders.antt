-- Senders.antt: each message of a node's step is from that node.
use Rattle.std.proofs.Common.{◌≡◌, ℕ, ◌<◌, ◌≤◌, ◌+◌, ◌⊎◌, inl, inr, true, false, List, [], ◌∷◌, ◌++◌, length, map, Option, Some, None, refl, sym, subst}
use Rattle.std.specs.Prelude.{nat_lt, nat_le, ◌&&◌, ◌||◌, ◌==◌, slice_get}
use Rattle.std.specs.List.{list_any}
use Rattle.std.proofs.lemmas.Bool.{cases_Bool, cases_lt}
use Rattle.machine.specs.Machine.{Rules}
use Rattle.agreement.specs.whole_logs.Application.{outputs_from}
use Rattle.agreement.specs.whole_logs.Messages.{Body, Effect, Message}
use Rattle.agreement.specs.whole_logs.Messages.Body.{NewBallot, Join, State, Install, Installed, Activate, Activated, Superseded, Append, Held, Commit}
use Rattle.agreement.specs.whole_logs.Transfer.{on_new_ballot, on_join, install_effects, on_state, on_install}
use Rattle.agreement.specs.whole_logs.Activation.{activates, on_installed, on_activated, on_superseded}
use Rattle.agreement.specs.whole_logs.Messages.Effect.{To, Out}
use Rattle.ballot_base.specs.declared.status.Progress.{Progress}
use Rattle.agreement.specs.whole_logs.Protocol.{Input, received, ticked, replica_step}
use Rattle.agreement.specs.whole_logs.Protocol.Input.{Receives, Proposes, Ticks}
use Rattle.agreement.specs.whole_logs.Replica.{ReplicaState}
use Rattle.ballot_base.specs.Replica.{is_active, is_fetching, is_installing, others}
use Rattle.ballot_base.specs.declared.status.Role.{Role}
use Rattle.ballot_base.specs.declared.status.Role.TheVariants.{Backup, Fetching, Installing, Active}
use Rattle.agreement.specs.whole_logs.StepOutcome.{Outcome, message_to_each, message_to_followed}
use Rattle.agreement.specs.whole_logs.Service.{append_at, appends_after, follows, leads, commit_at, commit, added, proposed, on_append, on_held, on_commit, on_tick_active}
use Rattle.ballot_base.specs.Service.{max_places}
use Rattle.agreement.proofs.of_whole_logs.StepRows.{commit_at-stays, commit_at-goes}
use Rattle.agreement.specs.World.{messages}
use Rattle.lists.specs.Lists.{In}
use Rattle.lists.specs.Lists.In.{here, there}

-- the messages among effects are from one node
pub data AreFrom {C O : Type 0} (id : ℕ) : List (Effect C O) → Type 0 where
  none : AreFrom id []
  says : {receiver : ℕ} {body : Body C} {effects : List (Effect C O)} → AreFrom id effects →
      AreFrom id (To receiver (record { from = id; body = body }) ∷ effects)
  gives : {place : ℕ} {output : O} {effects : List (Effect C O)} → AreFrom id effects → AreFrom id (Out place output ∷ effects)

-- each of them is
pub from_in : {C O : Type 0} (id : ℕ) {effects : List (Effect C O)} → AreFrom id effects →
    (to : ℕ) (m : Message C) → In (to, m) (messages effects) → m.from ≡ id
from_in id none to m i = elim i [ ]
from_in id (says a) to m here = refl
from_in id (says a) to m (there i) = from_in id a to m i
from_in id (gives a) to m i = from_in id a to m i

-- effects that are joined
from_append : {C O : Type 0} (id : ℕ) {xs ys : List (Effect C O)} → AreFrom id xs → AreFrom id ys → AreFrom id (xs ++ ys)
from_append id none b = b
from_append id (says a) b = says (from_append id a b)
from_append id (gives a) b = gives (from_append id a b)

-- messages to several
from_each : {C : Type 0} (O : Type 0) (id : ℕ) (body : Body C) (receivers : List ℕ) → AreFrom id (message_to_each O id body receivers)
from_each O id body [] = none
from_each O id body (receiver ∷ receivers) = says (from_each O id body receivers)

from_followed : {C : Type 0} (O : Type 0) (id : ℕ) (body : Body C) (progress : List Progress) → AreFrom id (message_to_followed O id body progress)
from_followed O id body [] = none
from_followed O id body (reached ∷ progress) = says (from_followed O id body progress)

from_after : {C : Type 0} (O : Type 0) (id ballot : ℕ) (log : List C) (progress : List Progress) → AreFrom id (appends_after O id ballot log progress)
from_after O id ballot log [] = none
from_after {C = C} O id ballot log (reached ∷ progress) =
    from_append id (from_one (slice_get log reached.held)) (from_after O id ballot log progress)
  where
    from_one : (command : Option C) → AreFrom id (append_at O id ballot reached command)
    from_one None = none
    from_one (Some command) = (says none)

-- outputs are no messages
from_outputs : {S C O : Type 0} (id : ℕ) (rules : Rules S C O) (s : S) (place : ℕ) (commands : List C) → AreFrom id (outputs_from rules s place commands)
from_outputs id rules s place [] = none
from_outputs {C = C} {O = O} id rules s place (command ∷ commands) =
    from_append id (from_outs (rules.gives s command)) (from_outputs id rules (rules.after s command) (place + 1) commands)
  where
    from_outs : (outputs : List O) → AreFrom {C = C} id (map (Out place) outputs)
    from_outs [] = none
    from_outs (output ∷ outputs) = gives (from_outs outputs)

-- a commit, and a command that is added
from_commit_at : {S C O : Type 0} (rules : Rules S C O) (r : ReplicaState S C) (held : ℕ) → AreFrom r.id (commit_at rules r held).effects
from_commit_at {S = S} {C = C} {O = O} rules r held = by_order (cases_lt r.committed held)
  where
    by_order : (r.committed < held) ⊎ (held ≤ r.committed) → AreFrom r.id (commit_at rules r held).effects
    by_order (inl above) =
        subst (λ (o : Outcome S C O). AreFrom r.id o.effects) (sym (commit_at-goes rules r held above))
        (from_append r.id (from_outputs r.id rules r.machine r.committed _) (from_followed O r.id (Commit r.joined held) r.progress))
    by_order (inr below) = subst (λ (o : Outcome S C O). AreFrom r.id o.effects) (sym (commit_at-stays rules r held below)) none

from_added : {S C O : Type 0} (rules : Rules S C O) (r : ReplicaState S C) (command : C) → AreFrom r.id (added rules r command).effects
unfolding added commit
from_added {O = O} rules r command =
    from_append r.id (from_followed O r.id (Append r.joined (length r.log) command) r.progress) (from_commit_at rules _ _)

-- the log that is sent, and what follows the last answer
from_installs : {S C : Type 0} (O : Type 0) (r : ReplicaState S C) (members : List ℕ) → AreFrom r.id (install_effects O r members)
from_installs O r [] = (says none)
from_installs O r (member ∷ members) = from_each O r.id (Install r.joined r.log) (member ∷ members)

from_activates : {S C : Type 0} (O : Type 0) (r : ReplicaState S C) (members : List ℕ) → AreFrom r.id (activates O r members)
from_activates O r [] = (says none)
from_activates O r (member ∷ members) = none

-- each row, by its condition
from_new_ballot : {S C : Type 0} (O : Type 0) (r : ReplicaState S C) (b : ℕ) (members : List ℕ) (a : ℕ) (old : List ℕ) →
    AreFrom r.id (on_new_ballot O r b members a old).effects
unfolding on_new_ballot
from_new_ballot O r b members a old = by_condition (cases_Bool (nat_lt r.joined b))
  where
    by_condition : (nat_lt r.joined b ≡ true) ⊎ (nat_lt r.joined b ≡ false) → AreFrom r.id (on_new_ballot O r b members a old).effects
    by_condition (inl e) = rw e (from_each O r.id (Join b a) old)
    by_condition (inr e) = rw e none

from_join : {S C : Type 0} (O : Type 0) (r : ReplicaState S C) (from b a : ℕ) → AreFrom r.id (on_join O r from b a).effects
unfolding on_join
from_join O r from b a = by_condition (cases_Bool (nat_le r.joined b && nat_le a r.held_in))
  where
    by_condition : ((nat_le r.joined b && nat_le a r.held_in) ≡ true) ⊎ ((nat_le r.joined b && nat_le a r.held_in) ≡ false) →
        AreFrom r.id (on_join O r from b a).effects
    by_condition (inl e) = rw e (says none)
    by_condition (inr e) = rw e none

from_state : {S C : Type 0} (O : Type 0) (r : ReplicaState S C) (b : ℕ) (log : List C) → AreFrom r.id (on_state O r b log).effects
unfolding on_state
from_state {S = S} {C = C} O r b log = by_condition (cases_Bool (r.joined == b && (is_fetching r.role && nat_le r.committed (length log))))
  where
    taken : ReplicaState S C
    taken = record r { held_in = b; log = log; role = Installing; lacking = others r.id r.members }

    by_condition : ((r.joined == b && (is_fetching r.role && nat_le r.committed (length log))) ≡ true)
        ⊎ ((r.joined == b && (is_fetching r.role && nat_le r.committed (length log))) ≡ false) → AreFrom r.id (on_state O r b log).effects
    by_condition (inl e) = rw e (from_installs O taken (others r.id r.members))
    by_condition (inr e) = rw e none

from_install : {S C : Type 0} (O : Type 0) (r : ReplicaState S C) (from b : ℕ) (log : List C) → AreFrom r.id (on_install O r from b log).effects
unfolding on_install
from_install O r from b log =
    by_condition (cases_Bool ((nat_lt r.joined b || (r.joined == b && nat_lt r.held_in b)) && nat_le r.committed (length log)))
    (cases_Bool (r.joined == b && r.held_in == b))
  where
    by_condition : (((nat_lt r.joined b || (r.joined == b && nat_lt r.held_in b)) && nat_le r.committed (length log)) ≡ true)
        ⊎ (((nat_lt r.joined b || (r.joined == b && nat_lt r.held_in b)) && nat_le r.committed (length log)) ≡ false) →
        ((r.joined == b && r.held_in == b) ≡ true) ⊎ ((r.joined == b && r.held_in == b) ≡ false) →
        AreFrom r.id (on_install O r from b log).effects
    by_condition (inl e) f = rw e (says none)
    by_condition (inr e) (inl f) = rw (e, f) (says none)
    by_condition (inr e) (inr f) = rw (e, f) none

from_installed : {S C : Type 0} (O : Type 0) (r : ReplicaState S C) (from b : ℕ) → AreFrom r.id (on_installed O r from b).effects
unfolding on_installed
from_installed O r from b =
    by_condition (cases_Bool ((r.joined == b && is_installing r.role) && list_any (λ member. member == from) r.lacking))
  where
    by_condition : (((r.joined == b && is_installing r.role) && list_any (λ member. member == from) r.lacking) ≡ true)
        ⊎ (((r.joined == b && is_installing r.role) && list_any (λ member. member == from) r.lacking) ≡ false) →
        AreFrom r.id (on_installed O r from b).effects
    by_condition (inl e) = rw e (from_activates O (record r { lacking = others from r.lacking }) (others from r.lacking))
    by_condition (inr e) = rw e none

from_activated : {S C O : Type 0} (rules : Rules S C O) (r : ReplicaState S C) (b : ℕ) → AreFrom r.id (on_activated rules r b).effects
unfolding on_activated
from_activated {S = S} {C = C} {O = O} rules r b =
    by_condition (cases_Bool ((r.joined == b && is_installing r.role) && (nat_le (length r.lacking) 0 && nat_lt (length r.log) max_places)))
  where
    by_condition : (((r.joined == b && is_installing r.role) && (nat_le (length r.lacking) 0 && nat_lt (length r.log) max_places)) ≡ true)
        ⊎ (((r.joined == b && is_installing r.role) && (nat_le (length r.lacking) 0 && nat_lt (length r.log) max_places)) ≡ false) →
        AreFrom r.id (on_activated rules r b).effects
    by_condition (inl e) = rw e (from_added rules _ (rules.start_of b))
    by_condition (inr e) = rw e none

from_superseded : {S C : Type 0} (O : Type 0) (r : ReplicaState S C) (b : ℕ) → AreFrom r.id (on_superseded O r b).effects
unfolding on_superseded
from_superseded O r b = by_condition (cases_Bool (r.joined == b && is_installing r.role))
  where
    by_condition : ((r.joined == b && is_installing r.role) ≡ true) ⊎ ((r.joined == b && is_installing r.role) ≡ false) →
        AreFrom r.id (on_superseded O r b).effects
    by_condition (inl e) = rw e none
    by_condition (inr e) = rw e none

from_append_row : {S C : Type 0} (O : Type 0) (r : ReplicaState S C) (from b place : ℕ) (command : C) → AreFrom r.id (on_append O r from b place command).effects
unfolding on_append
from_append_row O r from b place command = by_condition (cases_Bool (follows r b && nat_le place (length r.log)))
  where
    by_condition : ((follows r b && nat_le place (length r.log)) ≡ true) ⊎ ((follows r b && nat_le place (length r.log)) ≡ false) →
        AreFrom r.id (on_append O r from b place command).effects
    by_condition (inl e) = rw e (says none)
    by_condition (inr e) = rw e none

from_held : {S C O : Type 0} (rules : Rules S C O) (r : ReplicaState S C) (from b held : ℕ) → AreFrom r.id (on_held rules r from b held).effects
unfolding on_held commit
from_held rules r from b held = by_condition (cases_Bool (leads r b))
  where
    by_condition : (leads r b ≡ true) ⊎ (leads r b ≡ false) → AreFrom r.id (on_held rules r from b held).effects
    by_condition (inl e) = rw e (from_commit_at rules _ _)
    by_condition (inr e) = rw e none

from_commit : {S C O : Type 0} (rules : Rules S C O) (r : ReplicaState S C) (b held : ℕ) → AreFrom r.id (on_commit rules r b held).effects
unfolding on_commit
from_commit rules r b held = by_condition (cases_Bool (follows r b && nat_le held (length r.log)))
  where
    by_condition : ((follows r b && nat_le held (length r.log)) ≡ true) ⊎ ((follows r b && nat_le held (length r.log)) ≡ false) →
        AreFrom r.id (on_commit rules r b held).effects
    by_condition (inl e) = rw e none
    by_condition (inr e) = rw e none

-- a proposal, and ticks
from_proposed : {S C O : Type 0} (rules : Rules S C O) (r : ReplicaState S C) (command : C) → AreFrom r.id (proposed rules r command).effects
unfolding proposed
from_proposed rules r command = by_condition (cases_Bool (is_active r.role && nat_lt (length r.log) max_places))
  where
    by_condition : ((is_active r.role && nat_lt (length r.log) max_places) ≡ true) ⊎ ((is_active r.role && nat_lt (length r.log) max_places) ≡ false) →
        AreFrom r.id (proposed rules r command).effects
    by_condition (inl e) = rw e (from_added rules r command)
    by_condition (inr e) = rw e none

from_ticked : {S C : Type 0} (O : Type 0) (r : ReplicaState S C) (role : Role) → AreFrom r.id (ticked O r role).effects
unfolding on_tick_active
from_ticked O r Backup = none
from_ticked O r Fetching = from_each O r.id (Join r.joined r.previous) r.previous_members
from_ticked O r Installing = from_installs O r r.lacking
from_ticked O r Active =
    from_append r.id (from_after O r.id r.joined r.log r.progress) (from_followed O r.id (Commit r.joined r.committed) r.progress)

-- a message that comes
from_received : {S C O : Type 0} (rules : Rules S C O) (r : ReplicaState S C) (from : ℕ) (body : Body C) → AreFrom r.id (received rules r from body).effects
from_received {O = O} rules r from (NewBallot b members a old) = from_new_ballot O r b members a old
from_received {O = O} rules r from (Join b a) = from_join O r from b a
from_received {O = O} rules r from (State b log) = from_state O r b log
from_received {O = O} rules r from (Install b log) = from_install O r from b log
from_received {O = O} rules r from (Installed b held) = from_installed O r from b
from_received rules r from (Activate b) = none
from_received rules r from (Activated b) = from_activated rules r b
from_received {O = O} rules r from (Superseded b) = from_superseded O r b
from_received {O = O} rules r from (Append b place command) = from_append_row O r from b place command
from_received rules r from (Held b held) = from_held rules r from b held
from_received rules r from (Commit b held) = from_commit rules r b held

-- the step of a node
pub step_is_from : {S C O : Type 0} (rules : Rules S C O) (r : ReplicaState S C) (input : Input C) → AreFrom r.id (replica_step rules r input).effects
step_is_from rules r (Receives message) = from_received rules r message.from message.body
step_is_from rules r (Proposes command) = from_proposed rules r command
step_is_from {O = O} rules r Ticks = from_ticked O r r.role
