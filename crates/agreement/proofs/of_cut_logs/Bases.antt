-- Bases.antt: a step that takes no log keeps the base, and applies no less; each log that a step
-- sends is that of the node after it, in the ballot that it has joined.
use Rattle.std.proofs.Common.{cond, Bool, ◌≡◌, ℕ, ◌+◌, ◌<◌, ◌≤◌, ◌⊎◌, inl, inr, true, false, List, [], ◌∷◌, ◌++◌, length, map, Option, Some, None, refl, ap, sym, ◌∙◌, subst, arith}
use Rattle.std.specs.Prelude.{nat_lt, nat_le, ◌&&◌, ◌==◌}
use Rattle.std.specs.List.{list_any}
use Rattle.std.proofs.lemmas.Bool.{and_parts, cases_lt, leb-true, lt-ltb, le-ltb}
use Rattle.machine.specs.Machine.{Rules}
use Rattle.ballot_base.specs.declared.status.Progress.{Progress}
use Rattle.ballot_base.specs.Replica.{is_active, is_installing, others, progress_at, ReplicaState}
use Rattle.ballot_base.specs.declared.status.Role.TheVariants.{Backup, Fetching, Installing, Active}
use Rattle.ballot_base.specs.Service.{least, max_places, raised, added, append_at, appends_after, commit, commit_at, extended, follows, leads, on_append, on_commit, on_held, on_tick_active, proposed}
use Rattle.lists.specs.Lists.{In}
use Rattle.lists.specs.Lists.In.{here, there}
use Rattle.lists.proofs.Members.{in_append}
use Rattle.ballot_base.specs.Logs.{Log, command_at, places, pushed}
use Rattle.ballot_base.specs.declared.message.Body.{Body}
use Rattle.ballot_base.specs.declared.message.Effect.{Effect}
use Rattle.ballot_base.specs.declared.message.Message.{Message}
use Rattle.ballot_base.specs.StepOutcome.{Outcome, message_to_each, message_to_followed, nothing_done}
use Rattle.agreement.specs.cut_logs.World.{messages}
use Rattle.ballot_base.specs.declared.message.Body.TheVariants.{Join, State, Install, Installed, Append, Held, Commit}
use Rattle.ballot_base.specs.declared.message.Effect.TheVariants.{To, Out}
use Rattle.ballot_base.specs.Transfer.{answers_installed, installs_taken, install_effects, on_join, on_new_ballot}
use Rattle.ballot_base.specs.Activation.{activates, on_activated, on_installed, on_superseded}
use Rattle.ballot_base.specs.Application.{applied_to, outputs_from, outputs_to}

-- what a log that is sent is
abbrev pub IsOwn : {S C : Type 0} → ReplicaState S C → Body C → Type 0
IsOwn s (State b log) = (b ≡ s.joined) × (log ≡ s.log)
IsOwn s (Install b log) = (b ≡ s.joined) × (log ≡ s.log)
IsOwn s _ = Unit {0}

abbrev pub SaysOwn : {S C O : Type 0} → ReplicaState S C → List (Effect C O) → Type 0
SaysOwn {S} {C} s es = (to : ℕ) (m : Message C) → In (to, m) (messages es) → IsOwn s m.body

pub record KeepsBase {S C O : Type 0} (r : ReplicaState S C) (o : Outcome S C O) : Type 0 where
  pub base : o.state.log.base ≡ r.log.base
  pub snapshot : o.state.log.snapshot ≡ r.log.snapshot
  pub committed : r.committed ≤ o.state.committed
  pub own : SaysOwn o.state o.effects

pub keeps_nothing : {S C : Type 0} (O : Type 0) (r : ReplicaState S C) → KeepsBase {O = O} r (nothing_done O r)
keeps_nothing O r = record { base = refl; snapshot = refl; committed = omega arith; own = λ to m i. elim i [ ] }

if_keeps : {S C O : Type 0} (b : Bool) (r : ReplicaState S C) (o p : Outcome S C O) → (b ≡ true → KeepsBase r o) → KeepsBase r p → KeepsBase r (cond b o p)
if_keeps true r o p k l = k refl
if_keeps false r o p k l = l

-- messages of one body, and outputs
messages_join : {C O : Type 0} (xs ys : List (Effect C O)) → messages (xs ++ ys) ≡ messages xs ++ messages ys
messages_join [] ys = refl
messages_join (To to m ∷ xs) ys = ap (λ us. (to, m) ∷ us) (messages_join xs ys)
messages_join (Out k o ∷ xs) ys = messages_join xs ys

own_join : {S C O : Type 0} (s : ReplicaState S C) (xs ys : List (Effect C O)) → SaysOwn s xs → SaysOwn s ys → SaysOwn s (xs ++ ys)
own_join {C = C} s xs ys p q to m i = by (in_append (messages xs) (messages ys) (subst (λ us. In (to, m) us) (messages_join xs ys) i))
  where
    by : In (to, m) (messages xs) ⊎ In (to, m) (messages ys) → IsOwn s m.body
    by (inl j) = p to m j
    by (inr j) = q to m j

own_followed : {S C : Type 0} (O : Type 0) (s : ReplicaState S C) (id : ℕ) (body : Body C) (progress : List Progress) → IsOwn s body →
    SaysOwn {O = O} s (message_to_followed O id body progress)
own_followed O s id body [] own to m i = elim i [ ]
own_followed O s id body (x ∷ progress) own to m here = own
own_followed O s id body (x ∷ progress) own to m (there i) = own_followed O s id body progress own to m i

own_each : {S C : Type 0} (O : Type 0) (s : ReplicaState S C) (id : ℕ) (body : Body C) (receivers : List ℕ) → IsOwn s body →
    SaysOwn {O = O} s (message_to_each O id body receivers)
own_each O s id body [] own to m i = elim i [ ]
own_each O s id body (x ∷ receivers) own to m here = own
own_each O s id body (x ∷ receivers) own to m (there i) = own_each O s id body receivers own to m i

outs_own : {S C O : Type 0} (s : ReplicaState S C) (place : ℕ) (os : List O) → SaysOwn {C = C} s (map (Out place) os)
outs_own s place [] to m i = elim i [ ]
outs_own s place (o ∷ os) to m i = outs_own s place os to m i

own_outputs : {S C O : Type 0} (rules : Rules S C O) (s : ReplicaState S C) (x : S) (place : ℕ) (commands : List C) → SaysOwn s (outputs_from rules x place commands)
own_outputs rules s x place [] to m i = elim i [ ]
own_outputs rules s x place (c ∷ commands) to m i =
    own_join s (map (Out place) (rules.gives x c)) (outputs_from rules (rules.after x c) (place + 1) commands) (outs_own s place (rules.gives x c))
    (own_outputs rules s (rules.after x c) (place + 1) commands) to m i

own_installs : {S C : Type 0} (O : Type 0) (s : ReplicaState S C) (lacking : List ℕ) → SaysOwn {O = O} s (install_effects O s lacking)
own_installs O s [] to m here = tt
own_installs O s [] to m (there i) = elim i [ ]
own_installs O s (x ∷ lacking) to m i = own_each O s s.id (Install s.joined s.log) (x ∷ lacking) (refl, refl) to m i

own_activates : {S C : Type 0} (O : Type 0) (s : ReplicaState S C) (lacking : List ℕ) → SaysOwn {O = O} s (activates O s lacking)
own_activates O s [] to m here = tt
own_activates O s [] to m (there i) = elim i [ ]
own_activates O s (x ∷ lacking) to m i = elim i [ ]

own_one : {S C : Type 0} (O : Type 0) (s : ReplicaState S C) (x id : ℕ) (body : Body C) → IsOwn s body → SaysOwn {O = O} s (To x (record { from = id; body = body }) ∷ [])
own_one O s x id body own to m here = own
own_one O s x id body own to m (there i) = elim i [ ]

own_after : {S C : Type 0} (O : Type 0) (s : ReplicaState S C) (id b : ℕ) (log : Log C) (progress : List Progress) → SaysOwn {O = O} s (appends_after O id b log progress)
own_after O s id b log [] to m i = elim i [ ]
own_after {S = S} {C = C} O s id b log (x ∷ progress) to m i =
    own_join s (append_at O id b x (command_at log x.held)) (appends_after O id b log progress) (one (command_at log x.held)) (own_after O s id b log progress) to m i
  where
    one : (o : Option C) → SaysOwn {O = O} s (append_at O id b x o)
    one None to m i = elim i [ ]
    one (Some c) to m here = tt
    one (Some c) to m (there i) = elim i [ ]

-- ---- the rows

commit_at_keeps : {S C O : Type 0} (rules : Rules S C O) (r : ReplicaState S C) (held : ℕ) → KeepsBase {O = O} r (commit_at rules r held)
unfolding commit_at
commit_at_keeps {O = O} rules r held =
    if_keeps (nat_lt r.committed held) r _ _
    (λ e. record {
      base = refl;
      snapshot = refl;
      committed = by_order e (cases_lt r.committed held);
      own = own_join (applied_to rules r held) (outputs_to rules r held) (message_to_followed O r.id (Commit r.joined held) r.progress)
          (own_outputs rules (applied_to rules r held) r.machine r.committed _) (own_followed O (applied_to rules r held) r.id (Commit r.joined held) r.progress tt);
    })
    (keeps_nothing O r)
  where
    by_order : nat_lt r.committed held ≡ true → (r.committed < held) ⊎ (held ≤ r.committed) → r.committed ≤ held
    by_order e (inl less) = omega (arith, less)
    by_order e (inr more) = let z = le-ltb r.committed held more in cc

-- after a change that keeps the log's base, what is committed and the number of the ballot
keeps_from : {S C O : Type 0} (r s : ReplicaState S C) (o : Outcome S C O) → s.log.base ≡ r.log.base → s.log.snapshot ≡ r.log.snapshot → r.committed ≤ s.committed →
    KeepsBase s o → KeepsBase r o
keeps_from r s o e f low k =
    record { base = k.base ∙ e; snapshot = k.snapshot ∙ f; committed = (let a = k.committed in omega (arith, low, a)); own = k.own }

commit_keeps : {S C O : Type 0} (rules : Rules S C O) (r : ReplicaState S C) → KeepsBase {O = O} r (commit rules r)
unfolding commit
commit_keeps rules r = commit_at_keeps rules r (least (places r.log) r.progress)

added_keeps : {S C O : Type 0} (rules : Rules S C O) (r : ReplicaState S C) (c : C) → KeepsBase {O = O} r (added rules r c)
unfolding added
added_keeps {O = O} rules r c =
    let k = commit_keeps {O = O} rules (record r { log = pushed r.log c }) in
    record {
      base = k.base;
      snapshot = k.snapshot;
      committed = k.committed;
      own = own_join (commit {O = O} rules (record r { log = pushed r.log c })).state (message_to_followed O r.id (Append r.joined (places r.log) c) r.progress)
          (commit rules (record r { log = pushed r.log c })).effects
          (own_followed O (commit {O = O} rules (record r { log = pushed r.log c })).state r.id (Append r.joined (places r.log) c) r.progress tt) k.own;
    }

pub proposed_keeps : {S C O : Type 0} (rules : Rules S C O) (r : ReplicaState S C) (c : C) → KeepsBase {O = O} r (proposed rules r c)
unfolding proposed
proposed_keeps {O = O} rules r c = if_keeps (is_active r.role && nat_lt (places r.log) max_places) r _ _ (λ e. added_keeps rules r c) (keeps_nothing O r)

pub held_keeps : {S C O : Type 0} (rules : Rules S C O) (r : ReplicaState S C) (from b held : ℕ) → KeepsBase {O = O} r (on_held rules r from b held)
unfolding on_held
held_keeps {O = O} rules r from b held =
    if_keeps (leads r b) r _ _ (λ e. keeps_from r (record r { progress = raised from held r.progress }) _ refl refl (omega arith) (commit_keeps rules (record r { progress = raised from held r.progress }))) (keeps_nothing O r)

pub commits_keep : {S C O : Type 0} (rules : Rules S C O) (r : ReplicaState S C) (b held : ℕ) → KeepsBase {O = O} r (on_commit rules r b held)
unfolding on_commit
commits_keep {O = O} rules r b held =
    if_keeps (follows r b && nat_le held (places r.log)) r _ _
    (λ e. record { base = refl; snapshot = refl; committed = omega arith; own = λ to m i. elim i [ ] }) (keeps_nothing O r)

pub append_keeps : {S C : Type 0} (O : Type 0) (r : ReplicaState S C) (from b place : ℕ) (c : C) → KeepsBase {O = O} r (on_append O r from b place c)
unfolding on_append
append_keeps {S = S} {C = C} O r from b place c =
    if_keeps (follows r b && nat_le place (places r.log)) r _ _
    (λ e. record {
      base = by_base (place == places r.log);
      snapshot = by_snapshot (place == places r.log);
      committed = omega arith;
      own = own_one O (record r { log = extended place c r.log }) from r.id (Held b (places (extended place c r.log))) tt;
    })
    (keeps_nothing O r)
  where
    by_base : (t : Bool) → (cond t (pushed r.log c) r.log).base ≡ r.log.base
    by_base true = refl
    by_base false = refl

    by_snapshot : (t : Bool) → (cond t (pushed r.log c) r.log).snapshot ≡ r.log.snapshot
    by_snapshot true = refl
    by_snapshot false = refl

pub new_ballot_keeps : {S C : Type 0} (O : Type 0) (r : ReplicaState S C) (b : ℕ) (members : List ℕ) (a : ℕ) (old : List ℕ) → KeepsBase {O = O} r (on_new_ballot O r b members a old)
unfolding on_new_ballot
new_ballot_keeps O r b members a old =
    if_keeps (nat_lt r.joined b) r _ _
    (λ e. record { base = refl; snapshot = refl; committed = omega arith; own = own_each O (record r { joined = b; role = Fetching; members = members; previous = a; previous_members = old; lacking = []; progress = [] }) r.id (Join b a) old tt }) (keeps_nothing O r)

pub join_keeps : {S C : Type 0} (O : Type 0) (r : ReplicaState S C) (from b a : ℕ) → KeepsBase {O = O} r (on_join O r from b a)
unfolding on_join
join_keeps {S = S} {C = C} O r from b a =
    if_keeps (nat_le r.joined b && nat_le a r.held_in) r _ _
    (λ e. record {
      base = ap (λ (x : Log C). x.base) (same (nat_lt r.joined b));
      snapshot = ap (λ (x : Log C). x.snapshot) (same (nat_lt r.joined b));
      committed = (let z = all (nat_lt r.joined b) in omega (arith, z));
      own = own_one O (cond (nat_lt r.joined b) (record r { joined = b; role = Backup }) r) from r.id (State b r.log)
          (at (nat_lt r.joined b) refl (leb-true r.joined b (and_parts (nat_le r.joined b) (nat_le a r.held_in) e).0), sym (same (nat_lt r.joined b)));
    })
    (keeps_nothing O r)
  where
    same : (t : Bool) → (cond t (record r { joined = b; role = Backup }) r).log ≡ r.log
    same true = refl
    same false = refl

    all : (t : Bool) → (cond t (record r { joined = b; role = Backup }) r).committed ≡ r.committed
    all true = refl
    all false = refl

    at : (t : Bool) → nat_lt r.joined b ≡ t → r.joined ≤ b → b ≡ (cond t (record r { joined = b; role = Backup }) r).joined
    at true e low = refl
    at false e low = by_order (cases_lt r.joined b)
      where
        by_order : (r.joined < b) ⊎ (b ≤ r.joined) → b ≡ r.joined
        by_order (inl less) = let z = lt-ltb r.joined b (omega (arith, less)) in cc
        by_order (inr more) = omega (arith, low, more)

pub installed_keeps : {S C : Type 0} (O : Type 0) (r : ReplicaState S C) (from b : ℕ) → KeepsBase {O = O} r (on_installed O r from b)
unfolding on_installed
installed_keeps O r from b =
    if_keeps ((r.joined == b && is_installing r.role) && list_any (λ member. member == from) r.lacking) r _ _
    (λ e. record { base = refl; snapshot = refl; committed = omega arith; own = own_activates O (record r { lacking = others from r.lacking }) (others from r.lacking) }) (keeps_nothing O r)

pub superseded_keeps : {S C : Type 0} (O : Type 0) (r : ReplicaState S C) (b : ℕ) → KeepsBase {O = O} r (on_superseded O r b)
unfolding on_superseded
superseded_keeps O r b =
    if_keeps (r.joined == b && is_installing r.role) r _ _
    (λ e. record { base = refl; snapshot = refl; committed = omega arith; own = λ to m i. elim i [ ] }) (keeps_nothing O r)

pub activated_keeps : {S C O : Type 0} (rules : Rules S C O) (r : ReplicaState S C) (b : ℕ) → r.committed ≤ places r.log → KeepsBase {O = O} r (on_activated rules r b)
unfolding on_activated
activated_keeps {O = O} rules r b within =
    if_keeps ((r.joined == b && is_installing r.role) && (nat_le (length r.lacking) 0 && nat_lt (places r.log) max_places)) r _ _
    (λ e. keeps_from r (record (applied_to rules r (places r.log)) { role = Active; progress = progress_at (places r.log) (others r.id r.members) }) _ refl refl within
    (added_keeps rules (record (applied_to rules r (places r.log)) { role = Active; progress = progress_at (places r.log) (others r.id r.members) }) (rules.start_of b)))
    (keeps_nothing O r)

pub tick_keeps : {S C : Type 0} (O : Type 0) (r : ReplicaState S C) → KeepsBase {O = O} r (on_tick_active O r)
unfolding on_tick_active
tick_keeps O r =
    record {
      base = refl;
      snapshot = refl;
      committed = omega arith;
      own = own_join r (appends_after O r.id r.joined r.log r.progress) (message_to_followed O r.id (Commit r.joined r.committed) r.progress)
          (own_after O r r.id r.joined r.log r.progress) (own_followed O r r.id (Commit r.joined r.committed) r.progress tt);
    }

-- ---- logs that are taken: after State a new primary hands out what it took

pub state_own : {S C : Type 0} (O : Type 0) (r took : ReplicaState S C) (b : ℕ) → SaysOwn {O = O} (installs_taken O r b (Some took)).state (installs_taken O r b (Some took)).effects
state_own O r took b = own_installs O (record took { held_in = b; role = Installing; lacking = others r.id r.members }) (others r.id r.members)

pub install_own : {S C : Type 0} (O : Type 0) (r took : ReplicaState S C) (from b : ℕ) (log : Log C) →
    SaysOwn {O = O} (answers_installed O r from b (places log) (Some took)).state (answers_installed O r from b (places log) (Some took)).effects
install_own O r took from b log = own_one O (record took { joined = b; held_in = b; role = Backup }) from r.id (Installed b (places log)) tt

-- steps that change nothing and send messages of one body, or the log
pub each_keeps : {S C : Type 0} (O : Type 0) (r : ReplicaState S C) (body : Body C) (receivers : List ℕ) → IsOwn r body →
    KeepsBase {O = O} r (record { state = r; effects = message_to_each O r.id body receivers })
each_keeps O r body receivers own = record { base = refl; snapshot = refl; committed = omega arith; own = own_each O r r.id body receivers own }

pub handed_keeps : {S C : Type 0} (O : Type 0) (r : ReplicaState S C) (lacking : List ℕ) → KeepsBase {O = O} r (record { state = r; effects = install_effects O r lacking })
handed_keeps O r lacking = record { base = refl; snapshot = refl; committed = omega arith; own = own_installs O r lacking }

pub one_keeps : {S C : Type 0} (O : Type 0) (r : ReplicaState S C) (x : ℕ) (body : Body C) → IsOwn r body →
    KeepsBase {O = O} r (record { state = r; effects = To x (record { from = r.id; body = body }) ∷ [] })
one_keeps O r x body own = record { base = refl; snapshot = refl; committed = omega arith; own = own_one O r x r.id body own }
