-- The machine of a node's whole log, read from its snapshot or begun afresh.
use Rattle.std.proofs.Common.{◌≡◌, ◌<◌, ℕ, zero, suc, Bool, false, List, [], ◌∷◌, ◌++◌, Option, Some, get_or, length, take, ◌+◌, ◌-◌, refl, sym, ap, ◌∙◌, subst, arith}
use Rattle.std.specs.Prelude.{IfOk, Result, Ok, Err, slice_get}
use Rattle.std.proofs.lemmas.List.{take_more}
use Rattle.std.proofs.lemmas.Option.{same_Some}
use Rattle.ballot_base.specs.Logs.{Log}
use Rattle.machine.specs.Machine.{replay, replay_from}
use Rattle.ballot_base.specs.Replica.{ReplicaState}
use Rattle.broker_spec.specs.declared.command.Command.{Command}
use Rattle.broker_spec.specs.declared.command.Command.TheVariants as commands
use Rattle.broker_spec.specs.Place.{Client}
use Rattle.broker_base.specs.State.{State}
use Rattle.master.specs.Inside.{AcknowledgedIn}
use Rattle.agreement.specs.cut_logs.Theorems.{IsCutRight}
use Rattle.agreement.proofs.of_cut_logs.MomentsAgree.{logs_are_cut_right}
use Rattle.world_base.specs.node_core.Core.{CoreState, CountedCore, rules}
use Rattle.headline.specs.node_group.Group.{moment_of_nodes, replica_of}
use Rattle.headline.proofs.of_node_group.Placed.{get_mapped}
use Rattle.broker_spec.specs.Connection.{first_connection}
use Rattle.world_nodes.specs.RecoveryChecks.{is_welcome, whole_log_in, whole_log_of, welcomes_back}
use Rattle.world_nodes.specs.RunningNodes.{numbered_node}
use Rattle.world_nodes.specs.Inside.{HaveCounted}
use Rattle.world_nodes.specs.Nodes.{NodesState}
use Rattle.world_nodes.proofs.Acts.{core_in}
use Rattle.world_nodes.proofs.Exactly.{at_place}

replay_join : (s : State) (xs ys : List Command) → replay_from rules s (xs ++ ys) ≡ replay_from rules (replay_from rules s xs) ys
replay_join s [] ys = refl
replay_join s (x ∷ xs) ys = replay_join (rules.after s x) xs ys

-- one more command is done
pub done_more : (s : State) (commands : List Command) (i : ℕ) (command : Command) (before after : State) → i < length commands → command ≡ get_or commands i command →
    before ≡ replay_from rules s (take i commands) → after ≡ rules.after before command → after ≡ replay_from rules s (take (i + 1) commands)
done_more s commands i command before after below same held is =
    is ∙ ap (λ (t : State). rules.after t command) held ∙ sym (replay_join s (take i commands) (command ∷ []))
    ∙ ap (replay_from rules s) (sym (take_more commands i command below ∙ ap (λ (c : Command). take i commands ++ c ∷ []) (sym same)))

-- its log was cut right
cut_right : (n : NodesState) (told next : AcknowledgedIn) → HaveCounted n told next → (node : ℕ) (core : CountedCore) → numbered_node n.nodes node ≡ Some core →
    IsCutRight rules n.archive core.core.replica.state
cut_right n told next c node core there =
    let found : slice_get (moment_of_nodes c.group).world.nodes (node - 1) ≡ Some (replica_of core.core) =
    get_mapped replica_of c.group.nodes (node - 1) core.core
    (ap (λ (l : List CoreState). slice_get l (node - 1)) c.stands.nodes ∙ get_mapped core_in n.nodes (node - 1) core (at_place n.nodes node core there)) in
    subst (λ (l : List Command). IsCutRight rules l core.core.replica.state) c.stands.archive
    (logs_are_cut_right rules c.counts.config (moment_of_nodes c.group) c.counts.moments c.counts.came (node - 1) (replica_of core.core) found)

-- the machine at its base
at_base : (archive : List Command) (r : ReplicaState State Command) → IsCutRight rules archive r → (base : ℕ) (bytes : List ℕ) (machine : State) → base ≡ r.log.base →
    bytes ≡ r.log.snapshot → (base ≡ 0 → machine ≡ rules.opening) → (0 < base → rules.thawed bytes ≡ Some machine) → machine ≡ replay rules (take r.log.base archive)
at_base archive r right base bytes machine is read fresh thawed = by base is fresh thawed
  where
    by : (k : ℕ) → k ≡ r.log.base → (k ≡ 0 → machine ≡ rules.opening) → (0 < k → rules.thawed bytes ≡ Some machine) → machine ≡ replay rules (take r.log.base archive)
    by zero e new old = new refl ∙ ap (λ (i : ℕ). replay rules (take i archive)) e
    by (suc k) e new old =
        let high : 0 < r.log.base = omega (arith, e) in
        same_Some machine (replay rules (take r.log.base archive)) (sym (old (omega arith)) ∙ ap rules.thawed read ∙ right.snapshot high)

-- and so it says whether the client is welcomed back
pub welcomed : (n : NodesState) (told next : AcknowledgedIn) → HaveCounted n told next → (node : ℕ) (core : CountedCore) → numbered_node n.nodes node ≡ Some core → (client : Client)
    (base : ℕ) (bytes : List ℕ) (first last : State) (rest : List Command) (answer : Bool) → base ≡ core.core.replica.state.log.base → bytes ≡ core.core.replica.state.log.snapshot →
    (base ≡ 0 → first ≡ rules.opening) → (0 < base → rules.thawed bytes ≡ Some first) → rest ≡ core.core.replica.state.log.rest → last ≡ replay_from rules first rest →
    answer ≡ is_welcome (rules.gives (rules.after last (commands.Start 1)) (commands.Connect first_connection client false)) → answer ≡ welcomes_back client (whole_log_of n node)
welcomed n told next c node core there client base bytes first last rest answer is read fresh thawed left done tells =
    tells
    ∙ ap (λ (s : State). is_welcome (rules.gives (rules.after s (commands.Start 1)) (commands.Connect first_connection client false)))
    (done ∙ ap (replay_from rules first) left ∙ ap (λ (s : State). replay_from rules s log.rest) whole ∙ sym (replay_join rules.opening (take log.base n.archive) log.rest))
    ∙ ap (λ (s : State). is_welcome (rules.gives s (commands.Connect first_connection client false)))
    (sym (replay_join rules.opening (take log.base n.archive ++ log.rest) (commands.Start 1 ∷ [])))
    ∙ ap (λ (o : Option CountedCore). welcomes_back client (whole_log_in n.archive o)) (sym there)
  where
    log : Log Command
    log = core.core.replica.state.log

    whole : first ≡ replay rules (take log.base n.archive)
    whole = at_base n.archive core.core.replica.state (cut_right n told next c node core there) base bytes first is read fresh thawed

-- of nodes as they are seen, if there was memory for the answer
pub welcomed_in : {E : Type 0} (n seen : NodesState) (told next : AcknowledgedIn) → HaveCounted n told next → n ≡ seen → (node : ℕ) (core : CountedCore) → numbered_node seen.nodes node ≡ Some core → (client : Client)
    (base : ℕ) (bytes : List ℕ) (first last : State) (rest : List Command) (result : Result Bool E) → base ≡ core.core.replica.state.log.base → bytes ≡ core.core.replica.state.log.snapshot →
    (base ≡ 0 → first ≡ rules.opening) → (0 < base → rules.thawed bytes ≡ Some first) → rest ≡ core.core.replica.state.log.rest → last ≡ replay_from rules first rest →
    IfOk result (λ answer. answer ≡ is_welcome (rules.gives (rules.after last (commands.Start 1)) (commands.Connect first_connection client false))) →
    IfOk result (λ answer. answer ≡ welcomes_back client (whole_log_of seen node))
welcomed_in n seen told next c same node core there client base bytes first last rest (Err cause) is read fresh thawed left done tells = tt
welcomed_in n seen told next c same node core there client base bytes first last rest (Ok answer) is read fresh thawed left done tells =
    subst (λ (m : NodesState). answer ≡ welcomes_back client (whole_log_of m node)) same
    (welcomed n told next c node core (ap (λ (m : NodesState). numbered_node m.nodes node) same ∙ there) client base bytes first last rest answer is read fresh thawed left done tells)
