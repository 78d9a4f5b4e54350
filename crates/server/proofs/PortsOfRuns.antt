-- PortsOfRuns.antt: what a run says of a port is what the steps of the model say of it.
use Rattle.std.proofs.Common.{◌≡◌, ◌==◌, ◌&&◌, ℕ, ◌+◌, ◌≤◌, Bool, true, false, if◌then◌else◌, List, [], ◌∷◌, ◌++◌, Option, Some, refl, ◌∙◌, ap, sym, subst, arith, append_assoc}
use Rattle.std.specs.List.{list_any}
use Rattle.std.proofs.lemmas.Bool.Decides.{nat_tests}
use Rattle.lists.proofs.Tests.{none_or}
use Rattle.ballot_base.specs.LawfulConfig.{max_node}
use Rattle.ballot_base.specs.declared.config.Config.{Config}
use Rattle.headline.specs.byte_world.Transport.{node_call_of}
use Rattle.headline.specs.byte_world.World.{Pipe}
use Rattle.headline.specs.node_group.Group.{Group}
use Rattle.headline.specs.node_group.Steps.{GroupStep, GroupTrace}
use Rattle.headline.specs.node_group.Steps.GroupStep.{node_acts, node_loses, master_assigns, master_hears, assigns_unheard, answers_unheard}
use Rattle.headline.specs.node_moves.Moves.{NodeCall}
use Rattle.one_client.specs.Calls.{calls_on, opens_at}
use Rattle.one_client.specs.Names.{OpensOnce}
use Rattle.one_client.specs.Ports.{HasOwnPorts}
use Rattle.run_history.specs.declared.event.NodeAct.{NodeAct}
use Rattle.run_history.specs.declared.event.NodeAct.TheVariants.{HandsOver, Takes}
use Rattle.run_history.specs.declared.event.RunEvent.{RunEvent}
use Rattle.run_history.specs.declared.event.RunEvent.TheVariants.{ByLink, ByMaster, ByNode, Opens}
use Rattle.run_history.specs.History.{IsLogOf, IsStep, call_of}
use Rattle.run_history.specs.History.IsLogOf.{opens, goes_on}
use Rattle.run_history.specs.Log.{is_by, item_of, item_of_act, items_taken}
use Rattle.world_base.specs.declared.node_connections.port.Port.{Port}
use Rattle.world_base.specs.declared.node_core.item.Item.{Item}
use Rattle.world_base.specs.declared.node_core.item.Item.TheVariants.{Bytes, Crash, Cut, Ended, Expel, Opened, Peer, Tick}
use Rattle.server.specs.Ends.{IsServedRun}
use Rattle.server.specs.Ports.{PortsComeOnce, openings_at}
use Rattle.server.specs.Promised.{LeadApart}
use Rattle.server.specs.declared.served_run.ServedRun.{ServedRun}
use Rattle.server.proofs.OpeningsCounted.{openings_append}

-- ---- calls of one port

-- how many of these calls tell a node that a connection was opened at the port
abbrev times : ℕ → Port → List (Option (ℕ × NodeCall)) → ℕ
times node port [] = 0
times node port (node_call ∷ node_calls) = (if opens_at node port node_call then 1 else 0) + times node port node_calls

no_times_more : (node : ℕ) (port : Port) (call : Option (ℕ × NodeCall)) (calls : List (Option (ℕ × NodeCall))) (b : Bool) → opens_at node port call ≡ b
    → (if b then 1 else 0) + times node port calls ≡ 0 → (times node port calls ≡ 0 → list_any (opens_at node port) calls ≡ false)
    → list_any (opens_at node port) (call ∷ calls) ≡ false
no_times_more node port call calls true is none rest = absurd (omega (arith, none))
no_times_more node port call calls false is none rest = none_or (opens_at node port call) (list_any (opens_at node port) calls) is (rest (omega (arith, none)))

no_times : (node : ℕ) (port : Port) (calls : List (Option (ℕ × NodeCall))) → times node port calls ≡ 0 → list_any (opens_at node port) calls ≡ false
no_times node port [] none = refl
no_times node port (call ∷ calls) none =
    no_times_more node port call calls (opens_at node port call) refl none (no_times node port calls)

opens_once : (node : ℕ) (port : Port) (calls : List (Option (ℕ × NodeCall))) → times node port calls ≤ 1 → OpensOnce node port calls
opens_once node port [] few = tt
opens_once node port (call ∷ calls) few = (
  λ is.
      let one : (if opens_at node port call then 1 else 0) ≡ 1 = ap (λ (b : Bool). let n : ℕ = if b then 1 else 0 in n) is in
      no_times node port calls (omega (arith, few, one)),
  opens_once node port calls (omega (arith, few)),
)

-- ---- events of one port

none_if : (port : Port) (b : Bool) → openings_at port (if b then [] else []) ≡ 0
none_if port true = refl
none_if port false = refl

silent_if : (port : Port) (item : Item) (b : Bool) → openings_at port (item ∷ []) ≡ 0 → openings_at port (if b then item ∷ [] else []) ≡ 0
silent_if port item true silent = silent
silent_if port item false silent = refl

opened_if : (port at : Port) (now m node : ℕ) (b : Bool) → (m == node) ≡ b
    → (if b && (at.0 == port.0) then 1 else 0) ≡ openings_at port (if m + 1 == node + 1 then Opened at now ∷ [] else [])
opened_if port at now m node true is =
    let same : (m + 1 == node + 1) ≡ true = grind (arith, nat_tests, is) in rw same (omega arith)
opened_if port at now m node false is =
    let other : (m + 1 == node + 1) ≡ false = grind (arith, nat_tests, is) in rw other refl

act_counts : (node m : ℕ) (port : Port) (act : NodeAct)
    → (if opens_at node port (Some (m, call_of act)) then 1 else 0) ≡ openings_at port (if m + 1 == node + 1 then item_of_act act else [])
act_counts node m port (HandsOver at) = sym (none_if port (m + 1 == node + 1))
act_counts node m port (Takes (Opened at now)) = opened_if port at now m node (m == node) refl
act_counts node m port (Takes (Peer message)) = sym (silent_if port (Peer message) (m + 1 == node + 1) refl)
act_counts node m port (Takes (Tick now)) = sym (silent_if port (Tick now) (m + 1 == node + 1) refl)
act_counts node m port (Takes (Bytes at piece now)) = sym (silent_if port (Bytes at piece now) (m + 1 == node + 1) refl)
act_counts node m port (Takes (Ended at)) = sym (silent_if port (Ended at) (m + 1 == node + 1) refl)
act_counts node m port (Takes (Expel client)) = sym (silent_if port (Expel client) (m + 1 == node + 1) refl)
act_counts node m port (Takes Cut) = sym (silent_if port Cut (m + 1 == node + 1) refl)
act_counts node m port (Takes Crash) = sym (silent_if port Crash (m + 1 == node + 1) refl)

call_counts : (node m at : ℕ) (port : Port) (act : NodeAct) (node_call : NodeCall) → m ≡ at → node_call ≡ call_of act
    → (if opens_at node port (Some (m, node_call)) then 1 else 0) ≡ openings_at port (if at + 1 == node + 1 then item_of_act act else [])
call_counts node m at port act node_call same is =
    subst (λ (n : ℕ). (if opens_at node port (Some (m, node_call)) then 1 else 0) ≡ openings_at port (if n + 1 == node + 1 then item_of_act act else [])) same
    (subst (λ (c : NodeCall). (if opens_at node port (Some (m, c)) then 1 else 0) ≡ openings_at port (if m + 1 == node + 1 then item_of_act act else [])) (sym is)
    (act_counts node m port act))

-- what an event tells of the port is what its step does
step_counts : (node : ℕ) (port : Port) (event : RunEvent) (group next : Group) (step : GroupStep group next) → IsStep event step
    → (if opens_at node port (node_call_of step) then 1 else 0) ≡ openings_at port (if is_by (node + 1) event then item_of event else [])
step_counts node port (Opens opening) group next step one = absurd one
step_counts node port (ByLink brought) group next step one = absurd one
step_counts node port (ByMaster event) group next (master_assigns config) one = sym (none_if port (is_by (node + 1) (ByMaster event)))
step_counts node port (ByMaster event) group next (master_hears from ballot sent) one = sym (none_if port (is_by (node + 1) (ByMaster event)))
step_counts node port (ByMaster event) group next (assigns_unheard config) one = absurd one
step_counts node port (ByMaster event) group next (answers_unheard from ballot sent) one = absurd one
step_counts node port (ByMaster event) group next (node_acts m core node_call outcome run at is first sent) one = absurd one
step_counts node port (ByMaster event) group next (node_loses m core item outcome kept by at runs sent thinned) one = absurd one
step_counts node port (ByNode event) group next (node_acts m core node_call outcome run at is first sent) one =
    call_counts node m event.node port event.act node_call one.0 one.1
step_counts node port (ByNode event) group next (node_loses m core item outcome kept by at runs sent thinned) one =
    call_counts node m event.node port event.act (call_of (Takes item)) one.0 (ap call_of (sym one.1))
step_counts node port (ByNode event) group next (master_assigns config) one = absurd one
step_counts node port (ByNode event) group next (master_hears from ballot sent) one = absurd one
step_counts node port (ByNode event) group next (assigns_unheard config) one = absurd one
step_counts node port (ByNode event) group next (answers_unheard from ballot sent) one = absurd one

-- ---- all events

items_append : (number : ℕ) (xs ys : List RunEvent) → items_taken number (xs ++ ys) ≡ items_taken number xs ++ items_taken number ys
items_append number [] ys = refl
items_append number (x ∷ xs) ys =
    ap (λ t. (if is_by number x then item_of x else []) ++ t) (items_append number xs ys)
    ∙ sym (append_assoc (if is_by number x then item_of x else []) (items_taken number xs) (items_taken number ys))

items_of_one : (port : Port) (number : ℕ) (event : RunEvent) → openings_at port (items_taken number (event ∷ [])) ≡ openings_at port (if is_by number event then item_of event else [])
items_of_one port number event = openings_append port (if is_by number event then item_of event else []) [] ∙ omega arith

run_counts : (nodes : ℕ) (config : Config) (log : List RunEvent) (group : Group) (went : GroupTrace nodes config group) → IsLogOf nodes config log group went
    → (node : ℕ) (port : Port) → times node port (calls_on went) ≡ openings_at port (items_taken (node + 1) log)
run_counts nodes config _ _ _ (opens can) node port = refl
run_counts nodes config _ _ _ (goes_on {log = log} {group = group} {next = next} {went = went} is event step one reaches) node port =
    let now = step_counts node port event group next step one in
    let before = run_counts nodes config log group went is node port in
    let all = ap (openings_at port) (items_append (node + 1) log (event ∷ [])) ∙ openings_append port (items_taken (node + 1) log) (items_taken (node + 1) (event ∷ [])) in
    let last = items_of_one port (node + 1) event in
    omega (arith, now, before, all, last)

-- the pipes of a client in a run that was served
pub own_ports : PortsComeOnce → (config : Config) (numbers : List ℕ) (run : ServedRun) (served : IsServedRun config numbers run) (pipes : List Pipe)
    → LeadApart pipes → HasOwnPorts served.history.went pipes
own_ports once config numbers run served [] apart = tt
own_ports once config numbers run served (pipe ∷ pipes) apart = (
  opens_once pipe.node pipe.port (calls_on served.history.went)
      (let few = once config numbers run served (pipe.node + 1) pipe.port in
      let same = run_counts max_node config run.log served.history.group served.history.went served.history.is pipe.node pipe.port in
      omega (arith, few, same)),
  apart.0,
  own_ports once config numbers run served pipes apart.1,
)
