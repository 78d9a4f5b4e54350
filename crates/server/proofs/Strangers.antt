-- Strangers.antt: in a run only its nodes take items.
use Rattle.std.proofs.Common.{◌≡◌, ◌==◌, ℕ, ◌+◌, ◌<◌, ◌≤◌, Bool, false, if◌then◌else◌, List, [], ◌∷◌, length, refl, ◌∙◌, ap, arith}
use Rattle.std.specs.Prelude.{slice_set}
use Rattle.std.proofs.lemmas.Bool.Decides.{nat_tests}
use Rattle.std.proofs.lemmas.List.{length-set}
use Rattle.std.proofs.lemmas.Option.{slice_get_within}
use Rattle.ballot_base.specs.declared.config.Config.{Config}
use Rattle.headline.specs.node_group.Group.{Group, opening_cores}
use Rattle.headline.specs.node_group.Steps.{GroupStep, GroupTrace}
use Rattle.headline.specs.node_group.Steps.GroupStep.{node_acts, node_loses, master_assigns, master_hears, assigns_unheard, answers_unheard}
use Rattle.run_history.specs.declared.event.NodeEvent.{NodeEvent}
use Rattle.run_history.specs.declared.event.RunEvent.{RunEvent}
use Rattle.run_history.specs.declared.event.RunEvent.TheVariants.{ByLink, ByMaster, ByNode, Opens}
use Rattle.run_history.specs.History.{IsHistory, IsLogOf, IsNodeStep, IsStep}
use Rattle.run_history.specs.History.IsLogOf.{opens, goes_on}
use Rattle.run_history.specs.Log.{events_by, is_by, items_taken, nodes_after}
use Rattle.run_history.proofs.LongerLogs.{events_append}
use Rattle.run_history.proofs.Openings.{opening_length}
use Rattle.run_history.proofs.StepsOfEvents.{reached}
use Rattle.world_base.specs.node_core.Core.{CoreState}

-- the master takes no items
pub master_took_none : (log : List RunEvent) → items_taken 0 log ≡ []
master_took_none [] = refl
master_took_none (Opens group ∷ log) = master_took_none log
master_took_none (ByMaster event ∷ log) = master_took_none log
master_took_none (ByLink brought ∷ log) = master_took_none log
master_took_none (ByNode event ∷ log) =
    let other : (event.node + 1 == 0) ≡ false = grind (arith, nat_tests) in rw other (master_took_none log)

-- a run has as many nodes at any time as it opened with
as_many : (nodes : List CoreState) (log : List RunEvent) → length (nodes_after nodes log) ≡ length nodes
as_many nodes [] = refl
as_many nodes (Opens group ∷ log) = as_many nodes log
as_many nodes (ByMaster event ∷ log) = as_many nodes log
as_many nodes (ByLink brought ∷ log) = as_many nodes log
as_many nodes (ByNode event ∷ log) = as_many (slice_set nodes event.node event.after.core) log ∙ length-set nodes event.node event.after.core

-- the node of a step is there
within : (index : ℕ) (event : NodeEvent) (group next : Group) (step : GroupStep group next) → IsNodeStep event.node event.act event.after.core event.given step
    → event.node < length group.nodes
within index event group next (node_acts node core node_call outcome run at is first sent) one =
    let less = slice_get_within group.nodes node core at in let same = one.0 in omega (arith, less, same)
within index event group next (node_loses node core item outcome kept by at runs sent thinned) one =
    let less = slice_get_within group.nodes node core at in let same = one.0 in omega (arith, less, same)
within index event group next (master_assigns config) one = absurd one
within index event group next (master_hears from ballot sent) one = absurd one
within index event group next (assigns_unheard config) one = absurd one
within index event group next (answers_unheard from ballot sent) one = absurd one

-- an event is by no other
by_none : (index : ℕ) (event : RunEvent) (group next : Group) (step : GroupStep group next) → IsStep event step → length group.nodes ≤ index
    → is_by (index + 1) event ≡ false
by_none index (Opens opening) group next step one past = refl
by_none index (ByMaster event) group next step one past = grind (arith, nat_tests)
by_none index (ByLink brought) group next step one past = absurd one
by_none index (ByNode event) group next step one past =
    let less = within index event group next step one in grind (arith, nat_tests, less, past)

none_by : (nodes : ℕ) (config : Config) (log : List RunEvent) (group : Group) (went : GroupTrace nodes config group) → IsLogOf nodes config log group went
    → (index : ℕ) → nodes ≤ index → events_by (index + 1) log ≡ 0
none_by nodes config _ _ _ (opens can) index past = refl
none_by nodes config _ _ _ (goes_on {log = log} {group = group} {next = next} {went = went} is event step one reaches) index past =
    let at = reached nodes config log (record { group = group; went = went; is = is }) in
    let size : length group.nodes ≡ nodes = ap length at.nodes_are ∙ (as_many (opening_cores nodes config) log ∙ opening_length nodes config) in
    let other = by_none index event group next step one (omega (arith, size, past)) in
    let last : (if is_by (index + 1) event then 1 else 0) ≡ 0 = ap (λ (b : Bool). let n : ℕ = if b then 1 else 0 in n) other in
    let first = none_by nodes config log group went is index past in
    events_append (index + 1) log (event ∷ []) ∙ omega (arith, first, last)

pub none_outside : (nodes : ℕ) (config : Config) (log : List RunEvent) → IsHistory nodes config log → (index : ℕ) → nodes ≤ index → events_by (index + 1) log ≡ 0
none_outside nodes config log history index past = none_by nodes config log history.group history.went history.is index past
