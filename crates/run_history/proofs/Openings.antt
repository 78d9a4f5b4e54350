-- How logs open.
use Rattle.std.proofs.Common.{◌≡◌, ℕ, zero, suc, ◌+◌, ◌<◌, ◌==◌, Bool, true, false, List, [], ◌∷◌, ◌++◌, length, Some, refl, ap, ◌∙◌, subst, arith, length-append}
use Rattle.std.specs.Prelude.{slice_get}
use Rattle.std.proofs.lemmas.Bool.Decides.{nat_tests}
use mathlib.Core.List.{IsPrefix}
use Rattle.lists.proofs.Places.{get_pushed}
use Rattle.ballot_base.specs.LawfulConfig.{max_node}
use Rattle.ballot_base.specs.declared.config.Config.{Config}
use Rattle.agreement.specs.World.{can_open}
use Rattle.world_base.specs.node_core.Core.{opening_core}
use Rattle.headline.specs.node_group.Group.{Group, opening_cores, opening_group}
use Rattle.headline.specs.node_group.Steps.{GroupTrace}
use Rattle.headline.specs.node_group.Steps.GroupTrace.{opened}
use Rattle.run_history.specs.declared.event.RunEvent.{RunEvent}
use Rattle.run_history.specs.declared.event.RunEvent.TheVariants.{Opens, ByNode, ByMaster, ByLink}
use Rattle.run_history.specs.History.{IsLogOf, IsNodeOf}
use Rattle.run_history.specs.History.IsLogOf.{opens, goes_on}
use Rattle.run_history.specs.Linked.{IsLinkedLog, IsRun, greatest_in}
use Rattle.run_history.specs.Linked.IsLinkedLog.{opens_linked, node_does, link_brings}
use Rattle.run_history.specs.Log.{opening_event, opening_log}
use Rattle.run_history.proofs.Prefixes.{prefix_more, prefix_self, prefix_trans}

-- ---- of which group a log is

abbrev opens_with : Config → RunEvent → ℕ × Config × Bool
opens_with other (Opens group) = (group.nodes, group.config, group.linked)
opens_with other (ByNode event) = (0, other, false)
opens_with other (ByMaster event) = (0, other, false)
opens_with other (ByLink brought) = (0, other, false)

same_opening : (a b : ℕ) (c d : Config) (k l : Bool) (log : List RunEvent) → IsPrefix (opening_log a c k) log → IsPrefix (opening_log b d l) log → opens_with c (opening_event a c k) ≡ opens_with c (opening_event b d l)
same_opening a b c d k l log p q =
    let e : opening_event a c k ≡ opening_event b d l = cc (p.1, q.1) in ap (opens_with c) e

pub same_nodes : (a b : ℕ) (c d : Config) (k l : Bool) (log : List RunEvent) → IsPrefix (opening_log a c k) log → IsPrefix (opening_log b d l) log → a ≡ b
same_nodes a b c d k l log p q = ap (λ (t : ℕ × Config × Bool). t.0) (same_opening a b c d k l log p q)

pub same_config : (a b : ℕ) (c d : Config) (k l : Bool) (log : List RunEvent) → IsPrefix (opening_log a c k) log → IsPrefix (opening_log b d l) log → c ≡ d
same_config a b c d k l log p q = ap (λ (t : ℕ × Config × Bool). t.1) (same_opening a b c d k l log p q)

pub same_linked : (a b : ℕ) (c d : Config) (k l : Bool) (log : List RunEvent) → IsPrefix (opening_log a c k) log → IsPrefix (opening_log b d l) log → k ≡ l
same_linked a b c d k l log p q = ap (λ (t : ℕ × Config × Bool). t.2) (same_opening a b c d k l log p q)

-- each log of a run begins with its opening
begins_by : (nodes : ℕ) (config : Config) (log : List RunEvent) (group : Group) (went : GroupTrace nodes config group) → IsLogOf nodes config log group went → IsPrefix (opening_log nodes config false) log
begins_by nodes config log group went (opens can) = prefix_self (opening_log nodes config false)
begins_by nodes config log group went (goes_on {log = before} {group = last} {went = earlier} is event step one reached) =
    prefix_trans (opening_log nodes config false) before (before ++ event ∷ []) (begins_by nodes config before last earlier is) (prefix_more before (event ∷ []))

begins_linked : (nodes : ℕ) (config : Config) (log : List RunEvent) → IsLinkedLog nodes config log → IsPrefix (opening_log nodes config true) log
begins_linked nodes config log (opens_linked can) = prefix_self (opening_log nodes config true)
begins_linked nodes config log (node_does {log = before} is event core at may) =
    prefix_trans (opening_log nodes config true) before (before ++ ByNode event ∷ []) (begins_linked nodes config before is) (prefix_more before (ByNode event ∷ []))
begins_linked nodes config log (link_brings {log = before} is brought) =
    prefix_trans (opening_log nodes config true) before (before ++ ByLink brought ∷ []) (begins_linked nodes config before is) (prefix_more before (ByLink brought ∷ []))

pub begins : (linked : Bool) (nodes : ℕ) (config : Config) (log : List RunEvent) → IsRun linked nodes config log → IsPrefix (opening_log nodes config linked) log
begins false nodes config log history = begins_by nodes config log history.group history.went history.is
begins true nodes config log is = begins_linked nodes config log is

-- ---- a group as it opens

pub opening_run : (linked : Bool) (nodes : ℕ) (config : Config) → can_open (greatest_in linked) nodes config ≡ true → IsRun linked nodes config (opening_log nodes config linked)
opening_run false nodes config can = record { group = opening_group max_node nodes config; went = opened max_node can; is = opens can }
opening_run true nodes config can = opens_linked can

get_left : {X : Type 0} (xs ys : List X) (k : ℕ) → k < length xs → slice_get (xs ++ ys) k ≡ slice_get xs k
get_left [] ys k less = absurd (omega (arith, less))
get_left (x ∷ xs) ys zero less = refl
get_left (x ∷ xs) ys (suc k) less = get_left xs ys k (omega (arith, less))

pub opening_length : (count : ℕ) (config : Config) → length (opening_cores count config) ≡ count
opening_length zero config = refl
opening_length (suc count) config = length-append (opening_cores count config) (opening_core (count + 1) config ∷ []) ∙ omega (arith, opening_length count config)

opening_get_by : (count k : ℕ) (config : Config) → k < suc count → (b : Bool) → (k == count) ≡ b → (k < count → slice_get (opening_cores count config) k ≡ Some (opening_core (k + 1) config)) → slice_get (opening_cores (suc count) config) k ≡ Some (opening_core (k + 1) config)
opening_get_by count k config less true is rest =
    let same : k ≡ count = grind (arith, nat_tests) in
    rw same (subst (λ n. slice_get (opening_cores count config ++ opening_core (count + 1) config ∷ []) n ≡ Some (opening_core (count + 1) config)) (opening_length count config) (get_pushed (opening_cores count config) (opening_core (count + 1) config)))
opening_get_by count k config less false is rest =
    let other : k ≡ count → ⊥ = λ e. grind (arith, nat_tests) in
    let less' : k < count = omega (arith, less, other) in
    get_left (opening_cores count config) (opening_core (count + 1) config ∷ []) k (omega (arith, opening_length count config, less')) ∙ rest less'

opening_get : (count k : ℕ) (config : Config) → k < count → slice_get (opening_cores count config) k ≡ Some (opening_core (k + 1) config)
opening_get zero k config less = absurd (omega (arith, less))
opening_get (suc count) k config less = opening_get_by count k config less (k == count) refl (opening_get count k config)

-- a node as it opens
pub opening_node : (nodes k : ℕ) (config : Config) (linked : Bool) → k < nodes → IsNodeOf nodes config (opening_log nodes config linked) k (opening_core (k + 1) config) 0
opening_node nodes k config linked less = record { has = opening_get nodes k config less; counted = omega arith }
