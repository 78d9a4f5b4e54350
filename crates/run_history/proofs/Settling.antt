-- One log by which every party is as it is.
use Rattle.std.proofs.Common.{◌≡◌, ℕ, zero, suc, ◌+◌, ◌<◌, ◌==◌, Bool, true, false, List, [], ◌∷◌, length, map, get_or, Some, refl, sym, ◌∙◌, subst, arith}
use Rattle.std.specs.Prelude.{slice_get, slice_set}
use Rattle.std.proofs.lemmas.List.{length-set}
use Rattle.std.proofs.lemmas.Option.{slice_get_read, slice_get_within}
use Rattle.std.proofs.lemmas.Bool.Decides.{nat_tests}
use mathlib.Core.List.{IsPrefix}
use Rattle.ballot_base.specs.StepOutcome.{master}
use Rattle.ballot_base.specs.declared.config.Config.{Config}
use Rattle.agreement.specs.MasterState.{MasterState}
use Rattle.headline.specs.node_group.Group.{opening_cores}
use Rattle.world_base.specs.node_core.Core.{CoreState, CountedCore}
use Rattle.run_history.specs.declared.event.RunEvent.{RunEvent}
use Rattle.run_history.specs.declared.event.RunEvent.TheVariants.{Opens, ByNode, ByMaster, ByLink}
use Rattle.run_history.specs.Ends.{AllEnded, IsEnd, IsMasterSettled, IsSettled}
use Rattle.run_history.specs.History.{IsHistory, IsMasterOf, IsNodeOf}
use Rattle.run_history.specs.Log.{events_by, nodes_after, nodes_in}
use Rattle.run_history.specs.Masters.{MasterView}
use Rattle.run_history.specs.Parties.{NodeView}
use Rattle.run_history.proofs.LongerLogs.{events_grow, master_stays, stays}
use Rattle.run_history.proofs.Openings.{opening_length}
use Rattle.run_history.proofs.TakenItems.{items_stay}

-- a node by a mark that has all that it knows, if it has no more events later
pub settled : (nodes : ℕ) (config : Config) (own mark later : List RunEvent) (index : ℕ) (node : CountedCore) (count : ℕ) → IsNodeOf nodes config own index node.core count → IsPrefix own mark → IsPrefix mark later
    → events_by (index + 1) later ≡ count → IsSettled nodes config mark (record { index = index; node = node; log = own })
settled nodes config own mark later index node count is p q same =
    let low = events_grow (index + 1) own mark p in
    let high = events_grow (index + 1) mark later q in
    let here : events_by (index + 1) mark ≡ count = omega (arith, low, high, same, is.counted) in
    let at = stays nodes config own mark index node.core count p is here in record {
      state = at.has;
      no_more = here ∙ sym is.counted;
      items = items_stay (index + 1) own mark p (here ∙ sym is.counted);
    }

-- the master by a mark that has all that it knows, if it has no more events later
pub master_settled : (config : Config) (own mark later : List RunEvent) (state : MasterState) (count : ℕ) → IsMasterOf config own state count → IsPrefix own mark → IsPrefix mark later
    → events_by master later ≡ count → IsMasterSettled config mark (record { state = state; log = own })
master_settled config own mark later state count is p q same =
    let low = events_grow master own mark p in
    let high = events_grow master mark later q in
    let here : events_by master mark ≡ count = omega (arith, low, high, same, is.counted) in
    let at = master_stays config own mark state count p is here in record {
      state = at.has;
      no_more = here ∙ sym is.counted;
    }

-- ---- lists, place by place

pub at_index : {A : Type 0} (xs : List A) (k : ℕ) (x : A) → k < length xs → x ≡ get_or xs k x → slice_get xs k ≡ Some x
at_index xs k x less is = slice_get_read xs (length xs) k x refl less is

below_by : {A : Type 0} (P : ℕ → A → Type 0) (xs : List A) (k : ℕ) (x : A) → slice_get xs k ≡ Some x → ((j : ℕ) (y : A) → j < k → slice_get xs j ≡ Some y → P j y) → P k x
    → (j : ℕ) (y : A) → j < k + 1 → slice_get xs j ≡ Some y → (b : Bool) → (j == k) ≡ b → P j y
below_by P xs k x at before here j y less found true is =
    let same : j ≡ k = grind (arith, nat_tests) in
    let item : x ≡ y = cc (at, found, same) in
    subst (λ n. P n y) (sym same) (subst (P k) item here)
below_by P xs k x at before here j y less found false is =
    let less' : j < k = grind (arith, nat_tests) in before j y less' found

-- what holds of the places below k and of place k holds of those below k + 1
pub below_step : {A : Type 0} (P : ℕ → A → Type 0) (xs : List A) (k : ℕ) (x : A) → slice_get xs k ≡ Some x → ((j : ℕ) (y : A) → j < k → slice_get xs j ≡ Some y → P j y) → P k x
    → (j : ℕ) (y : A) → j < k + 1 → slice_get xs j ≡ Some y → P j y
below_step P xs k x at before here j y less found = below_by P xs k x at before here j y less found (j == k) refl

same_places : {A B : Type 0} (f : A → B) (xs : List A) (ys : List B) → length xs ≡ length ys → ((k : ℕ) (x : A) → slice_get xs k ≡ Some x → slice_get ys k ≡ Some (f x)) → map f xs ≡ ys
same_places f [] [] len each = refl
same_places f [] (y ∷ ys) len each = absurd (omega (arith, len))
same_places f (x ∷ xs) [] len each = absurd (omega (arith, len))
same_places f (x ∷ xs) (y ∷ ys) len each =
    let head = each zero x refl in
    let rest = same_places f xs ys (omega (arith, len)) (λ k z at. each (suc k) z at) in cc (head, rest)

-- ---- the end

nodes_length_by : (nodes : List CoreState) (log : List RunEvent) → length (nodes_after nodes log) ≡ length nodes
nodes_length_by nodes [] = refl
nodes_length_by nodes (Opens group ∷ log) = nodes_length_by nodes log
nodes_length_by nodes (ByMaster event ∷ log) = nodes_length_by nodes log
nodes_length_by nodes (ByLink brought ∷ log) = nodes_length_by nodes log
nodes_length_by nodes (ByNode event ∷ log) = nodes_length_by (slice_set nodes event.node event.after.core) log ∙ length-set nodes event.node event.after.core

-- a log by which the master and each of all nodes are settled is their end
pub ended : (nodes : ℕ) (config : Config) (log : List RunEvent) (party : MasterView) (parties : List NodeView) → IsHistory nodes config log → IsMasterSettled config log party → length parties ≡ nodes
    → AllEnded nodes config log parties nodes → IsEnd nodes config log party parties
ended nodes config log party parties history of_master count all = record {
  history = history;
  master_is = of_master;
  cores =
      sym (same_places (λ (node : NodeView). node.node.core) parties (nodes_in nodes config log) (count ∙ sym (nodes_length_by (opening_cores nodes config) log ∙ opening_length nodes config))
      (λ k node at.
      let within = slice_get_within parties k node at in
      let less : k < nodes = omega (arith, count, within) in
      let end = all k node less at in
      subst (λ n. slice_get (nodes_in nodes config log) n ≡ Some node.node.core) end.place end.settled.state));
  settled = all;
}
