-- NodesEnded.antt: the log by which all nodes are settled is a run that was served.
use Rattle.std.proofs.Common.{◌≡◌, ℕ, ◌+◌, ◌<◌, ◌==◌, zero, suc, Bool, true, false, List, [], ◌∷◌, ◌++◌, length, map, get_or, refl, ◌∙◌, ap, sym, subst, arith, inl, inr, ◌⊎◌}
use Rattle.std.specs.List.{All, Contains}
use Rattle.std.specs.List.Sorted.{IsNonDecreasingBy, IsPermutation}
use Rattle.std.proofs.lemmas.Bool.{false≢true}
use Rattle.std.proofs.lemmas.List.{get_or-map, length-map}
use Rattle.std.proofs.lemmas.List.Elements.{All-contains, All-map, Contains-append_cases, Contains-append_right, Contains-get_or}
use mathlib.Core.List.{IsPrefix}
use Rattle.std.proofs.lemmas.List.Sorted.{Contains-permutation, IsPermutation-refl, IsPermutation-sym, IsPermutation-trans}
use Rattle.ballot_base.specs.LawfulConfig.{max_node}
use Rattle.ballot_base.specs.declared.config.Config.{Config}
use Rattle.lists.specs.Lists.{has_id}
use Rattle.lists.proofs.Tests.{eq_same, or_left, or_right}
use Rattle.run_history.specs.declared.event.RunEvent.{RunEvent}
use Rattle.run_history.specs.Ends.{AllEnded, IsEnd, IsEnded}
use Rattle.run_history.specs.History.{IsHistory}
use Rattle.run_history.specs.Log.{events_by, items_taken}
use Rattle.run_history.specs.Masters.{MasterView}
use Rattle.run_history.specs.Parties.{NodeView}
use Rattle.run_history.proofs.Prefixes.{prefix_trans}
use Rattle.run_history.proofs.Settling.{at_index}
use Rattle.server.specs.declared.node_threads.served_node.NodeReport.{NodeReport}
use Rattle.server.specs.declared.served_run.ServedRun.{ServedRun}
use Rattle.server.specs.Ended.{EndedView, IsTold}
use Rattle.server.specs.Ends.{IsReportIn, IsServedRun}
use Rattle.server.specs.Inside.{IsIdle, numbers_of}
use Rattle.server.proofs.NodesOpened.{has_contains}
use Rattle.server.proofs.of_node_threads.OwnSendsJoin.{own_later}

-- ---- lists

pub contains_map : {A B : Type 0} (f : A → B) (xs : List A) (x : A) → Contains xs x → Contains (map f xs) (f x)
contains_map f [] x (k, less, is) = absurd (omega (arith, less))
contains_map f (y ∷ xs) x (zero, less, is) = (zero, omega arith, ap f is)
contains_map f (y ∷ xs) x (suc k, less, is) =
    let at = contains_map f xs x (k, omega (arith, less), is) in (suc at.0, omega (arith, at.1), at.2)

-- what the images of a list have is the image of one that it has
pub record Image {A B : Type 0} (f : A → B) (xs : List A) (y : B) : Type 0 where
  pub of : A
  pub among : Contains xs of
  pub is : f of ≡ y

pub image_of : {A B : Type 0} (f : A → B) (xs : List A) (y : B) → Contains (map f xs) y → Image f xs y
image_of f [] y (k, less, is) = absurd (omega (arith, less))
image_of f (x ∷ xs) y (zero, less, is) = record { of = x; among = (zero, omega arith, refl); is = is }
image_of f (x ∷ xs) y (suc k, less, is) =
    let at = image_of f xs y (k, omega (arith, less), is) in
    record { of = at.of; among = (suc at.among.0, omega (arith, at.among.1), at.among.2); is = at.is }

contains_has : (number : ℕ) (numbers : List ℕ) → Contains numbers number → has_id number numbers ≡ true
contains_has number [] (k, less, is) = absurd (omega (arith, less))
contains_has number (first ∷ numbers) (zero, less, is) =
    or_left _ _ (subst (λ (n : ℕ). (number == n) ≡ true) (sym is) (eq_same number))
contains_has number (first ∷ numbers) (suc k, less, is) =
    or_right _ _ (contains_has number numbers (k, omega (arith, less), is))

none_by : (number : ℕ) (numbers others : List ℕ) (b : Bool) → has_id number others ≡ b → IsPermutation numbers others
    → has_id number numbers ≡ false → b ≡ false
none_by number numbers others false is moved none = refl
none_by number numbers others true is moved none =
    absurd (false≢true
    (sym none ∙ contains_has number numbers
    (Contains-permutation others numbers number (IsPermutation-sym numbers others moved) (has_contains number others is))))

-- a number that a list has not is not in the list in another order
none_moved : (number : ℕ) (numbers others : List ℕ) → IsPermutation numbers others
    → has_id number numbers ≡ false → has_id number others ≡ false
none_moved number numbers others moved none = none_by number numbers others (has_id number others) refl moved none

rising_map : (xs : List EndedView) → IsNonDecreasingBy (λ (one : EndedView). one.report.number) xs
    → IsNonDecreasingBy (λ (report : NodeReport). report.number) (map (λ (one : EndedView). one.report) xs)
rising_map [] rising i j d up less = absurd (omega (arith, less))
rising_map (x ∷ xs) rising i j d up less =
    let all = x ∷ xs in
    let within : j < length all = omega (arith, less, length-map all (λ (one : EndedView). one.report)) in
    let low = get_or-map (λ (one : EndedView). one.report) all i x d (omega (arith, up, within)) in
    let high = get_or-map (λ (one : EndedView). one.report) all j x d within in
    omega (arith, ap (λ (report : NodeReport). report.number) low, ap (λ (report : NodeReport). report.number) high, rising i j x up within)

-- ---- nodes

get_again : (nodes : List NodeView) (index : ℕ) (other : NodeView) → index < length nodes
    → get_or nodes index (get_or nodes index other) ≡ get_or nodes index other
get_again [] index other within = absurd (omega (arith, within))
get_again (node ∷ nodes) zero other within = refl
get_again (node ∷ nodes) (suc index) other within = get_again nodes index other (omega (arith, within))

-- one of the nodes
first_of : (nodes : List NodeView) → length nodes ≡ max_node → NodeView
first_of [] long = absurd (omega (arith, long))
first_of (node ∷ nodes) long = node

-- the node among these is settled by the log
ended_at : (config : Config) (log : List RunEvent) (nodes : List NodeView) (node : NodeView)
    → AllEnded max_node config log nodes max_node → length nodes ≡ max_node
    → (at : Contains nodes node) → IsEnded max_node config log at.0 node
ended_at config log nodes node all long at =
    all at.0 node (omega (arith, at.1, long)) (at_index nodes at.0 node at.1 (sym at.2))

pub report_in : (nodes : ℕ) (config : Config) (log : List RunEvent) (one : EndedView) (index : ℕ)
    → IsTold one → IsPrefix one.log log → IsEnded nodes config log index one.node → IsReportIn nodes config log one.report
report_in nodes config log one index told known ended = record {
  index = one.node.index;
  named = told.named;
  ended = one.node.node.core;
  at_end = ended.settled.state;
  is = record {
    of = told.is.of;
    taken = told.is.taken;
    items =
        subst (λ (number : ℕ). items_taken number log ≡ items_taken number one.node.log) told.named ended.settled.items
        ∙ told.is.items;
    by_lanes = told.is.by_lanes;
    lanes = told.is.lanes;
    counted = told.is.counted;
    connections = told.is.connections;
    own = own_later one.log log one.report.number [] _ known told.is.own;
    base = told.is.base;
  };
}

-- what nodes know of messages is known by a longer log
pub known_later : (seen log : List RunEvent) (served : List EndedView) → IsPrefix seen log
    → All (λ (one : EndedView). IsPrefix one.log seen) served → All (λ (one : EndedView). IsPrefix one.log log) served
known_later seen log served longer known k d less = prefix_trans (get_or served k d).log seen log (known k d less) longer

-- a node that has no report did nothing
others_idle : (config : Config) (log : List RunEvent) (nodes others : List NodeView) (served : List EndedView) (index : ℕ) (node : NodeView)
    → All IsIdle others → All IsTold served
    → Contains others node ⊎ Contains (map (λ (one : EndedView). one.node) served) node
    → IsEnded max_node config log index node → has_id (index + 1) (numbers_of served) ≡ false
    → events_by (index + 1) log ≡ 0
others_idle config log nodes others served index node idle told (inl among) ended none =
    subst (λ (i : ℕ). events_by (i + 1) log ≡ 0) ended.place (ended.settled.no_more ∙ All-contains IsIdle others node idle among)
others_idle config log nodes others served index node idle told (inr among) ended none =
    let one = image_of (λ (one : EndedView). one.node) served node among in
    let number : one.of.report.number ≡ index + 1 =
    sym (All-contains IsTold served one.of told one.among).named ∙ ap (λ (n : NodeView). n.index + 1) one.is ∙ ap (λ (i : ℕ). i + 1) ended.place in
    absurd (false≢true
    (sym none ∙ contains_has (index + 1) (numbers_of served)
    (subst (Contains (numbers_of served)) number (contains_map (λ (one : EndedView). one.report.number) served one.of one.among))))

map_twice : (served : List EndedView)
    → map (λ (report : NodeReport). report.number) (map (λ (one : EndedView). one.report) served) ≡ numbers_of served
map_twice [] = refl
map_twice (one ∷ served) = ap (λ (l : List ℕ). one.report.number ∷ l) (map_twice served)

pub served_run : (config : Config) (log : List RunEvent) (party : MasterView) (nodes others : List NodeView) (served : List EndedView) (run : ServedRun)
    → IsEnd max_node config log party nodes → length nodes ≡ max_node
    → IsPermutation (others ++ map (λ (one : EndedView). one.node) served) nodes
    → All IsTold served → All (λ one. IsPrefix one.log log) served → All IsIdle others
    → IsNonDecreasingBy (λ (one : EndedView). one.report.number) served
    → run.log ≡ log → run.reports.items ≡ map (λ (one : EndedView). one.report) served
    → IsServedRun config (numbers_of served) run
served_run config log party nodes others served run end long moved told known idle rising is_log reports =
    let node_of : EndedView → NodeView = λ (one : EndedView). one.node in
    let among : (one : EndedView) → Contains served one → Contains nodes one.node =
    λ one at. Contains-permutation (others ++ map node_of served) nodes one.node moved (Contains-append_right others (map node_of served) one.node (contains_map node_of served one at)) in record {
      history = subst (IsHistory max_node config) (sym is_log) end.history;
      reports =
          subst (λ (l : List RunEvent). All (IsReportIn max_node config l) run.reports.items) (sym is_log)
          (subst (All (IsReportIn max_node config log)) (sym reports)
          (All-map (IsReportIn max_node config log) (λ (one : EndedView). one.report) served
          (λ k d less.
          let at = among (get_or served k d) (Contains-get_or served k d less) in
          report_in max_node config log (get_or served k d) at.0 (told k d less) (known k d less) (ended_at config log nodes (get_or served k d).node end.settled long at))));
      served =
          subst (IsPermutation (numbers_of served)) (sym (ap (map (λ (report : NodeReport). report.number)) reports ∙ map_twice served))
          (IsPermutation-refl (numbers_of served));
      rising = subst (IsNonDecreasingBy (λ (report : NodeReport). report.number)) (sym reports) (rising_map served rising);
      others = λ index less none.
          let node = get_or nodes index (first_of nodes long) in
          let within : index < length nodes = omega (arith, less, long) in
          let at : Contains nodes node = (index, within, get_again nodes index (first_of nodes long) within) in
          subst (λ (l : List RunEvent). events_by (index + 1) l ≡ 0) (sym is_log)
          (others_idle config log nodes others served index node idle told
          (Contains-append_cases others (map node_of served) node (Contains-permutation nodes _ node (IsPermutation-sym _ nodes moved) at))
          (ended_at config log nodes node end.settled long at) none);
    }

-- a run that was served with nodes of some numbers was so with these in another order
pub served_same : (config : Config) (numbers others : List ℕ) (run : ServedRun) → IsPermutation numbers others
    → IsServedRun config others run → IsServedRun config numbers run
served_same config numbers others run moved so = record {
  history = so.history;
  reports = so.reports;
  served = IsPermutation-trans numbers others _ moved so.served;
  rising = so.rising;
  others = λ index less none. so.others index less (none_moved (index + 1) numbers others moved none);
}
