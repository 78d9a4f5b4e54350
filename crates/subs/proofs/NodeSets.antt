-- What one node shows once a map of it was changed.
use Rattle.std.proofs.Common.{◌≡◌, ℕ, List, Bool, true, false, cond, Option, None, [], refl, sym, ◌∙◌, ap, bytes_eq, codes}
use Rattle.std.specs.Prelude.{option_map}
use Rattle.std.specs.BTreeMap.{get_by, is_at}
use Rattle.std.specs.Map.{lookup}
use Rattle.std.specs.Cmp.Lexicographic.{slice_cmp, bytes_decides}
use Rattle.std.specs.Ordering.{nat_cmp}
use Rattle.packet_base.specs.declared.qos.QoS.{QoS}
use Rattle.subs.specs.declared.node.Node.{Node}
use Rattle.subs.specs.declared.node_id.NodeId.{NodeId}
use Rattle.subs.specs.Changes.{SetsRow, SetsChild}
use Rattle.subs.specs.Rows.{rows_as_list, qos_of_client, SetsAt}
use Rattle.subs.specs.Inside.{clients_at, child_in, HoldsNothing}

abbrev pub number_of : Option NodeId → Option ℕ
number_of o = option_map (λ id. id.number) o

abbrev pub named_at : Node → List ℕ → Option NodeId
named_at node level = get_by (λ key. slice_cmp nat_cmp level key.items) node.named

pub turned : (x y : List ℕ) → bytes_eq x y ≡ bytes_eq y x
turned x y =
    elim (bytes_eq x y) as (λ v. bytes_eq x y ≡ v → v ≡ bytes_eq y x) [
      | true ↦ λ e. sym ((bytes_decides y x).1 (sym ((bytes_decides x y).0 e)))
      | false ↦ λ e.
          elim (bytes_eq y x) as (λ v. bytes_eq y x ≡ v → false ≡ v) [
            | true ↦ λ h. sym e ∙ (bytes_decides x y).1 (sym ((bytes_decides y x).0 h))
            | false ↦ λ h. refl
          ] refl
    ] refl

-- a node of empty maps
pub empty_node : (node : Node) → rows_as_list node.here ≡ [] → rows_as_list node.rest ≡ [] → node.named.entries ≡ [] → node.plus ≡ None → HoldsNothing node
empty_node node here rest named plus = record { child = child; asked = asked }
  where
    child : (level : List ℕ) → child_in node level ≡ None
    child level = by (bytes_eq level (codes "+"))
      where
        by : (v : Bool) → number_of (cond v node.plus (named_at node level)) ≡ None
        by true = ap number_of plus
        by false = ap (λ es. number_of (lookup (is_at (λ key. slice_cmp nat_cmp level key.items)) es)) named

    asked : (r : Bool) (client : List ℕ) → clients_at node r client ≡ None
    asked true client = ap (λ es. lookup (is_at (slice_cmp nat_cmp client)) es) rest
    asked false client = ap (λ es. lookup (is_at (slice_cmp nat_cmp client)) es) here

-- the child that is looked for
pub plus_child : (node : Node) (level : List ℕ) → bytes_eq level (codes "+") ≡ true → number_of node.plus ≡ child_in node level
plus_child node level e = ap (λ v. number_of (cond v node.plus (named_at node level))) (sym e)

pub named_child : (node : Node) (level : List ℕ) → bytes_eq level (codes "+") ≡ false → number_of (named_at node level) ≡ child_in node level
named_child node level e = ap (λ v. number_of (cond v node.plus (named_at node level))) (sym e)

pub sets_plus :
    (old new : Node) (level : List ℕ) (below : Option NodeId) → bytes_eq level (codes "+") ≡ true → new.plus ≡ below → new.named ≡ old.named
    → SetsChild (child_in old) (child_in new) level (number_of below)
sets_plus old new level below is plus named l =
    ap (λ p. number_of (cond (bytes_eq l (codes "+")) p (named_at new l))) plus
    ∙ ap (λ m. number_of (cond (bytes_eq l (codes "+")) below (get_by (λ key. slice_cmp nat_cmp l key.items) m))) named
    ∙ by (bytes_eq l (codes "+"))
    ∙ ap (λ v. cond v (number_of below) (child_in old l)) (turned l (codes "+") ∙ ap (λ x. bytes_eq x l) (sym ((bytes_decides level (codes "+")).0 is)))
  where
    by : (v : Bool) → number_of (cond v below (named_at old l)) ≡ cond v (number_of below) (number_of (cond v old.plus (named_at old l)))
    by true = refl
    by false = refl

pub sets_named :
    (old new : Node) (level : List ℕ) (below : Option NodeId) → bytes_eq level (codes "+") ≡ false → new.plus ≡ old.plus
    → ((l : List ℕ) → named_at new l ≡ cond (bytes_eq level l) below (named_at old l))
    → SetsChild (child_in old) (child_in new) level (number_of below)
sets_named old new level below not plus named l =
    ap (λ p. number_of (cond (bytes_eq l (codes "+")) p (named_at new l))) plus
    ∙ ap (λ m. number_of (cond (bytes_eq l (codes "+")) old.plus m)) (named l)
    ∙ by (bytes_eq l (codes "+")) refl
  where
    into : (v : Bool) → number_of (cond v below (named_at old l)) ≡ cond v (number_of below) (number_of (named_at old l))
    into true = refl
    into false = refl

    by : (v : Bool) → bytes_eq l (codes "+") ≡ v
        → number_of (cond v old.plus (cond (bytes_eq level l) below (named_at old l)))
        ≡ cond (bytes_eq level l) (number_of below) (number_of (cond v old.plus (named_at old l)))
    by true e =
        let apart : bytes_eq level l ≡ false = ap (bytes_eq level) ((bytes_decides l (codes "+")).0 e) ∙ not in
        ap (λ v. cond v (number_of below) (number_of old.plus)) (sym apart)
    by false e = into (bytes_eq level l)

-- rows beside the node, and at it
pub sets_rest :
    (old new : Node) (client : List ℕ) (kept : Option QoS) → new.here ≡ old.here
    → SetsAt old.rest new.rest client kept
    → SetsRow (clients_at old) (clients_at new) true client kept
sets_rest old new client kept here rest true c = rest c
sets_rest old new client kept here rest false c = ap (λ m. qos_of_client m c) here

pub sets_here :
    (old new : Node) (client : List ℕ) (kept : Option QoS) → new.rest ≡ old.rest
    → SetsAt old.here new.here client kept
    → SetsRow (clients_at old) (clients_at new) false client kept
sets_here old new client kept rest here true c = ap (λ m. qos_of_client m c) rest
sets_here old new client kept rest here false c = here c

-- if the rows of both sides are the same, so are the node's
pub same_rows : (old new : Node) → qos_of_client new.here ≡ qos_of_client old.here → qos_of_client new.rest ≡ qos_of_client old.rest → clients_at new ≡ clients_at old
same_rows old new here rest = λ i r c. go r c i
  where
    go : (r : Bool) (c : List ℕ) → clients_at new r c ≡ clients_at old r c
    go true c = λ i. rest i c
    go false c = λ i. here i c

pub same_children : (old new : Node) → new.named.entries ≡ old.named.entries → new.plus ≡ old.plus → child_in new ≡ child_in old
same_children old new named plus = λ i l. go l i
  where
    go : (l : List ℕ) → child_in new l ≡ child_in old l
    go l =
        ap (λ p. number_of (cond (bytes_eq l (codes "+")) p (named_at new l))) plus
        ∙ ap (λ es. number_of (cond (bytes_eq l (codes "+")) old.plus (lookup (is_at (λ key. slice_cmp nat_cmp l key.items)) es))) named
