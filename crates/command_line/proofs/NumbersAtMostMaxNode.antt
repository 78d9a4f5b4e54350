-- NumbersAtMostMaxNode.antt: the numbers of a lawful table are at most 15.
use Rattle.std.proofs.Common.{◌≡◌, ◌==◌, ◌&&◌, ◌||◌, ℕ, Bool, true, false, not, List, [], ◌∷◌, nat_le, nat_lt, length, refl, sym, ap, subst, ◌∙◌, inl, inr}
use Rattle.std.proofs.lemmas.Bool.{and_parts, cases_Bool, eqb-true, false≢true}
use Rattle.std.specs.List.{list_all, list_any}
use Rattle.ballot_base.specs.LawfulConfig.{are_rising, is_lawful, max_node}
use Rattle.command_line.specs.declared.node_table.ListeningNode.{ListeningNode}
use Rattle.command_line.specs.declared.node_table.NodeTable.{NodeTable}
use Rattle.command_line.specs.Tables.{are_told_apart, has_node, is_lawful_table}
use Rattle.command_line.specs.Inside.Documents.{NumbersAreAtMostMaxNode, has_id_at_most_max_node, is_at_most_max_node}

rising_are_at_most : (last : ℕ) (ms : List ℕ) → are_rising max_node last ms ≡ true → list_all is_at_most_max_node ms ≡ true
rising_are_at_most last [] h = refl
rising_are_at_most last (m ∷ ms) h =
    let (here, more) = and_parts (nat_lt last m && nat_le m 15) (are_rising max_node m ms) h in
    let (above, below) = and_parts (nat_lt last m) (nat_le m 15) here in
    rw (below, rising_are_at_most m ms more) refl

one_is_at_most : (p : ℕ) (ms : List ℕ) → list_all is_at_most_max_node ms ≡ true → list_any (λ member. member == p) ms ≡ true
    → is_at_most_max_node p ≡ true
one_is_at_most p [] bounded h = absurd (false≢true h)
one_is_at_most p (m ∷ ms) bounded h =
    let (here, more) = and_parts (is_at_most_max_node m) (list_all is_at_most_max_node ms) bounded in
    elim (cases_Bool (m == p)) [
      | inl same ↦ subst (λ n. is_at_most_max_node n ≡ true) (eqb-true m p same) here
      | inr other ↦ one_is_at_most p ms more (rw other at h)
    ]

apart_are_at_most : (nodes : List ListeningNode) → are_told_apart nodes ≡ true → list_all has_id_at_most_max_node nodes ≡ true
apart_are_at_most [] h = refl
apart_are_at_most (node ∷ nodes) h =
    let (range, rest) = and_parts (nat_le 1 node.id && nat_le node.id 15) (not (has_node nodes node.id) && are_told_apart nodes) h in
    let (low, high) = and_parts (nat_le 1 node.id) (nat_le node.id 15) range in
    let (new, others) = and_parts (not (has_node nodes node.id)) (are_told_apart nodes) rest in
    rw (high, apart_are_at_most nodes others) refl

pub lawful_is_at_most : (t : NodeTable) → is_lawful_table t ≡ true → NumbersAreAtMostMaxNode t
lawful_is_at_most t h =
    let (apart, rest) = and_parts (are_told_apart t.nodes.items)
    (list_all (has_node t.nodes.items) t.config.members && is_lawful max_node t.config.members t.config.primary) h in
    let (nodes, config) = and_parts (list_all (has_node t.nodes.items) t.config.members) (is_lawful max_node t.config.members t.config.primary) rest in
    let (rising, sizes) = and_parts (are_rising max_node 0 t.config.members) _ config in
    let (low, sizes2) = and_parts (nat_le 1 (length t.config.members)) _ sizes in
    let (high, primary) = and_parts (nat_le (length t.config.members) 7) _ sizes2 in
    let members : list_all is_at_most_max_node t.config.members ≡ true = rising_are_at_most 0 t.config.members rising in
    record {
      members = members;
      primary = one_is_at_most t.config.primary t.config.members members primary;
      nodes = apart_are_at_most t.nodes.items apart;
    }
