-- SameDocument.antt: tables that one document says are both lawful, or none is.
use Rattle.std.proofs.Common.{◌≡◌, ◌==◌, ◌&&◌, ◌||◌, ℕ, pos, Bool, true, false, not, true≢false, List, [], ◌∷◌, map, nat_le, refl, ap, ap₂, sym, ◌∙◌}
use Rattle.std.proofs.lemmas.Bool.{false≢true}
use Rattle.std.specs.List.{list_all, list_any}
use Rattle.toml.specs.Data.{Data, Items, Members, array, integer, item, member, no_items, no_members, table}
use Rattle.toml.specs.View.{items_of}
use Rattle.ballot_base.specs.LawfulConfig.{is_lawful, max_node}
use Rattle.command_line.specs.declared.node_table.ListeningNode.{ListeningNode}
use Rattle.command_line.specs.declared.node_table.NodeTable.{NodeTable}
use Rattle.command_line.specs.Tables.{are_told_apart, document_of, has_node, is_lawful_table, node_data, number_value}

abbrev number_in : Data → ℕ
number_in (integer (pos n)) = n
number_in _ = 0

abbrev id_in : Data → ℕ
id_in (table (member k d ms)) = number_in d
id_in _ = 0

abbrev items_in : Data → Items
items_in (array items) = items
items_in _ = no_items

abbrev first_in : Members → Data
first_in no_members = array no_items
first_in (member k d ms) = d

abbrev others_in : Members → Members
others_in no_members = no_members
others_in (member k d ms) = ms

-- what each item of a list says, by `reads`
abbrev all_in : (Data → ℕ) → Items → List ℕ
all_in reads no_items = []
all_in reads (item d ds) = reads d ∷ all_in reads ds

numbers_said : (ns : List ℕ) → all_in number_in (items_of (map number_value ns)) ≡ ns
numbers_said [] = refl
numbers_said (n ∷ ns) = ap (λ rest. n ∷ rest) (numbers_said ns)

abbrev ids : List ListeningNode → List ℕ
ids nodes = map (λ (node : ListeningNode). node.id) nodes

ids_said : (nodes : List ListeningNode) → all_in id_in (items_of (map node_data nodes)) ≡ ids nodes
ids_said [] = refl
ids_said (node ∷ nodes) = ap (λ rest. node.id ∷ rest) (ids_said nodes)

-- the same tests over numbers
abbrev has_id : List ℕ → ℕ → Bool
has_id ns id = list_any (λ other. other == id) ns

abbrev are_apart : List ℕ → Bool
are_apart [] = true
are_apart (n ∷ ns) = (nat_le 1 n && nat_le n 15) && (not (has_id ns n) && are_apart ns)

has_by_ids : (nodes : List ListeningNode) (id : ℕ) → has_node nodes id ≡ has_id (ids nodes) id
has_by_ids [] id = refl
has_by_ids (node ∷ nodes) id = ap (λ rest. (node.id == id) || rest) (has_by_ids nodes id)

apart_by_ids : (nodes : List ListeningNode) → are_told_apart nodes ≡ are_apart (ids nodes)
apart_by_ids [] = refl
apart_by_ids (node ∷ nodes) =
    ap₂ (λ a b. (nat_le 1 node.id && nat_le node.id 15) && (not a && b)) (has_by_ids nodes node.id) (apart_by_ids nodes)

all_by_ids : (nodes : List ListeningNode) (ms : List ℕ) → list_all (has_node nodes) ms ≡ list_all (has_id (ids nodes)) ms
all_by_ids nodes [] = refl
all_by_ids nodes (m ∷ ms) = ap₂ (λ a b. a && b) (has_by_ids nodes m) (all_by_ids nodes ms)

abbrev is_lawful_by : List ℕ → List ℕ → ℕ → Bool
is_lawful_by ns members primary = are_apart ns && (list_all (has_id ns) members && is_lawful max_node members primary)

lawful_by : (t : NodeTable) → is_lawful_table t ≡ is_lawful_by (ids t.nodes.items) t.config.members t.config.primary
lawful_by t = ap₂ (λ a b. a && (b && is_lawful max_node t.config.members t.config.primary))
    (apart_by_ids t.nodes.items) (all_by_ids t.nodes.items t.config.members)

pub same_lawful : (s t : NodeTable) → document_of s ≡ document_of t → is_lawful_table s ≡ is_lawful_table t
same_lawful s t same =
    let members : s.config.members ≡ t.config.members =
    sym (numbers_said s.config.members) ∙ ap (λ d. all_in number_in (items_in (first_in d))) same ∙ numbers_said t.config.members in
    let nodes : ids s.nodes.items ≡ ids t.nodes.items =
    sym (ids_said s.nodes.items) ∙ ap (λ d. all_in id_in (items_in (first_in (others_in d)))) same ∙ ids_said t.nodes.items in
    let primary : s.config.primary ≡ t.config.primary = ap (λ d. number_in (first_in (others_in (others_in d)))) same in
    lawful_by s ∙ ap (λ ns. is_lawful_by ns s.config.members s.config.primary) nodes
    ∙ ap₂ (λ ms p. is_lawful_by (ids t.nodes.items) ms p) members primary ∙ sym (lawful_by t)
