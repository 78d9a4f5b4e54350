-- The rows of each filter, gathered before the nodes are created.
use Rattle.std.specs.Prelude.{ℕ, List, [], ◌∷◌, bytes_eq, Option, None, option_and_then}
use Rattle.std.specs.Prelude.{if◌then◌else◌, map}
use Rattle.std.specs.Map.{lookup}
use Rattle.packet_base.specs.declared.qos.QoS.{QoS}
use Rattle.subs_base.specs.Content.{Content, last_qos_in, with_row}
use Rattle.subs_base.specs.ListIndex.{Filters, Clients}
use Rattle.subs.specs.declared.group.Group.{Group}
use Rattle.subs.specs.declared.group.Group.TheVariants as kinds

-- each filter with its rows
abbrev pub Groups : Type 0
Groups = List (List ℕ × List (List ℕ × QoS))

-- the rows of a group, in the order in which they came
abbrev pub rows_of_group : Group → List (List ℕ × QoS)
rows_of_group (kinds.One client qos) = (client, qos) ∷ []
rows_of_group (kinds.More rows) = rows.items

-- the groups as lists
abbrev pub groups_as_lists : List (List ℕ × Group) → Groups
groups_as_lists entries = map (λ entry. (entry.0, rows_of_group entry.1)) entries

-- the content of the gathered rows
abbrev pub gathered : Groups → Content
gathered groups client filter =
    option_and_then (λ rows. last_qos_in rows client) (lookup (bytes_eq filter) groups)

-- these rows are added to a content, filter by filter
abbrev pub all_rows_put : Groups → Content → Content
all_rows_put [] content = content
all_rows_put (group ∷ groups) content =
    all_rows_put groups (λ client filter. if bytes_eq group.0 filter then last_qos_in group.1 client
    else content client filter)

-- these filters of a client are set, one by one
abbrev pub filters_set : List ℕ → Filters → Content → Content
filters_set client [] content = content
filters_set client (subscription ∷ more) content =
    filters_set client more (with_row content client subscription.0 subscription.1)

-- the filters of all clients are set
abbrev pub clients_set : Clients → Content → Content
clients_set [] content = content
clients_set (entry ∷ rest) content = clients_set rest (filters_set entry.0 entry.1 content)
