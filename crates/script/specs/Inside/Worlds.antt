-- The world that the first line opens.
use Rattle.std.specs.Prelude.{ℕ, Bool, ◌&&◌, nat_le, if◌then◌else◌, List, [], ◌∷◌, codes, bytes_eq, Option, Some, None}
use Rattle.ballot_base.specs.LawfulConfig.{max_node}
use Rattle.script.specs.Fields.{Text, parse_clients, parse_number, parse_numbers}
use Rattle.script.specs.Scripts.{are_distinct, is_lawful_opening}
use Rattle.script.specs.Inside.LineReader.{with}
use Rattle.script.specs.declared.opening.Opening.{Opening}

-- nodes, members, primary and clients
pub record Values : Type 0 where
  pub nodes : ℕ
  pub members : List ℕ
  pub primary : ℕ
  pub clients : List Text

-- the values of the first line: nodes, members, primary, clients
abbrev pub values : ℕ → List ℕ → ℕ → List Text → Values
values nodes members primary clients =
    record { nodes = nodes; members = members; primary = primary; clients = clients }

-- the values of an `Opening`
abbrev pub values_of : Opening → Values
values_of opening = values opening.nodes opening.config.members opening.config.primary
    opening.clients.items

-- whether a number is at most the greatest of a node
abbrev pub is_at_most_max_node : ℕ → Bool
is_at_most_max_node number = nat_le number max_node

-- the values, if a world may open with them
abbrev pub checked : Option Values → Option Values
checked None = None
checked (Some opening) =
    if is_lawful_opening opening.nodes opening.members opening.primary
    && are_distinct opening.clients then Some opening else None

-- the values of a first line
abbrev pub parse_world : List Text → Option Values
parse_world [] = None
parse_world (word ∷ []) = None
parse_world (word ∷ nodes ∷ []) = None
parse_world (word ∷ nodes ∷ members ∷ []) = None
parse_world (word ∷ nodes ∷ members ∷ primary ∷ []) = None
parse_world (word ∷ nodes ∷ members ∷ primary ∷ clients ∷ []) = if bytes_eq word (codes "world")
    then checked (with (with (with (with (Some values) (parse_number nodes))
    (parse_numbers members)) (parse_number primary)) (parse_clients clients)) else None
parse_world (word ∷ nodes ∷ members ∷ primary ∷ clients ∷ other ∷ more) = None
