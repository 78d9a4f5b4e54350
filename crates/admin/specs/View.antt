-- What is known of a broker when a request comes.
use Rattle.std.specs.Prelude.{ℕ, List, [], ◌∷◌, Bool, true, false, Option, Some, None, if◌then◌else◌, codes}
use Rattle.admin.specs.declared.view.AdminView.{AdminView}
use Rattle.admin.specs.declared.view.NodeLine.{NodeLine}
use Rattle.admin.specs.declared.view.Role.{Role}
use Rattle.admin.specs.declared.view.Role.TheVariants as role

-- the word of a role
abbrev pub role_text : Role → List ℕ
role_text role.Primary = codes "primary"
role_text role.Backup = codes "backup"
role_text role.Fetching = codes "fetching"
role_text role.Installing = codes "installing"
role_text role.None = codes "none"
role_text role.Crashed = codes "crashed"

-- whether a node is the active primary
abbrev pub is_primary : Role → Bool
is_primary role.Primary = true
is_primary role.Backup = false
is_primary role.Fetching = false
is_primary role.Installing = false
is_primary role.None = false
is_primary role.Crashed = false

-- how many commands the first active primary holds
abbrev pub held_by_primary : List NodeLine → Option ℕ
held_by_primary [] = None
held_by_primary (node ∷ nodes) =
    if is_primary node.role then Some node.held else held_by_primary nodes

-- the same of a view
abbrev pub primary_held : AdminView → Option ℕ
primary_held view = held_by_primary view.nodes.items
