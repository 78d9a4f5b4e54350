-- Numbered nodes and the filters that they stand for, level by level (MQTT 4.7.1).
use Rattle.std.specs.Prelude.{ℕ, Bool, true, false, List, [], ◌∷◌, Option}
use Rattle.std.specs.Prelude.{option_and_then, if◌then◌else◌}
use Rattle.topics.specs.Text.{Levels, levels}
use Rattle.topics.specs.Matching.{is_all}
use Rattle.packet_base.specs.declared.qos.QoS.{QoS}
use Rattle.subs_base.specs.Content.{Content}

-- for each node and level the number of its child
abbrev pub Children : Type 0
Children = ℕ → List ℕ → Option ℕ

-- for each node and client the QoS in `here` (false) or in `rest` (true), the rows of the filter
-- with `#` after it
abbrev pub AskedAt : Type 0
AskedAt = ℕ → Bool → List ℕ → Option QoS

-- nodes as functions of their numbers
pub record Shape : Type 0 where
  pub child : Children
  pub asked : AskedAt
  pub used : ℕ → Bool

-- the QoS of the client's subscription whose levels below this node are these
abbrev pub asked_below : Shape → ℕ → Levels → List ℕ → Option QoS
asked_below shape at [] client = shape.asked at false client
asked_below shape at (level ∷ rest) client =
    if is_all level rest then shape.asked at true client
    else option_and_then (λ below. asked_below shape below rest client) (shape.child at level)

-- the QoS of the client's subscription whose levels from the root are these
abbrev pub rows : Shape → Option ℕ → Levels → List ℕ → Option QoS
rows shape root filter client = option_and_then (λ at. asked_below shape at filter client) root

-- the content of the tree: for each client and filter the QoS at the filter's levels
abbrev pub shape_content : Shape → Option ℕ → Content
shape_content shape root client filter = rows shape root (levels filter) client
