-- The clients that a walk along a topic's levels finds (MQTT 4.7.1).
use Rattle.std.specs.Prelude.{◌≡◌, ℕ, true, false, List, [], ◌∷◌, codes, Option, Some, None}
use Rattle.std.specs.Prelude.{option_and_then, if◌then◌else◌, nat_lt}
use Rattle.std.specs.BTreeMap.{BTreeMap, get}
use Rattle.std.specs.Cmp.Lexicographic.{slice_cmp}
use Rattle.std.specs.Ordering.{nat_cmp}
use Rattle.topics.specs.Text.{Levels, levels}
use Rattle.topics.specs.Matching.{starts_with}
use Rattle.packet_base.specs.declared.qos.QoS.{QoS}
use Rattle.packet_base.specs.QoS.{qos_number}
use Rattle.subs.specs.Shape.{Shape}

-- the greater of two QoS; `None` is below every QoS
abbrev pub greatest : Option QoS → Option QoS → Option QoS
greatest None other = other
greatest (Some qos) None = Some qos
greatest (Some qos) (Some other) =
    if nat_lt (qos_number qos) (qos_number other) then Some other else Some qos

-- each client's QoS is the greater of what it was and what it is given
abbrev pub Raises : BTreeMap (List ℕ) QoS → BTreeMap (List ℕ) QoS → (List ℕ → Option QoS) → Type 0
Raises old new given =
    (client : List ℕ)
    → get (slice_cmp nat_cmp) new client
    ≡ greatest (get (slice_cmp nat_cmp) old client) (given client)

-- some client is given a QoS
abbrev pub GivesSome : (List ℕ → Option QoS) → Type 0
GivesSome given = (client : List ℕ) × (qos : QoS) × (given client ≡ Some qos)

-- the greatest QoS of the client's filters that match these levels of a topic below a node
abbrev pub found_at : Shape → ℕ → Levels → List ℕ → Option QoS
found_at shape at [] client = greatest (shape.asked at true client) (shape.asked at false client)
found_at shape at (level ∷ rest) client =
    greatest (shape.asked at true client)
    (greatest
    (option_and_then (λ below. found_at shape below rest client) (shape.child at level))
    (option_and_then (λ below. found_at shape below rest client) (shape.child at (codes "+"))))

-- the greatest QoS of the client's filters that match below this child, if there is one
abbrev pub found_after : Shape → Option ℕ → Levels → List ℕ → Option QoS
found_after shape node rest client =
    option_and_then (λ below. found_at shape below rest client) node

-- the greatest QoS of the client's filters that match and whose next level is this one
abbrev pub found_below : Shape → ℕ → List ℕ → Levels → List ℕ → Option QoS
found_below shape at level rest client =
    option_and_then (λ below. found_at shape below rest client) (shape.child at level)

-- the same for a topic that begins with `$` (36): no wildcard matches its first level (MQTT 4.7.2)
abbrev pub found_named : Shape → ℕ → Levels → List ℕ → Option QoS
found_named shape at [] client = None
found_named shape at (level ∷ rest) client = found_below shape at level rest client

-- the QoS at which a client is granted a topic, from a node on
abbrev pub found_from : Shape → ℕ → List ℕ → List ℕ → Option QoS
found_from shape at topic client =
    if starts_with 36 topic then found_named shape at (levels topic) client
    else found_at shape at (levels topic) client

-- the QoS at which a client is granted a topic, from the root on
abbrev pub found_for : Shape → Option ℕ → List ℕ → List ℕ → Option QoS
found_for shape root topic client = option_and_then (λ at. found_from shape at topic client) root
