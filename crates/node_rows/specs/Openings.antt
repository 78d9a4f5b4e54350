-- Opening a node.
use Rattle.std.specs.Prelude.{◌≡◌, ℕ, List, [], ◌∷◌, codes, Some, if◌then◌else◌}
use Rattle.rows.specs.Fields.{Text, number_of}
use Rattle.rows.specs.Playing.{Answers, Agrees}
use Rattle.rows.specs.Answers.{word}
use Rattle.rows.specs.declared.line.Line.{Line}
use Rattle.ballot_base.specs.declared.config.Config.{Config}
use Rattle.agreement.specs.World.{can_open}
use Rattle.ballot_base.specs.LawfulConfig.{is_lawful, max_node}
use Rattle.world_base.specs.node_core.Core.{CountedCore, opening_core}
use Rattle.node_rows.specs.Values.{Is, IsConfig}
use Rattle.node_rows.specs.declared.openings.Openings.{Openings}

-- a node that opens in ballot 1
abbrev pub opened_core : ℕ → Config → CountedCore
opened_core node config = record { core = opening_core node config; losses = 0 }

-- `open 15 1 x"01 02" 1`: numbers of nodes go up to 15, and node 1 opens, with members 1 and 2 of
-- which 1 is the primary
pub data Opens : List Text → CountedCore → Type 0 where
  opens : {word greatest digits members primary : Text} {core : CountedCore} (node : ℕ)
      (config : Config) → Is word (codes "open") → number_of digits ≡ Some node
      → IsConfig members primary config → core ≡ opened_core node config
      → Opens (word ∷ greatest ∷ digits ∷ members ∷ primary ∷ []) core

-- `opened`, or `refused`
abbrev pub IsAnswered : ℕ → Config → Answers → Type 0
IsAnswered greatest config answers = answers ≡ word
    (if is_lawful greatest config.members config.primary then codes "opened" else codes "refused")
    ∷ []

-- the same of a group
abbrev pub IsGroupAnswered : ℕ → Config → Answers → Type 0
IsGroupAnswered nodes config answers = answers ≡ word
    (if can_open max_node nodes config then codes "opened" else codes "refused") ∷ []

-- whether a node or a group opens
pub data OpeningStep : List Text → Answers → Type 0 where
  -- `open 15 1 x"01 02" 1`
  opens : {word digits node members primary : Text} {answers : Answers} (greatest : ℕ)
      (config : Config) → Is word (codes "open") → number_of digits ≡ Some greatest
      → IsConfig members primary config → IsAnswered greatest config answers
      → OpeningStep (word ∷ digits ∷ node ∷ members ∷ primary ∷ []) answers
  -- `group 3 x"01 02" 1`: nodes 1 to 3, with members 1 and 2 of which 1 is the primary
  groups : {word digits members primary : Text} {answers : Answers} (nodes : ℕ)
      (config : Config) → Is word (codes "group") → number_of digits ≡ Some nodes
      → IsConfig members primary config → IsGroupAnswered nodes config answers
      → OpeningStep (word ∷ digits ∷ members ∷ primary ∷ []) answers

-- a step of a row
abbrev pub OpeningDoes : Openings → List Text → Answers → Openings → Type 0
OpeningDoes old step answers new = OpeningStep step answers

-- each step agrees
abbrev pub OpeningsAgree : List Line → Type 0
OpeningsAgree steps = (nodes : Openings) × Agrees OpeningDoes nodes steps
