-- The meaning of a line as an order, and the refusals.
use Rattle.std.specs.Prelude.{◌≡◌, ℕ, ◌⊎◌, List, [], ◌∷◌, ◌++◌, Option, Some, None, option_map, codes, if◌then◌else◌, map, min}
use Rattle.std.specs.List.{Contains}
use Rattle.std.specs.Str.Parse.{digits_value}
use Rattle.script.specs.Fields.{Text, fields_of, is_decimal, parts_of}
use Rattle.ballot_base.specs.declared.config.Config.{Config}
use Rattle.packet_base.specs.ClientId.{client_fault}
use Rattle.topics.specs.Refusals.{malformed_number}
use Rattle.topics.specs.declared.malformed.MalformedKind.{MalformedKind}
use Rattle.topics.specs.declared.malformed.MalformedKind.TheVariants as kinds
use Rattle.script.specs.declared.orders.order_lines.Order.{Order}
use Rattle.script.specs.declared.orders.order_lines.Order.TheVariants as orders
use Rattle.script.specs.declared.orders.words.TheConstants.{NO_ORDER}
use Rattle.script.specs.declared.orders.word_fault.WordFault.{WordFault}
use Rattle.script.specs.declared.orders.word_fault.WordFault.TheVariants as faults

-- the fault of a malformed text
abbrev pub fault_of_word : MalformedKind → WordFault
fault_of_word kinds.Memory = faults.Memory
fault_of_word kind = faults.Refused (malformed_number kind)

-- the number by which a word is refused
abbrev pub refused_number : WordFault → ℕ
refused_number (faults.Refused number) = number
refused_number faults.Memory = 12

-- by the first fault of its identifier, of number 5 or 6; an identifier without a fault only
-- because memory ran out
abbrev pub IsWordRefused : List ℕ → WordFault → Type 0
IsWordRefused client fault =
    (option_map fault_of_word (client_fault client) ≡ Some fault)
    ⊎ ((client_fault client ≡ None) × (fault ≡ faults.Memory))

-- the refusal of what is no order
abbrev pub no_order : WordFault
no_order = faults.Refused NO_ORDER

-- the number of a word of digits; 255 for greater ones; none for any other word
unfoldable pub named_node : Text → Option ℕ
named_node word = if is_decimal word then Some (min (digits_value 10 word) 255) else None

-- these are the numbers of the words between the commas
abbrev pub AreNumbers : Text → List ℕ → Type 0
AreNumbers word numbers = map named_node (parts_of word) ≡ map Some numbers

-- a word between the commas has no number
abbrev pub LacksNumber : Text → Type 0
LacksNumber word = (part : Text) × Contains (parts_of word) part × (named_node part ≡ None)

-- what has no meaning is refused as no order; what has one, only because memory ran out
abbrev pub IsNoOrder : Type 0 → WordFault → Type 0
IsNoOrder Lacks fault = (fault ≡ no_order × Lacks) ⊎ (fault ≡ faults.Memory)

-- the words of an order, apart from `expel`
pub data Orders : List Text → Order → Type 0 where
  quit : Orders (codes "quit" ∷ []) orders.Quit
  status : Orders (codes "status" ∷ []) orders.Status
  -- `crash 1`
  crash : {name : Text} {node : ℕ} → named_node name ≡ Some node
      → Orders (codes "crash" ∷ name ∷ []) (orders.Crash node)
  -- `assign 2,3 2`
  assign : {members primary : Text} {config : Config}
      → AreNumbers members config.members → named_node primary ≡ Some config.primary
      → Orders (codes "assign" ∷ members ∷ primary ∷ []) (orders.Assign config)

-- the words are no order
abbrev pub OrderNothing : List Text → Type 0
OrderNothing words = (order : Order) → Orders words order → ⊥

-- after `expel` and one blank everything is the identifier
abbrev pub IsExpel : Text → Text → Type 0
IsExpel line client = line ≡ codes "expel " ++ client

-- the line does not begin with `expel` and a blank
abbrev pub IsNoExpel : Text → Type 0
IsNoExpel line = (client : Text) → IsExpel line client → ⊥

-- the order of a line: to expel a client, whose identifier has no fault, or what its words mean
abbrev pub IsOrder : Text → Order → Type 0
IsOrder line order =
    ((client : Text)
    × IsExpel line client × (client_fault client ≡ None) × (order ≡ orders.Expel client))
    ⊎ (IsNoExpel line × Orders (fields_of line) order)

-- how a line is refused: an identifier to expel by its fault, or words that are no order
abbrev pub RefusesLine : Text → WordFault → Type 0
RefusesLine line fault =
    ((client : Text) × IsExpel line client × IsWordRefused client fault)
    ⊎ (IsNoExpel line × IsNoOrder (OrderNothing (fields_of line)) fault)
