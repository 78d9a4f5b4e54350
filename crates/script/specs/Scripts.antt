-- The form of a whole script: its lines, the first of them, and the first malformed line.
use Rattle.std.specs.Prelude.{◌≡◌, ◌==◌, ◌&&◌, ◌-◌, ◌+◌, ℕ, suc, zero, Bool, true, not, nat_le, if◌then◌else◌, List, [], ◌∷◌, length, slice_index, take, codes, bytes_eq, Some, ◌⊎◌}
use Rattle.std.specs.List.{list_all, list_any, slice_split}
use Rattle.std.specs.Str.{IsUtf8}
use Rattle.ballot_base.specs.LawfulConfig.{is_lawful, max_node}
use Rattle.script.specs.Fields.{Text, parse_clients, fields_of, parse_number, parse_numbers}
use Rattle.script.specs.Lines.{IsLine}
use Rattle.script.specs.declared.error.ScriptFault.{ScriptFault}
use Rattle.script.specs.declared.error.ScriptFault.TheVariants as errors
use Rattle.script.specs.declared.opening.Opening.{Opening}
use Rattle.script.specs.declared.script_line.ScriptLine.{ScriptLine}
use Rattle.script.specs.declared.script_reader.Script.{Script}

-- the text without a line feed, 10, at its end
abbrev pub without_last_feed : Text → Text
without_last_feed text =
    if slice_index text (length text - 1) == 10 then take (length text - 1) text else text

-- the parts between line feeds
unfoldable pub lines_of : Text → List Text
lines_of text = slice_split (λ byte. byte == 10) (without_last_feed text)

-- each of the members is one of this many nodes, numbered from 1
abbrev pub are_members : ℕ → List ℕ → Bool
are_members nodes members = list_all (λ member. nat_le member nodes) members

-- at most `max_node` nodes, and members of them that a ballot may have
abbrev pub is_lawful_opening : ℕ → List ℕ → ℕ → Bool
is_lawful_opening nodes members primary = nat_le nodes max_node
    && (are_members nodes members && is_lawful max_node members primary)

-- one of the clients is this one
abbrev pub has_client : List Text → Text → Bool
has_client clients client = list_any (λ other. bytes_eq other client) clients

-- no two of the clients are the same
abbrev pub are_distinct : List Text → Bool
are_distinct [] = true
are_distinct (client ∷ clients) = not (has_client clients client) && are_distinct clients

-- the first line of these fields opens this world: `world 2 1,2 1 a,b`
pub data IsOpening : List Text → Opening → Type 0 where
  -- its word, and four fields
  world : {nodes_field members_field primary_field clients_field : Text} {opening : Opening}
      → parse_number nodes_field ≡ Some opening.nodes
      → parse_numbers members_field ≡ Some opening.config.members
      → parse_number primary_field ≡ Some opening.config.primary
      → parse_clients clients_field ≡ Some opening.clients.items
      → is_lawful_opening opening.nodes opening.config.members opening.config.primary ≡ true
      → are_distinct opening.clients.items ≡ true
      → IsOpening
      (codes "world" ∷ nodes_field ∷ members_field ∷ primary_field ∷ clients_field ∷ []) opening

-- lines are well-formed texts of these forms
abbrev pub IsOpeningLine : Text → Opening → Type 0
IsOpeningLine line opening = IsUtf8 line × IsOpening (fields_of line) opening

-- a line is UTF-8, and its fields have one of the other forms
abbrev pub IsOtherLine : Text → ScriptLine → Type 0
IsOtherLine line script_line = IsUtf8 line × IsLine (fields_of line) script_line

-- the meanings of these lines, one after another
abbrev pub AreLines : List Text → List ScriptLine → Type 0
AreLines [] [] = Unit {0}
AreLines [] (script_line ∷ script_lines) = ⊥
AreLines (line ∷ lines) [] = ⊥
AreLines (line ∷ lines) (script_line ∷ script_lines) =
    IsOtherLine line script_line × AreLines lines script_lines

-- the lines are this script
abbrev pub IsScript : List Text → Script → Type 0
IsScript [] script = ⊥
IsScript (first ∷ lines) script =
    IsOpeningLine first script.opening × AreLines lines script.lines.items

-- a line has one of the other forms
abbrev pub HasSomeForm : Text → Type 0
HasSomeForm line = (script_line : ScriptLine) × IsOtherLine line script_line

-- a line is a first line, which opens some world
abbrev pub HasOpening : Text → Type 0
HasOpening line = (opening : Opening) × IsOpeningLine line opening

-- the line of this index is the first malformed one
abbrev pub IsFirstBad : List Text → ℕ → Type 0
IsFirstBad [] index = ⊥
IsFirstBad (line ∷ lines) zero = ¬ (HasSomeForm line)
IsFirstBad (line ∷ lines) (suc index) = HasSomeForm line × IsFirstBad lines index

-- lines are refused by the number of the first malformed one, or because memory ran out
abbrev pub Refuses : List Text → ScriptFault → Type 0
Refuses lines errors.Memory = Unit {0}
Refuses [] (errors.Line number) = number ≡ 1
Refuses (first ∷ lines) (errors.Line number) = ((number ≡ 1) × ¬ (HasOpening first))
    ⊎ (HasOpening first × ((index : ℕ) × ((number ≡ index + 2) × IsFirstBad lines index)))
