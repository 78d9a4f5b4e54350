-- Topic Names and Topic Filters as bytes, and the first fault of a text (MQTT 1.5.3, 4.7).
use Rattle.std.specs.Prelude.{
  ◌≡◌,
  ℕ,
  Bool,
  true,
  false,
  not,
  ◌&&◌,
  ◌||◌,
  ◌==◌,
  nat_lt,
  nat_le,
  if◌then◌else◌,
  List,
  [],
  ◌∷◌,
  length,
  codes,
  bytes_eq,
  Option,
  ◌⊎◌,
  Some,
  None,
  is_none,
}
use Rattle.std.specs.List.{list_any, slice_split}
use Rattle.std.specs.Borrow.{Bor}
use Rattle.std.specs.Str.{is_utf8}
use Rattle.topics.specs.declared.level.TheConstants.{MAX_TEXT_BYTES}
use Rattle.topics.specs.declared.survey.TheConstants.{MAX_LEVELS}
use Rattle.topics.specs.declared.malformed.MalformedKind.{MalformedKind}
use Rattle.topics.specs.declared.malformed.MalformedKind.TheVariants as kinds

-- the levels of a text, each as its bytes
abbrev pub Levels : Type 0
Levels = List (List ℕ)

-- the texts between the `/` (47), empty ones included (MQTT 4.7.1.1)
abbrev pub levels : List ℕ → Levels
levels text = slice_split (λ byte. byte == 47) text

-- the levels of what follows a `/`; none if no `/` was there
abbrev pub levels_of : Option (Bor (List ℕ)) → Levels
levels_of None = []
levels_of (Some text) = levels text.now

-- whether the byte occurs in the text
abbrev pub contains_byte : ℕ → List ℕ → Bool
contains_byte byte text = list_any (λ other. other == byte) text

-- 1 to 65,535 bytes (MQTT 4.7.3)
abbrev pub has_length : List ℕ → Bool
has_length text = nat_lt 0 (length text) && nat_le (length text) MAX_TEXT_BYTES

-- at most 32 levels, this broker's own limit
abbrev pub is_shallow : List ℕ → Bool
is_shallow text = nat_le (length (levels text)) MAX_LEVELS

-- neither `+` (43) nor `#` (35) occurs in the text, as in each Topic Name (MQTT 4.7.1)
abbrev pub has_no_wildcard : List ℕ → Bool
has_no_wildcard text = not (contains_byte 43 text) && not (contains_byte 35 text)

-- a level may stand at its place: it has no wildcards, or is `+`, or is `#` and the last one (MQTT
-- 4.7.1.2, 4.7.1.3)
abbrev pub may_stand : List ℕ → Bool → Bool
may_stand level last =
    has_no_wildcard level || bytes_eq level (codes "+") || (bytes_eq level (codes "#") && last)

-- whether no level follows
abbrev pub is_last : Levels → Bool
is_last [] = true
is_last (_ ∷ _) = false

-- each wildcard of a Topic Filter is in its place (MQTT 4.7.1)
abbrev pub has_wildcards_in_place : Levels → Bool
has_wildcards_in_place [] = true
has_wildcards_in_place (level ∷ rest) =
    may_stand level (is_last rest) && has_wildcards_in_place rest

-- the first fault of a text as a Topic Name
abbrev pub topic_fault : List ℕ → Option MalformedKind
topic_fault text =
    if contains_byte 0 text then Some kinds.Text else
    if not (has_length text && has_no_wildcard text) then Some kinds.Topic else
    if not (is_shallow text) then Some kinds.TooDeep else None

-- the first fault of a text as a Topic Filter
abbrev pub filter_fault : List ℕ → Option MalformedKind
filter_fault text =
    if contains_byte 0 text then Some kinds.Text else
    if not (has_length text && has_wildcards_in_place (levels text)) then Some kinds.Filter else
    if not (is_shallow text) then Some kinds.TooDeep else None

-- how a text is refused: by its first fault; a text without a fault only because memory ran out
abbrev pub RefusesBy : Option MalformedKind → MalformedKind → Type 0
RefusesBy fault kind = (fault ≡ Some kind) ⊎ ((fault ≡ None) × (kind ≡ kinds.Memory))

-- bytes that a `TopicName` may hold
abbrev pub is_topic : List ℕ → Bool
is_topic bytes = is_utf8 bytes && is_none (topic_fault bytes)

-- bytes that a `Filter` may hold
abbrev pub is_filter : List ℕ → Bool
is_filter bytes = is_utf8 bytes && is_none (filter_fault bytes)

-- the Topic Name that a filter without wildcards is
abbrev pub named_topic : List ℕ → Option (List ℕ)
named_topic filter = if has_no_wildcard filter then Some filter else None
