-- The values of the keys of a TOML table, and what is wrong with them. Keys are read in ascending
-- order, as `toml` has them.
use Rattle.std.specs.Prelude.{ℕ, List, Result, Ok, Err}
use Rattle.std.specs.Ordering.{nat_cmp, match_ordering}
use Rattle.std.specs.Cmp.Lexicographic.{slice_cmp}
use Rattle.toml.specs.Data.{Data, Members, member, no_members, string}

-- a text by its bytes
abbrev pub Text : Type 0
Text = List ℕ

-- what is wrong with a text; row 0 is the document itself
pub data Fault : Type 0 where
  no_toml : Fault
  unknown : ℕ → Text → Fault
  missing : ℕ → Text → Fault
  kind : ℕ → Text → Fault
  count : Fault
  twice : ℕ → Text → Fault

infixl 10 ◌>>=◌
-- one step and then the next, unless the first meets a fault
abbrev pub ◌>>=◌ : {A B : Type 0} → Result A Fault → (A → Result B Fault) → Result B Fault
(Ok read) >>= next = next read
(Err fault) >>= next = Err fault

-- The value of the key that comes next, and the members after it. A smaller key is unknown; before
-- a greater one the key is missing.
abbrev pub value_at : ℕ → Text → Members → Result (Data × Members) Fault
value_at row key no_members = Err (missing row key)
value_at row key (member name value rest) = match_ordering (slice_cmp nat_cmp name key)
    (Err (unknown row name)) (Ok (value, rest)) (Err (missing row key))

-- a text as the value of this key
abbrev pub text_in : ℕ → Text → Data → Result Text Fault
text_in row key (string text) = Ok text
text_in row key value = Err (kind row key)

-- the text of the key that comes next, and the members after it
unfoldable pub text_at : ℕ → Text → Members → Result (Text × Members) Fault
text_at row key members = do
  value ← value_at row key members
  text ← text_in row key value.0
  Ok (text, value.1)

-- no key is left
abbrev pub end_at : ℕ → Members → Result (Unit {0}) Fault
end_at row no_members = Ok tt
end_at row (member name value rest) = Err (unknown row name)
