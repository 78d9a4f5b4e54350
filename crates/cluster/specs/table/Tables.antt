-- The table of a cluster as a TOML document says it, and the first fault of any other text.
use Rattle.std.specs.Prelude.{ℕ, suc, ◌+◌, nat_le, ◌&&◌, if◌then◌else◌, List, [], ◌∷◌, ◌++◌, Option, Some, None, Result, Ok, Err, codes}
use Rattle.std.specs.List.{list_any}
use Rattle.std.specs.Str.{bytes_eq}
use Rattle.toml.specs.Data.{Data, Items, Members, array, item, no_items, table}
use Rattle.toml.specs.Parse.{parse_document}
use Rattle.cluster.specs.table.Entries.{Fault, Text, ◌>>=◌, end_at, text_at, value_at}
use Rattle.cluster.specs.table.Entries.Fault.{count, kind, no_toml, twice}

-- a row of a machine
pub record Row : Type 0 where
  pub link : Text
  pub listen : Text

-- the table of a cluster
pub record Table : Type 0 where
  pub key : Text
  pub master : Text
  pub rows : List Row
  pub orders : Text
  pub state : Text

-- what a row says
unfoldable pub row_in : ℕ → Members → Result Row Fault
row_in row members = do
  link ← text_at row (codes "link") members
  listen ← text_at row (codes "listen") link.1
  ended ← end_at row listen.1
  Ok (record { link = link.0; listen = listen.0 })

-- the same of a value
abbrev pub row_of : ℕ → Data → Result Row Fault
row_of row (table members) = row_in row members
row_of row value = Err (kind 0 (codes "node"))

-- these rows, and those that follow from this number on
abbrev pub rows_in : List Row → ℕ → Items → Result (List Row) Fault
rows_in done row no_items = Ok done
rows_in done row (item value rest) =
    row_of row value >>= (λ one. rows_in (done ++ one ∷ []) (row + 1) rest)

-- how many items there are
abbrev pub items_count : Items → ℕ
items_count no_items = 0
items_count (item value rest) = suc (items_count rest)

-- there are 1 to 15 rows
abbrev pub count_checked : ℕ → Result (Unit {0}) Fault
count_checked n = if nat_le 1 n && nat_le n 15 then Ok tt else Err count

-- the rows of a list
abbrev pub rows_of : Data → Result (List Row) Fault
rows_of (array items) = count_checked (items_count items) >>= (λ _. rows_in [] 1 items)
rows_of value = Err (kind 0 (codes "node"))

-- no later row has the address of an earlier one; the first such row counts
abbrev pub told_apart : ℕ → List Row → Result (Unit {0}) Fault
told_apart n [] = Ok tt
told_apart n (row ∷ rows) =
    if list_any (λ (other : Row). bytes_eq other.link row.link) rows
    then Err (twice n (codes "link")) else
    if list_any (λ (other : Row). bytes_eq other.listen row.listen) rows
    then Err (twice n (codes "listen")) else
    told_apart (n + 1) rows

-- what a document says
unfoldable pub table_in : Members → Result Table Fault
table_in members = do
  key ← text_at 0 (codes "key") members
  master ← text_at 0 (codes "master") key.1
  node ← value_at 0 (codes "node") master.1
  rows ← rows_of node.0
  orders ← text_at 0 (codes "orders") node.1
  state ← text_at 0 (codes "state") orders.1
  ended ← end_at 0 state.1
  apart ← told_apart 1 rows
  Ok (record { key = key.0; master = master.0; rows = rows; orders = orders.0; state = state.0 })

-- what a text says: a table, or its first fault
abbrev pub said_by : Option Members → Result Table Fault
said_by None = Err no_toml
said_by (Some members) = table_in members

abbrev pub table_of : Text → Result Table Fault
table_of text = said_by (parse_document text)
