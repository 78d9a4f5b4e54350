-- What calls that read the table of a cluster return, by what its text says.
use Rattle.std.specs.Prelude.{◌≡◌, List, map, Result, Ok, Err, string_bytes}
use Rattle.toml.specs.Data.{Members}
use Rattle.cluster.specs.declared.table.cluster_table.ClusterTable.{ClusterTable}
use Rattle.cluster.specs.declared.table.cluster_table.NodeRow.{NodeRow}
use Rattle.cluster.specs.declared.table.fault.TableFault.{TableFault}
use Rattle.cluster.specs.declared.table.fault.TableFault.TheVariants as faults
use Rattle.cluster.specs.table.Entries.{Fault}
use Rattle.cluster.specs.table.Entries.Fault.{count, kind, missing, no_toml, twice, unknown}
use Rattle.cluster.specs.table.Tables.{Row, Table}

-- the row that a call returned
abbrev pub row_data : NodeRow → Row
row_data row = record { link = string_bytes row.link; listen = string_bytes row.listen }

-- the rows that a call returned
abbrev pub rows_data : List NodeRow → List Row
rows_data rows = map row_data rows

-- the table that a call returned
abbrev pub table_data : ClusterTable → Table
table_data given = record {
  key = string_bytes given.key;
  master = string_bytes given.master;
  rows = rows_data given.nodes.items;
  orders = string_bytes given.orders;
  state = string_bytes given.state;
}

-- the fault is this one, unless memory ran out
abbrev pub IsFault : {A : Type 0} → TableFault → Result A Fault → Type 0
IsFault (faults.Toml error) said = said ≡ Err no_toml
IsFault (faults.Unknown row key) said = said ≡ Err (unknown row (string_bytes key))
IsFault (faults.Missing row key) said = said ≡ Err (missing row key.now)
IsFault (faults.Kind row key) said = said ≡ Err (kind row key.now)
IsFault faults.Count said = said ≡ Err count
IsFault (faults.Twice row key) said = said ≡ Err (twice row key.now)
IsFault faults.Memory said = Unit {0}

-- the result of a call is, after this conversion, what is said
abbrev pub Gives : {X A : Type 0} → (X → A) → Result X TableFault → Result A Fault → Type 0
Gives convert (Ok value) said = said ≡ Ok (convert value)
Gives convert (Err fault) said = IsFault fault said

-- the same of a call that leaves these members unread
abbrev pub Reads : {X A : Type 0} → (X → A) → Result X TableFault → Members
    → Result (A × Members) Fault → Type 0
Reads convert (Ok value) rest said = said ≡ Ok (convert value, rest)
Reads convert (Err fault) rest said = IsFault fault said
