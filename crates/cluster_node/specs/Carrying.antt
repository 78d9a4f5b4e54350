-- Where the links of a node lead.
use Rattle.std.specs.Prelude.{ℕ, Option, Some, None}
use Rattle.link_threads.specs.declared.far_end.FarEnd.{FarEnd}
use Rattle.link_threads.specs.declared.far_end.FarEnd.TheVariants as ends

-- the row of the table at the other end of a link, counted from 0; none for the master
abbrev pub row_of : FarEnd → Option ℕ
row_of ends.Master = None
row_of (ends.Row row) = Some row
