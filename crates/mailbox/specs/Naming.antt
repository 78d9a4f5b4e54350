-- The identity of no inbox, for numbers that were given to none.
use Rattle.std.specs.Prelude.{[]}
use Rattle.atomic_table.specs.Seated.{TableId}

-- the identity for a number that was given to no inbox: no inbox has it
abbrev pub no_inbox : TableId
no_inbox = record {
  words = 0;
  slots = 0;
  views_name = 0;
  atom = 0;
  block = 0;
  offset = 0;
  slot_names = [];
}
