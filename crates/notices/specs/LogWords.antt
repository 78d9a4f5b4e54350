-- The words of the option that chooses which lines are told.
use Rattle.std.specs.Prelude.{ℕ, List, Option, Some, None, option_and_then}
use Rattle.log.specs.Level.{parse_filter}
use Rattle.log.specs.declared.level.LevelFilter.{LevelFilter}
use Rattle.log.specs.declared.level.LevelFilter.TheVariants.{Off, Error, Warn, Info, Debug, Trace}

-- nothing is told at the level `trace`
abbrev pub told_filter : LevelFilter → Option LevelFilter
told_filter Trace = None
told_filter Off = Some Off
told_filter Error = Some Error
told_filter Warn = Some Warn
told_filter Info = Some Info
told_filter Debug = Some Debug

-- what a word lets through
abbrev pub log_filter : List ℕ → Option LevelFilter
log_filter word = option_and_then told_filter (parse_filter word)
