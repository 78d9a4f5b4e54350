-- The program's command line, as it is declared to `clap`: subcommands and their arguments.
use Rattle.std.specs.Prelude.{◌≡◌, true, false, Some, codes, pos}
use Rattle.clap.specs.Words.{App, Rule, app_of, new_app, new_rule, rule_of, with_rule, with_subcommand}
use Rattle.clap.specs.declared.builder.arg.Arg.{Arg}
use Rattle.clap.specs.declared.builder.command.Command.{Command}
use Rattle.clap.specs.declared.builder.command.Command.TheViews.{out-Command}
use Rattle.clap.specs.declared.builder.value_parser.ValueParser.TheVariants as parsers

-- `--config FILE`, which is required
abbrev pub config_rule : Rule
config_rule = record (new_rule (codes "config")) {
  long = Some (codes "config");
  required = true;
  value_names = 1;
}

-- `--row N` with a number from 1 to 15, which is required
abbrev pub row_rule : Rule
row_rule = record (new_rule (codes "row")) {
  long = Some (codes "row");
  required = true;
  value_names = 1;
  parser = Some (parsers.Signed (pos 1) (pos 15));
}

-- `FILE`, which is required
abbrev pub file_rule : Rule
file_rule = record (new_rule (codes "file")) { required = true; value_names = 1 }

-- the subcommand `node`
abbrev pub node_app : App
node_app = with_rule (with_rule (new_app (codes "node")) config_rule) row_rule

-- the subcommand `master`
abbrev pub master_app : App
master_app = with_rule (new_app (codes "master")) config_rule

-- the subcommand `key`
abbrev pub key_app : App
key_app = with_rule (new_app (codes "key")) file_rule

-- the program without its subcommands: it has a version, requires a subcommand, and prints the help
-- for a command line without words
abbrev pub bare_program : App
bare_program = record (new_app (codes "vcluster")) {
  top = record ((new_app (codes "vcluster")).top) {
    has_version = true;
    arg_required_else_help = true;
    subcommand_required = true;
    disable_help_subcommand = true;
  };
}

-- the whole command line
abbrev pub program : App
program =
    with_subcommand (with_subcommand (with_subcommand bare_program node_app.top) master_app.top)
    key_app.top

-- the argument has this rule, and subcommands do not take it
abbrev pub IsArgument : Rule → Arg → Type 0
IsArgument rule arg = (rule_of arg ≡ rule) × (arg.global ≡ false)

-- the command is read as this one, and its subcommands take no argument of it
abbrev pub IsCommand : App → Command → Type 0
IsCommand app command = (app_of command ≡ app) × ((out-Command command).has_globals ≡ false)
