-- The program's command line, as it is declared to `clap`: subcommands and their arguments.
use Rattle.std.specs.Prelude.{◌≡◌, ◌∷◌, [], ℕ, true, false, Some, codes, pos}
use Rattle.clap.specs.Words.{App, Rule, Text, app_of, new_app, new_rule, rule_of, with_rule, with_subcommand}
use Rattle.clap.specs.declared.builder.action.ArgAction.TheVariants.{Append, SetTrue}
use Rattle.clap.specs.declared.builder.arg.Arg.{Arg}
use Rattle.clap.specs.declared.builder.command.Command.{Command}
use Rattle.clap.specs.declared.builder.command.Command.TheViews.{out-Command}
use Rattle.clap.specs.declared.builder.value_parser.ValueParser.TheVariants as parsers

-- `--name VALUE`, which is required
abbrev pub required_option : Text → Rule
required_option name =
    record (new_rule name) { long = Some name; required = true; value_names = 1 }

-- `--name VALUE`, which is optional
abbrev pub free_option : Text → Rule
free_option name = record (new_rule name) { long = Some name; value_names = 1 }

-- `--name N` with a number from `least` to `most`, which is required
abbrev pub number_option : Text → ℕ → ℕ → Rule
number_option name least most =
    record (required_option name) { parser = Some (parsers.Signed (pos least) (pos most)) }

-- `--log LEVEL`; `info` if it is left out
abbrev pub log_rule : Rule
log_rule = record (free_option (codes "log")) { defaults = codes "info" ∷ [] }

-- `--qos N`, from 0 to 2
abbrev pub qos_rule : Rule
qos_rule = number_option (codes "qos") 0 2

-- `--count N`, from 1 to 1,000,000
abbrev pub count_rule : Rule
count_rule = number_option (codes "count") 1 1000000

-- `--tries N`; 10 if it is left out
abbrev pub tries_rule : Rule
tries_rule = record (number_option (codes "tries") 1 1000) {
  required = false;
  defaults = codes "10" ∷ [];
}

-- `--retain`, which has no value
abbrev pub retain_rule : Rule
retain_rule = record (new_rule (codes "retain")) {
  long = Some (codes "retain");
  action = Some SetTrue;
}

-- `ADDR...`, one address or several
abbrev pub address_rule : Rule
address_rule = record (new_rule (codes "address")) {
  action = Some Append;
  required = true;
  value_names = 1;
}

-- `[FILE]`, which is optional
abbrev pub file_rule : Rule
file_rule = record (new_rule (codes "file")) { value_names = 1 }

-- the subcommand `serve`
abbrev pub serve_app : App
serve_app = with_rule
    (with_rule (with_rule (new_app (codes "serve")) (required_option (codes "config"))) log_rule)
    (free_option (codes "admin"))

-- `--tries N ADDR...`, of `pub` and `sub`
abbrev pub with_openings : App → App
with_openings app = with_rule (with_rule app tries_rule) address_rule

-- the subcommand `pub`
abbrev pub publish_app : App
publish_app = with_openings
    (with_rule
    (with_rule
    (with_rule
    (with_rule (with_rule (new_app (codes "pub")) (required_option (codes "id")))
    (required_option (codes "topic"))) qos_rule) (required_option (codes "message"))) retain_rule)

-- the subcommand `sub`
abbrev pub subscribe_app : App
subscribe_app = with_openings
    (with_rule
    (with_rule
    (with_rule (with_rule (new_app (codes "sub")) (required_option (codes "id")))
    (required_option (codes "filter"))) qos_rule) count_rule)

-- the subcommand `play`
abbrev pub play_app : App
play_app = with_rule
    (with_rule (with_rule (new_app (codes "play")) (free_option (codes "escape")))
    (free_option (codes "client"))) file_rule

-- the program without its subcommands: it has a version, requires a subcommand, and prints the help
-- for a command line without words
abbrev pub bare_program : App
bare_program = record (new_app (codes "vbroker")) {
  top = record ((new_app (codes "vbroker")).top) {
    has_version = true;
    arg_required_else_help = true;
    subcommand_required = true;
    disable_help_subcommand = true;
  };
}

-- the whole command line
abbrev pub program : App
program = with_subcommand
    (with_subcommand
    (with_subcommand (with_subcommand bare_program serve_app.top) publish_app.top)
    subscribe_app.top) play_app.top

-- the argument has this rule, and subcommands do not take it
abbrev pub IsArgument : Rule → Arg → Type 0
IsArgument rule arg = (rule_of arg ≡ rule) × (arg.global ≡ false)

-- the command is read as this one, and its subcommands take no argument of it
abbrev pub IsCommand : App → Command → Type 0
IsCommand app command = (app_of command ≡ app) × ((out-Command command).has_globals ≡ false)
