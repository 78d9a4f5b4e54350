-- Added.antt: a command with one argument or one subcommand more is read so.
use Rattle.std.proofs.Common.{◌||◌, Result, Ok, Err, ap, ap₂, ◌∙◌}
use Rattle.std.specs.Prelude.{IfOk}
use Rattle.clap.specs.Words.{App, Rule, AddsArg, AddsSubcommand, with_rule, with_subcommand}
use Rattle.clap.specs.declared.builder.arg.Arg.{Arg}
use Rattle.clap.specs.declared.builder.command.Command.{Command}
use Rattle.cluster.specs.table.Program.{IsArgument, IsCommand}

pub one_added : (app : App) (rule : Rule) (old new : Command) (arg : Arg) → IsCommand app old → IsArgument rule arg
    → AddsArg old arg new → IsCommand (with_rule app rule) new
one_added app rule old new arg is given adds =
    (adds.shape given.1 ∙ ap₂ with_rule is.0 given.0, adds.globals ∙ ap₂ (λ a b. a || b) is.1 given.1)

pub added : {E : Type 0} (app : App) (rule : Rule) (old : Command) (arg : Arg) (r : Result Command E) → IsCommand app old → IsArgument rule arg
    → IfOk r (λ new. AddsArg old arg new) → IfOk r (IsCommand (with_rule app rule))
added app rule old arg (Ok new) is given adds = one_added app rule old new arg is given adds
added app rule old arg (Err e) is given adds = tt

pub one_entered : (app sub_app : App) (old sub new : Command) → IsCommand app old → IsCommand sub_app sub
    → AddsSubcommand old sub new → IsCommand (with_subcommand app sub_app.top) new
one_entered app sub_app old sub new is given adds = (
  adds.shape given.1 ∙ ap₂ with_subcommand is.0 (ap (λ (a : App). a.top) given.0),
  adds.globals ∙ ap₂ (λ a b. a || b) is.1 given.1,
)

pub entered : {E : Type 0} (app sub_app : App) (old sub : Command) (r : Result Command E) → IsCommand app old → IsCommand sub_app sub
    → IfOk r (λ new. AddsSubcommand old sub new) → IfOk r (IsCommand (with_subcommand app sub_app.top))
entered app sub_app old sub (Ok new) is given adds = one_entered app sub_app old sub new is given adds
entered app sub_app old sub (Err e) is given adds = tt
