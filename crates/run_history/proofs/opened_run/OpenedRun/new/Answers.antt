use Rattle.std.proofs.Common.{◌+◌, ap}
use Rattle.run_history.proofs.Adding.{opens}
use Rattle.run_history.proofs.opened_run.OpenedRun.new.Goals as goal

pub open_row-seen-requires : goal.open_row-seen-requires
open_row-seen-requires c = (opens _ c.args.group.nodes c.args.group.config c.args.group.linked (ap (λ n. n + 1) c.from-words.ensures) c.requires, (λ xs. tt), c.alone.ensures.1)
