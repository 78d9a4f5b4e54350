use Rattle.embedded.proofs.nodes.use_new.Given as goal

abbrev pub ghosts-use_run : goal.ghosts-use_run
ghosts-use_run g a = record { book = a.run.book; nodes = a.run.group.nodes; config = a.run.group.config; linked = a.run.group.linked }
