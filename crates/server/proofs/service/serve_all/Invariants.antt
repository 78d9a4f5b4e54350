use Rattle.server.proofs.service.serve_all.Given as goal

abbrev pub ghosts-serve_run : goal.ghosts-serve_run
ghosts-serve_run g a = record { book = a.opened.book; nodes = a.opened.group.nodes; config = a.opened.group.config; linked = a.opened.group.linked }
