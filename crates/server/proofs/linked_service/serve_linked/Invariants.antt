use Rattle.server.proofs.linked_service.serve_linked.Given as goal

abbrev pub ghosts-serve_linked_run : goal.ghosts-serve_linked_run
ghosts-serve_linked_run g a = record { book = a.opened.book; nodes = a.opened.group.nodes; config = a.opened.group.config; linked = a.opened.group.linked }
