use Rattle.server.specs.Opening.{first_in, inbox_among}
use Rattle.server.proofs.serving.serve_opened.Given as goal

abbrev pub ghosts-serve_named-J-Naming : goal.ghosts-serve_named-J-Naming
ghosts-serve_named-J-Naming g a = record { inbox_of = inbox_among a.opened.items }

abbrev pub ghosts-serve_named-J-NodeNaming : goal.ghosts-serve_named-J-NodeNaming
ghosts-serve_named-J-NodeNaming g a = record { first_of = first_in g.H.RunNaming.config }
