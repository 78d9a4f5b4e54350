use Rattle.embedded.proofs.nodes.use_node_of.Given as goal

abbrev pub ghosts-use_named-J-Naming : goal.ghosts-use_named-J-Naming
ghosts-use_named-J-Naming g a = record { inbox_of = λ _. a.inbox }

abbrev pub ghosts-use_named-J-NodeNaming : goal.ghosts-use_named-J-NodeNaming
ghosts-use_named-J-NodeNaming g a = record { first_of = λ _. a.node.node }
