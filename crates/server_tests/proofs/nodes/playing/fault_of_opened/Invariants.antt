use Rattle.std.proofs.Common.{cond, eqb}
use Rattle.server_tests.proofs.nodes.playing.fault_of_opened.Given as goal

abbrev pub ghosts-with_lanes-J-Naming : goal.ghosts-with_lanes-J-Naming
ghosts-with_lanes-J-Naming g a = record {
  inbox_of = λ n. cond (eqb n 1) a.first.inbox a.second.inbox;
}

abbrev pub ghosts-with_lanes-J-NodeNaming : goal.ghosts-with_lanes-J-NodeNaming
ghosts-with_lanes-J-NodeNaming g a = record {
  first_of = λ n. cond (eqb n 1) a.first.node.node a.second.node.node;
}
