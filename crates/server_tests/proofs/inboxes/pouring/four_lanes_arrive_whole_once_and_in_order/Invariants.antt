use Rattle.server_tests.proofs.inboxes.pouring.four_lanes_arrive_whole_once_and_in_order.Given as goal

abbrev pub ghosts-pour_four : goal.ghosts-pour_four
ghosts-pour_four g a = record { inbox_of = λ _. a.inbox }
