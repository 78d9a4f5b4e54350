use Rattle.cluster.proofs.of_desk.Answered.{active_rises, each_number, for_good, no_ballot_twice}
use Rattle.cluster.proofs.desk.theorems.answers_stand_over_restarts.Goals as goal

pub returns : goal.returns
returns c = record { numbers = each_number; ballots = no_ballot_twice; active = active_rises; superseded = for_good }
