use Rattle.world_nodes.specs.Steps.{NewBallotOrLost}
use Rattle.world_nodes.proofs.Acts.{where_ok}
use Rattle.world_nodes.proofs.MasterActs.{gives_where}
use Rattle.world_nodes.proofs.nodes.Nodes.assign.Goals as goal

pub returns-else-is_err-clause-lossy : goal.returns-else-is_err-clause-lossy
returns-else-is_err-clause-lossy c =
    let value = c.is_err.ensures.value in
    let false_so = c.if-is_err.false in
    where_ok c.give.result (NewBallotOrLost c.args.config.now c.args.self.now c.give.new.self) (cc) c.give.ensures.lossy

pub returns-else-is_err-clause-exact : goal.returns-else-is_err-clause-exact
returns-else-is_err-clause-exact c =
    let value = c.is_err.ensures.value in
    let false_so = c.if-is_err.false in
    gives_where c.args.config.now c.args.self.now c.give.new.self (where_ok c.give.result (NewBallotOrLost c.args.config.now c.args.self.now c.give.new.self) (cc) c.give.ensures.lossy)
