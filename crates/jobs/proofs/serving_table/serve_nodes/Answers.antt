use Rattle.jobs.proofs.JobsEnd.{says_bye}
use Rattle.jobs.proofs.serving_table.serve_nodes.Goals as goal

pub returns : goal.returns
returns g c = says_bye c.write.result g.O.Write.contents _ c.write.new.output c.write.ensures.whole
