use Rattle.streams.proofs.KeepsItsPort.{keeps_its_port}
use Rattle.streams.proofs.writer.writer.Writer.write_once.Goals as goal

pub returns-clause-port : goal.returns-clause-port
returns-clause-port g c = keeps_its_port _ _ _ c.write.result c.args.token.now.tap c.write.new.self.tap c.write.ensures.flows.bytes c.write.ensures.flows.handed
