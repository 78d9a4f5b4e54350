use Rattle.cutter.proofs.OneWay.{stream-packets}
use Rattle.cutter.proofs.theorems.packets_of_the_stream.Goals as goal

pub returns : goal.returns
returns c = stream-packets c.no_spelling_begins_another.ensures
