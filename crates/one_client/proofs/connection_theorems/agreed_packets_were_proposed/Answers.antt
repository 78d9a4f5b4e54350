use Rattle.one_client.proofs.AgreedCommands.{agreed_packets_were_proposed}
use Rattle.one_client.proofs.connection_theorems.agreed_packets_were_proposed.Goals as goal

pub returns : goal.returns
returns c = agreed_packets_were_proposed
