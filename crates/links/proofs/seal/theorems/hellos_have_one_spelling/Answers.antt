use Rattle.links.proofs.of_seal.HelloRead.{hello_read, hello_written, hello_accepted}
use Rattle.links.proofs.seal.theorems.hellos_have_one_spelling.Goals as goal

pub returns : goal.returns
returns c = record { read = hello_read; written = hello_written; accepted = hello_accepted }
