-- Plain.antt: the program is a command of which the words of clap give the matches and the faults.
use Rattle.std.proofs.Common.{◌≡◌, true, refl}
use Rattle.clap.specs.Words.{is_simple}
use Rattle.clap.specs.Faults.{is_simple_and_free}
use Rattle.clap.proofs.OnLiterals.{clap_on_literals}
use Rattle.command_line.specs.Program.{program}

pub is_plain : is_simple program ≡ true
unfolding clap_on_literals
is_plain = refl

pub is_free : is_simple_and_free program ≡ true
unfolding clap_on_literals
is_free = refl
