-- Plain.antt: the program is a command of which the words of clap give the matches and the faults.
use Rattle.std.proofs.Common.{◌≡◌, true, Result, Ok, Err, OnOk, refl}
use Rattle.clap.specs.Words.{is_simple}
use Rattle.clap.specs.Faults.{is_simple_and_free}
use Rattle.clap.proofs.OnLiterals.{clap_on_literals}
use Rattle.cluster.specs.table.Program.{program}

pub is_plain : is_simple program ≡ true
unfolding clap_on_literals
is_plain = refl

pub is_free : is_simple_and_free program ≡ true
unfolding clap_on_literals
is_free = refl

-- what holds anyhow holds for a success
pub on_ok : {T E P : Type 0} (r : Result T E) → P → OnOk r P
on_ok (Ok x) p = p
on_ok (Err e) p = tt
