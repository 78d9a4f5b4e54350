use Rattle.std.proofs.Common.{ℕ, List, Result}
use Rattle.std.specs.Str.Parse.{ExplainsUnsignedError, HasUnsignedDigitsIfOk, ParsesUnsigned}
use Rattle.clap.specs.Words.{found_of}
use Rattle.clap.proofs.WalkLemmas.{one_text-rows}
use Rattle.command_line.proofs.ValuesRead.{no_number_read, number_read}
use Rattle.cluster.proofs.table.job_matches.number.Goals as goal

pub returns-in-Some-clause-value : goal.returns-in-Some-clause-value
returns-in-Some-clause-value c =
    number_read (λ bs r. ParsesUnsigned 32 10 bs r × ExplainsUnsignedError 10 bs r × HasUnsignedDigitsIfOk bs r)
    _ _ _ _ _ (λ t x given. given.0) (one_text-rows (found_of c.args.found.now) c.args.id.now)
    c.get_one.ensures.none c.get_one.ensures.value c.in-Some.is

pub returns-in-None-clause-missing : goal.returns-in-None-clause-missing
returns-in-None-clause-missing c _ n has =
    no_number_read (λ bs r. ParsesUnsigned 32 10 bs r × ExplainsUnsignedError 10 bs r × HasUnsignedDigitsIfOk bs r)
    _ _ _ _ n (λ t x given. given.0) (one_text-rows (found_of c.args.found.now) c.args.id.now)
    c.get_one.ensures.value c.in-None.is has
