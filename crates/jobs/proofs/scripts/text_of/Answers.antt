use Rattle.std.proofs.Common.{◌≡◌, ℕ, IfSome, List}
use Rattle.jobs.proofs.JobsEnd.{of_file, of_input}
use Rattle.jobs.proofs.scripts.text_of.Goals as goal

pub returns-in-Some : goal.returns-in-Some
returns-in-Some g c =
    of_file c.bytes_of.result c.args.job.now.script c.in-Some.file
    (λ text. IfSome (g.I.Read.remaining c.args.input.now) (λ (rest : List ℕ). text.items ≡ rest)) c.in-Some.is

pub returns-in-None : goal.returns-in-None
returns-in-None g c =
    of_input c.rest_of.result c.args.job.now.script
    (λ text. IfSome (g.I.Read.remaining c.args.input.now) (λ (rest : List ℕ). text.items ≡ rest)) c.rest_of.ensures
