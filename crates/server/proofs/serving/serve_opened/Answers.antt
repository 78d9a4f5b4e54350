use Rattle.std.proofs.lemmas.List.Sorted.{IsPermutation-trans}
use Rattle.server.proofs.serving.serve_opened.Goals as goal

pub returns-clause-served : goal.returns-clause-served
returns-clause-served g c = IsPermutation-trans _ _ _ c.in_ok-served.ensures.all c.in_ok-answer.ensures.served
