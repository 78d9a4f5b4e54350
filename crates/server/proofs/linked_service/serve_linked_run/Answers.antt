use Rattle.std.proofs.Common.{map, ap, ◌∙◌}
use Rattle.server.specs.Inside.{numbers_of}
use Rattle.server.proofs.LinkedRuns.{linked_run}
use Rattle.server.proofs.linked_service.serve_linked_run.Goals as goal

pub returns-clause-run : goal.returns-clause-run
returns-clause-run g c =
    linked_run g.H.RunNaming.nodes c.args.listener.now.number g.H.RunNaming.config
    (map (λ listener. listener.number) c.of_links-contexts.result.listeners.now) (numbers_of _) c.in_ok-run.run'
    c.requires.all c.requires.alone
    (ap (map (λ listener. listener.number)) (c.of_links-contexts.ensures.listeners ∙ c.from_ref.ensures.value))
    c.in_ok-run.ensures.run c.in_ok-run.ensures.report c.in_ok-answer.ensures.served c.in_ok-run.ensures.among
