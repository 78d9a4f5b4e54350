use Rattle.std.proofs.Common.{List, map, sym, subst}
use Rattle.std.specs.List.Sorted.{IsPermutation}
use Rattle.ballot_base.specs.declared.config.Config.{Config}
use Rattle.streams.specs.declared.listener.Listener.{Listener}
use Rattle.server.specs.Ends.{IsServedRun}
use Rattle.server.specs.Inside.{numbers_of}
use Rattle.server.proofs.NodesEnded.{served_same}
use Rattle.server.proofs.service.serve_run.Goals as goal

pub returns-clause-run : goal.returns-clause-run
returns-clause-run g c =
    let served = numbers_of c.in_ok-answer.ended.served.items in
    subst (λ (config : Config). IsServedRun config (map (λ listener. listener.number) c.args.listeners.now) c.in_ok-run.run') (sym c.requires.same)
    (served_same g.H.RunNaming.config (map (λ listener. listener.number) c.args.listeners.now) served c.in_ok-run.run'
    (subst (λ (listeners : List Listener). IsPermutation (map (λ listener. listener.number) listeners) served) c.of_cluster-contexts.ensures.listeners c.in_ok-answer.ensures.served)
    c.in_ok-run.ensures.run)
