use Rattle.std.proofs.Common.{ℕ, ap, sym, subst}
use Rattle.lists.specs.Lists.{Each}
use Rattle.post.specs.outbox.Queued.{IsQueued}
use Rattle.post.specs.outbox.WaitingItems.{OutboxView}
use Rattle.post.proofs.of_outbox.OutboxKept.{waits_queued}
use Rattle.post.proofs.outbox.outbox.Outbox.take.Goals as goal

pub returns-clause-queued : goal.returns-clause-queued
returns-clause-queued g c =
    subst (λ items. Each (IsQueued g.H.RunNaming.linked g.H.RunNaming.nodes g.H.RunNaming.config c.args.self.now.number) items.items) (sym c.replace.ensures.value)
    (subst (λ (n : ℕ). Each (IsQueued g.H.RunNaming.linked g.H.RunNaming.nodes g.H.RunNaming.config n) c.self.inside.items.items)
    (ap (λ (o : OutboxView). o.number) c.self.view_is)
    (waits_queued g.H.RunNaming.linked g.H.RunNaming.nodes g.H.RunNaming.config c.self.inside.seen c.self.inside.number c.self.inside.items.items c.is_run.ensures c.self.invariant))
