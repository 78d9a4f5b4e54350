use Rattle.std.proofs.Common.{rules, Bor, ◌≡◌, ◌≢◌}
use Rattle.std.proofs.lemmas.Iterator.{YieldsList-from_slice, first_from_find}
use borrow.Author.Tests.{tests}
use Rattle.streams.specs.declared.listener.Listener.{Listener}
use Rattle.server.proofs.ListenersFound.{found_among}
use Rattle.server.proofs.node_threads.node_context.NodeContexts.listener_of.Goals as goal

pub returns-clause-is : goal.returns-clause-is
returns-clause-is g c =
    found_among (λ (listener : Bor Listener). listener.now) c.args.number c.args.self.now.listeners.now c.find.result
    (first_from_find _ _ _ (λ (listener : Listener). listener.number ≡ c.args.number) (λ (listener : Listener). listener.number ≢ c.args.number)
    c.find.ensures.ran (YieldsList-from_slice c.args.self.now.listeners.now (search rules))
    (λ x q k. search (rules, tests)) (λ x q k. search (rules, tests)))
