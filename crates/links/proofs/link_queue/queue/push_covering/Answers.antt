use Rattle.std.proofs.Common.{◌≡◌, true, length, arith, rules}
use Rattle.links.specs.link_queue.Queues.{covers_newest}
use Rattle.links.proofs.of_link_queue.Kept.{replaced_at}
use Rattle.links.proofs.link_queue.queue.push_covering.Goals as goal

pub returns-then-is_newest_covered-clause-queued : goal.returns-then-is_newest_covered-clause-queued
returns-then-is_newest_covered-clause-queued g c =
    let e : covers_newest c.args.added.message c.deref.result.now ≡ true = search rules in
    let n : c.len-newest.result ≡ length c.args.waiting.now.items = omega arith in
    λ _. replaced_at c.args.waiting.now.items c.deref.result.now c.args.added c.len-newest.result c.deref.ensures.value n e
