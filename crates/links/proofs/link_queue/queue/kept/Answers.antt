use Rattle.std.proofs.Common.{◌≡◌, true, rules}
use Rattle.links.specs.link_queue.Queues.{covers_newest}
use Rattle.links.proofs.of_link_queue.Kept.{size_below, kept_bytes}
use Rattle.links.proofs.link_queue.queue.kept.Goals as goal

pub overflow_sub-result-then-is_newest_covered : goal.overflow_sub-result-then-is_newest_covered
overflow_sub-result-then-is_newest_covered g c =
    let e : covers_newest c.args.message.now c.args.waiting.now ≡ true = search rules in
    size_below c.args.message.now c.args.waiting.now c.index-waiting-waiting.result c.args.bytes e c.index-waiting-waiting.is c.requires

pub returns-then-is_newest_covered-clause-bytes : goal.returns-then-is_newest_covered-clause-bytes
returns-then-is_newest_covered-clause-bytes g c =
    let e : covers_newest c.args.message.now c.args.waiting.now ≡ true = search rules in
    kept_bytes c.args.message.now c.args.waiting.now c.index-waiting-waiting.result c.args.bytes e c.index-waiting-waiting.is c.requires
