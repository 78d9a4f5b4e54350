use Rattle.std.proofs.Common.{rules, ◌≡◌, [], ◌∷◌, ◌++◌, ap}
use Rattle.post.specs.Numbers.{PeerView}
use Rattle.post.proofs.NoneAmong.{peers_more}
use Rattle.post.proofs.cluster.peers_of.Goals as goal

pub loop-number-preserved : goal.loop-number-preserved
loop-number-preserved g c =
    let pushed : c.push.new.self.items ≡ c.loop-number.nodes.items ++ c.new.result ∷ [] = search (rules, c.in_ok-push.ensures.items) in
    peers_more c.args.numbers.now c.loop-number.number-index 0 c.loop-number.nodes.items c.push.new.self.items c.new.result
    c.loop-number-test.true c.loop-number.invariant pushed (ap (λ (peer : PeerView). peer.number) c.new.ensures)
