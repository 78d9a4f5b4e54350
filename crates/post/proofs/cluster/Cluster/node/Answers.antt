use Rattle.std.proofs.Common.{rules, Bor, ◌≡◌, ◌≢◌, ℕ, List, false, is_some, subst}
use Rattle.std.proofs.lemmas.Iterator.{YieldsList-from_slice, first_from_find}
use borrow.Author.Tests.{tests}
use Rattle.lists.specs.Lists.{has_id}
use Rattle.post.specs.Numbers.{PeerView}
use Rattle.post.proofs.NoneAmong.{found_among, none_among, of_none}
use Rattle.post.proofs.cluster.Cluster.node.Goals as goal

pub returns-clause-is : goal.returns-clause-is
returns-clause-is g c =
    subst (λ (numbers : List ℕ). is_some c.find.result ≡ has_id c.args.number numbers) c.self.view_is
    (found_among (λ (node : Bor PeerView). node.now) c.args.number c.self.inside.nodes.items c.find.result
    (first_from_find _ _ _ (λ (peer : PeerView). peer.number ≡ c.args.number) (λ (peer : PeerView). peer.number ≢ c.args.number)
    c.find.ensures.ran (YieldsList-from_slice c.self.inside.nodes.items (search rules))
    (λ x q k. search (rules, tests)) (λ x q k. search (rules, tests))))

pub returns-clause-none : goal.returns-clause-none
returns-clause-none g c = λ none.
    subst (λ (numbers : List ℕ). has_id c.args.number numbers ≡ false) c.self.view_is
    (none_among c.args.number c.self.inside.nodes.items
    (of_none _ _ _
    (first_from_find _ _ _ (λ (peer : PeerView). peer.number ≡ c.args.number) (λ (peer : PeerView). peer.number ≢ c.args.number)
    c.find.ensures.ran (YieldsList-from_slice c.self.inside.nodes.items (search rules))
    (λ x q k. search (rules, tests)) (λ x q k. search (rules, tests))) none))
