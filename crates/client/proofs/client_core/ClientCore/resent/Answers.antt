use Rattle.std.proofs.Common.{rules}
use Rattle.client.proofs.Spelled.{all_resent}
use Rattle.client.proofs.client_core.ClientCore.resent.Goals as goal

pub returns-clause-ok : goal.returns-clause-ok
returns-clause-ok c =
    all_resent c.args.self.now.state c.new-bytes.result.items c.write_pubrels.new.out.items c.write_publishes.new.out.items
    c.write_publishes-2.new.out.items c.deref.result.now c.deref-2.result.now c.deref-3.result.now c.new-bytes.ensures.items
    (search rules) (search rules) (search rules)
    c.in_ok-write_pubrels.ensures.ok c.in_ok-write_publishes.ensures.ok c.in_ok-write_publishes-2.ensures.ok
