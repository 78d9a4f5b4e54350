use Rattle.std.proofs.Common.{◌≡◌, List, ℕ, ◌++◌, rules, subst, sym}
use Rattle.client_base.specs.State.{resent}
use Rattle.client.specs.Core.{AppendsAll}
use Rattle.client.proofs.Spelled.{appends_after}
use Rattle.client.proofs.client_core.ClientCore.resend.Goals as goal

pub returns-clause-bytes : goal.returns-clause-bytes
returns-clause-bytes c =
    let after : c.extend_from_slice.new.self.items ≡ c.args.self.now.out ++ c.in_ok-bytes.bytes.items = search rules in
    subst (λ (new : List ℕ). AppendsAll c.args.self.now.out new (resent c.args.self.now.state)) (sym after)
    (appends_after c.args.self.now.out c.in_ok-bytes.bytes.items (resent c.args.self.now.state) c.in_ok-bytes.ensures.ok)
