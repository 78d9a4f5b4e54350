-- If one is left for which there is no memory, some client was found.
use Rattle.std.proofs.Common.{rules, ◌≡◌, ◌∷◌, ◌++◌, ◌∙◌, ap, sym, List, ℕ}
use Rattle.packet_base.specs.declared.qos.QoS.{QoS}
use Rattle.subs.proofs.ContentOfTree.{anyhow}
use Rattle.subs.proofs.Raising.{left_gives}
use Rattle.subs.proofs.tree_index.append_rows.Goals as goal

pub returns-in_err-clone-clause-some : goal.returns-in_err-clone-clause-some
returns-in_err-clone-clause-some c =
    let cut : c.loop-client.client-iterator ≡ (c.in-Some.client.now, c.in-Some.qos.now) ∷ c.next.new.self = search rules in
    anyhow c.from_residual.result
    (left_gives c.args.found.now.entries c.loop-client.rows.items c.args.rows.now.items c.next.new.self (c.in-Some.client.now, c.in-Some.qos.now)
    (ap (λ (es : List (List ℕ × QoS)). c.loop-client.rows.items ++ es) (sym cut) ∙ c.loop-client.invariant.whole) c.loop-client.invariant.front)

pub returns-in_err-push-clause-some : goal.returns-in_err-push-clause-some
returns-in_err-push-clause-some c =
    let cut : c.loop-client.client-iterator ≡ (c.in-Some.client.now, c.in-Some.qos.now) ∷ c.next.new.self = search rules in
    anyhow c.from_residual-in_err-push.result
    (left_gives c.args.found.now.entries c.loop-client.rows.items c.args.rows.now.items c.next.new.self (c.in-Some.client.now, c.in-Some.qos.now)
    (ap (λ (es : List (List ℕ × QoS)). c.loop-client.rows.items ++ es) (sym cut) ∙ c.loop-client.invariant.whole) c.loop-client.invariant.front)
