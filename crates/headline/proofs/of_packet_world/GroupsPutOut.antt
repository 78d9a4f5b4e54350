-- What a node of a group gives while it leads a ballot may be sent on its open ends.
use Rattle.std.proofs.Common.{◌≡◌, ℕ, List, [], ◌∷◌, ◌++◌, set, ap, sym, ◌∙◌, subst, arith}
use Rattle.agreement.specs.whole_logs.Application.{outputs_between}
use Rattle.agreement.specs.cut_logs.NodeOutputs.{given_of}
use Rattle.agreement.specs.World.{outputs}
use Rattle.agreement.proofs.of_cut_logs.Orders.{answers_while_it_leads}
use Rattle.broker_spec.specs.declared.command.Output.{Output}
use Rattle.headline.specs.packet_world.World.{with_client}
use Rattle.headline.specs.packet_world.Steps.{Reached}
use Rattle.broker_base.specs.form.BrokerRules.{broker_rules}
use Rattle.headline.specs.packet_world.PutOut.{GroupsPutOut, end_given}
use Rattle.headline.proofs.of_packet_world.PutOut.{given_is_put_out}

same_rest : {X : Type 0} (xs ys zs : List X) → xs ++ ys ≡ xs ++ zs → ys ≡ zs
same_rest [] ys zs e = e
same_rest (x ∷ xs) ys zs e = same_rest xs ys zs (tail e)
  where
    tail : x ∷ (xs ++ ys) ≡ x ∷ (xs ++ zs) → xs ++ ys ≡ xs ++ zs
    tail e = cc

pub groups_put_out : GroupsPutOut
groups_put_out config a b moments later came more n ballot leads old new stood stands given is cs w reached agreed i j c κ e pipe is_open seen =
    let z = answers_while_it_leads broker_rules config a b moments later w.agreed came more agreed n ballot leads old new stood stands in
    let low = z.0 in
    let same : outputs (outputs_between broker_rules w.agreed e.seen new.committed) ≡ given =
    ap (λ k. outputs (outputs_between broker_rules w.agreed k new.committed)) seen
    ∙ same_rest (given_of n came) (outputs (outputs_between broker_rules w.agreed old.committed new.committed)) given (sym z.2 ∙ is) in
    subst (λ (l : List (ℕ × Output)). Reached cs (with_client i (record c { ends = set c.ends j (end_given κ.name new.committed l e) }) w)) same
    (given_is_put_out cs w i j c κ e new.committed reached pipe is_open (omega (arith, low, seen)) z.1)
