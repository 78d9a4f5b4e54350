use Rattle.agreement.proofs.of_cut_logs.MomentsAgree.{nodes_agree}
use Rattle.agreement.proofs.of_cut_logs.Orders.{keeps_the_order}
use Rattle.headline.proofs.of_packet_world.AgreedInOrder.{agreed_in_order}
use Rattle.headline.proofs.packet_world.theorems.agreed_keeps_the_order.Goals as goal

pub returns : goal.returns
returns g c =
    let rules = g.M.Machine.rules in
    agreed_in_order rules (keeps_the_order rules) (nodes_agree rules)
