use Rattle.std.proofs.Common.{◌∷◌, ◌++◌, [], ◌∙◌, ap, List}
use Rattle.packet_base.specs.Spelling.{bit}
use Rattle.links.specs.message_form.Numbers.{wide_number}
use Rattle.links.proofs.of_message_form.Appended.{five}
use Rattle.links.specs.Parcels.{role_number}
use Rattle.links.proofs.parcel_writers.write_report.Goals as goal

pub returns-clause-ok : goal.returns-clause-ok
returns-clause-ok c =
    let status = c.args.status in
    five c.args.out.now.items (129 ∷ []) (wide_number c.args.status.ballot) (wide_number c.args.status.held) (wide_number c.args.status.committed)
    (role_number c.args.status.role ∷ bit c.args.status.stopped ∷ [])
    c.put.new.out.items c.put-2.new.out.items c.put-3.new.out.items c.put-4.new.out.items c.put-5.new.out.items
    (c.put.ensures.items ∙ ap (λ (l : List _). l ++ 129 ∷ []) c.in_ok-reserve.ensures.items)
    (c.put-2.ensures.items ∙ ap (λ (l : List _). c.put.new.out.items ++ l) c.to_be_bytes.ensures)
    (c.put-3.ensures.items ∙ ap (λ (l : List _). c.put-2.new.out.items ++ l) c.to_be_bytes-2.ensures)
    (c.put-4.ensures.items ∙ ap (λ (l : List _). c.put-3.new.out.items ++ l) c.to_be_bytes-3.ensures)
    (c.put-5.ensures.items ∙ ap (λ (l : List _). c.put-4.new.out.items ++ l) c.end_of.ensures)
