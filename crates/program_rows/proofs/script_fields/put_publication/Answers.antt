use Rattle.std.proofs.Common.{◌++◌, ◌∷◌, [], append_assoc, codes, ap, ◌∙◌}
use Rattle.std.proofs.lemmas.Result.{on_ok_weaker}
use Rattle.rows.specs.Fields.{Text}
use Rattle.packet_base.specs.QoS.{qos_number}
use Rattle.program_rows.specs.AnswerFields.{flag_fields, number_fields}
use Rattle.program_rows.proofs.Appended.{put_three}
use Rattle.program_rows.proofs.script_fields.put_publication.Goals as goal

pub returns : goal.returns
returns c =
    let sent = c.args.sent.now in
    on_ok_weaker c.put_bytes.result
    (put_three c.args.out.now c.put_text.new.out c.put_marks.new.out c.put_bytes.new.out
    (codes "topic" ∷ c.as_str.result.now ∷ []) (codes "topic" ∷ sent.topic ∷ [])
    (number_fields (codes "qos") (qos_number sent.qos) ++ flag_fields (codes "retain") sent.retain)
    (codes "payload" ∷ c.as_slice.result.now ∷ []) (codes "payload" ∷ sent.payload ∷ [])
    (ap (λ (topic : Text). codes "topic" ∷ topic ∷ []) c.as_str.ensures.value)
    (ap (λ (payload : Text). codes "payload" ∷ payload ∷ []) c.as_slice.ensures)
    c.in_ok-put_text.ensures
    (c.in_ok-put_marks.ensures
    ∙ append_assoc c.put_text.new.out (number_fields (codes "qos") (qos_number sent.qos)) (flag_fields (codes "retain") sent.retain)))
    c.put_bytes.ensures
