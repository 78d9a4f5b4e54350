use Rattle.std.proofs.Common.{◌∷◌, [], codes, List, ap, refl}
use Rattle.std.proofs.lemmas.Result.{on_ok_weaker}
use Rattle.std.specs.Borrow.{Bor}
use Rattle.rows.specs.Fields.{Text, texts}
use Rattle.program_rows.specs.JobFields.{message_fields, tries_fields}
use Rattle.program_rows.proofs.Appended.{put_three}
use Rattle.program_rows.proofs.job_fields.put_publish.Goals as goal

pub returns : goal.returns
returns c =
    let job = c.args.job.now in
    on_ok_weaker c.put_tries.result
    (put_three c.args.out.now c.text.new.self c.put_message.new.out c.put_tries.new.out (codes "pub" ∷ []) (codes "pub" ∷ [])
    (message_fields job) (tries_fields job.tries (texts c.as_slice.result.now)) (tries_fields job.tries (texts job.addresses.items))
    refl (ap (λ (addresses : List (Bor Text)). tries_fields job.tries (texts addresses)) c.as_slice.ensures.value)
    c.in_ok-text.ensures c.in_ok-put_message.ensures)
    c.put_tries.ensures
