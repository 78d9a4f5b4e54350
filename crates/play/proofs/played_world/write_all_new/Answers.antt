use Rattle.std.proofs.Common.{◌≡◌, ◌<◌, List, get_or, length, set, ap, ◌∙◌, arith}
use Rattle.std.proofs.lemmas.List.{get_or_default}
use Rattle.std.proofs.lemmas.List.Edits.{map_over_more}
use Rattle.play.specs.declared.played_world.Recipient.{Recipient}
use Rattle.play.specs.Inside.{written_at}
use Rattle.play.proofs.LinesAppended.{not_reached, one_more_client}
use Rattle.play.proofs.played_world.write_all_new.Goals as goal

pub loop-recipient-preserved : goal.loop-recipient-preserved
loop-recipient-preserved c =
    let w = c.args.world.now in
    let i = c.loop-recipient.recipient-index in
    let first = c.args.recipients.now in
    let now = c.loop-recipient.recipients in
    let item : Recipient = get_or now i c.recipient-item.result in
    let below : i < length now = omega arith in
    let within : i < length first = omega arith in
    let stands : item ≡ get_or now i item = get_or_default now i c.recipient-item.result item below in
    record {
      recipients = ap (λ (x : Recipient). set now i x) c.in_ok-write_new.ensures.recipient
          ∙ map_over_more (written_at w) first now i item within c.loop-recipient.invariant.recipients stands;
      lines = one_more_client w first i item _ _ _ within
          (stands ∙ ap (λ (l : List Recipient). get_or l i item) c.loop-recipient.invariant.recipients ∙ not_reached w first i item)
          c.loop-recipient.invariant.lines c.in_ok-write_new.ensures.lines;
    }
