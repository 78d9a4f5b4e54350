use Rattle.std.proofs.Common.{◌++◌, ◌∷◌, List, ℕ, [], ap₂, subst, ◌∙◌}
use Rattle.rows.specs.Fields.{Text}
use Rattle.packet.specs.Spelling.{AppendsSpelling}
use Rattle.packet_rows.proofs.PacketAnswers.{spelled_small}
use Rattle.packet_rows.proofs.packet_steps.spelled.Goals as goal

pub returns-in-Ok : goal.returns-in-Ok
returns-in-Ok c =
    let P : List ℕ → Type 0 = λ old. AppendsSpelling old c.encode.new.out.items c.args.packet.now in
    c.in_ok-push-in-Ok.ensures
    ∙ ap₂ (λ (xs : List Text) (field : Text). xs ++ field ∷ []) c.new-answer.ensures c.new.ensures
    ∙ spelled_small c.spelling_spells.ensures c.args.packet.now c.encode.new.out.items c.in-Ok.ensures.fits
    (subst P c.new-out.ensures.items c.in-Ok.ensures.ok)
