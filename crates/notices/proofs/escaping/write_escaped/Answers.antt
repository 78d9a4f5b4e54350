use Rattle.std.proofs.Common.{rules, ◌∙◌, ap, sym, encode_utf8_all}
use Rattle.std.proofs.Output.{has_written_append, has_written_of_eq}
use Rattle.std.proofs.lemmas.List.{map-id}
use Rattle.std.proofs.lemmas.Iterator.{YieldsList-from_chars}
use Rattle.std.proofs.lemmas.Iterator.Consumers.{YieldsList-end}
use Rattle.std.specs.List.{flat_map}
use Rattle.notices.specs.Escaping.{escaped_char}
use Rattle.notices.proofs.EscapedTexts.{one_more_char}
use Rattle.notices.proofs.escaping.write_escaped.Goals as goal

pub loop-c-preserved : goal.loop-c-preserved
loop-c-preserved g c = λ p.
    has_written_of_eq _ _ _ _ _ (one_more_char c.loop-c.yielded c.in-Some.c)
    (has_written_append _ _ _ _ _ _ (c.loop-c.invariant p) (search rules))

pub returns : goal.returns
returns g c = λ p ok.
    let end = YieldsList-end (YieldsList-from_chars c.args.text.now c.utf8.text cc) c.loop-c.yielded _ c.loop-c.yielded_by _ _ c.in-None.is c.next.ensures.steps in
    has_written_of_eq _ _ _ _ _
    (ap (λ cs. encode_utf8_all (flat_map escaped_char cs)) (sym (map-id c.loop-c.yielded) ∙ end.0))
    (c.loop-c.invariant p)
