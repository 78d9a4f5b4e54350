-- The levels so far and one more lead to the child, from which the call continues.
use Rattle.std.proofs.Common.{rules, ◌≡◌, [], ◌∷◌, ◌++◌, ◌∙◌, sym, ap, false}
use Rattle.std.proofs.lemmas.List.{append_assoc}
use Rattle.topics.specs.Text.{Levels, levels_of}
use Rattle.topics.specs.Matching.{is_all}
use Rattle.subs_base.proofs.ContentAfter.{on_err}
use Rattle.subs.specs.Inside.{Asked, shape_of}
use Rattle.subs.specs.Shown.{root_of, rows_at_levels}
use Rattle.subs.proofs.TextCut.{path, fewer}
use Rattle.subs.proofs.ChildIsMade.{none_after}
use Rattle.subs.proofs.ContentOfTree.{anyhow}
use Rattle.subs.proofs.nodes.Nodes.+make_slot.Goals as goal

pub returns-in_err-child-clause-none : goal.returns-in_err-child-clause-none
returns-in_err-child-clause-none t c =
    let cut = path c.args.text c.in-Some.text c.split_level.result.0.now c.split_level.result.1 (record { some = c.in-Some.is; cut = c.split_level.ensures }) in
    let other : is_all c.split_level.result.0.now (levels_of c.split_level.result.1) ≡ false = sym c.is_all.ensures ∙ c.if-is_all.false in
    anyhow c.from_residual.result
    (λ way client leads.
    ap (λ (ls : Levels). rows_at_levels c.args.self.now (way ++ ls) client) cut
    ∙ none_after (shape_of c.args.self.now.slab) (root_of c.args.self.now) way c.args.at.number c.split_level.result.0.now (levels_of c.split_level.result.1) client
    leads other c.in_err-child.ensures.none)

pub make_slot-requires : goal.make_slot-requires
make_slot-requires t c =
    let less = fewer c.args.text c.in-Some.text c.split_level.result.0.now c.split_level.result.1 (record { some = c.in-Some.is; cut = c.split_level.ensures }) in (
      search (rules, less),
      (
        c.in_ok-child.ensures.sound,
        (c.requires.there.0 ++ c.split_level.result.0.now ∷ [], c.in_ok-child.ensures.leads c.requires.there.0 c.requires.there.1),
      ),
    )

pub returns-clause-none : goal.returns-clause-none
returns-clause-none t c =
    let cut = path c.args.text c.in-Some.text c.split_level.result.0.now c.split_level.result.1 (record { some = c.in-Some.is; cut = c.split_level.ensures }) in
    on_err c.make_slot.result
    (λ none way client leads.
    ap (λ (ls : Levels). rows_at_levels c.args.self.now (way ++ ls) client) cut
    ∙ ap (λ (p : Levels). rows_at_levels c.args.self.now p client) (sym (append_assoc way (c.split_level.result.0.now ∷ []) (levels_of c.split_level.result.1)))
    ∙ ap (λ (a : Asked). a ((way ++ c.split_level.result.0.now ∷ []) ++ levels_of c.split_level.result.1) client) (sym c.in_ok-child.ensures.rows)
    ∙ none (way ++ c.split_level.result.0.now ∷ []) client (c.in_ok-child.ensures.leads way leads))
    c.make_slot.ensures.none
