-- The nodes on the way to the child stay, and so do those on the way to its parent.
use Rattle.std.proofs.Common.{rules, ◌≡◌, Some, [], ◌∷◌, ◌++◌, ◌∙◌, sym, ap}
use Rattle.topics.specs.Text.{Levels}
use Rattle.std.proofs.lemmas.List.{append_assoc}
use Rattle.subs.specs.Ways.{led}
use Rattle.subs.specs.Inside.{shape_of}
use Rattle.subs.specs.Shown.{root_of}
use Rattle.subs.proofs.TextCut.{fewer}
use Rattle.subs.proofs.Ways.{led_more}
use Rattle.subs.proofs.nodes.Nodes.+prune.Goals as goal

pub prune-requires : goal.prune-requires
prune-requires t c =
    let less = fewer c.args.text c.in-Some.text c.split_level.result.0.now c.split_level.result.1 (record { some = c.in-Some.is; cut = c.split_level.ensures }) in (
      search (rules, less),
      (
        c.requires.sound,
        (
          c.requires.there.0 ++ c.split_level.result.0.now ∷ [],
          led_more (shape_of c.args.self.now.slab).child (root_of c.args.self.now) c.requires.there.0 c.split_level.result.0.now c.args.at.number c.requires.there.1 ∙ sym c.in-Some-child.ensures,
        ),
      ),
    )

pub drop_empty-requires-clause-there : goal.drop_empty-requires-clause-there
drop_empty-requires-clause-there t c =
    let way = c.requires.there in (
      way.0,
      c.prune.ensures.ways way.0 (c.split_level.result.0.now ∷ []) c.args.at.number
          (led_more (shape_of c.args.self.now.slab).child (root_of c.args.self.now) way.0 c.split_level.result.0.now c.args.at.number way.1 ∙ sym c.in-Some-child.ensures)
          way.1,
    )

pub returns-clause-ways : goal.returns-clause-ways
returns-clause-ways t c way after k there here =
    let level = c.split_level.result.0.now in
    let child = (shape_of c.args.self.now.slab).child in
    let root = root_of c.args.self.now in
    let on : (p : Levels) → led child root p ≡ Some c.args.at.number → led child root (p ++ level ∷ []) ≡ Some c.in-Some-child.child.number =
    λ p h. led_more child root p level c.args.at.number h ∙ sym c.in-Some-child.ensures in
    c.drop_empty.ensures.ways way after k
    (c.prune.ensures.ways (way ++ after) (level ∷ []) c.args.at.number (on (way ++ after) there) there)
    (c.prune.ensures.ways way (after ++ level ∷ []) k (ap (led child root) (sym (append_assoc way after (level ∷ []))) ∙ on (way ++ after) there) here)
