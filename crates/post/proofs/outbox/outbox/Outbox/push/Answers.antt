use Rattle.std.specs.Prelude.{is_ok}
use Rattle.std.proofs.Common.{rules, ◌≡◌, Bool, if◌then◌else◌, List, [], ◌∷◌, ◌++◌, ap, sym, ◌∙◌}
use Rattle.world_base.specs.declared.node_core.item.Item.{Item}
use Rattle.post.specs.outbox.Replacement.{still_waiting}
use Rattle.post.proofs.of_outbox.OutboxKept.{queued_more}
use Rattle.post.proofs.outbox.outbox.Outbox.push.Goals as goal

pub invariant_of-self : goal.invariant_of-self
invariant_of-self g c =
    queued_more c.self.inside.seen c.args.known.now c.learn.new.self c.self.inside.number c.args.item (is_ok c.push.result) c.self.inside.items.items _
    c.learn.ensures.this c.learn.ensures.that (search rules) (search rules) c.self.invariant c.push.ensures.items

pub returns-clause-lost : goal.returns-clause-lost
returns-clause-lost g c = λ none.
    let kept : c.push.new.self.items ≡ c.self.inside.items.items =
    c.push.ensures.items ∙ ap (λ (b : Bool). if b then c.self.inside.items.items ++ c.args.item ∷ [] else c.self.inside.items.items) (sym c.is_ok.ensures.value ∙ none) in
    let seen : record { number = c.self.inside.number; items = c.push.new.self.items } ≡ record { number = c.self.inside.number; items = c.self.inside.items.items } =
    ap (λ (items : List Item). record { number = c.self.inside.number; items = items }) kept in
    seen ∙ (c.self.view_is ∙ (c.drop_replaced.ensures ∙ ap (λ (item : Item). record c.args.self.now { items = still_waiting item c.args.self.now.items }) c.item-2.ensures))
