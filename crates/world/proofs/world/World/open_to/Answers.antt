use Rattle.std.proofs.Common.{◌≡◌, inl, inr, ◌<◌, ◌^◌, ◌-◌, ℕ, ap, ◌∙◌, subst, sym}
use Rattle.ballot_base.specs.Losses.{one_more}
use Rattle.world.specs.World.{WorldState}
use Rattle.world.proofs.Joined.{goes_on_join, goes_on_still}
use Rattle.world.proofs.world.World.open_to.Goals as goal

pub returns-then-open_slot-clause-goes : goal.returns-then-open_slot-clause-goes
returns-then-open_slot-clause-goes c = goes_on_join _ _ _ c.open_slot.ensures.goes c.gather.ensures.goes

pub returns-then-open_slot-clause-begins : goal.returns-then-open_slot-clause-begins
returns-then-open_slot-clause-begins c =
    inl (record {
      between = c.open_slot.new.self;
      connects = c.open_slot.ensures.connects c.if-open_slot.true;
      gathers = c.gather.ensures.gathers;
      uncounted = c.gather.ensures.still ∙ c.open_slot.ensures.losses;
    })

pub returns-then-is_whole-clause-goes : goal.returns-then-is_whole-clause-goes
returns-then-is_whole-clause-goes c =
    goes_on_join _ _ _ c.open_slot.ensures.goes
    (goes_on_still _ _ (ap (λ (w : WorldState). w.nodes) c.count_loss.ensures.lost) (ap (λ (w : WorldState). w.clients) c.count_loss.ensures.lost) c.count_loss.ensures.rises)

pub returns-then-is_whole-clause-begins : goal.returns-then-is_whole-clause-begins
returns-then-is_whole-clause-begins c =
    inr (inr (
      c.open_slot.new.self,
      c.open_slot.ensures.none c.if-open_slot.false,
      c.count_loss.ensures.lost ∙ ap (λ (k : ℕ). let w : WorldState = record c.open_slot.new.self { losses = one_more k } in w) c.open_slot.ensures.losses,
    ))

pub returns-else-is_whole-clause-begins : goal.returns-else-is_whole-clause-begins
returns-else-is_whole-clause-begins c =
    let before : c.losses-before.result ≡ c.args.self.now.nodes.losses = rw (← c.self.view_is) c.losses-before.ensures in
    inr (inl (
      c.open_slot.ensures.none c.if-open_slot.false,
      λ whole. c.is_whole.ensures.no c.if-is_whole.false (whole.0 ∙ sym before, subst (λ (k : ℕ). k < 2 ^ 64 - 1) (sym before) whole.1),
    ))
