use Rattle.std.proofs.Common.{inl, inr, ap, sym, ◌∙◌, arith}
use Rattle.std.specs.Prelude.{nat_lt, ◌==◌}
use Rattle.std.proofs.lemmas.Bool.{eqb-true, lt-ltb, ltb-true}
use Rattle.master.specs.Inside.Losses.{input_of}
use Rattle.master.proofs.Calling.{Called, called_as, proposes_called, ticks_called, took_in}
use Rattle.master.proofs.inputs.step_replica.Goals as goal
use Rattle.master.proofs.inputs.step_replica.Goals.{in-Received, in-Proposed, in-Ticked}

pub returns-then-losses-before : goal.returns-then-losses-before
returns-then-losses-before g c =
    let rules = g.M.Machine.rules in
    let called : Called rules c.args.replica.now (input_of c.args.input) c.match-input.replica c.args.out.now.items c.match-input.out.items =
    elim c.match-input.branch [
      | in-Received w ↦ called_as rules c.args.replica.now _ _ _ _ c.args.out.now.items _ _ (ap input_of w.in-Received.is) w.replica-is (ap (λ v. v.items) w.out-is)
          (record { stepped = w.on.ensures.step c.requires; quiet = w.on.ensures.quiet c.requires })
      | in-Proposed w ↦ called_as rules c.args.replica.now _ _ _ _ c.args.out.now.items _ _ (ap input_of w.in-Proposed.is) w.replica-is (ap (λ v. v.items) w.out-is)
          (proposes_called rules c.args.replica.now _ _ c.args.out.now.items _ (w.propose.ensures.step c.requires)
          (λ off. w.propose.ensures.same (inr (inl (w.propose.ensures.not_active.1 (c.requires, off)))))
          (λ on past. w.propose.ensures.same (inr (inr (w.propose.ensures.full.1 (c.requires, on, past))))))
      | in-Ticked w ↦ called_as rules c.args.replica.now _ _ _ _ c.args.out.now.items _ _ (ap input_of w.in-Ticked.is) w.replica-is (ap (λ v. v.items) w.out-is)
          (ticks_called rules c.args.replica.now _ c.args.out.now.items _ (w.tick.ensures.step c.requires) (w.tick.ensures.quiet c.requires))
    ] in
    took_in (nat_lt c.losses-before.result 18446744073709551615) called
    (λ h. (
      sym c.losses.ensures ∙ c.if-losses-before.true ∙ c.losses-before.ensures,
      let a = ltb-true c.losses-before.result 18446744073709551615 h in let b = c.losses-before.ensures in omega (arith, a, b),
    ))
    (λ same low. let b = c.losses-before.ensures in lt-ltb c.losses-before.result 18446744073709551615 (omega (arith, low, b)))

pub returns-else-losses-before : goal.returns-else-losses-before
returns-else-losses-before g c =
    let rules = g.M.Machine.rules in
    let called : Called rules c.args.replica.now (input_of c.args.input) c.match-input.replica c.args.out.now.items c.match-input.out.items =
    elim c.match-input.branch [
      | in-Received w ↦ called_as rules c.args.replica.now _ _ _ _ c.args.out.now.items _ _ (ap input_of w.in-Received.is) w.replica-is (ap (λ v. v.items) w.out-is)
          (record { stepped = w.on.ensures.step c.requires; quiet = w.on.ensures.quiet c.requires })
      | in-Proposed w ↦ called_as rules c.args.replica.now _ _ _ _ c.args.out.now.items _ _ (ap input_of w.in-Proposed.is) w.replica-is (ap (λ v. v.items) w.out-is)
          (proposes_called rules c.args.replica.now _ _ c.args.out.now.items _ (w.propose.ensures.step c.requires)
          (λ off. w.propose.ensures.same (inr (inl (w.propose.ensures.not_active.1 (c.requires, off)))))
          (λ on past. w.propose.ensures.same (inr (inr (w.propose.ensures.full.1 (c.requires, on, past))))))
      | in-Ticked w ↦ called_as rules c.args.replica.now _ _ _ _ c.args.out.now.items _ _ (ap input_of w.in-Ticked.is) w.replica-is (ap (λ v. v.items) w.out-is)
          (ticks_called rules c.args.replica.now _ c.args.out.now.items _ (w.tick.ensures.step c.requires) (w.tick.ensures.quiet c.requires))
    ] in
    took_in (c.losses.result == c.losses-before.result) called
    (λ h. absurd (c.if-losses-before.false (eqb-true c.losses.result c.losses-before.result h)))
    (λ same low. absurd (c.if-losses-before.false (c.losses.ensures ∙ same ∙ sym c.losses-before.ensures)))
