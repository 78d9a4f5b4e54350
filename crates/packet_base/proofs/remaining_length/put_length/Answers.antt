use Rattle.std.proofs.Common.{◌≤◌, ◌∷◌, [], ◌++◌, ◌%◌, ◌+◌, ◌∙◌, ℕ, List, ap, refl, arith}
use Rattle.packet_base.proofs.LengthForms.{length_spelled, one_form}
use Rattle.packet_base.proofs.Lengths.{bytes_step, length_longer, pushed}
use Rattle.packet_base.proofs.remaining_length.put_length.Goals as goal

pub loop-rest-preserved : goal.loop-rest-preserved
loop-rest-preserved c =
    let n = c.loop-rest.rest in
    let high : 128 ≤ n = omega (arith, c.loop-rest-test.true) in
    record {
      small = omega (arith, c.loop-rest.invariant.small);
      size = omega (
        arith,
        bytes_step n high c.loop-rest.invariant.small,
        c.push_reserved.ensures.len,
        c.loop-rest.invariant.size,
      );
      capacity = omega (arith, c.push_reserved.ensures.capacity, c.loop-rest.invariant.capacity);
      completed = λ tail spelled.
          let all = c.loop-rest.invariant.completed
          ((n % 128 + 128) ∷ tail) (length_longer n tail high spelled) in
          (all.0, all.1, pushed _ _ tail _ c.push_reserved.ensures.items ∙ all.2);
    }

pub returns-clause-exact : goal.returns-clause-exact
returns-clause-exact c =
    let all = c.loop-rest.invariant.completed (c.loop-rest.rest ∷ []) (omega arith, refl) in
    let same = one_form all.0 _ _ all.1 (length_spelled _ c.requires.small) in
    c.push_reserved-2.ensures.items ∙ all.2 ∙ ap (λ (x : List ℕ). c.args.out.now.items ++ x) same

pub returns-clause-spelled : goal.returns-clause-spelled
returns-clause-spelled c =
    let all = c.loop-rest.invariant.completed (c.loop-rest.rest ∷ []) (omega arith, refl) in
    (all.0, all.1, c.push_reserved-2.ensures.items ∙ all.2)
