use Rattle.std.proofs.Common.{◌≡◌, ◌++◌, ◌-◌, Bool, true, false, List, take, drop, length, arith, rules, sym, ap, ◌∙◌, subst}
use Rattle.links.specs.declared.frames.head.Head.TheVariants.{Part}
use Rattle.links.specs.frames.Walks.{IsAtFront}
use Rattle.links.specs.frames.Fronts.{bytes_of, after}
use Rattle.std.proofs.lemmas.List.{length-drop}
use Rattle.links.proofs.of_frames.Walking.{Copies, copies_part, copies_more, copies_all, copies_some, on_err}
use Rattle.links.proofs.frames.joiner.joined.Goals as goal

pub split_at-requires : goal.split_at-requires
split_at-requires c =
    let all = copies_part c.args.limit c.args.bytes.now c.parts.message.items c.parts.rest.now c.parts.room c.parts.invariant c.in-Part.is_followed c.in-Part.len (sym c.in-Part.ensures.value) in
    omega (arith, all, ap (λ (l : List _). length l) c.behind.ensures, length-drop 5 c.parts.rest.now)

pub returns-in_err-extend_from_slice-clause-err : goal.returns-in_err-extend_from_slice-clause-err
returns-in_err-extend_from_slice-clause-err c =
    on_err _
    (copies_some c.args.limit c.args.bytes.now c.parts.message.items c.parts.rest.now c.parts.room c.in-Part.len c.in-Part.is_followed
    c.parts.invariant (sym c.in-Part.ensures.value) (let full = c.in_err-extend_from_slice.ensures.full in let size = c.split_at.ensures.front_len in omega (arith, full, size)))

pub returns-then-not-is_followed-clause-ok : goal.returns-then-not-is_followed-clause-ok
returns-then-not-is_followed-clause-ok c =
    let so : c.in-Part.is_followed ≡ false = search rules in
    let all = copies_all c.args.limit c.args.bytes.now c.parts.message.items c.parts.rest.now c.parts.room c.in-Part.len
    c.parts.invariant (sym c.in-Part.ensures.value ∙ ap (λ (b : Bool). Part b c.in-Part.len) so) in
    let is : c.extend_from_slice.new.self.items ≡ c.parts.message.items ++ bytes_of c.in-Part.len c.parts.rest.now =
    c.in_ok-extend_from_slice.ensures.items
    ∙ ap (λ (l : List _). c.parts.message.items ++ l) (c.split_at.ensures.front ∙ ap (λ (l : List _). take c.in-Part.len l) c.behind.ensures) in
    subst (IsAtFront c.args.limit c.args.bytes.now) (sym is) all

pub parts-preserved : goal.parts-preserved
parts-preserved c =
    let so : c.in-Part.is_followed ≡ true = search rules in
    let is : c.extend_from_slice.new.self.items ≡ c.parts.message.items ++ bytes_of c.in-Part.len c.parts.rest.now =
    c.in_ok-extend_from_slice.ensures.items
    ∙ ap (λ (l : List _). c.parts.message.items ++ l) (c.split_at.ensures.front ∙ ap (λ (l : List _). take c.in-Part.len l) c.behind.ensures) in
    let further : c.split_at.result.1.now ≡ after c.in-Part.len c.parts.rest.now =
    c.split_at.ensures.back ∙ ap (λ (l : List _). drop c.in-Part.len l) c.behind.ensures in
    let more = copies_more c.args.limit c.args.bytes.now c.parts.message.items c.parts.rest.now c.parts.room c.in-Part.len
    c.parts.invariant (sym c.in-Part.ensures.value ∙ ap (λ (b : Bool). Part b c.in-Part.len) so) in
    subst (λ (l : List _). Copies c.args.limit c.args.bytes.now c.extend_from_slice.new.self.items l (c.parts.room - c.in-Part.len)) (sym further)
    (subst (λ (l : List _). Copies c.args.limit c.args.bytes.now l (after c.in-Part.len c.parts.rest.now) (c.parts.room - c.in-Part.len)) (sym is) more)
