use Rattle.std.proofs.Common.{arith, ◌≡◌, length, Some, None, refl, ap, sym, ◌∙◌}
use Rattle.std.specs.Prelude.{slice_get}
use Rattle.std.proofs.lemmas.Bool.{ltb-true, ltb-false}
use Rattle.lists.proofs.Members.{in_at}
use Rattle.master.specs.declared.event.Event.TheVariants.{Deliver}
use Rattle.master.specs.Group.{GroupState}
use Rattle.master.proofs.Counting.{asked_in, came_in, delivers_to_master, delivers_turn, delivers_nothing, hears_ballot, hears_nothing, not_sent, steps_master, steps_unheeded, get_there, get_past, some_idle, steps_turn, steps_lost, steps_idle}
use Rattle.master.proofs.Quiet.{exactly_none, exactly_unheeded, master_needs, message_lost, message_passed, message_taken, not_copied, steps_exactly_done}
use Rattle.master.proofs.group.Group.deliver.Goals as goal

pub returns-in_default-clause-step : goal.returns-in_default-clause-step
returns-in_default-clause-step g c =
    let rules = g.M.Machine.rules in
    let sent : c.deref.result.now ≡ c.args.self.now.moment.world.sent = c.deref.ensures.value ∙ ap (λ (z : GroupState _ _ _). z.moment.world.sent) c.self.view_is in
    let none : slice_get c.args.self.now.moment.world.sent c.args.number ≡ None =
    ap (λ us. slice_get us c.args.number) (sym sent) ∙ get_past c.deref.result.now c.args.number (ltb-false c.args.number (length c.deref.result.now) (sym c.in_default.ensures.lookup.0)) in
    steps_idle rules c.args.self.now (Deliver c.args.number) (not_sent rules c.args.self.now.moment c.args.number none)

pub returns-in_default-clause-idle : goal.returns-in_default-clause-idle
returns-in_default-clause-idle g c =
    let rules = g.M.Machine.rules in
    let sent : c.deref.result.now ≡ c.args.self.now.moment.world.sent = c.deref.ensures.value ∙ ap (λ (z : GroupState _ _ _). z.moment.world.sent) c.self.view_is in
    let none : slice_get c.args.self.now.moment.world.sent c.args.number ≡ None =
    ap (λ us. slice_get us c.args.number) (sym sent) ∙ get_past c.deref.result.now c.args.number (ltb-false c.args.number (length c.deref.result.now) (sym c.in_default.ensures.lookup.0)) in
    (λ h. not_sent rules c.args.self.now.moment c.args.number none, λ e. refl)

pub returns-in_default-running-clause-step : goal.returns-in_default-running-clause-step
returns-in_default-running-clause-step g c =
    let rules = g.M.Machine.rules in
    let sent : c.deref.result.now ≡ c.args.self.now.moment.world.sent = c.deref.ensures.value ∙ ap (λ (z : GroupState _ _ _). z.moment.world.sent) c.self.view_is in
    let found = ap (λ us. slice_get us c.args.number) (sym sent) ∙ get_there c.deref.result.now c.args.number c.in-Some.field-0.now
    (ltb-true c.args.number (length c.deref.result.now) (sym c.in-Some.ensures.lookup.0)) c.in-Some.ensures.lookup.1 in
    let idle = delivers_nothing rules c.args.self.now.moment c.args.number c.in-Some.field-0.now (omega (arith, c.if-receiver-eq0.false)) found (c.in_default-running.ensures.none refl) in
    steps_idle rules c.args.self.now (Deliver c.args.number) idle

pub returns-in_default-running-clause-idle : goal.returns-in_default-running-clause-idle
returns-in_default-running-clause-idle g c =
    let rules = g.M.Machine.rules in
    let sent : c.deref.result.now ≡ c.args.self.now.moment.world.sent = c.deref.ensures.value ∙ ap (λ (z : GroupState _ _ _). z.moment.world.sent) c.self.view_is in
    let found = ap (λ us. slice_get us c.args.number) (sym sent) ∙ get_there c.deref.result.now c.args.number c.in-Some.field-0.now
    (ltb-true c.args.number (length c.deref.result.now) (sym c.in-Some.ensures.lookup.0)) c.in-Some.ensures.lookup.1 in
    let idle = delivers_nothing rules c.args.self.now.moment c.args.number c.in-Some.field-0.now (omega (arith, c.if-receiver-eq0.false)) found (c.in_default-running.ensures.none refl) in
    (λ h. idle, λ e. refl)

pub returns-in-Ok-clause-step : goal.returns-in-Ok-clause-step
returns-in-Ok-clause-step g c =
    let rules = g.M.Machine.rules in
    let sent : c.deref.result.now ≡ c.args.self.now.moment.world.sent = c.deref.ensures.value ∙ ap (λ (z : GroupState _ _ _). z.moment.world.sent) c.self.view_is in
    let found = ap (λ us. slice_get us c.args.number) (sym sent) ∙ get_there c.deref.result.now c.args.number c.in-Some.field-0.now
    (ltb-true c.args.number (length c.deref.result.now) (sym c.in-Some.ensures.lookup.0)) c.in-Some.ensures.lookup.1 in
    let x = c.in-Some-running.ensures.some in
    steps_turn rules c.args.self.now c.take_input.new.self (Deliver c.args.number) _
    (delivers_turn rules c.args.self.now.moment c.args.number c.in-Some-running.at c.in-Some.field-0.now c.in-Ok.message found c.in-Ok.ensures.same x)
    (c.take_input.ensures x.replica x.stands)

pub returns-in-Ok-clause-idle : goal.returns-in-Ok-clause-idle
returns-in-Ok-clause-idle g c =
    let rules = g.M.Machine.rules in
    let sent : c.deref.result.now ≡ c.args.self.now.moment.world.sent = c.deref.ensures.value ∙ ap (λ (z : GroupState _ _ _). z.moment.world.sent) c.self.view_is in
    let found = ap (λ us. slice_get us c.args.number) (sym sent) ∙ get_there c.deref.result.now c.args.number c.in-Some.field-0.now
    (ltb-true c.args.number (length c.deref.result.now) (sym c.in-Some.ensures.lookup.0)) c.in-Some.ensures.lookup.1 in
    let x = c.in-Some-running.ensures.some in
    (λ h. cc, λ e. some_idle (delivers_turn rules c.args.self.now.moment c.args.number c.in-Some-running.at c.in-Some.field-0.now c.in-Some.field-0.now.1 found refl x) e)

pub returns-in-Err-clause-step : goal.returns-in-Err-clause-step
returns-in-Err-clause-step g c =
    let rules = g.M.Machine.rules in
    steps_lost rules c.args.self.now _ (Deliver c.args.number) c.count_loss.ensures

pub returns-in-Err-clause-idle : goal.returns-in-Err-clause-idle
returns-in-Err-clause-idle g c =
    let rules = g.M.Machine.rules in
    let sent : c.deref.result.now ≡ c.args.self.now.moment.world.sent = c.deref.ensures.value ∙ ap (λ (z : GroupState _ _ _). z.moment.world.sent) c.self.view_is in
    let found = ap (λ us. slice_get us c.args.number) (sym sent) ∙ get_there c.deref.result.now c.args.number c.in-Some.field-0.now
    (ltb-true c.args.number (length c.deref.result.now) (sym c.in-Some.ensures.lookup.0)) c.in-Some.ensures.lookup.1 in
    let x = c.in-Some-running.ensures.some in
    (λ h. cc, λ e. some_idle (delivers_turn rules c.args.self.now.moment c.args.number c.in-Some-running.at c.in-Some.field-0.now c.in-Some.field-0.now.1 found refl x) e)

pub answer-requires : goal.answer-requires
answer-requires g c =
    let rules = g.M.Machine.rules in
    let sent : c.deref.result.now ≡ c.args.self.now.moment.world.sent = c.deref.ensures.value ∙ ap (λ (z : GroupState _ _ _). z.moment.world.sent) c.self.view_is in
    let found = ap (λ us. slice_get us c.args.number) (sym sent) ∙ get_there c.deref.result.now c.args.number c.in-Some.field-0.now
    (ltb-true c.args.number (length c.deref.result.now) (sym c.in-Some.ensures.lookup.0)) c.in-Some.ensures.lookup.1 in
    let hears = hears_ballot rules c.args.self.now.moment.master c.in-Some.field-0.now.1.from c.in-Some-asks_for.ballot c.in-Some.field-0.now.1.body
    (sym c.asks_for.ensures ∙ c.in-Some-asks_for.is) in
    asked_in c.args.self.now.moment.world.sent c.args.number c.in-Some-asks_for.ballot c.in-Some.field-0.now found c.if-receiver-eq0.true hears.0

pub take_input-requires-clause-may : goal.take_input-requires-clause-may
take_input-requires-clause-may g c =
    let rules = g.M.Machine.rules in
    let sent : c.deref.result.now ≡ c.args.self.now.moment.world.sent = c.deref.ensures.value ∙ ap (λ (z : GroupState _ _ _). z.moment.world.sent) c.self.view_is in
    let found = ap (λ us. slice_get us c.args.number) (sym sent) ∙ get_there c.deref.result.now c.args.number c.in-Some.field-0.now
    (ltb-true c.args.number (length c.deref.result.now) (sym c.in-Some.ensures.lookup.0)) c.in-Some.ensures.lookup.1 in
    came_in c.args.self.now.moment.world.nodes c.args.self.now.moment.world.sent c.args.number c.in-Some-running.at c.in-Some.field-0.now c.in-Ok.message found c.in-Ok.ensures.same
    c.in-Some-running.ensures.some

pub returns-in-Some-asks_for-clause-step : goal.returns-in-Some-asks_for-clause-step
returns-in-Some-asks_for-clause-step g c =
    let rules = g.M.Machine.rules in
    let sent : c.deref.result.now ≡ c.args.self.now.moment.world.sent = c.deref.ensures.value ∙ ap (λ (z : GroupState _ _ _). z.moment.world.sent) c.self.view_is in
    let found = ap (λ us. slice_get us c.args.number) (sym sent) ∙ get_there c.deref.result.now c.args.number c.in-Some.field-0.now
    (ltb-true c.args.number (length c.deref.result.now) (sym c.in-Some.ensures.lookup.0)) c.in-Some.ensures.lookup.1 in
    let hears = hears_ballot rules c.args.self.now.moment.master c.in-Some.field-0.now.1.from c.in-Some-asks_for.ballot c.in-Some.field-0.now.1.body
    (sym c.asks_for.ensures ∙ c.in-Some-asks_for.is) in
    steps_master rules c.args.self.now c.answer.new.self (Deliver c.args.number) _
    (delivers_to_master rules c.args.self.now.moment c.args.number c.in-Some.field-0.now c.if-receiver-eq0.true found ∙ ap Some hears.1) c.answer.ensures

pub returns-in-Some-asks_for-clause-idle : goal.returns-in-Some-asks_for-clause-idle
returns-in-Some-asks_for-clause-idle g c =
    let rules = g.M.Machine.rules in
    let sent : c.deref.result.now ≡ c.args.self.now.moment.world.sent = c.deref.ensures.value ∙ ap (λ (z : GroupState _ _ _). z.moment.world.sent) c.self.view_is in
    let found = ap (λ us. slice_get us c.args.number) (sym sent) ∙ get_there c.deref.result.now c.args.number c.in-Some.field-0.now
    (ltb-true c.args.number (length c.deref.result.now) (sym c.in-Some.ensures.lookup.0)) c.in-Some.ensures.lookup.1 in
    (λ h. cc, λ e. some_idle (delivers_to_master rules c.args.self.now.moment c.args.number c.in-Some.field-0.now c.if-receiver-eq0.true found) e)

pub returns-in-None-clause-step : goal.returns-in-None-clause-step
returns-in-None-clause-step g c =
    let rules = g.M.Machine.rules in
    let sent : c.deref.result.now ≡ c.args.self.now.moment.world.sent = c.deref.ensures.value ∙ ap (λ (z : GroupState _ _ _). z.moment.world.sent) c.self.view_is in
    let found = ap (λ us. slice_get us c.args.number) (sym sent) ∙ get_there c.deref.result.now c.args.number c.in-Some.field-0.now
    (ltb-true c.args.number (length c.deref.result.now) (sym c.in-Some.ensures.lookup.0)) c.in-Some.ensures.lookup.1 in
    let hears = hears_nothing rules c.args.self.now.moment.master c.in-Some.field-0.now.1.from c.in-Some.field-0.now.1.body (sym c.asks_for.ensures ∙ c.in-None.is) in
    steps_unheeded rules c.args.self.now (Deliver c.args.number)
    (delivers_to_master rules c.args.self.now.moment c.args.number c.in-Some.field-0.now c.if-receiver-eq0.true found ∙ ap Some hears)

pub returns-in-None-clause-idle : goal.returns-in-None-clause-idle
returns-in-None-clause-idle g c =
    let rules = g.M.Machine.rules in
    let sent : c.deref.result.now ≡ c.args.self.now.moment.world.sent = c.deref.ensures.value ∙ ap (λ (z : GroupState _ _ _). z.moment.world.sent) c.self.view_is in
    let found = ap (λ us. slice_get us c.args.number) (sym sent) ∙ get_there c.deref.result.now c.args.number c.in-Some.field-0.now
    (ltb-true c.args.number (length c.deref.result.now) (sym c.in-Some.ensures.lookup.0)) c.in-Some.ensures.lookup.1 in
    (λ h. cc, λ e. some_idle (delivers_to_master rules c.args.self.now.moment c.args.number c.in-Some.field-0.now c.if-receiver-eq0.true found) e)

pub returns-in_default-clause-quiet : goal.returns-in_default-clause-quiet
returns-in_default-clause-quiet g c =
    let rules = g.M.Machine.rules in
    let sent : c.deref.result.now ≡ c.args.self.now.moment.world.sent = c.deref.ensures.value ∙ ap (λ (z : GroupState _ _ _). z.moment.world.sent) c.self.view_is in
    let none : slice_get c.args.self.now.moment.world.sent c.args.number ≡ None =
    ap (λ us. slice_get us c.args.number) (sym sent) ∙ get_past c.deref.result.now c.args.number (ltb-false c.args.number (length c.deref.result.now) (sym c.in_default.ensures.lookup.0)) in
    λ q. exactly_none rules c.args.self.now (Deliver c.args.number) (not_sent rules c.args.self.now.moment c.args.number none)

pub returns-in_default-running-clause-quiet : goal.returns-in_default-running-clause-quiet
returns-in_default-running-clause-quiet g c =
    let rules = g.M.Machine.rules in
    let sent : c.deref.result.now ≡ c.args.self.now.moment.world.sent = c.deref.ensures.value ∙ ap (λ (z : GroupState _ _ _). z.moment.world.sent) c.self.view_is in
    let found = ap (λ us. slice_get us c.args.number) (sym sent) ∙ get_there c.deref.result.now c.args.number c.in-Some.field-0.now
    (ltb-true c.args.number (length c.deref.result.now) (sym c.in-Some.ensures.lookup.0)) c.in-Some.ensures.lookup.1 in
    let idle = delivers_nothing rules c.args.self.now.moment c.args.number c.in-Some.field-0.now (omega (arith, c.if-receiver-eq0.false)) found (c.in_default-running.ensures.none refl) in
    λ q. exactly_none rules c.args.self.now (Deliver c.args.number) idle

pub returns-then-not-heeds-clause-step : goal.returns-then-not-heeds-clause-step
returns-then-not-heeds-clause-step g c =
    let rules = g.M.Machine.rules in
    let sent : c.deref.result.now ≡ c.args.self.now.moment.world.sent = c.deref.ensures.value ∙ ap (λ (z : GroupState _ _ _). z.moment.world.sent) c.self.view_is in
    let found = ap (λ us. slice_get us c.args.number) (sym sent) ∙ get_there c.deref.result.now c.args.number c.in-Some.field-0.now
    (ltb-true c.args.number (length c.deref.result.now) (sym c.in-Some.ensures.lookup.0)) c.in-Some.ensures.lookup.1 in
    let x = c.in-Some-running.ensures.some in
    steps_exactly_done rules c.args.self.now (Deliver c.args.number) (message_passed rules c.args.self.now c.args.number c.in-Some-running.at c.in-Some.field-0.now found x x.replica c.heeds.result refl (c.heeds.ensures.nothing x.replica x.stands) c.if-not-heeds.true)

pub returns-then-not-heeds-clause-idle : goal.returns-then-not-heeds-clause-idle
returns-then-not-heeds-clause-idle g c =
    let rules = g.M.Machine.rules in
    let sent : c.deref.result.now ≡ c.args.self.now.moment.world.sent = c.deref.ensures.value ∙ ap (λ (z : GroupState _ _ _). z.moment.world.sent) c.self.view_is in
    let found = ap (λ us. slice_get us c.args.number) (sym sent) ∙ get_there c.deref.result.now c.args.number c.in-Some.field-0.now
    (ltb-true c.args.number (length c.deref.result.now) (sym c.in-Some.ensures.lookup.0)) c.in-Some.ensures.lookup.1 in
    let x = c.in-Some-running.ensures.some in
    (λ h. cc, λ e. some_idle (delivers_turn rules c.args.self.now.moment c.args.number c.in-Some-running.at c.in-Some.field-0.now c.in-Some.field-0.now.1 found refl x) e)

pub returns-then-not-heeds-clause-quiet : goal.returns-then-not-heeds-clause-quiet
returns-then-not-heeds-clause-quiet g c =
    let rules = g.M.Machine.rules in
    let sent : c.deref.result.now ≡ c.args.self.now.moment.world.sent = c.deref.ensures.value ∙ ap (λ (z : GroupState _ _ _). z.moment.world.sent) c.self.view_is in
    let found = ap (λ us. slice_get us c.args.number) (sym sent) ∙ get_there c.deref.result.now c.args.number c.in-Some.field-0.now
    (ltb-true c.args.number (length c.deref.result.now) (sym c.in-Some.ensures.lookup.0)) c.in-Some.ensures.lookup.1 in
    let x = c.in-Some-running.ensures.some in
    λ q. message_passed rules c.args.self.now c.args.number c.in-Some-running.at c.in-Some.field-0.now found x x.replica c.heeds.result refl (c.heeds.ensures.nothing x.replica x.stands) c.if-not-heeds.true

pub returns-in-Ok-clause-quiet : goal.returns-in-Ok-clause-quiet
returns-in-Ok-clause-quiet g c =
    let rules = g.M.Machine.rules in
    let sent : c.deref.result.now ≡ c.args.self.now.moment.world.sent = c.deref.ensures.value ∙ ap (λ (z : GroupState _ _ _). z.moment.world.sent) c.self.view_is in
    let found = ap (λ us. slice_get us c.args.number) (sym sent) ∙ get_there c.deref.result.now c.args.number c.in-Some.field-0.now
    (ltb-true c.args.number (length c.deref.result.now) (sym c.in-Some.ensures.lookup.0)) c.in-Some.ensures.lookup.1 in
    let x = c.in-Some-running.ensures.some in
    message_taken rules c.args.self.now c.take_input.new.self c.args.number c.in-Some-running.at c.in-Some.field-0.now c.in-Ok.message found c.in-Ok.ensures.same x
    (c.take_input.ensures x.replica x.stands)

pub returns-in-Err-clause-quiet : goal.returns-in-Err-clause-quiet
returns-in-Err-clause-quiet g c =
    let rules = g.M.Machine.rules in
    let sent : c.deref.result.now ≡ c.args.self.now.moment.world.sent = c.deref.ensures.value ∙ ap (λ (z : GroupState _ _ _). z.moment.world.sent) c.self.view_is in
    let found = ap (λ us. slice_get us c.args.number) (sym sent) ∙ get_there c.deref.result.now c.args.number c.in-Some.field-0.now
    (ltb-true c.args.number (length c.deref.result.now) (sym c.in-Some.ensures.lookup.0)) c.in-Some.ensures.lookup.1 in
    let x = c.in-Some-running.ensures.some in
    message_lost rules c.args.self.now c.args.number c.in-Some-running.at c.in-Some.field-0.now found x
    (λ e. not_copied c.copy_of.result _ c.in-Err.is (c.copy_of.ensures.numbers e)) (λ e. c.heeds.ensures.more x.replica x.stands c.if-not-heeds.false e)

pub returns-in-Some-asks_for-clause-quiet : goal.returns-in-Some-asks_for-clause-quiet
returns-in-Some-asks_for-clause-quiet g c =
    let rules = g.M.Machine.rules in
    let sent : c.deref.result.now ≡ c.args.self.now.moment.world.sent = c.deref.ensures.value ∙ ap (λ (z : GroupState _ _ _). z.moment.world.sent) c.self.view_is in
    let found = ap (λ us. slice_get us c.args.number) (sym sent) ∙ get_there c.deref.result.now c.args.number c.in-Some.field-0.now
    (ltb-true c.args.number (length c.deref.result.now) (sym c.in-Some.ensures.lookup.0)) c.in-Some.ensures.lookup.1 in
    let hears = hears_ballot rules c.args.self.now.moment.master c.in-Some.field-0.now.1.from c.in-Some-asks_for.ballot c.in-Some.field-0.now.1.body
    (sym c.asks_for.ensures ∙ c.in-Some-asks_for.is) in
    master_needs rules c.args.self.now.moment (Deliver c.args.number) _
    (delivers_to_master rules c.args.self.now.moment c.args.number c.in-Some.field-0.now c.if-receiver-eq0.true found ∙ ap Some hears.1) (λ n f. cc)

pub returns-in-None-clause-quiet : goal.returns-in-None-clause-quiet
returns-in-None-clause-quiet g c =
    let rules = g.M.Machine.rules in
    let sent : c.deref.result.now ≡ c.args.self.now.moment.world.sent = c.deref.ensures.value ∙ ap (λ (z : GroupState _ _ _). z.moment.world.sent) c.self.view_is in
    let found = ap (λ us. slice_get us c.args.number) (sym sent) ∙ get_there c.deref.result.now c.args.number c.in-Some.field-0.now
    (ltb-true c.args.number (length c.deref.result.now) (sym c.in-Some.ensures.lookup.0)) c.in-Some.ensures.lookup.1 in
    let hears = hears_nothing rules c.args.self.now.moment.master c.in-Some.field-0.now.1.from c.in-Some.field-0.now.1.body (sym c.asks_for.ensures ∙ c.in-None.is) in
    λ q. exactly_unheeded rules c.args.self.now (Deliver c.args.number)
    (delivers_to_master rules c.args.self.now.moment c.args.number c.in-Some.field-0.now c.if-receiver-eq0.true found ∙ ap Some hears)

pub heeds-requires-clause-at : goal.heeds-requires-clause-at
heeds-requires-clause-at g c = c.in-Some-running.ensures.some.below

pub heeds-requires-clause-sent : goal.heeds-requires-clause-sent
heeds-requires-clause-sent g c =
    let sent : c.deref.result.now ≡ c.args.self.now.moment.world.sent = c.deref.ensures.value ∙ ap (λ (z : GroupState _ _ _). z.moment.world.sent) c.self.view_is in
    let found = ap (λ us. slice_get us c.args.number) (sym sent) ∙ get_there c.deref.result.now c.args.number c.in-Some.field-0.now
    (ltb-true c.args.number (length c.deref.result.now) (sym c.in-Some.ensures.lookup.0)) c.in-Some.ensures.lookup.1 in
    (c.in-Some.field-0.now.0, in_at c.args.self.now.moment.world.sent c.args.number c.in-Some.field-0.now found)
