-- Steps after steps are steps.
use Rattle.std.proofs.Common.{◌≡◌, List, [], ◌++◌, sym, subst, append-nil, append_assoc}
use Rattle.std.specs.Prelude.{Result, Ok, Err, OnOk}
use Rattle.client_base.specs.declared.accepted.Accepted.{Accepted}
use Rattle.client.specs.Core.{Core}
use Rattle.user_client.specs.Traces.{CallerView, Step, Trace, with_core}

-- one step
pub one_step : {old : CallerView} (new : CallerView) → Step old new → Trace old [] new
one_step new step = Trace.goes new Trace.starts step

-- another list of the same items
pub taken_as : {start end : CallerView} {taken other : List Accepted} → taken ≡ other → Trace start taken end → Trace start other end
taken_as {start = start} {end = end} same trace = subst (λ (all : List Accepted). Trace start all end) same trace

-- what came before, and what came after it
pub traces_join : {start middle end : CallerView} {taken more : List Accepted}
    → Trace start taken middle → Trace middle more end → Trace start (taken ++ more) end
traces_join {taken = taken} before Trace.starts = taken_as (sym (append-nil taken)) before
traces_join before (Trace.goes new after step) = Trace.goes new (traces_join before after) step
traces_join {taken = taken} before (Trace.takes {taken = more} {old = old} after) =
    taken_as (append_assoc taken more old.core.state.accepted) (Trace.takes (traces_join before after))

-- nothing was taken out before
pub traces_follow : {start middle end : CallerView} {more : List Accepted}
    → Trace start [] middle → Trace middle more end → Trace start more end
traces_follow before after = traces_join before after

-- if a call that followed was done
pub traces_follow_ok : {T E : Type 0} {start middle : CallerView} (end : CallerView) (more : List Accepted) (result : Result T E)
    → Trace start [] middle → OnOk result (Trace middle more end) → OnOk result (Trace start more end)
traces_follow_ok end more (Ok value) before after = traces_follow before after
traces_follow_ok end more (Err error) before after = tt

-- nothing is taken out any more
pub traces_end : {start middle end : CallerView} {taken : List Accepted}
    → Trace start taken middle → Trace middle [] end → Trace start taken end
traces_end {taken = taken} before after = taken_as (append-nil taken) (traces_join before after)

-- a step to a core that is this one
pub steps_to : (old : CallerView) (core next : Core) → core ≡ next → Step old (with_core next old) → Trace old [] (with_core core old)
steps_to old core next same step =
    subst (λ (c : Core). Trace old [] (with_core c old)) (sym same) (one_step (with_core next old) step)

-- nothing changed
pub stays : (old : CallerView) (core : Core) → core ≡ old.core → Trace old [] (with_core core old)
stays old core same = subst (λ (c : Core). Trace old [] (with_core c old)) (sym same) Trace.starts
