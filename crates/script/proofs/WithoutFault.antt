-- WithoutFault.antt: a text that is refused has a fault, but if memory ran out.
use Rattle.std.proofs.Common.{◌≡◌, Option, Some, None, Result, Ok, Err, inl, inr, ap, sym, ◌∙◌}
use Rattle.std.specs.Result.{IsErrAnd}
use Rattle.topics.specs.Text.{RefusesBy}
use Rattle.topics.specs.declared.malformed.MalformedKind.{MalformedKind}
use Rattle.script.specs.declared.error.FieldFault.{FieldFault}
use Rattle.script.specs.declared.error.FieldFault.TheVariants as faults
use Rattle.script.specs.Faults.{field_fault}
use Rattle.script.specs.Fields.{Text, unless}

memory_is_no_form : faults.Memory ≡ faults.Form → ⊥
memory_is_no_form e = cc

fault_in : {T : Type 0} → Result T FieldFault → FieldFault
fault_in (Ok x) = faults.Memory
fault_in (Err e) = e

-- which fault a kind became
gave_form : {T : Type 0} (r : Result T FieldFault) (fault : FieldFault) → IsErrAnd r (λ e. e ≡ fault)
    → r ≡ Err faults.Form → fault ≡ faults.Form
unfolding fault_in
gave_form (Ok x) fault is same = absurd is
gave_form (Err e) fault is same = sym is ∙ ap fault_in same

-- a text that is refused, and not because memory ran out, has a fault
pub no_text : {T : Type 0} (r : Result T FieldFault) (fault : Option MalformedKind) (text : Text) (kind : MalformedKind)
    → RefusesBy fault kind → IsErrAnd r (λ e. e ≡ field_fault kind) → r ≡ Err faults.Form → unless fault text ≡ None
no_text r fault text kind (inl is) gave form = ap (λ f. unless f text) is
no_text r fault text kind (inr memory) gave form =
    absurd (memory_is_no_form (sym (ap field_fault memory.1) ∙ gave_form r (field_fault kind) gave form))

pub own_text : (fault : Option MalformedKind) (text x : Text) → fault ≡ None → x ≡ text → unless fault text ≡ Some x
own_text fault text x none is = ap (λ f. unless f text) none ∙ ap Some (sym is)
