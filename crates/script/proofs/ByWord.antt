-- ByWord.antt: what fields say, by the word before them.
use Rattle.std.proofs.Common.{◌≡◌, List, codes, bytes_eq, false, Option, Some, None, Result, Ok, Err, ap, refl, ◌∙◌, inl, inr}
use Rattle.std.specs.Result.{IfOk}
use Rattle.std.proofs.lemmas.Bool.{cases_Bool}
use Rattle.std.proofs.lemmas.Slice.Eq.{bytes_eq-Decides}
use Rattle.script.specs.declared.error.FieldFault.{FieldFault}
use Rattle.script.specs.declared.script_line.ScriptLine.{ScriptLine}
use Rattle.script.specs.declared.script_line.ScriptLine.TheVariants as lines
use Rattle.script.specs.Fields.{Text, parse_amount, parse_client, parse_filter, parse_number, parse_numbers}
use Rattle.script.specs.Inside.LineReader.{line_by, one, parse_publish, parse_subscribe, two}

-- what was read of the fields is what the line says
pub value_by : (word w : Text) (fields : List Text) (o : Option ScriptLine) (r : Result ScriptLine FieldFault) → word ≡ w
    → line_by w fields ≡ o → IfOk r (λ x. o ≡ Some x) → IfOk r (λ x. line_by word fields ≡ Some x)
value_by word w fields o (Ok x) is by_form h = ap (λ v. line_by v fields) is ∙ by_form ∙ h
value_by word w fields o (Err e) is by_form h = tt

-- fields without their form have no line
pub form_by : (word w : Text) (fields : List Text) (o : Option ScriptLine) → word ≡ w
    → line_by w fields ≡ o → o ≡ None → line_by word fields ≡ None
form_by word w fields o is by_form h = ap (λ v. line_by v fields) is ∙ by_form ∙ h

pub by_assign : (fields : List Text) → line_by (codes "assign") fields ≡ two lines.Assign parse_numbers parse_number fields
unfolding line_by
by_assign fields = refl

pub by_deliver : (fields : List Text) → line_by (codes "deliver") fields ≡ one lines.Deliver parse_number fields
unfolding line_by
by_deliver fields = refl

pub by_tick : (fields : List Text) → line_by (codes "tick") fields ≡ one lines.Tick parse_number fields
unfolding line_by
by_tick fields = refl

pub by_cut : (fields : List Text) → line_by (codes "cut") fields ≡ one lines.Cut parse_number fields
unfolding line_by
by_cut fields = refl

pub by_crash : (fields : List Text) → line_by (codes "crash") fields ≡ one lines.Crash parse_number fields
unfolding line_by
by_crash fields = refl

pub by_open : (fields : List Text) → line_by (codes "open") fields ≡ two lines.Open parse_client parse_number fields
unfolding line_by
by_open fields = refl

pub by_up : (fields : List Text) → line_by (codes "up") fields ≡ two lines.CarryUp parse_number parse_amount fields
unfolding line_by
by_up fields = refl

pub by_down : (fields : List Text) → line_by (codes "down") fields ≡ two lines.CarryDown parse_number parse_amount fields
unfolding line_by
by_down fields = refl

pub by_abandon : (fields : List Text) → line_by (codes "abandon") fields ≡ one lines.Abandon parse_client fields
unfolding line_by
by_abandon fields = refl

pub by_disconnect : (fields : List Text) → line_by (codes "disconnect") fields ≡ one lines.Disconnect parse_client fields
unfolding line_by
by_disconnect fields = refl

pub by_notice : (fields : List Text) → line_by (codes "notice") fields ≡ one lines.Notice parse_number fields
unfolding line_by
by_notice fields = refl

pub by_publish : (fields : List Text) → line_by (codes "publish") fields ≡ parse_publish fields
unfolding line_by
by_publish fields = refl

pub by_subscribe : (fields : List Text) → line_by (codes "subscribe") fields ≡ parse_subscribe fields
unfolding line_by
by_subscribe fields = refl

pub by_unsubscribe : (fields : List Text) → line_by (codes "unsubscribe") fields ≡ two lines.Unsubscribe parse_client parse_filter fields
unfolding line_by
by_unsubscribe fields = refl

pub by_expel : (fields : List Text) → line_by (codes "expel") fields ≡ two lines.Expel parse_client parse_number fields
unfolding line_by
by_expel fields = refl

-- another word
other : (a b : Text) → (a ≡ b → ⊥) → bytes_eq a b ≡ false
other a b differ = elim (cases_Bool (bytes_eq a b)) [
  | inl same ↦ absurd (differ ((bytes_eq-Decides a b).0 same))
  | inr apart ↦ apart
]

-- no other word has a form
pub by_none : (word : Text) (fields : List Text)
    → (word ≡ codes "assign" → ⊥)
    → (word ≡ codes "deliver" → ⊥)
    → (word ≡ codes "tick" → ⊥)
    → (word ≡ codes "cut" → ⊥)
    → (word ≡ codes "crash" → ⊥)
    → (word ≡ codes "open" → ⊥)
    → (word ≡ codes "up" → ⊥)
    → (word ≡ codes "down" → ⊥)
    → (word ≡ codes "abandon" → ⊥)
    → (word ≡ codes "disconnect" → ⊥)
    → (word ≡ codes "notice" → ⊥)
    → (word ≡ codes "publish" → ⊥)
    → (word ≡ codes "subscribe" → ⊥)
    → (word ≡ codes "unsubscribe" → ⊥)
    → (word ≡ codes "expel" → ⊥)
    → line_by word fields ≡ None
unfolding line_by
by_none word fields n0 n1 n2 n3 n4 n5 n6 n7 n8 n9 n10 n11 n12 n13 n14 =
    rw (other word (codes "assign") n0, other word (codes "deliver") n1, other word (codes "tick") n2, other word (codes "cut") n3, other word (codes "crash") n4, other word (codes "open") n5, other word (codes "up") n6, other word (codes "down") n7, other word (codes "abandon") n8, other word (codes "disconnect") n9, other word (codes "notice") n10, other word (codes "publish") n11, other word (codes "subscribe") n12, other word (codes "unsubscribe") n13, other word (codes "expel") n14) refl
