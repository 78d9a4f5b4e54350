-- OneForm.antt: the fields of a line mean what their form says, and nothing else.
use Rattle.std.proofs.Common.{◌≡◌, List, [], ◌∷◌, codes, bytes_eq, Option, Some, None, is_some, ap, refl, sym, subst, ◌∙◌, inl, inr}
use Rattle.std.proofs.lemmas.Bool.{cases_Bool, false≢true}
use Rattle.std.proofs.lemmas.Option.{same_Some}
use Rattle.std.proofs.lemmas.Slice.Eq.{bytes_eq-Decides}
use Rattle.script.specs.declared.script_line.ScriptLine.{ScriptLine}
use Rattle.script.specs.declared.script_line.ScriptLine.TheVariants as script_lines
use Rattle.script.specs.Fields.{Text, parse_amount, parse_client, parse_filter, parse_number, parse_numbers, parse_payload, parse_qos, parse_retain, parse_topic}
use Rattle.script.specs.Lines as lines
use Rattle.script.specs.Lines.{IsLine}
use Rattle.script.specs.Inside.LineReader.{line_by, line_of, one, publication, publication_line, parse_publication, parse_publish, parse_subscribe, subscription_line, two, with}
use Rattle.script.proofs.ByWord.{by_assign, by_deliver, by_tick, by_cut, by_crash, by_open, by_up, by_down, by_abandon, by_disconnect, by_notice, by_publish, by_subscribe, by_unsubscribe, by_expel, by_none}

-- the parts of what was made
pub record Made {X Y : Type 0} (make : Option (X → Y)) (value : Option X) (y : Y) : Type 0 where
  pub f : X → Y
  pub x : X
  pub make_is : make ≡ Some f
  pub value_is : value ≡ Some x
  pub is : y ≡ f x

pub made : {X Y : Type 0} (make : Option (X → Y)) (value : Option X) (y : Y) → with make value ≡ Some y → Made make value y
made (Some f) (Some x) y is = record { f = f; x = x; make_is = refl; value_is = refl; is = sym (same_Some _ _ is) }
made (Some f) None y is = absurd (false≢true (ap is_some is))
made None value y is = absurd (false≢true (ap is_some is))

record HasOne {X : Type 0} (make : X → ScriptLine) (reads : Text → Option X) (fields : List Text) (o : ScriptLine) : Type 0 where
  a : Text
  x : X
  are : fields ≡ a ∷ []
  a_is : reads a ≡ Some x
  is : o ≡ make x

has_one : {X : Type 0} (make : X → ScriptLine) (reads : Text → Option X) (fields : List Text) (o : ScriptLine)
    → one make reads fields ≡ Some o → HasOne make reads fields o
has_one make reads [] o h = absurd (false≢true (ap is_some h))
has_one make reads (a ∷ []) o h =
    let m = made (Some make) (reads a) o h in
    record { a = a; x = m.x; are = refl; a_is = m.value_is; is = m.is ∙ ap (λ g. g m.x) (sym (same_Some _ _ m.make_is)) }
has_one make reads (a ∷ b ∷ more) o h = absurd (false≢true (ap is_some h))

record HasTwo {X Y : Type 0} (make : X → Y → ScriptLine) (reads : Text → Option X) (next : Text → Option Y) (fields : List Text) (o : ScriptLine) : Type 0 where
  a : Text
  b : Text
  x : X
  y : Y
  are : fields ≡ a ∷ b ∷ []
  a_is : reads a ≡ Some x
  b_is : next b ≡ Some y
  is : o ≡ make x y

has_two : {X Y : Type 0} (make : X → Y → ScriptLine) (reads : Text → Option X) (next : Text → Option Y) (fields : List Text) (o : ScriptLine)
    → two make reads next fields ≡ Some o → HasTwo make reads next fields o
has_two make reads next [] o h = absurd (false≢true (ap is_some h))
has_two make reads next (a ∷ []) o h = absurd (false≢true (ap is_some h))
has_two make reads next (a ∷ b ∷ []) o h =
    let n = made (with (Some make) (reads a)) (next b) o h in
    let m = made (Some make) (reads a) n.f n.make_is in
    record {
      a = a;
      b = b;
      x = m.x;
      y = n.x;
      are = refl;
      a_is = m.value_is;
      b_is = n.value_is;
      is = n.is ∙ ap (λ g. g n.x) (m.is ∙ ap (λ g. g m.x) (sym (same_Some _ _ m.make_is)));
    }
has_two make reads next (a ∷ b ∷ c ∷ more) o h = absurd (false≢true (ap is_some h))

moved : (word : Text) (fields there : List Text) (o p : ScriptLine) → fields ≡ there → o ≡ p → IsLine (word ∷ there) p
    → IsLine (word ∷ fields) o
moved word fields there o p are is line =
    subst (λ fs. IsLine (word ∷ fs) o) (sym are) (subst (λ q. IsLine (word ∷ there) q) (sym is) line)

assign_line : (fields : List Text) (o : ScriptLine) → two script_lines.Assign parse_numbers parse_number fields ≡ Some o → IsLine (codes "assign" ∷ fields) o
assign_line fields o h = let p = has_two script_lines.Assign parse_numbers parse_number fields o h in moved _ _ _ _ _ p.are p.is (lines.assign p.a_is p.b_is)

deliver_line : (fields : List Text) (o : ScriptLine) → one script_lines.Deliver parse_number fields ≡ Some o → IsLine (codes "deliver" ∷ fields) o
deliver_line fields o h = let p = has_one script_lines.Deliver parse_number fields o h in moved _ _ _ _ _ p.are p.is (lines.deliver p.a_is)

tick_line : (fields : List Text) (o : ScriptLine) → one script_lines.Tick parse_number fields ≡ Some o → IsLine (codes "tick" ∷ fields) o
tick_line fields o h = let p = has_one script_lines.Tick parse_number fields o h in moved _ _ _ _ _ p.are p.is (lines.tick p.a_is)

cut_line : (fields : List Text) (o : ScriptLine) → one script_lines.Cut parse_number fields ≡ Some o → IsLine (codes "cut" ∷ fields) o
cut_line fields o h = let p = has_one script_lines.Cut parse_number fields o h in moved _ _ _ _ _ p.are p.is (lines.cut p.a_is)

crash_line : (fields : List Text) (o : ScriptLine) → one script_lines.Crash parse_number fields ≡ Some o → IsLine (codes "crash" ∷ fields) o
crash_line fields o h = let p = has_one script_lines.Crash parse_number fields o h in moved _ _ _ _ _ p.are p.is (lines.crash p.a_is)

open_line : (fields : List Text) (o : ScriptLine) → two script_lines.Open parse_client parse_number fields ≡ Some o → IsLine (codes "open" ∷ fields) o
open_line fields o h = let p = has_two script_lines.Open parse_client parse_number fields o h in moved _ _ _ _ _ p.are p.is (lines.opens p.a_is p.b_is)

up_line : (fields : List Text) (o : ScriptLine) → two script_lines.CarryUp parse_number parse_amount fields ≡ Some o → IsLine (codes "up" ∷ fields) o
up_line fields o h = let p = has_two script_lines.CarryUp parse_number parse_amount fields o h in moved _ _ _ _ _ p.are p.is (lines.up p.a_is p.b_is)

down_line : (fields : List Text) (o : ScriptLine) → two script_lines.CarryDown parse_number parse_amount fields ≡ Some o → IsLine (codes "down" ∷ fields) o
down_line fields o h = let p = has_two script_lines.CarryDown parse_number parse_amount fields o h in moved _ _ _ _ _ p.are p.is (lines.down p.a_is p.b_is)

abandon_line : (fields : List Text) (o : ScriptLine) → one script_lines.Abandon parse_client fields ≡ Some o → IsLine (codes "abandon" ∷ fields) o
abandon_line fields o h = let p = has_one script_lines.Abandon parse_client fields o h in moved _ _ _ _ _ p.are p.is (lines.abandon p.a_is)

disconnect_line : (fields : List Text) (o : ScriptLine) → one script_lines.Disconnect parse_client fields ≡ Some o → IsLine (codes "disconnect" ∷ fields) o
disconnect_line fields o h = let p = has_one script_lines.Disconnect parse_client fields o h in moved _ _ _ _ _ p.are p.is (lines.disconnect p.a_is)

notice_line : (fields : List Text) (o : ScriptLine) → one script_lines.Notice parse_number fields ≡ Some o → IsLine (codes "notice" ∷ fields) o
notice_line fields o h = let p = has_one script_lines.Notice parse_number fields o h in moved _ _ _ _ _ p.are p.is (lines.notice p.a_is)

expel_line : (fields : List Text) (o : ScriptLine) → two script_lines.Expel parse_client parse_number fields ≡ Some o → IsLine (codes "expel" ∷ fields) o
expel_line fields o h = let p = has_two script_lines.Expel parse_client parse_number fields o h in moved _ _ _ _ _ p.are p.is (lines.expel p.a_is p.b_is)

unsubscribe_line : (fields : List Text) (o : ScriptLine) → two script_lines.Unsubscribe parse_client parse_filter fields ≡ Some o → IsLine (codes "unsubscribe" ∷ fields) o
unsubscribe_line fields o h = let p = has_two script_lines.Unsubscribe parse_client parse_filter fields o h in moved _ _ _ _ _ p.are p.is (lines.unsubscribe p.a_is p.b_is)

subscribe_line : (fields : List Text) (o : ScriptLine) → parse_subscribe fields ≡ Some o → IsLine (codes "subscribe" ∷ fields) o
subscribe_line [] o h = absurd (false≢true (ap is_some h))
subscribe_line (c ∷ []) o h = absurd (false≢true (ap is_some h))
subscribe_line (c ∷ f ∷ []) o h = absurd (false≢true (ap is_some h))
subscribe_line (c ∷ f ∷ q ∷ []) o h =
    let third = made (with (with (Some subscription_line) (parse_client c)) (parse_filter f)) (parse_qos q) o h in
    let second = made (with (Some subscription_line) (parse_client c)) (parse_filter f) third.f third.make_is in
    let first = made (Some subscription_line) (parse_client c) second.f second.make_is in
    let second_is = first.is ∙ ap (λ g. g first.x) (sym (same_Some _ _ first.make_is)) in
    let third_is = second.is ∙ ap (λ g. g second.x) second_is in
    rw (third.is ∙ ap (λ g. g third.x) third_is) (lines.subscribe first.value_is second.value_is third.value_is)
subscribe_line (c ∷ f ∷ q ∷ d ∷ more) o h = absurd (false≢true (ap is_some h))

publish_line : (fields : List Text) (o : ScriptLine) → parse_publish fields ≡ Some o → IsLine (codes "publish" ∷ fields) o
unfolding parse_publication
publish_line [] o h = absurd (false≢true (ap is_some h))
publish_line (c ∷ []) o h = absurd (false≢true (ap is_some h))
publish_line (c ∷ t ∷ []) o h = absurd (false≢true (ap is_some h))
publish_line (c ∷ t ∷ q ∷ []) o h = absurd (false≢true (ap is_some h))
publish_line (c ∷ t ∷ q ∷ r ∷ []) o h = absurd (false≢true (ap is_some h))
publish_line (c ∷ t ∷ q ∷ r ∷ p ∷ []) o h =
    let whole = made (with (Some publication_line) (parse_client c)) (parse_publication t q r p) o h in
    let sender = made (Some publication_line) (parse_client c) whole.f whole.make_is in
    let fourth = made (with (with (with (Some publication) (parse_topic t)) (parse_qos q)) (parse_retain r)) (parse_payload p) whole.x whole.value_is in
    let third = made (with (with (Some publication) (parse_topic t)) (parse_qos q)) (parse_retain r) fourth.f fourth.make_is in
    let second = made (with (Some publication) (parse_topic t)) (parse_qos q) third.f third.make_is in
    let first = made (Some publication) (parse_topic t) second.f second.make_is in
    let second_is = first.is ∙ ap (λ g. g first.x) (sym (same_Some _ _ first.make_is)) in
    let third_is = second.is ∙ ap (λ g. g second.x) second_is in
    let fourth_is = third.is ∙ ap (λ g. g third.x) third_is in
    let sent_is = fourth.is ∙ ap (λ g. g fourth.x) fourth_is in
    let sender_is = sender.is ∙ ap (λ g. g sender.x) (sym (same_Some _ _ sender.make_is)) in
    rw (whole.is ∙ ap (λ g. g whole.x) sender_is ∙ ap (publication_line sender.x) sent_is)
    (lines.publish sender.value_is first.value_is second.value_is third.value_is fourth.value_is)
publish_line (c ∷ t ∷ q ∷ r ∷ p ∷ d ∷ more) o h = absurd (false≢true (ap is_some h))

none_is_no_line : (word : Text) (fields : List Text) (o : ScriptLine) → line_by word fields ≡ None
    → line_by word fields ≡ Some o → ⊥
none_is_no_line word fields o none some = false≢true (ap is_some (sym none ∙ some))

-- a word is this one, or another
decide : {R : Type 0} (word w : Text) → (word ≡ w → R) → ((word ≡ w → ⊥) → R) → R
decide word w same differ = elim (cases_Bool (bytes_eq word w)) [
  | inl is ↦ same ((bytes_eq-Decides word w).0 is)
  | inr is ↦ differ (λ e. false≢true (sym is ∙ (bytes_eq-Decides word w).1 e))
]

-- the line of a word that is known
known : (word w : Text) (fields : List Text) (o : ScriptLine) (form : Option ScriptLine) → word ≡ w → line_by w fields ≡ form
    → (form ≡ Some o → IsLine (w ∷ fields) o) → line_by word fields ≡ Some o → IsLine (word ∷ fields) o
known word w fields o form is by_form line h =
    subst (λ v. IsLine (v ∷ fields) o) (sym is) (line (sym by_form ∙ ap (λ v. line_by v fields) (sym is) ∙ h))

-- what is read is said by the line
pub has_line : (word : Text) (fields : List Text) (o : ScriptLine) → line_by word fields ≡ Some o → IsLine (word ∷ fields) o
has_line word fields o h =
    decide word (codes "assign") (λ e. known word _ fields o _ e (by_assign fields) (assign_line fields o) h) (λ n0.
    decide word (codes "deliver") (λ e. known word _ fields o _ e (by_deliver fields) (deliver_line fields o) h) (λ n1.
    decide word (codes "tick") (λ e. known word _ fields o _ e (by_tick fields) (tick_line fields o) h) (λ n2.
    decide word (codes "cut") (λ e. known word _ fields o _ e (by_cut fields) (cut_line fields o) h) (λ n3.
    decide word (codes "crash") (λ e. known word _ fields o _ e (by_crash fields) (crash_line fields o) h) (λ n4.
    decide word (codes "open") (λ e. known word _ fields o _ e (by_open fields) (open_line fields o) h) (λ n5.
    decide word (codes "up") (λ e. known word _ fields o _ e (by_up fields) (up_line fields o) h) (λ n6.
    decide word (codes "down") (λ e. known word _ fields o _ e (by_down fields) (down_line fields o) h) (λ n7.
    decide word (codes "abandon") (λ e. known word _ fields o _ e (by_abandon fields) (abandon_line fields o) h) (λ n8.
    decide word (codes "disconnect") (λ e. known word _ fields o _ e (by_disconnect fields) (disconnect_line fields o) h) (λ n9.
    decide word (codes "notice") (λ e. known word _ fields o _ e (by_notice fields) (notice_line fields o) h) (λ n10.
    decide word (codes "publish") (λ e. known word _ fields o _ e (by_publish fields) (publish_line fields o) h) (λ n11.
    decide word (codes "subscribe") (λ e. known word _ fields o _ e (by_subscribe fields) (subscribe_line fields o) h) (λ n12.
    decide word (codes "unsubscribe") (λ e. known word _ fields o _ e (by_unsubscribe fields) (unsubscribe_line fields o) h) (λ n13.
    decide word (codes "expel") (λ e. known word _ fields o _ e (by_expel fields) (expel_line fields o) h) (λ n14.
    absurd (none_is_no_line word fields o (by_none word fields n0 n1 n2 n3 n4 n5 n6 n7 n8 n9 n10 n11 n12 n13 n14) h))))))))))))))))

-- what is read of the fields is said by them
pub says : (fields : List Text) (o : ScriptLine) → line_of fields ≡ Some o → IsLine fields o
says [] o h = absurd (false≢true (ap is_some h))
says (word ∷ fields) o h = has_line word fields o h

with_one : {X : Type 0} (make : X → ScriptLine) (value : Option X) (x : X) → value ≡ Some x → with (Some make) value ≡ Some (make x)
with_one make value x is = rw is refl

with_two : {X Y : Type 0} (make : X → Y → ScriptLine) (first : Option X) (second : Option Y) (x : X) (y : Y) → first ≡ Some x
    → second ≡ Some y → with (with (Some make) first) second ≡ Some (make x y)
with_two make first second x y a b = rw (a, b) refl

-- a line says what is read of it
pub is_read : (fields : List Text) (o : ScriptLine) → IsLine fields o → line_of fields ≡ Some o
unfolding parse_publication
is_read fields o (lines.assign a b) = by_assign _ ∙ with_two _ _ _ _ _ a b
is_read fields o (lines.deliver a) = by_deliver _ ∙ with_one _ _ _ a
is_read fields o (lines.tick a) = by_tick _ ∙ with_one _ _ _ a
is_read fields o (lines.cut a) = by_cut _ ∙ with_one _ _ _ a
is_read fields o (lines.crash a) = by_crash _ ∙ with_one _ _ _ a
is_read fields o (lines.opens a b) = by_open _ ∙ with_two _ _ _ _ _ a b
is_read fields o (lines.up a b) = by_up _ ∙ with_two _ _ _ _ _ a b
is_read fields o (lines.down a b) = by_down _ ∙ with_two _ _ _ _ _ a b
is_read fields o (lines.abandon a) = by_abandon _ ∙ with_one _ _ _ a
is_read fields o (lines.disconnect a) = by_disconnect _ ∙ with_one _ _ _ a
is_read fields o (lines.notice a) = by_notice _ ∙ with_one _ _ _ a
is_read fields o (lines.publish c t q r p) = by_publish _ ∙ rw (c, t, q, r, p) refl
is_read fields o (lines.subscribe c f q) = by_subscribe _ ∙ rw (c, f, q) refl
is_read fields o (lines.unsubscribe a b) = by_unsubscribe _ ∙ with_two _ _ _ _ _ a b
is_read fields o (lines.expel a b) = by_expel _ ∙ with_two _ _ _ _ _ a b
