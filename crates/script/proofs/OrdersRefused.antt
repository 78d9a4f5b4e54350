-- OrdersRefused.antt: a line that is refused orders nothing, and one that orders something is not.
use Rattle.std.proofs.Common.{◌≡◌, ◌<◌, ◌≤◌, ◌++◌, ℕ, Bor, List, [], ◌∷◌, length, get_or, codes, Option, Some, None, is_some, Result, Ok, Err, IfOk, IfErr, IsErrAnd, OnOk, ap, refl, sym, ◌∙◌, arith, inl, inr, subst}
use Rattle.std.specs.Str.Pattern.{FindsTextPrefix, StripsPrefix}
use Rattle.std.proofs.Math.ListN.{get_or-map}
use Rattle.std.proofs.lemmas.Bool.{false≢true}
use Rattle.std.proofs.lemmas.List.{get_or-map as get_or-mapped}
use Rattle.packet_base.specs.ClientId.{client_fault}
use Rattle.script.specs.Fields.{Text, fields_of, parts_of, texts}
use Rattle.script.specs.Orders.{AreNumbers, IsExpel, IsNoExpel, IsNoOrder, IsOrder, IsWordRefused, LacksNumber, OrderNothing, Orders, RefusesLine, named_node}
use Rattle.script.specs.declared.orders.order_lines.Order.{Order}
use Rattle.script.specs.declared.orders.order_lines.Order.TheVariants as orders
use Rattle.script.specs.declared.orders.word_fault.WordFault.{WordFault}
use Rattle.script.proofs.FieldsGiven.{three_fields, two_fields}
use Rattle.script.proofs.NumbersSaid.{passed}

-- ---- what comes after `expel`

pub stripped : (word line client : Text) → StripsPrefix (FindsTextPrefix word) line client → line ≡ word ++ client
stripped word line client (n, found, is, long) = found.1 ∙ ap (λ (rest : Text). word ++ rest) (sym is)

pub expels : (r : Result Order WordFault) (line client : Text) → IsExpel line client
    → IfOk r (λ (order : Order). order ≡ orders.Expel client) → OnOk r (client_fault client ≡ None) → IfOk r (IsOrder line)
expels (Ok order) line client is same sound = inl (client, is, sound, same)
expels (Err fault) line client is same sound = tt

pub expel_refused : (r : Result Order WordFault) (line client : Text) → IsExpel line client
    → IfErr r (IsWordRefused client) → IfErr r (RefusesLine line)
expel_refused (Ok order) line client is refused = tt
expel_refused (Err fault) line client is refused = inl (client, is, refused)

-- ---- other lines, by their words

pub words_order : (r : Result Order WordFault) (line : Text) (words : List Text) → IsNoExpel line → words ≡ fields_of line
    → IfOk r (Orders words) → IfOk r (IsOrder line)
words_order (Ok order) line words other are is = inr (other, subst (λ (all : List Text). Orders all order) are is)
words_order (Err fault) line words other are is = tt

pub words_refused : (r : Result Order WordFault) (line : Text) (words : List Text) → IsNoExpel line → words ≡ fields_of line
    → IfErr r (IsNoOrder (OrderNothing words)) → IfErr r (RefusesLine line)
words_refused (Ok order) line words other are refused = tt
words_refused (Err fault) line words other are refused =
    inr (other, subst (λ (all : List Text). IsNoOrder (OrderNothing all) fault) are refused)

-- ---- what the words of an order are

data Form (words : List Text) : Type 0 where
  quit : words ≡ codes "quit" ∷ [] → Form words
  status : words ≡ codes "status" ∷ [] → Form words
  crash : (n : Text) (node : ℕ) → words ≡ codes "crash" ∷ n ∷ [] → named_node n ≡ Some node → Form words
  assign : (m p : Text) (numbers : List ℕ) (primary : ℕ) → words ≡ codes "assign" ∷ m ∷ p ∷ []
      → AreNumbers m numbers → named_node p ≡ Some primary → Form words

form_of : {words : List Text} {order : Order} → Orders words order → Form words
form_of Orders.quit = Form.quit refl
form_of Orders.status = Form.status refl
form_of (Orders.crash {name = n} {node = node} is) = Form.crash n node refl is
form_of (Orders.assign {members = m} {primary = p} {config = config} are is) = Form.assign m p config.members config.primary refl are is

count : {xs ys : List Text} → xs ≡ ys → length xs ≡ length ys
count same = ap (λ (all : List Text). length all) same

none_some : (n : ℕ) → ◌≡◌ {A = Option ℕ} None (Some n) → ⊥
none_some n is = false≢true (ap (λ (o : Option ℕ). is_some o) is)

-- a word cannot both have a number and have none
one_number : (n m : Text) (node : ℕ) → n ≡ m → named_node n ≡ None → named_node m ≡ Some node → ⊥
one_number n m node same none is = none_some node (sym none ∙ ap named_node same ∙ is)

-- nor can all words between commas have numbers, and one of them none
all_numbers : (word : Text) (numbers : List ℕ) → AreNumbers word numbers → LacksNumber word → ⊥
all_numbers word numbers are (part, (i, below, at), none) =
    none_some (get_or numbers i 0)
    (sym none ∙ ap named_node (sym at) ∙ sym (get_or-mapped named_node (parts_of word) i part (Some 0) below)
    ∙ ap (λ (all : List (Option ℕ)). get_or all i (Some 0)) are ∙ get_or-map (λ (n : ℕ). Some n) numbers i 0)

-- ---- words that begin as an order

module _ (words : List Text) (n : Text) (are : words ≡ codes "crash" ∷ n ∷ []) (none : named_node n ≡ None) where
  no_crash : Form words → ⊥
  no_crash (Form.quit is) = absurd (omega (arith, count (sym are ∙ is)))
  no_crash (Form.status is) = absurd (omega (arith, count (sym are ∙ is)))
  no_crash (Form.crash m node is said) = one_number n m node (ap (λ (all : List Text). get_or all 1 []) (sym are ∙ is)) none said
  no_crash (Form.assign m p numbers primary is all said) = absurd (omega (arith, count (sym are ∙ is)))

  crashes_nothing : OrderNothing words
  crashes_nothing order is = no_crash (form_of is)

module _ (words : List Text) (m p : Text) (are : words ≡ codes "assign" ∷ m ∷ p ∷ []) where
  no_members : LacksNumber m → Form words → ⊥
  no_members lacks (Form.quit is) = absurd (omega (arith, count (sym are ∙ is)))
  no_members lacks (Form.status is) = absurd (omega (arith, count (sym are ∙ is)))
  no_members lacks (Form.crash n node is said) = absurd (omega (arith, count (sym are ∙ is)))
  no_members lacks (Form.assign m2 p2 numbers primary is all said) =
      let same : m ≡ m2 = ap (λ (all : List Text). get_or all 1 []) (sym are ∙ is) in
      all_numbers m2 numbers all (subst (λ (w : Text). LacksNumber w) same lacks)

  assigns_no_members : LacksNumber m → OrderNothing words
  assigns_no_members lacks order is = no_members lacks (form_of is)

  no_primary : named_node p ≡ None → Form words → ⊥
  no_primary none (Form.quit is) = absurd (omega (arith, count (sym are ∙ is)))
  no_primary none (Form.status is) = absurd (omega (arith, count (sym are ∙ is)))
  no_primary none (Form.crash n node is said) = absurd (omega (arith, count (sym are ∙ is)))
  no_primary none (Form.assign m2 p2 numbers primary is all said) =
      one_number p p2 primary (ap (λ (all : List Text). get_or all 2 []) (sym are ∙ is)) none said

  assigns_no_primary : named_node p ≡ None → OrderNothing words
  assigns_no_primary none order is = no_primary none (form_of is)

-- a refusal for what the words lack is one for what they order
refused_for : {T : Type 0} (r : Result T WordFault) (Lacks Nothing : Type 0) → (Lacks → Nothing) → IfErr r (IsNoOrder Lacks)
    → IfErr r (IsNoOrder Nothing)
refused_for (Ok x) Lacks Nothing so refused = tt
refused_for (Err fault) Lacks Nothing so (inl (is, missing)) = inl (is, so missing)
refused_for (Err fault) Lacks Nothing so (inr memory) = inr memory

pub crash_refused : (r : Result Order WordFault) (fault : WordFault) (words : List (Bor Text)) (d e : Bor Text)
    → IsNoOrder (named_node (get_or words 1 e).now ≡ None) fault → IsErrAnd r (λ (it : WordFault). it ≡ fault)
    → 2 ≤ length words → length words < 3 → (get_or words 0 d).now ≡ codes "crash" → IfErr r (IsNoOrder (OrderNothing (texts words)))
crash_refused r fault words d e refused is some few begins =
    let n = (get_or words 1 e).now in
    let are : texts words ≡ codes "crash" ∷ n ∷ [] = two_fields words (texts words) (codes "crash") d e refl some few begins in
    refused_for r (named_node n ≡ None) (OrderNothing (texts words)) (crashes_nothing (texts words) n are)
    (passed r fault (named_node n ≡ None) is refused)

pub members_refused : (r : Result Order WordFault) (fault : WordFault) (words : List (Bor Text)) (d e : Bor Text)
    → IsNoOrder (LacksNumber (get_or words 1 e).now) fault → IsErrAnd r (λ (it : WordFault). it ≡ fault)
    → 3 ≤ length words → length words < 4 → (get_or words 0 d).now ≡ codes "assign" → IfErr r (IsNoOrder (OrderNothing (texts words)))
members_refused r fault words d e refused is some few begins =
    let m = (get_or words 1 e).now in
    let p = (get_or words 2 e).now in
    let are : texts words ≡ codes "assign" ∷ m ∷ p ∷ [] = three_fields words (texts words) (codes "assign") d e e refl some few begins in
    refused_for r (LacksNumber m) (OrderNothing (texts words)) (assigns_no_members (texts words) m p are)
    (passed r fault (LacksNumber m) is refused)

pub primary_refused : (r : Result Order WordFault) (fault : WordFault) (words : List (Bor Text)) (d e : Bor Text)
    → IsNoOrder (named_node (get_or words 2 e).now ≡ None) fault → IsErrAnd r (λ (it : WordFault). it ≡ fault)
    → 3 ≤ length words → length words < 4 → (get_or words 0 d).now ≡ codes "assign" → IfErr r (IsNoOrder (OrderNothing (texts words)))
primary_refused r fault words d e refused is some few begins =
    let m = (get_or words 1 e).now in
    let p = (get_or words 2 e).now in
    let are : texts words ≡ codes "assign" ∷ m ∷ p ∷ [] = three_fields words (texts words) (codes "assign") d e e refl some few begins in
    refused_for r (named_node p ≡ None) (OrderNothing (texts words)) (assigns_no_primary (texts words) m p are)
    (passed r fault (named_node p ≡ None) is refused)
