-- Hellos.antt: a hello that is read piece by piece.
use Rattle.std.proofs.Common.{◌≡◌, ℕ, suc, ◌+◌, ◌<◌, ◌≤◌, Bool, true, false, nat_lt, Option, Some, None, List, [], ◌∷◌, ◌++◌, length, take, Result, Ok, Err, refl, sym, ap, ◌∙◌, subst, arith, append_assoc}
use Rattle.std.specs.Prelude.{◌≢◌, if◌then◌else◌}
use Rattle.std.specs.Io.KnownBytes.{Consumes}
use Rattle.std.proofs.lemmas.List.{length-take-le, take_all}
use Rattle.links.specs.declared.seal.hello.Hello.{Hello}
use Rattle.links.specs.declared.seal.hello.HelloFault.{HelloFault}
use Rattle.links.specs.declared.seal.hello.HelloFault.TheVariants.{Unfinished, Version, Rules, Cluster}
use Rattle.links.specs.declared.seal.membership.Membership.{Membership}
use Rattle.links.specs.seal.Hellos.{and_then, checked, cluster_checked, hello_at, hello_of, rules_at, rules_checked, version_at, version_checked, whole}
use Rattle.links.specs.Handshakes.{ReadsBehind}

-- ---- 55 bytes are a whole hello, or have a fault

abbrev NotUnfinished : {A : Type 0} → Result A HelloFault → Type 0
NotUnfinished {A} result = result ≡ Err Unfinished → ⊥

fault_is : {A : Type 0} (f g : HelloFault) (r s : Result A HelloFault) → r ≡ Err f → s ≡ Err g → r ≡ s → f ≡ g
fault_is f g r s a b e = cc

-- a check, by whether bytes are missing and whether they are right
abbrev chosen : Bool → Bool → HelloFault → Result (Unit {0}) HelloFault
chosen missing is_right fault = if missing then Err Unfinished else if is_right then Ok tt else Err fault

chosen_not : (is_right : Bool) (fault : HelloFault) → fault ≢ Unfinished → NotUnfinished (chosen false is_right fault)
chosen_not true fault other e = absurd cc
chosen_not false fault other e = other (fault_is fault Unfinished _ _ refl refl e)

checked_not : (count : ℕ) (b : Bool) (fault : HelloFault) (bytes : List ℕ) → nat_lt (length bytes) count ≡ false → fault ≢ Unfinished → NotUnfinished (checked count b fault bytes)
checked_not count b fault bytes enough other e =
    chosen_not b fault other (sym (ap (λ (t : Bool). chosen t b fault) enough) ∙ e)

abbrev refused : HelloFault → Result (Unit {0}) HelloFault
refused fault = Err fault

then_not : (r : Result (Unit {0}) HelloFault) (next : Result Hello HelloFault) → NotUnfinished r → NotUnfinished next → NotUnfinished (and_then r next)
then_not (Ok x) next a b e = b e
then_not (Err f) next a b e = a (ap (λ (g : HelloFault). refused g) (fault_is f Unfinished _ _ refl refl e))

enough : (count : ℕ) (bytes : List ℕ) → length bytes ≡ 55 → nat_lt 55 count ≡ false → nat_lt (length bytes) count ≡ false
enough count bytes size e = ap (λ (n : ℕ). nat_lt n count) size ∙ e

version_other : (n : ℕ) → Version n ≢ Unfinished
version_other n e = cc

rules_other : (n : ℕ) → Rules n ≢ Unfinished
rules_other n e = cc

cluster_other : Cluster ≢ Unfinished
cluster_other e = cc

abbrev whole_by : Bool → Hello → Result Hello HelloFault
whole_by missing hello = if missing then Err Unfinished else Ok hello

hello_not : (hello : Hello) → NotUnfinished (whole_by false hello)
hello_not hello e = cc

whole_not : (bytes : List ℕ) → length bytes ≡ 55 → NotUnfinished (whole bytes)
whole_not bytes size e = hello_not (hello_at bytes) (sym (ap (λ (t : Bool). whole_by t (hello_at bytes)) (enough 55 bytes size refl)) ∙ e)

pub not_unfinished : (rules : ℕ) (membership : Membership) (bytes : List ℕ) (fault : HelloFault) → length bytes ≡ 55 → hello_of rules membership bytes ≡ Err fault → fault ≢ Unfinished
not_unfinished rules membership bytes fault size said is =
    then_not (version_checked bytes) _ (checked_not 2 _ (Version (version_at bytes)) bytes (enough 2 bytes size refl) (version_other (version_at bytes)))
    (then_not (rules_checked rules bytes) _ (checked_not 6 _ (Rules (rules_at bytes)) bytes (enough 6 bytes size refl) (rules_other (rules_at bytes)))
    (then_not (cluster_checked membership bytes) (whole bytes) (checked_not 22 _ Cluster bytes (enough 22 bytes size refl) cluster_other) (whole_not bytes size)))
    (said ∙ ap (λ (f : HelloFault). Err f) is)

-- ---- pieces

pub take_behind : (front room : List ℕ) (n count : ℕ) → length front ≡ n → take (n + count) (front ++ room) ≡ front ++ take count room
take_behind [] room n count size = let e : n + count ≡ count = omega (arith, size) in ap (λ (m : ℕ). take m room) e
take_behind (x ∷ front) room n count size =
    let e : n + count ≡ suc (length front + count) = omega (arith, size) in
    ap (λ (m : ℕ). take m (x ∷ (front ++ room))) e ∙ ap (λ (l : List ℕ). x ∷ l) (take_behind front room (length front) count refl)

pub piece_behind : (from count : ℕ) (old front room : List ℕ) (unread left : Option (List ℕ)) → front ≡ take from old → length front ≡ from → from + length room ≤ 55
    → 0 < count → count ≤ length room → Consumes unread left (take count room)
    → ReadsBehind from old (from + count) (front ++ room) unread left
piece_behind from count old front room unread left is size all some few gave =
    let long : length (take count room) ≡ count = length-take-le count room few in
    record {
      piece = take count room;
      some = omega (arith, some, long);
      ends = omega (arith, long);
      within = omega (arith, all, few);
      front = take_behind front room from count size ∙ ap (λ (l : List ℕ). l ++ take count room) is;
      read = gave;
    }

-- what is read in two steps is read in one
pub consumes_join : (old mid new : Option (List ℕ)) (xs ys : List ℕ) → Consumes old mid xs → Consumes mid new ys → Consumes old new (xs ++ ys)
consumes_join None mid new xs ys first second = tt
consumes_join (Some o) None new xs ys first second = absurd first
consumes_join (Some o) (Some m) None xs ys first second = absurd second
consumes_join (Some o) (Some m) (Some n) xs ys first second = first ∙ ap (λ (l : List ℕ). xs ++ l) second ∙ sym (append_assoc xs ys n)

pub read_more : (known mid now : Option (List ℕ)) (from end : ℕ) (old new : List ℕ) → Consumes known mid (take from old) → ReadsBehind from old end new mid now → Consumes known now (take end new)
read_more known mid now from end old new before h =
    subst (λ (l : List ℕ). Consumes known now l) (sym h.front) (consumes_join known mid now (take from old) h.piece before h.read)

pub read_all : (known now : Option (List ℕ)) (end : ℕ) (bytes : List ℕ) → length bytes ≤ end → Consumes known now (take end bytes) → Consumes known now bytes
read_all known now end bytes size h = subst (λ (l : List ℕ). Consumes known now l) (take_all end bytes size) h
