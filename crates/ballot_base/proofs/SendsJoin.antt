-- SendsJoin.antt: messages sent one after another are one send.
use Rattle.std.proofs.Common.{◌≡◌, ℕ, ◌+◌, ◌<◌, Bool, true, false, ◌&&◌, cond, List, [], ◌∷◌, ◌++◌, length, get_or, map, take, refl, ap, sym, ◌∙◌, subst, append_assoc}
use Rattle.std.proofs.lemmas.Bool.{and_from}
use Rattle.std.specs.List.{flat_map}
use Rattle.std.proofs.lemmas.List.{take_more, map-append, append-nil}
use Rattle.std.proofs.lemmas.List.Concat.{flat_map-append}
use Rattle.ballot_base.specs.declared.message.Message.{Message}
use Rattle.ballot_base.specs.declared.message.Effect.{Effect}
use Rattle.ballot_base.specs.declared.message.Effect.TheVariants.{To}
use Rattle.ballot_base.specs.Losses.Thinned.{none, keeps, loses}
use Rattle.ballot_base.proofs.ThinnedEffects.{Thinned-append}
use Rattle.ballot_base.specs.Sends.{Sends}
use Rattle.lists.specs.Lists.{IsPrefixOf}

-- one message, by what `push` answered
pub Sends-pushed : {C O : Type 0} (old new : List (Effect C O)) (receiver : ℕ) (m : Message C) (sent : Bool) →
    new ≡ cond sent (old ++ To receiver m ∷ []) old → Sends old new (To receiver m ∷ []) sent
Sends-pushed old new receiver m true e =
    record { given = To receiver m ∷ []; appended = e; thinned = keeps none; exact = λ _. refl; idle = λ _. refl }
Sends-pushed old new receiver m false e =
    record { given = []; appended = e ∙ sym (append-nil old); thinned = loses none; exact = λ h. cc; idle = λ h. cc }

-- a message that could not be copied
pub Sends-lost : {C O : Type 0} (old : List (Effect C O)) (receiver : ℕ) (m : Message C) →
    Sends old old (To receiver m ∷ []) false
Sends-lost old receiver m = Sends-pushed old old receiver m false refl

-- nothing to send
pub Sends-nothing : {C O : Type 0} (old : List (Effect C O)) → Sends old old [] true
Sends-nothing old =
    record { given = []; appended = sym (append-nil old); thinned = none; exact = λ _. refl; idle = λ _. refl }

-- lists that are joined to nothing are nothing
append_nothing : {X : Type 0} (xs ys : List X) → xs ++ ys ≡ [] → (xs ≡ []) × (ys ≡ [])
append_nothing [] ys e = (refl, e)
append_nothing (x ∷ xs) ys e = cc

-- a send after a send
pub Sends-then : {C O : Type 0} {old mid new xs ys : List (Effect C O)} {first second : Bool} →
    Sends old mid xs first → Sends mid new ys second → Sends old new (xs ++ ys) (first && second)
Sends-then {old = old} {mid = mid} {xs = xs} {ys = ys} {first = first} {second = second} p q =
    record {
      given = p.given ++ q.given;
      appended = q.appended ∙ ap (λ zs. zs ++ q.given) p.appended ∙ append_assoc old p.given q.given;
      thinned = Thinned-append p.thinned q.thinned;
      exact = both first second p.exact q.exact;
      idle = λ h. none_lost first second (append_nothing xs ys h) p.idle q.idle;
    }
  where
    none_lost : {A B : Type 0} {us : List A} {vs : List B} (first second : Bool) → (us ≡ []) × (vs ≡ []) →
        (us ≡ [] → first ≡ true) → (vs ≡ [] → second ≡ true) → (first && second) ≡ true
    none_lost first second e f g = and_from first second (f e.0) (g e.1)

    both : {X : Type 0} {as' bs us vs : List X} (first second : Bool) →
        (first ≡ true → as' ≡ us) → (second ≡ true → bs ≡ vs) → (first && second) ≡ true →
        as' ++ bs ≡ us ++ vs
    both true true f g h = let a = f refl in let b = g refl in cc
    both true false f g h = cc
    both false second f g h = cc

-- one receiver more
pub Sends-more : {X C O : Type 0} (f : X → Effect C O) (xs : List X) (i : ℕ) (d : X)
    {old mid new : List (Effect C O)} {first second : Bool} → i < length xs →
    Sends old mid (map f (take i xs)) first → Sends mid new (f (get_or xs i d) ∷ []) second →
    Sends old new (map f (take (i + 1) xs)) (first && second)
Sends-more f xs i d {old = old} {new = new} {first = first} {second = second} below p q =
    let e : map f (take (i + 1) xs) ≡ map f (take i xs) ++ f (get_or xs i d) ∷ [] =
    ap (map f) (take_more xs i d below) ∙ map-append f (take i xs) (get_or xs i d ∷ []) in
    subst (λ ys. Sends old new ys (first && second)) (sym e) (Sends-then p q)

-- one receiver more, of which nothing or something is sent
pub Sends-more_of : {X C O : Type 0} (f : X → List (Effect C O)) (xs : List X) (i : ℕ) (d : X)
    {old mid new : List (Effect C O)} {first second : Bool} → i < length xs →
    Sends old mid (flat_map f (take i xs)) first → Sends mid new (f (get_or xs i d)) second →
    Sends old new (flat_map f (take (i + 1) xs)) (first && second)
Sends-more_of f xs i d {old = old} {new = new} {first = first} {second = second} below p q =
    let e : flat_map f (take (i + 1) xs) ≡ flat_map f (take i xs) ++ f (get_or xs i d) =
    ap (flat_map f) (take_more xs i d below)
    ∙ flat_map-append f (take i xs) (get_or xs i d ∷ [])
    ∙ ap (λ ys. flat_map f (take i xs) ++ ys) (append-nil (f (get_or xs i d))) in
    subst (λ ys. Sends old new ys (first && second)) (sym e) (Sends-then p q)

-- what a send leaves begins with what was there
pub prefix_sent : {C O : Type 0} {old new xs : List (Effect C O)} {whole : Bool} → Sends old new xs whole → IsPrefixOf old new
prefix_sent p = record { rest = p.given; is = p.appended }
