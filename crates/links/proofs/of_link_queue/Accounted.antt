-- Accounted.antt: what becomes of the messages that a queue is asked to queue.
use Rattle.std.proofs.Common.{◌≡◌, ℕ, ◌-◌, Bool, true, false, if◌then◌else◌, List, [], ◌∷◌, ◌++◌, length, take, refl, sym, ap, ap₂, ◌∙◌, subst, append_assoc}
use Rattle.std.proofs.lemmas.List.{append-nil, map-append}
use Rattle.ballot_base.specs.declared.message.Message.{Message}
use Rattle.links.specs.declared.link_queue.queue.Waiting.{Waiting}
use Rattle.links.specs.link_queue.Queues.{covers_newest, still_waiting}
use Rattle.links.specs.link_queue.Theorems.{IsWithin, Accounts, ComesOutInOrder, NothingElseIsLost, messages}
use Rattle.links.specs.link_queue.Theorems.Ran.{opens, queues, drops, takes}
use Rattle.links.specs.link_queue.Theorems.IsWithin.{nothing, keeps, skips}
use Rattle.links.specs.link_queue.Theorems.Accounts.{begins, stands, replaces, loses}
use Rattle.links.proofs.of_link_queue.Kept.{covered_last}

-- ---- what is accounted for is in order

same_fronts : {X : Type 0} (a b : List X) (x y : X) → a ++ x ∷ [] ≡ b ++ y ∷ [] → a ≡ b
same_fronts [] [] x y e = refl
same_fronts [] (z ∷ []) x y e = cc
same_fronts [] (z ∷ u ∷ b) x y e = cc
same_fronts (z ∷ []) [] x y e = cc
same_fronts (z ∷ u ∷ a) [] x y e = cc
same_fronts (z ∷ a) (w ∷ b) x y e =
    let first : z ≡ w = cc in
    let rest : a ++ x ∷ [] ≡ b ++ y ∷ [] = cc in
    ap₂ (λ (u : _) (us : List _). u ∷ us) first (same_fronts a b x y rest)

none_last : {X : Type 0} (xs : List X) (x : X) → [] ≡ xs ++ x ∷ [] → ⊥
none_last [] x e = cc
none_last (y ∷ xs) x e = cc

without_last : {X : Type 0} (all ys : List X) (xs : List X) (x : X) → IsWithin all ys → all ≡ xs ++ x ∷ [] → IsWithin xs ys
without_last all ys xs x nothing e = absurd (none_last xs x e)
without_last all ys xs x (keeps {xs = as'} {ys = bs} y w) e =
    subst (λ (l : List _). IsWithin l (bs ++ y ∷ [])) (same_fronts as' xs y x e) (skips y w)
without_last all ys xs x (skips {ys = bs} y w) e = skips y (without_last all bs xs x w e)

account_within : {C : Type 0} (asked out : List (Message C)) (dropped : ℕ) → Accounts asked out dropped → IsWithin out asked
account_within asked out dropped begins = nothing
account_within asked out dropped (stands {asked = a} {out = o} message p) = keeps message (account_within a o dropped p)
account_within asked out dropped (replaces {asked = a} o message older p c) =
    keeps message (without_last (o ++ older ∷ []) a o older (account_within a (o ++ older ∷ []) dropped p) refl)
account_within asked out dropped (loses {asked = a} {dropped = d} message p) = skips message (account_within a out d p)

-- ---- every run is accounted for

messages_last : {C : Type 0} (taken : List (Message C)) (ws : List (Waiting C)) (w : Waiting C)
    → taken ++ messages (ws ++ w ∷ []) ≡ (taken ++ messages ws) ++ w.message ∷ []
messages_last {C} taken ws w =
    ap (λ (l : List (Message C)). taken ++ l) (map-append (λ (each : Waiting C). each.message) ws (w ∷ []))
    ∙ sym (append_assoc taken (messages ws) (w.message ∷ []))

queued : {C : Type 0} (asked taken : List (Message C)) (dropped : ℕ) (waiting : List (Waiting C)) (message : Message C) (size : ℕ)
    → Accounts asked (taken ++ messages waiting) dropped
    → Accounts (asked ++ message ∷ []) (taken ++ messages (still_waiting message waiting ++ (record { message = message; size = size }) ∷ [])) dropped
queued {C} asked taken dropped waiting message size p = by (covers_newest message waiting) refl
  where
    now : Waiting C
    now = record { message = message; size = size }

    by : (b : Bool) → covers_newest message waiting ≡ b
        → Accounts (asked ++ message ∷ []) (taken ++ messages ((if b then take (length waiting - 1) waiting else waiting) ++ (record { message = message; size = size }) ∷ [])) dropped
    by false e = subst (λ (l : List (Message C)). Accounts (asked ++ message ∷ []) l dropped) (sym (messages_last taken waiting (record { message = message; size = size })))
        (stands message p)
    by true e =
        let c = covered_last message waiting e in
        let front : List (Waiting C) = take (length waiting - 1) waiting in
        let before : taken ++ messages waiting ≡ (taken ++ messages (take (length waiting - 1) waiting)) ++ c.newest.message ∷ [] =
        ap (λ (l : List (Waiting C)). taken ++ messages l) c.is ∙ messages_last taken (take (length waiting - 1) waiting) c.newest in
        subst (λ (l : List (Message C)). Accounts (asked ++ message ∷ []) l dropped) (sym (messages_last taken (take (length waiting - 1) waiting) (record { message = message; size = size })))
        (replaces (taken ++ messages (take (length waiting - 1) waiting)) message c.newest.message (subst (λ (l : List (Message C)). Accounts asked l dropped) before p) c.covered)

pub nothing_else : (C : Type 0) → NothingElseIsLost C
nothing_else C asked taken dropped waiting opens = begins
nothing_else C asked taken dropped waiting (queues {asked = a} {waiting = w} message size r) = queued a taken dropped w message size (nothing_else C a taken dropped w r)
nothing_else C asked taken dropped waiting (drops {asked = a} {dropped = d} message r) = loses message (nothing_else C a taken d waiting r)
nothing_else C asked taken dropped waiting (takes {taken = t} {waiting = w} r) =
    subst (λ (l : List (Message C)). Accounts asked l dropped) (sym (append-nil (t ++ messages w))) (nothing_else C asked t dropped w r)

pub in_order : (C : Type 0) → ComesOutInOrder C
in_order C asked taken dropped waiting r = account_within asked (taken ++ messages waiting) dropped (nothing_else C asked taken dropped waiting r)
