-- The messages and the outputs among effects.
use Rattle.std.proofs.Common.{◌≡◌, ℕ, List, [], ◌∷◌, ◌++◌, map, refl, ap}
use Rattle.agreement.specs.whole_logs.Messages.{Message, Body, Effect}
use Rattle.agreement.specs.whole_logs.Messages.Effect.{To, Out}
use Rattle.ballot_base.specs.declared.status.Progress.{Progress}
use Rattle.agreement.specs.whole_logs.Losses.{Thinned}
use Rattle.agreement.specs.whole_logs.Losses.Thinned.{none, keeps, loses}
use Rattle.agreement.specs.whole_logs.StepOutcome.{message_to_followed}
use Rattle.agreement.specs.World.{messages, outputs}
use Rattle.lists.specs.Lists.{In}
use Rattle.lists.specs.Lists.In.{here, there}

-- messages and outputs of effects that are joined
pub messages-append : {C O : Type 0} (xs ys : List (Effect C O)) → messages (xs ++ ys) ≡ messages xs ++ messages ys
messages-append [] ys = refl
messages-append (To receiver m ∷ xs) ys = ap (λ us. (receiver, m) ∷ us) (messages-append xs ys)
messages-append (Out place o ∷ xs) ys = messages-append xs ys

pub outputs-append : {C O : Type 0} (xs ys : List (Effect C O)) → outputs (xs ++ ys) ≡ outputs xs ++ outputs ys
outputs-append [] ys = refl
outputs-append (To receiver m ∷ xs) ys = outputs-append xs ys
outputs-append (Out place o ∷ xs) ys = ap (λ us. (place, o) ∷ us) (outputs-append xs ys)

-- only messages are missing
pub thinned_outputs : {C O : Type 0} {xs ys : List (Effect C O)} → Thinned xs ys → outputs xs ≡ outputs ys
thinned_outputs none = refl
thinned_outputs (keeps {effect = To receiver m} t) = thinned_outputs t
thinned_outputs (keeps {effect = Out place o} t) = ap (λ us. (place, o) ∷ us) (thinned_outputs t)
thinned_outputs (loses t) = thinned_outputs t

pub thinned_messages : {C O : Type 0} {xs ys : List (Effect C O)} → Thinned xs ys → (x : ℕ × Message C) → In x (messages xs) → In x (messages ys)
thinned_messages none x i = i
thinned_messages (keeps {effect = To receiver m} t) x here = here
thinned_messages (keeps {effect = To receiver m} t) x (there i) = there (thinned_messages t x i)
thinned_messages (keeps {effect = Out place o} t) x i = thinned_messages t x i
thinned_messages (loses t) x i = there (thinned_messages t x i)

-- messages to nodes with a progress have no output, and say one thing
pub outputs_of_messages : {C O : Type 0} (id : ℕ) (body : Body C) (progress : List Progress) → outputs (message_to_followed O id body progress) ≡ []
outputs_of_messages id body [] = refl
outputs_of_messages id body (reached ∷ progress) = outputs_of_messages id body progress

pub said_to_followed : {C : Type 0} (O : Type 0) (P : ℕ × Message C → Type 0) (id : ℕ) (body : Body C) (progress : List Progress) →
    ((receiver : ℕ) → P (receiver, record { from = id; body = body })) →
    (x : ℕ × Message C) → In x (messages (message_to_followed O id body progress)) → P x
said_to_followed O P id body [] f x i = elim i [ ]
said_to_followed O P id body (reached ∷ progress) f x here = f reached.member
said_to_followed O P id body (reached ∷ progress) f x (there i) = said_to_followed O P id body progress f x i

-- effects with no message among them are their outputs
pub outs_alone : {C O : Type 0} (xs : List (Effect C O)) → messages xs ≡ [] → xs ≡ map (λ (left : ℕ × O). let e : Effect C O = Out left.0 left.1 in e) (outputs xs)
outs_alone [] e = refl
outs_alone (To r m ∷ xs) e = cc
outs_alone (Out k o ∷ xs) e = ap (λ us. Out k o ∷ us) (outs_alone xs e)
