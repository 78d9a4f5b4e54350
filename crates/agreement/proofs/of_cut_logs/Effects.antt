-- Effects.antt: the messages and the outputs among effects.
use Rattle.std.proofs.Common.{◌≡◌, ℕ, List, [], ◌∷◌, ◌++◌, map, refl, ap}
use Rattle.ballot_base.specs.declared.message.Effect.{Effect}
use Rattle.ballot_base.specs.declared.message.Effect.TheVariants.{To, Out}
use Rattle.agreement.specs.cut_logs.World.{messages, outputs}

-- messages and outputs of effects that are joined
pub messages-append : {C O : Type 0} (xs ys : List (Effect C O)) → messages (xs ++ ys) ≡ messages xs ++ messages ys
messages-append [] ys = refl
messages-append (To receiver m ∷ xs) ys = ap (λ us. (receiver, m) ∷ us) (messages-append xs ys)
messages-append (Out place o ∷ xs) ys = messages-append xs ys

pub outputs-append : {C O : Type 0} (xs ys : List (Effect C O)) → outputs (xs ++ ys) ≡ outputs xs ++ outputs ys
outputs-append [] ys = refl
outputs-append (To receiver m ∷ xs) ys = outputs-append xs ys
outputs-append (Out place o ∷ xs) ys = ap (λ us. (place, o) ∷ us) (outputs-append xs ys)

-- effects with no message among them are their outputs
pub outs_alone : {C O : Type 0} (xs : List (Effect C O)) → messages xs ≡ [] → xs ≡ map (λ (left : ℕ × O). let e : Effect C O = Out left.0 left.1 in e) (outputs xs)
outs_alone [] e = refl
outs_alone (To r m ∷ xs) e = cc
outs_alone (Out k o ∷ xs) e = ap (λ us. Out k o ∷ us) (outs_alone xs e)
