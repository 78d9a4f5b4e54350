-- Parting.antt: messages are parted from effects one by one.
use Rattle.std.proofs.Common.{◌≡◌, ℕ, ◌+◌, ◌≤◌, ◌<◌, Bool, true, false, List, [], ◌∷◌, ◌++◌, length, take, drop, get_or, refl, ap, sym, ◌∙◌, subst, append_assoc, arith}
use Rattle.std.specs.List.{remove}
use Rattle.std.proofs.lemmas.List.{append-nil, take-append-drop, take_more, drop_more, drop-append-le, length-append, length-drop, length-take-le, get_or_default}
use Rattle.std.proofs.Math.Seq.{drop-length, take-length}
use Rattle.ballot_base.specs.declared.message.Message.{Message}
use Rattle.ballot_base.specs.declared.message.Effect.{Effect}
use Rattle.ballot_base.specs.declared.message.Effect.TheVariants.{To, Out}
use Rattle.ballot_base.specs.Losses.{Thinned}
use Rattle.ballot_base.specs.Losses.Thinned.{none, keeps, loses}
use Rattle.agreement.specs.cut_logs.World.{messages, outputs}
use Rattle.ballot_base.specs.StepOutcome.{is_message}
use Rattle.master.specs.Inside.Losses.{Parted}
use Rattle.agreement.proofs.of_cut_logs.Effects.{messages-append, outputs-append}

-- effects that are parted up to an index
pub record Parting {C O : Type 0} (old : List (Effect C O)) (from index : ℕ) (now : List (Effect C O)) (at : ℕ)
    (sent more : List (ℕ × Message C)) (whole : Bool) : Type 0 where
  pub staying : List (Effect C O)
  pub now_is : now ≡ staying ++ drop index old
  pub at_is : at ≡ length staying
  pub parted : Parted (drop from (take index old)) (take from old) staying sent more whole

thinned_snoc : {C O : Type 0} {xs ys : List (Effect C O)} (e : Effect C O) → Thinned xs ys → Thinned (xs ++ e ∷ []) (ys ++ e ∷ [])
thinned_snoc e none = keeps none
thinned_snoc e (keeps t) = keeps (thinned_snoc e t)
thinned_snoc e (loses t) = loses (thinned_snoc e t)

thinned_lost : {C O : Type 0} {xs ys : List (Effect C O)} (e : Effect C O) → is_message e ≡ true → Thinned xs ys → Thinned xs (ys ++ e ∷ [])
thinned_lost (To r m) is none = loses none
thinned_lost (Out k o) is none = cc
thinned_lost e is (keeps t) = keeps (thinned_lost e is t)
thinned_lost e is (loses t) = loses (thinned_lost e is t)

-- a list with something at its end has something
ends_some : {X : Type 0} {P : Type 0} (xs : List X) (x : X) → xs ++ x ∷ [] ≡ [] → P
ends_some [] x e = cc
ends_some (y ∷ xs) x e = cc

-- an output stays
parted_out : {C O : Type 0} (given left staying : List (Effect C O)) (sent more : List (ℕ × Message C)) (whole : Bool) (e : Effect C O) →
    is_message e ≡ false → Parted given left staying sent more whole → Parted (given ++ e ∷ []) left (staying ++ e ∷ []) sent more whole
parted_out given left staying sent more whole (To r m) is p = cc
parted_out {C = C} {O = O} given left staying sent more whole (Out k o) is p =
    record {
      kept = p.kept ++ Out k o ∷ [];
      thinned = thinned_snoc (Out k o) p.thinned;
      exact = λ h. ap (λ us. us ++ Out k o ∷ []) (p.exact h);
      idle = λ h. ends_some given (Out k o) h;
      sent_is = p.sent_is ∙ ap (λ us. sent ++ us) (sym (messages-append p.kept (Out k o ∷ []) ∙ append-nil (messages p.kept)));
      outputs_are = outputs-append staying (Out k o ∷ []) ∙ ap (λ us. us ++ (k, o) ∷ []) p.outputs_are
          ∙ append_assoc (outputs left) (outputs p.kept) ((k, o) ∷ [])
          ∙ ap (λ us. outputs left ++ us) (sym (outputs-append p.kept (Out k o ∷ [])));
      messages_are = messages-append staying (Out k o ∷ []) ∙ append-nil (messages staying) ∙ p.messages_are;
    }

-- a message goes after those that were sent
parted_sent : {C O : Type 0} (given left staying : List (Effect C O)) (sent more now : List (ℕ × Message C)) (whole : Bool) (e : Effect C O) →
    is_message e ≡ true → now ≡ more ++ messages (e ∷ []) → Parted given left staying sent more whole → Parted (given ++ e ∷ []) left staying sent now whole
parted_sent given left staying sent more now whole (Out k o) is pushed p = cc
parted_sent given left staying sent more now whole (To r m) is pushed p =
    record {
      kept = p.kept ++ To r m ∷ [];
      thinned = thinned_snoc (To r m) p.thinned;
      exact = λ h. ap (λ us. us ++ To r m ∷ []) (p.exact h);
      idle = λ h. ends_some given (To r m) h;
      sent_is = pushed ∙ ap (λ us. us ++ (r, m) ∷ []) p.sent_is ∙ append_assoc sent (messages p.kept) ((r, m) ∷ [])
          ∙ ap (λ us. sent ++ us) (sym (messages-append p.kept (To r m ∷ [])));
      outputs_are = p.outputs_are ∙ ap (λ us. outputs left ++ us) (sym (outputs-append p.kept (To r m ∷ []) ∙ append-nil (outputs p.kept)));
      messages_are = p.messages_are;
    }

-- or is lost
parted_lost : {C O : Type 0} (given left staying : List (Effect C O)) (sent more now : List (ℕ × Message C)) (whole : Bool) (e : Effect C O) →
    is_message e ≡ true → now ≡ more → Parted given left staying sent more whole → Parted (given ++ e ∷ []) left staying sent now false
parted_lost given left staying sent more now whole e is same p =
    record {
      kept = p.kept;
      thinned = thinned_lost e is p.thinned;
      exact = λ h. cc;
      idle = λ h. ends_some given e h;
      sent_is = same ∙ p.sent_is;
      outputs_are = p.outputs_are;
      messages_are = p.messages_are;
    }

remove_after : {X : Type 0} (xs ys : List X) (x : X) → remove (xs ++ x ∷ ys) (length xs) ≡ xs ++ ys
remove_after [] ys x = refl
remove_after (z ∷ xs) ys x = ap (λ us. z ∷ us) (remove_after xs ys x)

get_after : {X : Type 0} (xs ys : List X) (x d : X) → get_or (xs ++ x ∷ ys) (length xs) d ≡ x
get_after [] ys x d = refl
get_after (z ∷ xs) ys x d = get_after xs ys x d

-- the next effect
next_given : {X : Type 0} (old : List X) (from index : ℕ) (d : X) → from ≤ index → index < length old →
    drop from (take (index + 1) old) ≡ drop from (take index old) ++ get_or old index d ∷ []
next_given old from index d rising below =
    let long = length-take-le index old (omega (arith, below)) in
    ap (drop from) (take_more old index d below)
    ∙ drop-append-le from (take index old) (get_or old index d ∷ []) (omega (arith, long, rising))

pub parting_begins : {C O : Type 0} (old : List (Effect C O)) (from : ℕ) (sent : List (ℕ × Message C)) → from ≤ length old →
    Parting old from from old from sent sent true
parting_begins {C = C} {O = O} old from sent within =
    record {
      staying = take from old;
      now_is = sym (take-append-drop from old);
      at_is = sym (length-take-le from old within);
      parted = subst (λ (us : List (Effect C O)). Parted us (take from old) (take from old) sent sent true) (sym none_yet)
          (record {
            kept = [];
            thinned = none;
            exact = λ h. refl;
            idle = λ h. refl;
            sent_is = sym (append-nil sent);
            outputs_are = sym (append-nil (outputs (take from old)));
            messages_are = refl;
          });
    }
  where
    none_yet : drop from (take from old) ≡ []
    none_yet = let long = length-take-le from old within in
        ap (λ k. drop k (take from old)) (sym long) ∙ drop-length (take from old)

-- the effect that is next
pub parting_at : {C O : Type 0} {old now : List (Effect C O)} {from index at : ℕ} {sent more : List (ℕ × Message C)} {whole : Bool} (e : Effect C O) →
    Parting old from index now at sent more whole → index < length old → e ≡ get_or now at e → e ≡ get_or old index e
parting_at {old = old} {now = now} {index = index} {at = at} e p below read =
    read ∙ ap (λ us. get_or us at e) (p.now_is ∙ ap (λ us. p.staying ++ us) (drop_more old index e below))
    ∙ ap (λ k. get_or (p.staying ++ get_or old index e ∷ drop (index + 1) old) k e) p.at_is
    ∙ get_after p.staying (drop (index + 1) old) (get_or old index e) e

pub parting_below : {C O : Type 0} {old now : List (Effect C O)} {from index at : ℕ} {sent more : List (ℕ × Message C)} {whole : Bool} →
    Parting old from index now at sent more whole → index < length old → at < length now
parting_below {old = old} {index = index} p below =
    let e = ap length p.now_is in let f = p.at_is in
    omega (arith, e, f, below, length-append p.staying (drop index old), length-drop index old)

pub parting_out : {C O : Type 0} {old now now' : List (Effect C O)} {from index at at' : ℕ} {sent more more' : List (ℕ × Message C)} {whole whole' : Bool} (e : Effect C O) →
    Parting old from index now at sent more whole → from ≤ index → index < length old → e ≡ get_or now at e → is_message e ≡ false →
    now' ≡ now → at' ≡ at + 1 → more' ≡ more → whole' ≡ whole →
    Parting old from (index + 1) now' at' sent more' whole'
parting_out {C = C} {O = O} {old = old} {now = now} {from = from} {index = index} {at = at} {sent = sent} {more = more} {more' = more'} {whole = whole} {whole' = whole'} e p rising below read is a b c d =
    let same = parting_at e p below read in
    let long = length-append p.staying (e ∷ []) in let q = p.at_is in
    record {
      staying = p.staying ++ e ∷ [];
      now_is = a ∙ p.now_is ∙ ap (λ us. p.staying ++ us) (drop_more old index e below ∙ ap (λ x. x ∷ drop (index + 1) old) (sym same))
          ∙ sym (append_assoc p.staying (e ∷ []) (drop (index + 1) old));
      at_is = omega (arith, b, q, long);
      parted = subst (λ (us : List (Effect C O)). Parted us (take from old) (p.staying ++ e ∷ []) sent more' whole')
          (sym (next_given old from index e rising below ∙ ap (λ x. drop from (take index old) ++ x ∷ []) (sym same)))
          (subst (λ (us : List (ℕ × Message C)). Parted (drop from (take index old) ++ e ∷ []) (take from old) (p.staying ++ e ∷ []) sent us whole') (sym c)
          (subst (λ (w : Bool). Parted (drop from (take index old) ++ e ∷ []) (take from old) (p.staying ++ e ∷ []) sent more w) (sym d)
          (parted_out (drop from (take index old)) (take from old) p.staying sent more whole e is p.parted)));
    }

-- an effect that is read twice
seen_twice : {C O : Type 0} {old now : List (Effect C O)} {from index at : ℕ} {sent more : List (ℕ × Message C)} {whole : Bool} (e seen : Effect C O) →
    Parting old from index now at sent more whole → index < length old → e ≡ get_or now at e → seen ≡ get_or now at seen → e ≡ seen
seen_twice {now = now} {at = at} e seen p below read read' =
    read ∙ get_or_default now at e seen (parting_below p below) ∙ sym read'

-- a message is taken out
taken_out : {C O : Type 0} {old now now' : List (Effect C O)} {from index at : ℕ} {sent more : List (ℕ × Message C)} {whole : Bool} (e : Effect C O) →
    (p : Parting old from index now at sent more whole) → index < length old → now' ≡ remove now at → now' ≡ p.staying ++ drop (index + 1) old
taken_out {old = old} {index = index} {at = at} e p below removed =
    removed ∙ ap (λ us. remove us at) (p.now_is ∙ ap (λ us. p.staying ++ us) (drop_more old index e below))
    ∙ ap (λ k. remove (p.staying ++ get_or old index e ∷ drop (index + 1) old) k) p.at_is
    ∙ remove_after p.staying (drop (index + 1) old) (get_or old index e)

pub parting_sent : {C O : Type 0} {old now now' : List (Effect C O)} {from index at at' : ℕ} {sent more more' : List (ℕ × Message C)} {whole whole' : Bool} (e seen : Effect C O) →
    Parting old from index now at sent more whole → from ≤ index → index < length old → e ≡ get_or now at e → seen ≡ get_or now at seen → is_message seen ≡ true →
    now' ≡ remove now at → at' ≡ at → more' ≡ more ++ messages (e ∷ []) → whole' ≡ whole →
    Parting old from (index + 1) now' at' sent more' whole'
parting_sent {C = C} {O = O} {old = old} {from = from} {index = index} {sent = sent} {more = more} {more' = more'} {whole = whole} {whole' = whole'} e seen p rising below read read' seen_is a b c d =
    let same = parting_at e p below read in
    let is : is_message e ≡ true = ap is_message (seen_twice e seen p below read read') ∙ seen_is in
    record {
      staying = p.staying;
      now_is = taken_out e p below a;
      at_is = b ∙ p.at_is;
      parted = subst (λ (us : List (Effect C O)). Parted us (take from old) p.staying sent more' whole')
          (sym (next_given old from index e rising below ∙ ap (λ x. drop from (take index old) ++ x ∷ []) (sym same)))
          (subst (λ (w : Bool). Parted (drop from (take index old) ++ e ∷ []) (take from old) p.staying sent more' w) (sym d)
          (parted_sent (drop from (take index old)) (take from old) p.staying sent more more' whole e is c p.parted));
    }

pub parting_lost : {C O : Type 0} {old now now' : List (Effect C O)} {from index at at' : ℕ} {sent more more' : List (ℕ × Message C)} {whole whole' : Bool} (e seen : Effect C O) →
    Parting old from index now at sent more whole → from ≤ index → index < length old → e ≡ get_or now at e → seen ≡ get_or now at seen → is_message seen ≡ true →
    now' ≡ remove now at → at' ≡ at → more' ≡ more → whole' ≡ false →
    Parting old from (index + 1) now' at' sent more' whole'
parting_lost {C = C} {O = O} {old = old} {from = from} {index = index} {sent = sent} {more = more} {more' = more'} {whole = whole} {whole' = whole'} e seen p rising below read read' seen_is a b c d =
    let same = parting_at e p below read in
    let is : is_message e ≡ true = ap is_message (seen_twice e seen p below read read') ∙ seen_is in
    record {
      staying = p.staying;
      now_is = taken_out e p below a;
      at_is = b ∙ p.at_is;
      parted = subst (λ (us : List (Effect C O)). Parted us (take from old) p.staying sent more' whole')
          (sym (next_given old from index e rising below ∙ ap (λ x. drop from (take index old) ++ x ∷ []) (sym same)))
          (subst (λ (w : Bool). Parted (drop from (take index old) ++ e ∷ []) (take from old) p.staying sent more' w) (sym d)
          (parted_lost (drop from (take index old)) (take from old) p.staying sent more more' whole e is c p.parted));
    }

pub parting_ends : {C O : Type 0} {old now : List (Effect C O)} {from index at : ℕ} {sent more : List (ℕ × Message C)} {whole : Bool} →
    Parting old from index now at sent more whole → index ≡ length old → Parted (drop from old) (take from old) now sent more whole
parting_ends {C = C} {O = O} {old = old} {now = now} {from = from} {sent = sent} {more = more} {whole = whole} p past =
    subst (λ (us : List (Effect C O)). Parted (drop from old) (take from old) us sent more whole)
    (sym (p.now_is ∙ ap (λ us. p.staying ++ us) (ap (λ k. drop k old) past ∙ drop-length old) ∙ append-nil p.staying))
    (subst (λ (us : List (Effect C O)). Parted (drop from us) (take from old) p.staying sent more whole)
    (ap (λ k. take k old) past ∙ take-length old) p.parted)
