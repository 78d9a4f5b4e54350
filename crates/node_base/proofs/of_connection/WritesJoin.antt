-- WritesJoin.antt: writes one after another are one write, and nothing is left out between them.
use Rattle.std.proofs.Common.{◌≡◌, ℕ, ◌≤◌, Option, None, Some, List, [], ◌∷◌, ◌++◌, length, take, drop, refl, sym, ◌∙◌, ap, subst, append_assoc}
use Rattle.std.proofs.lemmas.List.{append-nil, take-append-drop}
use Rattle.std.specs.Io.KnownBytes.{Appends, Keeps}
use Rattle.world_base.specs.declared.node_connections.handed.Handed.{Handed}
use Rattle.node_base.specs.connection.Theorems.{NothingIsLeftOut}
use Rattle.node_base.specs.connection.Life.{Lives}
use Rattle.node_base.specs.connection.Life.Lives.{begins, goes_on}
use Rattle.node_base.specs.connection.Written.{Flows, Writes}

-- what joins in two steps joins in one
pub appends_join :
    (old mid new : Option (List ℕ)) (xs ys : List ℕ)
    → Appends old mid xs → Appends mid new ys → Appends old new (xs ++ ys)
appends_join None mid new xs ys first second = tt
appends_join (Some o) None new xs ys first second = absurd first
appends_join (Some o) (Some m) None xs ys first second = absurd second
appends_join (Some o) (Some m) (Some n) xs ys first second =
    second ∙ ap (λ l. l ++ ys) first ∙ append_assoc o xs ys

-- a device that kept its bytes took none
pub kept_takes_none : (old new : Option (List ℕ)) → Keeps old new → Appends old new []
kept_takes_none None new kept = tt
kept_takes_none (Some o) None kept = absurd kept
kept_takes_none (Some o) (Some n) kept = kept ∙ sym (append-nil o)

nothing_joined : (at : Option (List ℕ)) → Appends at at []
nothing_joined None = tt
nothing_joined (Some o) = sym (append-nil o)

-- nothing was written yet
pub none_written : (at : Option (List ℕ)) (bytes : List ℕ) → Writes at at bytes bytes
none_written at bytes = record { taken = []; is = refl; written = nothing_joined at }

-- what is left of a write is written
pub writes_join :
    (old mid new : Option (List ℕ)) (bytes left rest : List ℕ)
    → Writes old mid bytes left → Writes mid new left rest → Writes old new bytes rest
writes_join old mid new bytes left rest first second = record {
  taken = first.taken ++ second.taken;
  is = first.is ∙ ap (λ l. first.taken ++ l) second.is ∙ sym (append_assoc first.taken second.taken rest);
  written = appends_join old mid new first.taken second.taken first.written second.written;
}

-- a call took the first bytes of what was left
pub takes_more :
    (old mid new : Option (List ℕ)) (bytes left rest : List ℕ) (count : ℕ)
    → Writes old mid bytes left → Appends mid new (take count left) → rest ≡ drop count left
    → Writes old new bytes rest
takes_more old mid new bytes left rest count first took is =
    writes_join old mid new bytes left rest first (record {
      taken = take count left;
      is = sym (take-append-drop count left) ∙ ap (λ l. take count left ++ l) (sym is);
      written = took;
    })

-- a call took none
pub takes_none :
    (old mid new : Option (List ℕ)) (bytes left : List ℕ)
    → Writes old mid bytes left → Keeps mid new → Writes old new bytes left
takes_none old mid new bytes left first kept =
    writes_join old mid new bytes left left first (record {
      taken = [];
      is = refl;
      written = kept_takes_none mid new kept;
    })

-- what was left was written whole, and then what was handed over as far as the device took it
pub writes_behind :
    (old mid new : Option (List ℕ)) (left bytes out middle rest : List ℕ)
    → Writes old mid left middle → middle ≡ [] → out ≡ [] ++ bytes → Writes mid new out rest
    → Writes old new (left ++ bytes) rest
writes_behind old mid new left bytes out middle rest first none is second =
    let whole : left ≡ first.taken = first.is ∙ ap (λ l. first.taken ++ l) none ∙ append-nil first.taken in
    record {
      taken = first.taken ++ second.taken;
      is =
          ap (λ l. l ++ bytes) whole
          ∙ ap (λ l. first.taken ++ l) (sym is ∙ second.is)
          ∙ sym (append_assoc first.taken second.taken rest);
      written = appends_join old mid new first.taken second.taken first.written second.written;
    }

-- nothing was handed over
pub writes_alone :
    (old new : Option (List ℕ)) (left rest : List ℕ) → Writes old new left rest → Writes old new (left ++ []) rest
writes_alone old new left rest writes = subst (λ l. Writes old new l rest) (sym (append-nil left)) writes

-- one call of the writing after all the others
lives_on :
    (start old new : Option (List ℕ)) (handed left bytes rest : List ℕ)
    → Writes start old handed left → Writes old new (left ++ bytes) rest → Writes start new (handed ++ bytes) rest
lives_on start old new handed left bytes rest first second = record {
  taken = first.taken ++ second.taken;
  is =
      ap (λ l. l ++ bytes) first.is
      ∙ append_assoc first.taken left bytes
      ∙ ap (λ l. first.taken ++ l) second.is
      ∙ sym (append_assoc first.taken second.taken rest);
  written = appends_join start old new first.taken second.taken first.written second.written;
}

pub nothing_left_out : {T : Type 0} (hands : T → List ℕ → Handed → T → Type 0) → NothingIsLeftOut hands
nothing_left_out hands first start _ _ _ _ begins = none_written start []
nothing_left_out hands first start _ _ _ _ (goes_on flow after new rest lives flows) =
    lives_on start _ new _ _ flows.bytes rest (nothing_left_out hands first start _ _ _ _ lives) flows.writes
