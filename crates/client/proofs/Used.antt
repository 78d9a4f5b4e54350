-- Used.antt: an identifier is used if a publication or a request has it.
use Rattle.std.proofs.Common.{◌≡◌, ℕ, ◌||◌, ◌==◌, List, [], ◌∷◌, ◌++◌, map, refl, ap, ◌∙◌}
use Rattle.std.specs.List.{list_any}
use Rattle.lists.specs.Lists.{has_id}
use Rattle.lists.proofs.Identifiers.{has_append}
use Rattle.client_base.specs.State.{ClientState, id_of_request, ids_of_kept, used_ids}

-- a test of what is mapped
pub any_mapped : {X : Type 0} (id : ℕ) (f : X → ℕ) (xs : List X) → has_id id (map f xs) ≡ list_any (λ x. id == f x) xs
any_mapped id f [] = refl
any_mapped id f (x ∷ xs) = ap (λ b. (id == f x) || b) (any_mapped id f xs)

pub used_in_parts : (id : ℕ) (state : ClientState) →
    has_id id (used_ids state)
    ≡ (((has_id id state.released || list_any (λ one. id == one.id) state.sent) || list_any (λ one. id == one.id) state.queued)
    || list_any (λ one. id == id_of_request one) state.requests)
used_in_parts id state =
    has_append id ((state.released ++ ids_of_kept state.sent) ++ ids_of_kept state.queued) (map id_of_request state.requests)
    ∙ ap (λ b. b || has_id id (map id_of_request state.requests))
    (has_append id (state.released ++ ids_of_kept state.sent) (ids_of_kept state.queued)
    ∙ ap (λ b. b || has_id id (ids_of_kept state.queued)) (has_append id state.released (ids_of_kept state.sent)))
    ∙ ap (λ b. ((has_id id state.released || b) || has_id id (ids_of_kept state.queued)) || has_id id (map id_of_request state.requests))
    (any_mapped id (λ one. one.id) state.sent)
    ∙ ap (λ b. ((has_id id state.released || list_any (λ one. id == one.id) state.sent) || b) || has_id id (map id_of_request state.requests))
    (any_mapped id (λ one. one.id) state.queued)
    ∙ ap (λ b. ((has_id id state.released || list_any (λ one. id == one.id) state.sent) || list_any (λ one. id == one.id) state.queued) || b)
    (any_mapped id id_of_request state.requests)
