-- The first item that waits starts.
use Rattle.std.proofs.Common.{◌≡◌, ℕ, Bool, true, false, List, [], ◌∷◌, ◌++◌, Some, refl, ap, sym, ◌∙◌, subst, append_assoc}
use Rattle.lists.specs.Lists.{has_id}
use Rattle.exactly_once.specs.Items.{SenderItem, busy, start_first, first_waiting}
use Rattle.exactly_once.specs.Handshake.{sender_sends, Forward, Backward, Handshake}
use Rattle.exactly_once.specs.HandshakeSteps.HandshakeStep.{starts}
use Rattle.lists.proofs.Identifiers.{has_join}
use Rattle.exactly_once.proofs.BusyIdentifiers.{busy_append}
use Rattle.exactly_once.proofs.publishing.Links.{link_by, Reaches, reaches_by}

-- items of which none waits
abbrev pub NoneWaits : List (SenderItem ℕ) → Type 0
NoneWaits (SenderItem.Queued v ∷ items) = ⊥
NoneWaits (_ ∷ items) = NoneWaits items
NoneWaits [] = Unit {0}

pub none_waits_more : (pre more : List (SenderItem ℕ)) → NoneWaits pre → NoneWaits more → NoneWaits (pre ++ more)
none_waits_more [] more n m = m
none_waits_more (SenderItem.Queued v ∷ pre) more n m = elim n [ ]
none_waits_more (SenderItem.Sent v id ∷ pre) more n m = none_waits_more pre more n m
none_waits_more (SenderItem.Released v id ∷ pre) more n m = none_waits_more pre more n m
none_waits_more (SenderItem.Done v ∷ pre) more n m = none_waits_more pre more n m

first_waits : (pre more : List (SenderItem ℕ)) → NoneWaits pre → first_waiting (pre ++ more) ≡ first_waiting more
first_waits [] more n = refl
first_waits (SenderItem.Queued v ∷ pre) more n = elim n [ ]
first_waits (SenderItem.Sent v id ∷ pre) more n = first_waits pre more n
first_waits (SenderItem.Released v id ∷ pre) more n = first_waits pre more n
first_waits (SenderItem.Done v ∷ pre) more n = first_waits pre more n

first_starts : (id : ℕ) (pre more : List (SenderItem ℕ)) → NoneWaits pre → start_first id (pre ++ more) ≡ pre ++ start_first id more
first_starts id [] more n = refl
first_starts id (SenderItem.Queued v ∷ pre) more n = elim n [ ]
first_starts id (SenderItem.Sent v i ∷ pre) more n = ap (λ l. SenderItem.Sent v i ∷ l) (first_starts id pre more n)
first_starts id (SenderItem.Released v i ∷ pre) more n = ap (λ l. SenderItem.Released v i ∷ l) (first_starts id pre more n)
first_starts id (SenderItem.Done v ∷ pre) more n = ap (λ l. SenderItem.Done v ∷ l) (first_starts id pre more n)

-- the sender is there
sending_by : (cur : Bool) (m : Forward ℕ) (f : List (Forward ℕ)) (b : List Backward) → sender_sends m (link_by cur true f b) ≡ link_by cur true (f ++ m ∷ []) b
sending_by true m f b = refl
sending_by false m f b = refl

-- one starts
pub starts_one : (k : Handshake ℕ) (pre behind : List (SenderItem ℕ)) (v id : ℕ) (cur : Bool) (f : List (Forward ℕ)) (b : List Backward) → k.items ≡ pre ++ SenderItem.Queued v ∷ behind → NoneWaits pre
    → has_id id (busy pre) ≡ false → has_id id (busy behind) ≡ false → k.transit ≡ link_by cur true f b
    → Reaches k ((pre ++ SenderItem.Sent v id ∷ []) ++ behind) (link_by cur true (f ++ Forward.Publish id v ∷ []) b)
starts_one k pre behind v id cur f b e n free clear l =
    let fresh : has_id id (busy k.items) ≡ false =
    ap (λ items. has_id id (busy items)) e ∙ ap (has_id id) (busy_append pre (SenderItem.Queued v ∷ behind)) ∙ has_join id (busy pre) (busy behind) free clear in
    let first : first_waiting k.items ≡ Some v = ap first_waiting e ∙ first_waits pre (SenderItem.Queued v ∷ behind) n in
    subst (λ (items : List (SenderItem ℕ)). Reaches k items (link_by cur true (f ++ Forward.Publish id v ∷ []) b))
    (ap (start_first id) e ∙ first_starts id pre (SenderItem.Queued v ∷ behind) n ∙ sym (append_assoc pre (SenderItem.Sent v id ∷ []) behind))
    (reaches_by k (start_first id k.items) (sender_sends (Forward.Publish id v) k.transit) (link_by cur true (f ++ Forward.Publish id v ∷ []) b) (starts id v fresh first)
    (ap (sender_sends (Forward.Publish id v)) l ∙ sending_by cur (Forward.Publish id v) f b))
