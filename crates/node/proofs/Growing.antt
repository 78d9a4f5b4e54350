-- Growing.antt: what items brought since the last cut, counted item by item.
use Rattle.std.proofs.Common.{◌≡◌, ℕ, ◌+◌, List, [], ◌∷◌, ◌++◌, ◌∙◌, ap, sym, refl, arith}
use Rattle.std.proofs.lemmas.List.Sums.{fold-append}
use Rattle.mailbox.specs.Ends.{ReceiverView}
use Rattle.world_base.specs.declared.node_core.item.Item.{Item}
use Rattle.world_base.specs.declared.node_core.item.Item.TheVariants.{Peer, Tick, Opened, Bytes, Ended, Expel, Cut, Crash}
use Rattle.node.specs.Growth.{bytes_since_cut, bytes_of_item, saturated, grown}

pub counted_more : (a b : ℕ) → saturated (saturated a + b) ≡ saturated (a + b)
counted_more a b = omega arith

pub grown_counted : (n : ℕ) (item : Item) → saturated (grown (saturated n) item) ≡ saturated (grown n item)
grown_counted n (Peer message) = counted_more n (bytes_of_item (Peer message))
grown_counted n (Tick now) = counted_more n 0
grown_counted n (Opened port now) = counted_more n 0
grown_counted n (Bytes port piece now) = counted_more n (bytes_of_item (Bytes port piece now))
grown_counted n (Ended port) = counted_more n 0
grown_counted n (Expel client) = counted_more n 0
grown_counted n Cut = refl
grown_counted n Crash = counted_more n 0

pub since_more : (taken : List (ℕ × Item)) (one : ℕ × Item)
    → bytes_since_cut (taken ++ one ∷ []) ≡ grown (bytes_since_cut taken) one.1
since_more taken one = fold-append (λ bytes (x : ℕ × Item). grown bytes x.1) 0 taken (one ∷ [])

-- one item more was taken, and counted
pub grown_since : (bytes now : ℕ) (old new : ReceiverView Item) (taken : ℕ × Item)
    → new ≡ record old { taken = old.taken ++ taken ∷ [] }
    → bytes ≡ saturated (bytes_since_cut old.taken) → now ≡ saturated (grown bytes taken.1)
    → now ≡ saturated (bytes_since_cut new.taken)
grown_since bytes now old new taken is before after =
    after ∙ ap (λ n. saturated (grown n taken.1)) before ∙ grown_counted (bytes_since_cut old.taken) taken.1
    ∙ ap saturated (sym (since_more old.taken taken))
    ∙ ap (λ (receiver : ReceiverView Item). saturated (bytes_since_cut receiver.taken)) (sym is)
