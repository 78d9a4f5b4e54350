-- How ends of a connection belong to clusters.
use Rattle.std.specs.Prelude.{◌≡◌, ℕ, Bool, true, ◌&&◌, ◌||◌, not, List, replicate}
use Rattle.std.specs.Str.{bytes_eq}
use Rattle.links.specs.declared.seal.membership.Membership.{Membership}
use Rattle.links.specs.declared.seal.membership.Membership.TheVariants.{Node, Master, Newcomer}

-- bytes of the name of a cluster
abbrev pub cluster_length : ℕ
cluster_length = 16

-- what a node tells that does not know its cluster
abbrev pub no_cluster : List ℕ
no_cluster = replicate cluster_length 0

abbrev pub is_known : List ℕ → Bool
is_known cluster = not (bytes_eq cluster no_cluster)

-- the cluster that an end tells
abbrev pub cluster_of : Membership → List ℕ
cluster_of (Node cluster) = cluster
cluster_of (Master cluster) = cluster
cluster_of Newcomer = no_cluster

-- an end accepts one that tells this cluster: its own; the master also none; a newcomer any
abbrev pub accepts : Membership → List ℕ → Bool
accepts (Node own) cluster = is_known cluster && bytes_eq cluster own
accepts (Master own) cluster = not (is_known cluster) || bytes_eq cluster own
accepts Newcomer cluster = is_known cluster

-- one is the master of a cluster, and the other is told it
abbrev pub IsFirstContact : Membership → Membership → Type 0
IsFirstContact (Master own) Newcomer = is_known own ≡ true
IsFirstContact Newcomer (Master own) = is_known own ≡ true
IsFirstContact _ _ = ⊥
