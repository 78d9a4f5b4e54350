-- The hello with which each end of a connection begins.
use Rattle.std.specs.Prelude.{◌≡◌, ℕ, ◌<◌, ◌^◌, Bool, ◌==◌, nat_lt, if◌then◌else◌, List, [], ◌∷◌, ◌++◌, length, take, drop, slice_index, Result, Ok, Err}
use Rattle.std.specs.Int.{w16, w32, to_be_bytes, from_be_bytes}
use Rattle.links.specs.declared.seal.membership.Membership.{Membership}
use Rattle.links.specs.seal.Clusters.{accepts, cluster_length}
use Rattle.links.specs.declared.seal.hello.Hello.{Hello}
use Rattle.links.specs.declared.seal.hello.HelloFault.{HelloFault}
use Rattle.links.specs.declared.seal.hello.HelloFault.TheVariants.{Unfinished, Version, Rules, Cluster}

-- the version of what nodes send each other
abbrev pub version : ℕ
version = 1

-- a hello as 55 bytes: version, number of the broker's rules, cluster, number of the node, random
-- bytes
abbrev pub hello_bytes : Hello → List ℕ
hello_bytes hello =
    to_be_bytes w16 version ++ to_be_bytes w32 hello.rules ++ hello.cluster
    ++ (hello.number ∷ []) ++ hello.random

-- the parts of a hello, each at its place
abbrev pub version_at : List ℕ → ℕ
version_at bytes = from_be_bytes w16 (take 2 bytes)

abbrev pub rules_at : List ℕ → ℕ
rules_at bytes = from_be_bytes w32 (take 4 (drop 2 bytes))

abbrev pub cluster_at : List ℕ → List ℕ
cluster_at bytes = take cluster_length (drop 6 bytes)

abbrev pub hello_at : List ℕ → Hello
hello_at bytes = record {
  rules = rules_at bytes;
  cluster = cluster_at bytes;
  number = slice_index bytes 22;
  random = take 32 (drop 23 bytes);
}

-- a fault is found once so many bytes are there
abbrev pub checked : ℕ → Bool → HelloFault → List ℕ → Result (Unit {0}) HelloFault
checked count is_right fault bytes =
    if nat_lt (length bytes) count then Err Unfinished else
    if is_right then Ok tt else Err fault

abbrev pub and_then :
    Result (Unit {0}) HelloFault → Result Hello HelloFault → Result Hello HelloFault
and_then (Ok _) next = next
and_then (Err fault) next = Err fault

-- the checks, in their order
abbrev pub version_checked : List ℕ → Result (Unit {0}) HelloFault
version_checked bytes =
    checked 2 (version_at bytes == version) (Version (version_at bytes)) bytes

abbrev pub rules_checked : ℕ → List ℕ → Result (Unit {0}) HelloFault
rules_checked rules bytes = checked 6 (rules_at bytes == rules) (Rules (rules_at bytes)) bytes

abbrev pub cluster_checked : Membership → List ℕ → Result (Unit {0}) HelloFault
cluster_checked membership bytes = checked 22 (accepts membership (cluster_at bytes)) Cluster bytes

abbrev pub whole : List ℕ → Result Hello HelloFault
whole bytes = if nat_lt (length bytes) 55 then Err Unfinished else Ok (hello_at bytes)

-- what bytes say to an end of these rules which belongs to its cluster so: a hello, or the first
-- fault; what comes after 55 bytes is not looked at
abbrev pub hello_of : ℕ → Membership → List ℕ → Result Hello HelloFault
hello_of rules membership bytes =
    and_then (version_checked bytes)
    (and_then (rules_checked rules bytes)
    (and_then (cluster_checked membership bytes) (whole bytes)))

-- arrays have their lengths, and numbers fit
pub record IsHello (hello : Hello) : Type 0 where
  pub rules : hello.rules < 2 ^ 32
  pub cluster : length hello.cluster ≡ cluster_length
  pub random : length hello.random ≡ 32
