-- What the bytes of a request ask (RFC 9112, sections 2 and 3).
use Rattle.std.specs.Prelude.{◌≡◌, ◌≢◌, ℕ, ◌<◌, ◌≤◌, ◌⊎◌, ◌==◌, List, ◌++◌, Option, Some, None, length, codes, if◌then◌else◌, string_bytes}
use Rattle.std.specs.List.{after_first, before_first, position_or_len}
use Rattle.httparse.specs.Grammar.{HasNoRequest, MayBecomeRequest, ReadsRequest, RequestHead}
use Rattle.httparse.specs.Spans.{RequestOverflows, span_bytes}
use Rattle.httparse.specs.declared.spans.RequestSpans.{RequestSpans}
use Rattle.form_urlencoded.specs.Form.{DecodesTo}
use Rattle.admin.specs.declared.asked.Asked.{Asked}
use Rattle.admin.specs.declared.asked.Asked.TheVariants as asked
use Rattle.admin.specs.declared.asked.TheConstants.{MAX_FIELDS}
use Rattle.admin.specs.declared.reader.TheConstants.{MAX_REQUEST}
use Rattle.admin.specs.declared.wanted.Wanted.{Wanted}
use Rattle.admin.specs.declared.wanted.Wanted.TheVariants as wanted

-- the bytes begin with a head
abbrev pub BeginsWith : List ℕ → RequestHead → Type 0
BeginsWith bytes head = (rest : List ℕ) × ReadsRequest bytes head rest

-- no head stands at the front yet, and more bytes may complete one
abbrev pub IsUnfinished : List ℕ → Type 0
IsUnfinished bytes = HasNoRequest bytes × MayBecomeRequest bytes

-- whatever bytes follow, no head with at most 64 fields stands at the front
abbrev pub NeverAsks : List ℕ → Type 0
NeverAsks bytes = RequestOverflows MAX_FIELDS bytes

-- what bytes ask
abbrev pub IsAsked : List ℕ → Asked → Type 0
IsAsked bytes asked.Incomplete = IsUnfinished bytes
IsAsked bytes asked.Malformed = NeverAsks bytes
IsAsked bytes asked.OtherMethod =
    (head : RequestHead) × BeginsWith bytes head × (head.method ≢ codes "GET")
IsAsked bytes (asked.Get target) =
    (head : RequestHead) × BeginsWith bytes head × (head.method ≡ codes "GET")
    × (target.now ≡ head.target)

-- the spans cover the method and the target of a head at the front
pub record IsHeadOf (bytes : List ℕ) (spans : RequestSpans) : Type 0 where
  pub head : RequestHead
  pub begins : BeginsWith bytes head
  pub method_within : (spans.method.start ≤ spans.method.end) × (spans.method.end ≤ length bytes)
  pub target_within : (spans.path.start ≤ spans.path.end) × (spans.path.end ≤ length bytes)
  pub method : span_bytes bytes spans.method ≡ head.method
  pub target : span_bytes bytes spans.path ≡ head.target

-- a request needs no more bytes: it is too long, it has its head, or it never will have one
abbrev pub IsReady : List ℕ → Type 0
IsReady bytes = (MAX_REQUEST < length bytes)
    ⊎ (((head : RequestHead) × BeginsWith bytes head) ⊎ NeverAsks bytes)

-- what stands before the first `?` of a target
abbrev pub path_of : List ℕ → List ℕ
path_of target = before_first (λ b. b == 63) target

-- what stands after it, if there is one
abbrev pub query_of : List ℕ → Option (List ℕ)
query_of target = if position_or_len (λ b. b == 63) target == length target then None
    else Some (after_first (λ b. b == 63) target)

-- the query names an identifier, encoded as in a form
abbrev pub NamesClient : Option (List ℕ) → List ℕ → Type 0
NamesClient query client =
    (value : List ℕ) × (query ≡ Some (codes "after=" ++ value)) × DecodesTo value client

-- there is a query that names none
abbrev pub IsOtherQuery : Option (List ℕ) → Type 0
IsOtherQuery None = ⊥
IsOtherQuery (Some query) = (value : List ℕ) → query ≢ codes "after=" ++ value

-- which sessions a query wants
abbrev pub IsSessionsPage : Option (List ℕ) → Wanted → Type 0
IsSessionsPage query (wanted.Sessions None) = query ≡ None
IsSessionsPage query (wanted.Sessions (Some client)) = NamesClient query (string_bytes client)
IsSessionsPage query wanted.NoPage = IsOtherQuery query
IsSessionsPage query other = ⊥

-- the path of none of the other pages
abbrev pub IsOtherPath : List ℕ → Type 0
IsOtherPath path = (path ≢ codes "/healthz") × (path ≢ codes "/status")
    × (path ≢ codes "/connections") × (path ≢ codes "/metrics") × (path ≢ codes "/sessions")

-- which page a target is
abbrev pub IsPage : List ℕ → Wanted → Type 0
IsPage target wanted.Health = path_of target ≡ codes "/healthz"
IsPage target wanted.Status = path_of target ≡ codes "/status"
IsPage target (wanted.Sessions after) =
    (path_of target ≡ codes "/sessions") × IsSessionsPage (query_of target) (wanted.Sessions after)
IsPage target wanted.Connections = path_of target ≡ codes "/connections"
IsPage target wanted.Metrics = path_of target ≡ codes "/metrics"
IsPage target wanted.NoPage = IsOtherPath (path_of target)
    ⊎ ((path_of target ≡ codes "/sessions") × IsOtherQuery (query_of target))
IsPage target other = ⊥

-- what a request wants
abbrev pub IsWanted : List ℕ → Wanted → Type 0
IsWanted request wanted.TooLarge = MAX_REQUEST < length request
IsWanted request wanted.Malformed = (length request ≤ MAX_REQUEST)
    × ((head : RequestHead) → BeginsWith request head → MAX_FIELDS < length head.fields)
IsWanted request wanted.OtherMethod = (length request ≤ MAX_REQUEST)
    × ((head : RequestHead) × BeginsWith request head × (head.method ≢ codes "GET"))
IsWanted request page = (length request ≤ MAX_REQUEST)
    × ((head : RequestHead) × BeginsWith request head × (head.method ≡ codes "GET")
    × IsPage head.target page)
