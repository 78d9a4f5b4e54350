-- The answer to a request (RFC 9112, section 4).
use Rattle.std.specs.Prelude.{ℕ, List, [], ◌++◌, Option, Some, None, length, codes, decimal, option_map, string_bytes}
use Rattle.http.specs.StatusCode.{status_text}
use Rattle.json.specs.Print.{print}
use Rattle.json.specs.Token.{Token}
use Rattle.admin.specs.Json.{connections_tokens, sessions_tokens, status_tokens}
use Rattle.admin.specs.Metrics.{metrics_text}
use Rattle.admin.specs.View.{primary_held}
use Rattle.admin.specs.declared.view.AdminView.{AdminView}
use Rattle.admin.specs.declared.view.Details.{Details}
use Rattle.admin.specs.declared.wanted.Wanted.{Wanted}
use Rattle.admin.specs.declared.wanted.Wanted.TheVariants.{
  TooLarge,
  Malformed,
  OtherMethod,
  NoPage,
  Health,
  Status,
  Sessions,
  Connections,
  Metrics,
}

-- 200 where an active primary serves, else 503
abbrev pub health_status : Option ℕ → ℕ
health_status (Some held) = 200
health_status None = 503

-- 200 if somebody looked into the nodes, else 503
abbrev pub details_status : Option Details → ℕ
details_status None = 503
details_status (Some details) = 200

-- the status of the answer
abbrev pub status_of : AdminView → Wanted → ℕ
status_of view TooLarge = 413
status_of view Malformed = 400
status_of view OtherMethod = 405
status_of view NoPage = 404
status_of view Health = health_status (primary_held view)
status_of view Status = 200
status_of view (Sessions after) = details_status view.details
status_of view Connections = details_status view.details
status_of view Metrics = 200

-- the media type of plain text
abbrev pub plain_kind : List ℕ
plain_kind = codes "text/plain; charset=utf-8"

-- the media type of a page that only a look into the nodes fills
abbrev pub details_kind : Option Details → List ℕ
details_kind None = plain_kind
details_kind (Some details) = codes "application/json"

-- the media type of the body
abbrev pub kind_of : AdminView → Wanted → List ℕ
kind_of view TooLarge = plain_kind
kind_of view Malformed = plain_kind
kind_of view OtherMethod = plain_kind
kind_of view NoPage = plain_kind
kind_of view Health = plain_kind
kind_of view Status = codes "application/json"
kind_of view (Sessions after) = details_kind view.details
kind_of view Connections = details_kind view.details
kind_of view Metrics = codes "text/plain; version=0.0.4; charset=utf-8"

-- the field with the methods that there are, if another one was asked (RFC 9110, section 15.5.6)
abbrev pub allow_of : Wanted → List ℕ
allow_of TooLarge = []
allow_of Malformed = []
allow_of OtherMethod = codes "Allow: GET\r\n"
allow_of NoPage = []
allow_of Health = []
allow_of Status = []
allow_of (Sessions after) = []
allow_of Connections = []
allow_of Metrics = []

-- the status as a line
abbrev pub plain_text : ℕ → List ℕ
plain_text status = status_text status ++ codes "\n"

-- tokens as JSON
abbrev pub json_text : List Token → List ℕ
json_text tokens = print tokens

-- the pages of sessions and connections, or the status if nobody looked into the nodes
abbrev pub sessions_text : Option Details → Option (List ℕ) → List ℕ
sessions_text None after = plain_text 503
sessions_text (Some details) after = json_text (sessions_tokens details after)

abbrev pub connections_text : Option Details → List ℕ
connections_text None = plain_text 503
connections_text (Some details) = json_text (connections_tokens details)

-- the body of the answer
abbrev pub body_of : AdminView → Wanted → List ℕ
body_of view TooLarge = plain_text (status_of view TooLarge)
body_of view Malformed = plain_text (status_of view Malformed)
body_of view OtherMethod = plain_text (status_of view OtherMethod)
body_of view NoPage = plain_text (status_of view NoPage)
body_of view Health = plain_text (status_of view Health)
body_of view Status = json_text (status_tokens view)
body_of view (Sessions after) = sessions_text view.details (option_map string_bytes after)
body_of view Connections = connections_text view.details
body_of view Metrics = metrics_text view

-- the head of an answer whose body has so many bytes
abbrev pub head_text : ℕ → List ℕ → List ℕ → ℕ → List ℕ
head_text status kind allow size = codes "HTTP/1.1 " ++ status_text status ++ codes "\r\n" ++ allow
    ++ codes "Content-Type: " ++ kind ++ codes "\r\n"
    ++ (codes "Content-Length: " ++ decimal size ++ codes "\r\nConnection: close\r\n\r\n")

-- the whole answer: its Content-Length is the length of its body
abbrev pub answer_bytes : AdminView → Wanted → List ℕ
answer_bytes view wanted =
    head_text
    (status_of view wanted) (kind_of view wanted) (allow_of wanted) (length (body_of view wanted))
    ++ body_of view wanted
