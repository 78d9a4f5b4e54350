-- The result of reading bytes from the server.
use Rattle.std.specs.Prelude.{◌≡◌, ◌⊎◌, Bool, true, false}
use Rattle.client_base.specs.State.{is_online}
use Rattle.user_client.specs.declared.caller.News.{News}
use Rattle.user_client.specs.declared.caller.News.TheVariants as news
use Rattle.user_client.specs.Traces.{CallerView}

-- by whether the connection stays open, and whether the server had accepted it before, and has now
abbrev pub news_of : Bool → Bool → Bool → News
news_of false was_connected is_connected = news.Lost
news_of true was_connected false = news.Waits
news_of true true true = news.Packets
news_of true false true = news.Accepted

-- an accepted connection stays open; another one waits for CONNACK, or is lost
abbrev pub IsNewsOn : Bool → Bool → News → Type 0
IsNewsOn was_connected true it = it ≡ news_of true was_connected true
IsNewsOn was_connected false it = (it ≡ news.Waits) ⊎ (it ≡ news.Lost)

-- by what the server had accepted before these bytes, and after them
abbrev pub IsNews : CallerView → CallerView → News → Type 0
IsNews old new = IsNewsOn (is_online old.core.state.stage) (is_online new.core.state.stage)
