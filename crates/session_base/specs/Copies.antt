-- Copies of publications that are added to a queue one by one: that of a PUBLISH, and at a
-- SUBSCRIBE those of retained publications (MQTT 3.3.1.3, 3.3.5).
use Rattle.std.specs.Prelude.{ℕ, if◌then◌else◌, List, [], ◌∷◌, ◌++◌, filter}
use Rattle.session_base.specs.declared.publication.Publication.{Publication}
use Rattle.session_base.specs.Publication.{is_answered}
use Rattle.session_base.specs.Queue.{Queue, enqueue, filled}

-- the queue of a connected client: each copy of QoS 1 or 2 is appended, and then what may start
-- starts
abbrev pub copies_left : ℕ → List Publication → Queue → Queue
copies_left window (publication ∷ copies) queue =
    if is_answered publication.qos
    then copies_left window copies (filled window (enqueue publication queue))
    else copies_left window copies queue
copies_left window [] queue = queue

-- the queue of a client that is not connected: copies of QoS 1 and 2 wait
abbrev pub copies_waiting : List Publication → Queue → Queue
copies_waiting copies queue =
    record {
      in_flight = queue.in_flight;
      waiting = queue.waiting ++ filter (λ publication. is_answered publication.qos) copies;
    }
