-- The lines of a snapshot, each a form of words.
use Rattle.std.specs.Prelude.{ℕ, ◌==◌, ◌⊎◌, if◌then◌else◌, List, length, codes, decimal, Option, Some, None}
use Rattle.std.proofs.Common.{inl, inr}
use Rattle.sim_base.specs.Names.{is_name}
use Rattle.sim_base.specs.Params.{param_of_word, param_values, param_word}
use Rattle.sim_base.specs.declared.message.Change.{Change}
use Rattle.sim_base.specs.declared.message.Job.{Job as JobOf}
use Rattle.sim_base.specs.declared.message.Msg.{Msg}
use Rattle.sim_base.specs.declared.message.Param.{Param}
use Rattle.sim_base.specs.declared.message.Payload.{Payload}
use Rattle.sim_base.specs.declared.message.Payload.TheVariants.{Tick, Job, Done, Set}
use Rattle.decision_script.specs.declared.number.TheConstants.{MAX_NUMBER}
use Rattle.stations.specs.declared.saved.Saved.{Saved}
use Rattle.stations.specs.declared.saved.Shape.{Shape}
use Rattle.stations.specs.declared.saved.Shape.TheVariants as shape
use Rattle.snapshot_lines.specs.Forms.{Form, and_then, and_what_follows, as_value, joined, led, led_or, many, nothing}
use Rattle.snapshot_lines.specs.Forms.{number}
use Rattle.snapshot_lines.specs.Forms.{silent, spelled, such}
use Rattle.snapshot_lines.specs.declared.read_lines.Head.{Head}
use Rattle.snapshot_lines.specs.declared.numbers.TheConstants.{MAX_STAY}

-- ---- numbers and jobs

abbrev pub number_word : Form ℕ
number_word = number MAX_NUMBER

-- the sum of a sink's stays has up to 64 bits
abbrev pub stay_word : Form ℕ
stay_word = number MAX_STAY

abbrev pub two_numbers : Form (ℕ × ℕ)
two_numbers = and_then number_word number_word

abbrev pub three_numbers : Form (ℕ × (ℕ × ℕ))
three_numbers = and_then number_word two_numbers

-- the parts of a job: the number of its source, its count, and the time at which it was made
abbrev pub job_of : ℕ × (ℕ × ℕ) → JobOf
job_of (source, (count, born)) = record { source = source; count = count; born = born }

abbrev pub parts_of_job : JobOf → ℕ × (ℕ × ℕ)
parts_of_job j = (j.source, (j.count, j.born))

abbrev pub job_parts : Form JobOf
job_parts = as_value job_of parts_of_job three_numbers

-- SOURCE.COUNT.BORN: one word with a dot between the parts
abbrev pub job_word : Form JobOf
job_word = joined 46 job_parts

-- ---- shapes

-- LO HI SENT, and LO HI PASSED
abbrev pub RangeWords : Type 0
RangeWords = ℕ × (ℕ × ℕ)

-- N and N jobs
abbrev pub line_words : Form (ℕ × List JobOf)
line_words = and_what_follows number_word (λ count. many job_word count)

-- SERVERS ROOM LO HI BUSY DONE LOST line N JOBS
abbrev pub ServerWords : Type 0
ServerWords = ℕ × (ℕ × (ℕ × (ℕ × (ℕ × (ℕ × (ℕ × (ℕ × List JobOf)))))))

abbrev pub server_words : Form ServerWords
server_words = and_then number_word (and_then number_word (and_then number_word (and_then number_word
    (and_then number_word (and_then number_word (and_then number_word (led (codes "line") line_words)))))))

-- PASSED and the weights of this number of links
abbrev pub router_words : ℕ → Form (ℕ × List ℕ)
router_words links = and_then number_word (many number_word links)

-- GOT STAY
abbrev pub sink_words : Form (ℕ × ℕ)
sink_words = and_then number_word stay_word

abbrev pub ShapeWords : Type 0
ShapeWords = RangeWords ⊎ (ServerWords ⊎ (RangeWords ⊎ ((ℕ × List ℕ) ⊎ (ℕ × ℕ))))

abbrev pub shape_words : ℕ → Form ShapeWords
shape_words links =
    led_or (codes "source") three_numbers
    (led_or (codes "server") server_words
    (led_or (codes "delay") three_numbers
    (led_or (codes "router") (router_words links)
    (led (codes "sink") sink_words))))

abbrev pub server_of : ServerWords → Shape
server_of (servers, (room, (lo, (hi, (busy, (done, (lost, (count, line)))))))) =
    shape.Server servers room lo hi busy done lost line

abbrev pub to_shape : ShapeWords → Shape
to_shape (inl (lo, (hi, sent))) = shape.Source lo hi sent
to_shape (inr (inl w)) = server_of w
to_shape (inr (inr (inl (lo, (hi, passed))))) = shape.Delay lo hi passed
to_shape (inr (inr (inr (inl (passed, weights))))) = shape.Router passed (record { items = weights })
to_shape (inr (inr (inr (inr (got, stay))))) = shape.Sink got stay

abbrev pub from_shape : Shape → ShapeWords
from_shape (shape.Source lo hi sent) = inl (lo, (hi, sent))
from_shape (shape.Server servers room lo hi busy done lost line) =
    inr (inl (servers, (room, (lo, (hi, (busy, (done, (lost, (length line, line)))))))))
from_shape (shape.Delay lo hi passed) = inr (inr (inl (lo, (hi, passed))))
from_shape (shape.Router passed weights) = inr (inr (inr (inl (passed, weights.items))))
from_shape (shape.Sink got stay) = inr (inr (inr (inr (got, stay))))

-- the shape of a station with this number of links
abbrev pub shape_form : ℕ → Form Shape
shape_form links = as_value to_shape from_shape (shape_words links)

-- ---- payloads

-- a parameter's word
abbrev pub param_form : Form Param
param_form = spelled param_word param_of_word

-- the one value of a parameter, or both
abbrev pub values_form : Param → Form (ℕ × ℕ)
values_form param = if param_values param == 1 then and_then number_word (silent 0) else two_numbers

abbrev pub change_of : Param × (ℕ × ℕ) → Change
change_of (param, (a, b)) = record { param = param; a = a; b = b }

abbrev pub parts_of_change : Change → Param × (ℕ × ℕ)
parts_of_change c = (c.param, (c.a, c.b))

abbrev pub change_form : Form Change
change_form = as_value change_of parts_of_change (and_what_follows param_form values_form)

abbrev pub PayloadWords : Type 0
PayloadWords = Unit {0} ⊎ (JobOf ⊎ (JobOf ⊎ Change))

abbrev pub payload_words : Form PayloadWords
payload_words =
    led_or (codes "tick") nothing
    (led_or (codes "job") job_word
    (led_or (codes "done") job_word
    (led (codes "set") change_form)))

abbrev pub to_payload : PayloadWords → Payload
to_payload (inl u) = Tick
to_payload (inr (inl j)) = Job j
to_payload (inr (inr (inl j))) = Done j
to_payload (inr (inr (inr c))) = Set c

abbrev pub from_payload : Payload → PayloadWords
from_payload Tick = inl tt
from_payload (Job j) = inr (inl j)
from_payload (Done j) = inr (inr (inl j))
from_payload (Set c) = inr (inr (inr c))

abbrev pub payload_form : Form Payload
payload_form = as_value to_payload from_payload payload_words

-- ---- the lines

abbrev pub to_end : Unit {0} ⊎ ℕ → Option ℕ
to_end (inl u) = None
to_end (inr end) = Some end

abbrev pub from_end : Option ℕ → Unit {0} ⊎ ℕ
from_end None = inl tt
from_end (Some end) = inr end

-- a number, or a hyphen if there is no end
abbrev pub end_form : Form (Option ℕ)
end_form = as_value to_end from_end (led_or (codes "-") nothing number_word)

abbrev pub to_head : List ℕ × (ℕ × Option ℕ) → Head
to_head (who, (front, end)) = record { who = who; front = front; end = end }

abbrev pub from_head : Head → List ℕ × (ℕ × Option ℕ)
from_head h = (h.who, (h.front, h.end))

-- snapshot NAME front F end E
abbrev pub head_line : Form Head
head_line = as_value to_head from_head (led (codes "snapshot") (and_then (such is_name)
    (led (codes "front") (and_then number_word (led (codes "end") end_form)))))

abbrev pub saved_with : ℕ → ℕ → ℕ → Shape → Saved
saved_with next drawn handled s = record { next = next; drawn = drawn; handled = handled; shape = s }

abbrev pub to_saved : ℕ × (ℕ × (ℕ × Shape)) → Saved
to_saved (next, (drawn, (handled, s))) = saved_with next drawn handled s

abbrev pub from_saved : Saved → ℕ × (ℕ × (ℕ × Shape))
from_saved x = (x.next, (x.drawn, (x.handled, x.shape)))

-- station I next N drawn N handled N SHAPE, of the station of this number with this number of links
abbrev pub station_line : ℕ → ℕ → Form Saved
station_line s links = as_value to_saved from_saved (led (codes "station") (led (decimal s)
    (led (codes "next") (and_then number_word (led (codes "drawn") (and_then number_word
    (led (codes "handled") (and_then number_word (shape_form links)))))))))

-- pending N
abbrev pub pending_line : Form ℕ
pending_line = led (codes "pending") number_word

abbrev pub to_message : ℕ × (ℕ × (ℕ × (ℕ × Payload))) → Msg
to_message (time, (sender, (number, (to, payload)))) = record {
  key = record { time = time; sender = sender; number = number };
  to = to;
  payload = payload;
}

abbrev pub from_message : Msg → ℕ × (ℕ × (ℕ × (ℕ × Payload)))
from_message m = (m.key.time, (m.key.sender, (m.key.number, (m.to, m.payload))))

-- TIME SENDER NUMBER TO PAYLOAD
abbrev pub message_line : Form Msg
message_line = as_value to_message from_message (and_then number_word (and_then number_word (and_then number_word
    (and_then number_word payload_form))))

-- trace N
abbrev pub trace_line : Form ℕ
trace_line = led (codes "trace") number_word
