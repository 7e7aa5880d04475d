-- Each line of a snapshot is read exactly.
use Rattle.std.proofs.Common.{◌≡◌, ◌⊎◌, inl, inr, ℕ, ◌<◌, ◌^◌, Bool, true, false, List, [], ◌∷◌, length}
use Rattle.std.proofs.Common.{nat_le}
use Rattle.std.proofs.Common.{refl, sym, ap, arith, subst, ◌==◌, eqb-true, Option, Some, None}
use Rattle.std.specs.Prelude.{◌&&◌, codes, decimal, if◌then◌else◌}
use Rattle.std.specs.List.{find, list_all}
use Rattle.std.specs.Str.{bytes_eq}
use Rattle.std.proofs.lemmas.Bool.{and_parts, and_from, leb-true}
use Rattle.std.proofs.lemmas.Bool.Decides.{nat_tests}
use Rattle.std.proofs.lemmas.Fmt.{digits_decimal}
use Rattle.std.proofs.lemmas.Option.{same_Some}
use Rattle.std.proofs.lemmas.Slice.Eq.{bytes_eq-Decides}
use Rattle.sim_base.specs.Names.{is_digit, is_name, is_name_byte, is_lower}
use Rattle.sim_base.specs.Params.{all_params, param_of_word, param_word}
use Rattle.sim_base.specs.declared.message.Param.{Param}
use Rattle.sim_base.specs.declared.message.Param.TheVariants.{Every, Service, Hold, Servers, Room, Weight}
use Rattle.sim_base.specs.declared.message.Job.{Job as JobOf}
use Rattle.sim_base.specs.declared.message.Change.{Change}
use Rattle.sim_base.specs.declared.message.Payload.{Payload}
use Rattle.sim_base.specs.declared.message.Payload.TheVariants.{Tick, Job, Done, Set}
use Rattle.sim_base.proofs.Digits.{digit_numerals}
use Rattle.sim_base.proofs.ListLaws.{list_all-weaker}
use Rattle.stations.specs.declared.saved.Shape.{Shape}
use Rattle.stations.specs.declared.saved.Shape.TheVariants as shape
use Rattle.snapshot_lines.specs.Forms.{Form, IsExact, IsReadJoined, WritesOnly, WritesSome, and_then, and_what_follows}
use Rattle.snapshot_lines.specs.Forms.{many}
use Rattle.snapshot_lines.specs.Forms.{as_value, led, led_or, nothing, number, silent, such, IsLedByOthers}
use Rattle.snapshot_lines.proofs.ExactForms.{and_then-exact, as_value-exact, follows-exact, led-exact, many-exact}
use Rattle.snapshot_lines.proofs.ExactForms.{nothing-exact, number-exact, silent-exact, spelled-exact, such-exact}
use Rattle.snapshot_lines.proofs.JoinedWords.{joined-exact, joined_words-exact, led_or-exact}
use Rattle.snapshot_lines.proofs.Written.{and_then-only, as_value-only, follows-only, joined-only}
use Rattle.snapshot_lines.proofs.Written.{led-only}
use Rattle.snapshot_lines.proofs.Written.{led_or-only, many-only, nothing-only, number-only}
use Rattle.snapshot_lines.proofs.Written.{silent-only, spelled-only, such-only}
use Rattle.decision_script.specs.declared.number.TheConstants.{MAX_NUMBER}
use Rattle.snapshot_lines.specs.declared.numbers.TheConstants.{MAX_STAY}
use Rattle.snapshot_lines.specs.Grammar.{number_word, stay_word, two_numbers, three_numbers, job_of, parts_of_job}
use Rattle.snapshot_lines.specs.Grammar.{job_parts, job_word, line_words, server_words, router_words, sink_words}
use Rattle.snapshot_lines.specs.Grammar.{ShapeWords, ServerWords, shape_words, to_shape, from_shape}
use Rattle.snapshot_lines.specs.Grammar.{shape_form}
use Rattle.snapshot_lines.specs.Grammar.{param_form, values_form, change_of, parts_of_change, change_form, PayloadWords}
use Rattle.snapshot_lines.specs.Grammar.{payload_words, to_payload, from_payload, payload_form, to_end, from_end}
use Rattle.snapshot_lines.specs.Grammar.{end_form, to_head, from_head, head_line, to_saved, from_saved, station_line}
use Rattle.snapshot_lines.specs.Grammar.{pending_line, to_message, from_message, message_line, trace_line}

-- a visible byte: no space, no line feed
abbrev pub is_visible : ℕ → Bool
is_visible b = nat_le 33 b

-- a byte after the dot, so no dot
abbrev pub is_after_dot : ℕ → Bool
is_after_dot b = nat_le 47 b

digit_is_visible : (b : ℕ) → is_digit b ≡ true → is_visible b ≡ true
digit_is_visible b h = grind (arith, nat_tests)

digit_is_after_dot : (b : ℕ) → is_digit b ≡ true → is_after_dot b ≡ true
digit_is_after_dot b h = grind (arith, nat_tests)

-- ---- forms of visible words

-- a form that is read exactly and writes visible words
pub record IsPlain {A : Type 0} (f : Form A) : Type 0 where
  pub exact : IsExact f
  pub visible : WritesOnly is_visible f

plain-nothing : IsPlain nothing
plain-nothing = record { exact = nothing-exact; visible = nothing-only is_visible }

plain-silent : (n : ℕ) → IsPlain (silent n)
plain-silent n = record { exact = silent-exact n; visible = silent-only is_visible n }

plain-number : (most : ℕ) → most < 2 ^ 64 → IsPlain (number most)
plain-number most small = record {
  exact = number-exact most small;
  visible = number-only is_visible most small digit_is_visible;
}

plain-pair : {A B : Type 0} {f : Form A} {g : Form B} → IsPlain f → IsPlain g → IsPlain (and_then f g)
plain-pair {A} {B} {f} {g} first second = record {
  exact = and_then-exact f g first.exact second.exact;
  visible = and_then-only is_visible f g first.visible second.visible;
}

plain-follows : {A B : Type 0} {f : Form A} {g : A → Form B} → IsPlain f → ((a : A) → IsPlain (g a))
    → IsPlain (and_what_follows f g)
plain-follows {A} {B} {f} {g} first second = record {
  exact = follows-exact f g first.exact (λ a. (second a).exact);
  visible = follows-only is_visible f g first.visible (λ a. (second a).visible);
}

plain-many : {A : Type 0} {f : Form A} (n : ℕ) → IsPlain f → IsPlain (many f n)
plain-many {A} {f} n is = record { exact = many-exact f is.exact n; visible = many-only is_visible f n is.visible }

plain-led : {A : Type 0} {f : Form A} (w : List ℕ) → list_all is_visible w ≡ true → IsPlain f → IsPlain (led w f)
plain-led {A} {f} w all is = record {
  exact = led-exact w f is.exact;
  visible = led-only is_visible w f all is.visible;
}

plain-either : {A B : Type 0} {f : Form A} {g : Form B} (w : List ℕ) → list_all is_visible w ≡ true → IsPlain f
    → IsPlain g → IsLedByOthers w g → IsPlain (led_or w f g)
plain-either {A} {B} {f} {g} w all first second others = record {
  exact = led_or-exact w f g first.exact second.exact others;
  visible = led_or-only is_visible w f g all first.visible second.visible;
}

plain-value : {A B : Type 0} {f : Form A} (t : A → B) (u : B → A) → IsPlain f
    → ((a : A) → f.has a ≡ true → u (t a) ≡ a) → ((b : B) → t (u b) ≡ b) → IsPlain (as_value t u f)
plain-value {A} {B} {f} t u is ut tu = record {
  exact = as_value-exact t u f is.exact ut tu;
  visible = as_value-only is_visible t u f is.visible;
}

-- ---- numbers and jobs

plain-word : IsPlain number_word
plain-word = plain-number MAX_NUMBER (omega arith)

plain-stay : IsPlain stay_word
plain-stay = plain-number MAX_STAY (omega arith)

plain-two : IsPlain two_numbers
plain-two = plain-pair plain-word plain-word

plain-three : IsPlain three_numbers
plain-three = plain-pair plain-word plain-two

plain-job_parts : IsPlain job_parts
plain-job_parts = plain-value job_of parts_of_job plain-three (λ w e. refl) (λ j. refl)

job_parts-only : WritesOnly is_after_dot job_parts
job_parts-only =
    as_value-only is_after_dot job_of parts_of_job three_numbers
    (and_then-only is_after_dot number_word two_numbers after_dot
    (and_then-only is_after_dot number_word number_word after_dot after_dot))
  where
    after_dot : WritesOnly is_after_dot number_word
    after_dot = number-only is_after_dot MAX_NUMBER (omega arith) digit_is_after_dot

job_parts-some : WritesSome job_parts
job_parts-some j e = omega arith

job_parts-joined : IsReadJoined 46 job_parts
job_parts-joined = joined_words-exact job_parts plain-job_parts.exact is_after_dot 46 refl job_parts-only job_parts-some

plain-job : IsPlain job_word
plain-job = record {
  exact = joined-exact 46 job_parts job_parts-joined;
  visible = joined-only is_visible 46 job_parts refl plain-job_parts.visible;
}

-- ---- shapes

plain-line : IsPlain line_words
plain-line = plain-follows plain-word (λ count. plain-many count plain-job)

plain-server : IsPlain server_words
plain-server =
    plain-pair plain-word (plain-pair plain-word (plain-pair plain-word (plain-pair plain-word (plain-pair plain-word
    (plain-pair plain-word (plain-pair plain-word (plain-led (codes "line") refl plain-line)))))))

plain-router : (links : ℕ) → IsPlain (router_words links)
plain-router links = plain-pair plain-word (plain-many links plain-word)

plain-sink : IsPlain sink_words
plain-sink = plain-pair plain-word plain-stay

-- what is written after another keyword
led-others : {A : Type 0} (w v : List ℕ) (f : Form A) → bytes_eq v w ≡ false → IsLedByOthers w (led v f)
led-others w v f other a e = (v, f.write a, refl, other)

either-others : {A B : Type 0} (w v : List ℕ) (f : Form A) (g : Form B) → bytes_eq v w ≡ false → IsLedByOthers w g
    → IsLedByOthers w (led_or v f g)
either-others w v f g other others (inl a) e = (v, f.write a, refl, other)
either-others w v f g other others (inr b) e = others b e

-- the forms of the last shapes
abbrev last_one : Form (ℕ × ℕ)
last_one = led (codes "sink") sink_words

abbrev last_two : ℕ → Form ((ℕ × List ℕ) ⊎ (ℕ × ℕ))
last_two links = led_or (codes "router") (router_words links) last_one

abbrev last_three : ℕ → Form ((ℕ × (ℕ × ℕ)) ⊎ ((ℕ × List ℕ) ⊎ (ℕ × ℕ)))
last_three links = led_or (codes "delay") three_numbers (last_two links)

abbrev last_four : ℕ → Form (ServerWords ⊎ ((ℕ × (ℕ × ℕ)) ⊎ ((ℕ × List ℕ) ⊎ (ℕ × ℕ))))
last_four links = led_or (codes "server") server_words (last_three links)

module _ (links : ℕ) where
  plain-last_two : IsPlain (last_two links)
  plain-last_two = plain-either (codes "router") refl (plain-router links) (plain-led (codes "sink") refl plain-sink)
      (led-others (codes "router") (codes "sink") sink_words refl)

  plain-last_three : IsPlain (last_three links)
  plain-last_three = plain-either (codes "delay") refl plain-three plain-last_two
      (either-others (codes "delay") (codes "router") (router_words links) last_one refl
      (led-others (codes "delay") (codes "sink") sink_words refl))

  plain-last_four : IsPlain (last_four links)
  plain-last_four = plain-either (codes "server") refl plain-server plain-last_three
      (either-others (codes "server") (codes "delay") three_numbers (last_two links) refl
      (either-others (codes "server") (codes "router") (router_words links) last_one refl
      (led-others (codes "server") (codes "sink") sink_words refl)))

  plain-shape_words : IsPlain (shape_words links)
  plain-shape_words = plain-either (codes "source") refl plain-three plain-last_four
      (either-others (codes "source") (codes "server") server_words (last_three links) refl
      (either-others (codes "source") (codes "delay") three_numbers (last_two links) refl
      (either-others (codes "source") (codes "router") (router_words links) last_one refl
      (led-others (codes "source") (codes "sink") sink_words refl))))

  -- the words of a shape say the number of waiting jobs twice
  words_of_shape : (w : ShapeWords) → (shape_words links).has w ≡ true → from_shape (to_shape w) ≡ w
  words_of_shape (inl (lo, (hi, sent))) e = refl
  words_of_shape (inr (inl (servers, (room, (lo, (hi, (busy, (done, (lost, (count, line)))))))))) e =
      let one = (and_parts (nat_le servers MAX_NUMBER) _ e).1 in
      let two = (and_parts (nat_le room MAX_NUMBER) _ one).1 in
      let three = (and_parts (nat_le lo MAX_NUMBER) _ two).1 in
      let four = (and_parts (nat_le hi MAX_NUMBER) _ three).1 in
      let five = (and_parts (nat_le busy MAX_NUMBER) _ four).1 in
      let six = (and_parts (nat_le done MAX_NUMBER) _ five).1 in
      let seven = (and_parts (nat_le lost MAX_NUMBER) _ six).1 in
      let jobs = (and_parts (nat_le count MAX_NUMBER) _ seven).1 in
      let same : length line ≡ count = eqb-true (length line) count
      (and_parts (length line == count) _ jobs).0 in
      ap (λ (n : ℕ). let w : ShapeWords =
      inr (inl (servers, (room, (lo, (hi, (busy, (done, (lost, (n, line))))))))) in w) same
  words_of_shape (inr (inr (inl (lo, (hi, passed))))) e = refl
  words_of_shape (inr (inr (inr (inl (passed, weights))))) e = refl
  words_of_shape (inr (inr (inr (inr (got, stay))))) e = refl

  plain-shape : IsPlain (shape_form links)
  plain-shape = plain-value to_shape from_shape plain-shape_words words_of_shape shape_of_words
    where
      shape_of_words : (s : Shape) → to_shape (from_shape s) ≡ s
      shape_of_words (shape.Source lo hi sent) = refl
      shape_of_words (shape.Server servers room lo hi busy done lost line) = refl
      shape_of_words (shape.Delay lo hi passed) = refl
      shape_of_words (shape.Router passed weights) = refl
      shape_of_words (shape.Sink got stay) = refl

-- ---- payloads

param_of_word-word : (param : Param) → param_of_word (param_word param) ≡ Some param
param_of_word-word Every = refl
param_of_word-word Service = refl
param_of_word-word Hold = refl
param_of_word-word Servers = refl
param_of_word-word Room = refl
param_of_word-word Weight = refl

find-passes : {X : Type 0} (p : X → Bool) (xs : List X) (x : X) → find p xs ≡ Some x → p x ≡ true
find-passes p [] x e = absurd (cc)
find-passes {X} p (y ∷ ys) x e = by (p y) refl e (λ h. find-passes p ys x h)
  where
    by : (b : Bool) → p y ≡ b → ◌≡◌ {A = Option X} (if b then Some y else find p ys) (Some x)
        → (find p ys ≡ Some x → p x ≡ true) → p x ≡ true
    by true is h rest = subst (λ (z : X). p z ≡ true) (same_Some y x h) is
    by false is h rest = rest h

param_of_word-only : (w : List ℕ) (param : Param) → param_of_word w ≡ Some param → w ≡ param_word param
param_of_word-only w param e =
    sym ((bytes_eq-Decides (param_word param) w).0
    (find-passes (λ (q : Param). bytes_eq (param_word q) w) all_params param e))

param-visible : (param : Param) → list_all is_visible (param_word param) ≡ true
param-visible Every = refl
param-visible Service = refl
param-visible Hold = refl
param-visible Servers = refl
param-visible Room = refl
param-visible Weight = refl

plain-param : IsPlain param_form
plain-param = record {
  exact = spelled-exact param_word param_of_word param_of_word-word param_of_word-only;
  visible = spelled-only is_visible param_word param_of_word param-visible;
}

plain-values : (param : Param) → IsPlain (values_form param)
plain-values Every = plain-two
plain-values Service = plain-two
plain-values Hold = plain-two
plain-values Servers = plain-pair plain-word (plain-silent 0)
plain-values Room = plain-pair plain-word (plain-silent 0)
plain-values Weight = plain-two

plain-change : IsPlain change_form
plain-change =
    plain-value change_of parts_of_change (plain-follows plain-param plain-values) (λ w e. refl) (λ c. refl)

-- the forms of the last payloads
abbrev set_payload : Form Change
set_payload = led (codes "set") change_form

abbrev done_or_set : Form (JobOf ⊎ Change)
done_or_set = led_or (codes "done") job_word set_payload

abbrev jobs_or_set : Form (JobOf ⊎ (JobOf ⊎ Change))
jobs_or_set = led_or (codes "job") job_word done_or_set

plain-done_or_set : IsPlain done_or_set
plain-done_or_set = plain-either (codes "done") refl plain-job (plain-led (codes "set") refl plain-change)
    (led-others (codes "done") (codes "set") change_form refl)

plain-jobs_or_set : IsPlain jobs_or_set
plain-jobs_or_set = plain-either (codes "job") refl plain-job plain-done_or_set
    (either-others (codes "job") (codes "done") job_word set_payload refl
    (led-others (codes "job") (codes "set") change_form refl))

plain-payload_words : IsPlain payload_words
plain-payload_words = plain-either (codes "tick") refl plain-nothing plain-jobs_or_set
    (either-others (codes "tick") (codes "job") job_word done_or_set refl
    (either-others (codes "tick") (codes "done") job_word set_payload refl
    (led-others (codes "tick") (codes "set") change_form refl)))

plain-payload : IsPlain payload_form
plain-payload = plain-value to_payload from_payload plain-payload_words words_back payload_back
  where
    words_back : (w : PayloadWords) → payload_words.has w ≡ true → from_payload (to_payload w) ≡ w
    words_back (inl u) e = refl
    words_back (inr (inl j)) e = refl
    words_back (inr (inr (inl j))) e = refl
    words_back (inr (inr (inr c))) e = refl

    payload_back : (x : Payload) → to_payload (from_payload x) ≡ x
    payload_back Tick = refl
    payload_back (Job j) = refl
    payload_back (Done j) = refl
    payload_back (Set c) = refl

-- ---- the lines

-- no number is a hyphen
number-no_hyphen : IsLedByOthers (codes "-") number_word
number-no_hyphen n e = (decimal n, [], refl, by (bytes_eq (decimal n) (codes "-")) refl)
  where
    by : (b : Bool) → bytes_eq (decimal n) (codes "-") ≡ b → b ≡ false
    by false is = refl
    by true is =
        let same = (bytes_eq-Decides (decimal n) (codes "-")).0 is in
        let less = leb-true n MAX_NUMBER e in
        let digits = digits_decimal digit_numerals n (omega (arith, less)) in
        let hyphen : false ≡ true = subst (λ (w : List ℕ). list_all is_digit w ≡ true) same digits in
        absurd (cc)

plain-end : IsPlain end_form
plain-end = plain-value to_end from_end
    (plain-either (codes "-") refl plain-nothing plain-word number-no_hyphen) words_back end_back
  where
    words_back : (w : Unit {0} ⊎ ℕ) → (led_or (codes "-") nothing number_word).has w ≡ true → from_end (to_end w) ≡ w
    words_back (inl u) e = refl
    words_back (inr end) e = refl

    end_back : (end : Option ℕ) → to_end (from_end end) ≡ end
    end_back None = refl
    end_back (Some end) = refl

lower_is_visible : (b : ℕ) → is_lower b ≡ true → is_visible b ≡ true
lower_is_visible b h = grind (arith, nat_tests)

name_byte_is_visible : (b : ℕ) → is_name_byte b ≡ true → is_visible b ≡ true
name_byte_is_visible b h = grind (arith, nat_tests)

name-visible : (w : List ℕ) → is_name w ≡ true → list_all is_visible w ≡ true
name-visible [] e = absurd (cc)
name-visible (b ∷ bs) e =
    let parts = and_parts (is_lower b && list_all is_name_byte bs) _ e in
    let bytes = and_parts (is_lower b) (list_all is_name_byte bs) parts.0 in
    and_from (is_visible b) (list_all is_visible bs) (lower_is_visible b bytes.0)
    (list_all-weaker is_name_byte is_visible name_byte_is_visible bs bytes.1)

plain-name : IsPlain (such is_name)
plain-name = record { exact = such-exact is_name; visible = such-only is_visible is_name name-visible }

plain-head : IsPlain head_line
plain-head = plain-value to_head from_head (plain-led (codes "snapshot") refl (plain-pair plain-name
    (plain-led (codes "front") refl (plain-pair plain-word (plain-led (codes "end") refl plain-end)))))
    (λ w e. refl) (λ h. refl)

decimal-visible : (s : ℕ) → s < 2 ^ 64 → list_all is_visible (decimal s) ≡ true
decimal-visible s small =
    list_all-weaker is_digit is_visible digit_is_visible (decimal s) (digits_decimal digit_numerals s small)

plain-station : (s links : ℕ) → s < 2 ^ 64 → IsPlain (station_line s links)
plain-station s links small = plain-value to_saved from_saved (plain-led (codes "station") refl
    (plain-led (decimal s) (decimal-visible s small) (plain-led (codes "next") refl (plain-pair plain-word
    (plain-led (codes "drawn") refl (plain-pair plain-word (plain-led (codes "handled") refl (plain-pair plain-word
    (plain-shape links))))))))) (λ w e. refl) (λ x. refl)

plain-message : IsPlain message_line
plain-message = plain-value to_message from_message (plain-pair plain-word (plain-pair plain-word
    (plain-pair plain-word (plain-pair plain-word plain-payload)))) (λ w e. refl) (λ m. refl)

-- ---- from lines

-- a form of which each line is read exactly, and is visible words
pub record IsLineForm {A : Type 0} (f : Form A) : Type 0 where
  pub joined : IsReadJoined 32 f
  pub visible : WritesOnly is_visible f

line : {A : Type 0} {f : Form A} → IsPlain f → WritesSome f → IsLineForm f
line {A} {f} is some = record {
  joined = joined_words-exact f is.exact is_visible 32 refl is.visible some;
  visible = is.visible;
}

pub line-head : IsLineForm head_line
line-head = line plain-head (λ h e. omega arith)

pub line-station : (s links : ℕ) → s < 2 ^ 64 → IsLineForm (station_line s links)
line-station s links small = line (plain-station s links small) (λ x e. omega arith)

pub line-pending : IsLineForm pending_line
line-pending = line (plain-led (codes "pending") refl plain-word) (λ n e. omega arith)

pub line-message : IsLineForm message_line
line-message = line plain-message (λ m e. omega arith)

pub line-trace : IsLineForm trace_line
line-trace = line (plain-led (codes "trace") refl plain-word) (λ n e. omega arith)
