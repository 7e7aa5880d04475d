-- Printed texts of bounded length: trace lines are such texts.
use Rattle.std.proofs.Common.{◌≡◌, ℕ, ◌+◌, ◌-◌, ◌<◌, ◌≤◌, ◌^◌, List, [], ◌∷◌, ◌++◌, length}
use Rattle.std.proofs.Common.{Bool}
use Rattle.std.proofs.Common.{true, false, refl, ◌∙◌, Option, Some, None, arith, length-append}
use Rattle.std.proofs.Common.{decimal, codes, nat_lt, ltb-true, ◌==◌}
use Rattle.std.specs.Prelude.{◌&&◌, if◌then◌else◌}
use Rattle.std.specs.List.{join_with_byte, list_all}
use Rattle.std.proofs.lemmas.Bool.{and_parts, le-leb, leb-true}
use Rattle.std.proofs.lemmas.Bool.Decides.{nat_tests}
use Rattle.std.proofs.lemmas.Fmt.{digits_decimal, length-decimal-le}
use Rattle.std.proofs.lemmas.List.Folds.{list_all-append}
use Rattle.sim_base.proofs.ListLaws.{list_all-weaker, take-append}
use Rattle.sim_base.specs.Names.{is_digit, is_lower, is_name, is_name_byte}
use Rattle.sim_base.specs.Params.{param_word}
use Rattle.sim_base.specs.declared.entry.Entry.{Entry}
use Rattle.sim_base.specs.declared.entry.Line.{Line}
use Rattle.sim_base.specs.declared.entry.Line.TheVariants.{Source, Server, Passed, Sink}
use Rattle.sim_base.specs.declared.message.Job.{Job as JobOf}
use Rattle.sim_base.specs.declared.message.Msg.{Msg}
use Rattle.sim_base.specs.declared.message.Param.{Param}
use Rattle.sim_base.specs.declared.message.Param.TheVariants.{Every, Service, Hold, Servers, Room, Weight}
use Rattle.sim_base.specs.declared.message.Payload.{Payload}
use Rattle.sim_base.specs.declared.message.Payload.TheVariants.{Tick, Job, Done, Set}
use Rattle.sim_base.proofs.Digits.{digit_numerals}
use Rattle.decision_script.specs.declared.number.TheConstants.{MAX_NUMBER}
use Rattle.net_model.specs.Net.{Net, Site, class_from, class_of_kind, is_source, site_at, site_of}
use Rattle.net_model.specs.Rules.{IsKind, IsNet}
use Rattle.net_model.specs.declared.limits.TheConstants.{MAX_JOBS}
use Rattle.net_model.specs.declared.station.Kind.{Kind}
use Rattle.net_model.specs.declared.station.Kind.TheVariants as kind
use Rattle.stations.specs.Fitting.{is_job_of}
use Rattle.stations.proofs.Lawful.{site_valid}
use Rattle.checkpoint.specs.RunKeeps.{CarriesJobOf}
use Rattle.trace_report.specs.TraceText.{change_text, class_text, counts_text, entry_line, job_text, line_start}
use Rattle.trace_report.specs.TraceText.{name_or_analyst, payload_text, station_name}
use Rattle.checkpoint.specs.Due.{is_sayable, is_sayable_payload}
use Rattle.checkpoint.specs.RunSnapshots.{trace_line}
use Rattle.checkpoint.specs.TraceLines.{is_printed, is_trace_line}

-- a printed text of at most this length
pub record IsShort (most : ℕ) (text : List ℕ) : Type 0 where
  pub length_max : length text ≤ most
  pub printed : list_all is_printed text ≡ true

-- ---- IsShort

short-append : (a b : ℕ) (x y : List ℕ) → IsShort a x → IsShort b y → IsShort (a + b) (x ++ y)
short-append a b x y hx hy = record {
  length_max =
      let all = length-append x y in
      let first = hx.length_max in
      let second = hy.length_max in
      omega (arith, all, first, second);
  printed = list_all-append is_printed x y ∙ rw hx.printed hy.printed;
}

short-weaker : (a b : ℕ) (x : List ℕ) → a ≤ b → IsShort a x → IsShort b x
short-weaker a b x le h =
    record { length_max = let most = h.length_max in omega (arith, le, most); printed = h.printed }

short-codes : (most : ℕ) (x : List ℕ) → length x ≤ most → list_all is_printed x ≡ true → IsShort most x
short-codes most x le all = record { length_max = le; printed = all }

digit_printed : (b : ℕ) → is_digit b ≡ true → is_printed b ≡ true
digit_printed b h = grind (arith, nat_tests)

decimal_printed : (n : ℕ) → n < 2 ^ 64 → list_all is_printed (decimal n) ≡ true
decimal_printed n wide = list_all-weaker is_digit is_printed digit_printed (decimal n)
    (digits_decimal digit_numerals n wide)

short-decimal : (n : ℕ) → n ≤ MAX_NUMBER → IsShort 10 (decimal n)
short-decimal n le =
    let wide : n < 2 ^ 64 = omega arith in
    record {
      length_max = length-decimal-le 10 n (omega arith) (omega arith) wide;
      printed = decimal_printed n wide;
    }

short-long_decimal : (n : ℕ) → n < 2 ^ 64 → IsShort 20 (decimal n)
short-long_decimal n wide = record {
  length_max = length-decimal-le 20 n (omega arith) (omega arith) wide;
  printed = decimal_printed n wide;
}

-- a name
name_byte_printed : (b : ℕ) → is_name_byte b ≡ true → is_printed b ≡ true
name_byte_printed b h = grind (arith, nat_tests)

lower_printed : (b : ℕ) → is_lower b ≡ true → is_printed b ≡ true
lower_printed b h = grind (arith, nat_tests)

short-name : (name : List ℕ) → is_name name ≡ true → IsShort 16 name
short-name [] named = absurd (cc)
short-name (b ∷ bs) named =
    let h = and_parts _ _ named in
    let first = and_parts _ _ h.0 in
    record {
      length_max = grind (arith, nat_tests, h.1);
      printed = rw (lower_printed b first.0) (list_all-weaker is_name_byte is_printed name_byte_printed bs first.1);
    }

module _ (net : Net) (valid : IsNet net) where
  -- ---- station_name, class_text, job_text

  short-station_name : (s : ℕ) → IsShort 16 (station_name net s)
  short-station_name s = by (site_at net s) refl
    where
      by : (o : Option Site) → site_at net s ≡ o → IsShort 16 (name_or_analyst o)
      by None is = record { length_max = omega arith; printed = refl }
      by (Some site) is = short-name site.name (site_valid net s site valid is).named

  class_of_kind-le : (k : Kind) → IsKind k → class_of_kind k ≤ MAX_NUMBER
  class_of_kind-le (kind.Source lo hi jobs class) is = let last = is.last in omega (arith, last)
  class_of_kind-le (kind.Server servers room lo hi by_class) is = omega arith
  class_of_kind-le (kind.Delay lo hi) is = omega arith
  class_of_kind-le (kind.Router turn) is = omega arith
  class_of_kind-le kind.Sink is = omega arith

  class_from-le : (s : ℕ) → class_from net s ≤ MAX_NUMBER
  class_from-le s = by (site_at net s) refl
    where
      by : (o : Option Site) → site_at net s ≡ o → class_from net s ≤ MAX_NUMBER
      by None is = rw is (omega arith)
      by (Some site) is = rw is (class_of_kind-le site.kind (site_valid net s site valid is).kind)

  short-class_text : (s : ℕ) → IsShort 11 (class_text net s)
  short-class_text s = by (net.format == 2)
    where
      by : (b : Bool) → IsShort 11 (if b then codes ":" ++ decimal (class_from net s) else [])
      by true = short-append 1 10 (codes ":") (decimal (class_from net s))
          (short-codes 1 (codes ":") (omega arith) refl) (short-decimal (class_from net s) (class_from-le s))
      by false = record { length_max = omega arith; printed = refl }

  short-job_text : (j : JobOf) → is_job_of net j ≡ true → IsShort 38 (job_text net j)
  short-job_text j own =
      let h = and_parts (is_source (site_of net j.source).kind)
      (nat_lt j.count MAX_JOBS && nat_lt j.born net.horizon) own in
      let counts = and_parts (nat_lt j.count MAX_JOBS) (nat_lt j.born net.horizon) h.1 in
      let less = ltb-true j.count MAX_JOBS counts.0 in
      let few : j.count ≤ MAX_NUMBER = omega (arith, less) in
      short-append 27 11 _ (class_text net j.source) (short-append 17 10 _ (decimal j.count)
      (short-append 16 1 (station_name net j.source) (codes ".") (short-station_name j.source)
      (short-codes 1 (codes ".") (omega arith) refl)) (short-decimal j.count few)) (short-class_text j.source)

  -- ---- payload_text

  -- a word and one value, or two
  short-one : (word : List ℕ) (a : ℕ) → IsShort 7 word → a ≤ MAX_NUMBER →
      IsShort 29 (join_with_byte 32 (word ∷ decimal a ∷ []))
  short-one word a is le = short-weaker 18 29 _ (omega arith) (short-append 7 11 word (32 ∷ decimal a) is
      (short-append 1 10 (32 ∷ []) (decimal a) (short-codes _ _ (omega arith) refl)
      (short-decimal a le)))

  short-two : (word : List ℕ) (a b : ℕ) → IsShort 7 word → a ≤ MAX_NUMBER → b ≤ MAX_NUMBER →
      IsShort 29 (join_with_byte 32 (word ∷ decimal a ∷ decimal b ∷ []))
  short-two word a b is le leb = short-append 7 22 word _ is
      (short-append 1 21 (32 ∷ []) _ (short-codes _ _ (omega arith) refl)
      (short-append 10 11 (decimal a) _ (short-decimal a le)
      (short-append 1 10 (32 ∷ []) (decimal b) (short-codes _ _ (omega arith) refl)
      (short-decimal b leb))))

  short-change : (p : Param) (a b : ℕ) → is_sayable (record { param = p; a = a; b = b }) ≡ true →
      IsShort 29 (change_text (record { param = p; a = a; b = b }))
  short-change Every a b may = let h = and_parts _ _ may in short-two (param_word Every) a b
      (short-codes _ _ (omega arith) refl) (leb-true a MAX_NUMBER h.0) (leb-true b MAX_NUMBER h.1)
  short-change Service a b may = let h = and_parts _ _ may in short-two (param_word Service) a b
      (short-codes _ _ (omega arith) refl) (leb-true a MAX_NUMBER h.0) (leb-true b MAX_NUMBER h.1)
  short-change Hold a b may = let h = and_parts _ _ may in short-two (param_word Hold) a b
      (short-codes _ _ (omega arith) refl) (leb-true a MAX_NUMBER h.0) (leb-true b MAX_NUMBER h.1)
  short-change Servers a b may = let h = and_parts _ _ may in short-one (param_word Servers) a
      (short-codes _ _ (omega arith) refl) (leb-true a MAX_NUMBER h.0)
  short-change Room a b may = let h = and_parts _ _ may in short-one (param_word Room) a
      (short-codes _ _ (omega arith) refl) (leb-true a MAX_NUMBER h.0)
  short-change Weight a b may = let h = and_parts _ _ may in short-two (param_word Weight) a b
      (short-codes _ _ (omega arith) refl) (leb-true a MAX_NUMBER h.0) (leb-true b MAX_NUMBER h.1)

  short-payload_text : (p : Payload) → CarriesJobOf net p → is_sayable_payload p ≡ true →
      IsShort 43 (payload_text net p)
  short-payload_text Tick own may = record { length_max = omega arith; printed = refl }
  short-payload_text (Job j) own may = short-weaker 42 43 _ (omega arith) (short-append 4 38 (codes "job ") _
      (short-codes _ _ (omega arith) refl) (short-job_text j own))
  short-payload_text (Done j) own may = short-append 5 38 (codes "done ") _
      (short-codes _ _ (omega arith) refl) (short-job_text j own)
  short-payload_text (Set c) own may = short-weaker 33 43 _ (omega arith) (short-append 4 29 (codes "set ") _
      (short-codes _ _ (omega arith) refl) (short-change c.param c.a c.b may))

  -- ---- counts_text

  -- counts with at most ten digits each; a sum of stays has up to twenty
  abbrev pub AreSmall : Line → Type 0
  AreSmall (Source sent) = sent ≤ MAX_NUMBER
  AreSmall (Server busy wait done lost) =
      (busy ≤ MAX_NUMBER) × (wait ≤ MAX_NUMBER) × (done ≤ MAX_NUMBER) × (lost ≤ MAX_NUMBER)
  AreSmall (Passed passed) = passed ≤ MAX_NUMBER
  AreSmall (Sink got stay) = (got ≤ MAX_NUMBER) × (stay < 2 ^ 64)

  short-counts_text : (l : Line) → AreSmall l → IsShort 63 (counts_text l)
  short-counts_text (Source sent) is = short-weaker 15 63 _ (omega arith) (short-append 5 10 (codes "sent=")
      (decimal sent) (short-codes 5 (codes "sent=") (omega arith) refl) (short-decimal sent is))
  short-counts_text (Server busy wait done lost) is =
      short-append 53 10 _ (decimal lost) (short-append 47 6 _ (codes " lost=")
      (short-append 37 10 _ (decimal done) (short-append 31 6 _ (codes " done=")
      (short-append 21 10 _ (decimal wait) (short-append 15 6 _ (codes " wait=")
      (short-append 5 10 (codes "busy=") (decimal busy) (short-codes 5 (codes "busy=") (omega arith) refl)
      (short-decimal busy is.0)) (short-codes 6 (codes " wait=") (omega arith) refl)) (short-decimal wait is.1))
      (short-codes 6 (codes " done=") (omega arith) refl)) (short-decimal done is.2))
      (short-codes 6 (codes " lost=") (omega arith) refl)) (short-decimal lost is.3)
  short-counts_text (Passed passed) is = short-weaker 17 63 _ (omega arith) (short-append 7 10 (codes "passed=")
      (decimal passed) (short-codes 7 (codes "passed=") (omega arith) refl) (short-decimal passed is))
  short-counts_text (Sink got stay) is = short-weaker 40 63 _ (omega arith)
      (short-append 20 20 _ (decimal stay) (short-append 14 6 _ (codes " stay=")
      (short-append 4 10 (codes "got=") (decimal got) (short-codes 4 (codes "got=") (omega arith) refl)
      (short-decimal got is.0)) (short-codes 6 (codes " stay=") (omega arith) refl)) (short-long_decimal stay is.1))

  -- ---- trace_line

  -- an entry of whose numbers all but a sum of stays have at most ten digits, and whose payload words can say
  pub record IsSmallEntry (e : Entry Msg Line) : Type 0 where
    pub time : e.msg.key.time ≤ MAX_NUMBER
    pub number : e.msg.key.number ≤ MAX_NUMBER
    pub job : CarriesJobOf net e.msg.payload
    pub sayable : is_sayable_payload e.msg.payload ≡ true
    pub counts : AreSmall e.line

  -- the line of an entry before its line feed
  abbrev pub body : Entry Msg Line → List ℕ
  body e = line_start net e.msg.key e.msg.to ++ payload_text net e.msg.payload ++ codes " " ++ counts_text e.line

  pub trace_line-body : (e : Entry Msg Line) → trace_line net e ≡ body e
  trace_line-body e = take-append (body e) (codes "\n") (length (entry_line net e) - 1)
      (let all = length-append (body e) (codes "\n") in omega (arith, all))

  short-space : IsShort 1 (codes " ")
  short-space = short-codes 1 (codes " ") (omega arith) refl

  short-start : (time to sender number : ℕ) → time ≤ MAX_NUMBER → number ≤ MAX_NUMBER →
      IsShort 56 (line_start net (record { time = time; sender = sender; number = number }) to)
  short-start time to sender number few least =
      short-append 55 1 _ (codes " ") (short-append 45 10 _ (decimal number)
      (short-append 44 1 _ (codes " ") (short-append 28 16 _ (station_name net sender)
      (short-append 27 1 _ (codes " ") (short-append 11 16 _ (station_name net to)
      (short-append 10 1 (decimal time) (codes " ") (short-decimal time few) short-space)
      (short-station_name to)) short-space) (short-station_name sender)) short-space) (short-decimal number least))
      short-space

  short-body : (e : Entry Msg Line) → IsSmallEntry e → IsShort 163 (body e)
  short-body e is =
      short-append 100 63 _ (counts_text e.line) (short-append 99 1 _ (codes " ")
      (short-append 56 43 (line_start net e.msg.key e.msg.to) (payload_text net e.msg.payload)
      (short-start e.msg.key.time e.msg.to e.msg.key.sender e.msg.key.number is.time is.number)
      (short-payload_text e.msg.payload is.job is.sayable)) short-space) (short-counts_text e.line is.counts)

  -- the line of such an entry is a trace line
  pub small_entry-line : (e : Entry Msg Line) → IsSmallEntry e → is_trace_line (trace_line net e) ≡ true
  small_entry-line e is =
      let short = short-body e is in
      let most = short.length_max in
      let start = line_start net e.msg.key e.msg.to ++ payload_text net e.msg.payload in
      let one = length-append (start ++ codes " ") (counts_text e.line) in
      let two : length (start ++ codes " ") ≡ length start + 1 = length-append start (codes " ") in
      let some : 1 ≤ length (body e) = omega (arith, one, two) in
      rw (
        trace_line-body e,
        le-leb 1 (length (body e)) some,
        le-leb (length (body e)) 200 (omega (arith, most)),
        short.printed,
      ) refl
