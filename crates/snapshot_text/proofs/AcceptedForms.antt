-- A snapshot from which a run may go on has the forms of its lines, if its text is not too long.
use Rattle.std.proofs.Common.{◌≡◌, ℕ, zero, suc, ◌+◌, ◌*◌, ◌≤◌, ◌==◌, Bool, true, false, nat_le, nat_lt, List}
use Rattle.std.proofs.Common.{[], ◌∷◌}
use Rattle.std.proofs.Common.{◌++◌, length, refl, sym, ◌∙◌, arith, Option, Some, None, slice_get, eq-eqb}
use Rattle.std.proofs.Common.{ltb-true}
use Rattle.std.specs.Prelude.{◌&&◌, ◌||◌, if◌then◌else◌, map, unwrap_or}
use Rattle.std.specs.List.{flat_map, list_all}
use Rattle.std.proofs.lemmas.Bool.{and_parts, and_from as and, leb-true, le-leb}
use Rattle.std.proofs.lemmas.List.{length-append, length-map}
use Rattle.std.proofs.lemmas.Option.{slice_get_within}
use Rattle.sim_base.specs.declared.limits.TheConstants.{MAX_FILE_BYTES}
use Rattle.sim_base.specs.declared.message.Job.{Job as JobOf}
use Rattle.sim_base.specs.declared.message.Msg.{Msg}
use Rattle.sim_base.specs.declared.message.Payload.{Payload}
use Rattle.sim_base.specs.declared.message.Payload.TheVariants.{Tick, Job, Done, Set}
use Rattle.sim_base.proofs.ListLaws.{list_all-weaker}
use Rattle.decision_script.specs.declared.number.TheConstants.{MAX_NUMBER}
use Rattle.net_model.specs.declared.limits.TheConstants.{MAX_JOBS, MAX_LIMIT, MAX_ROOM, MAX_SERVERS, MAX_TIME}
use Rattle.net_model.specs.declared.limits.TheConstants.{MAX_WEIGHT}
use Rattle.net_model.specs.declared.station.Kind.{Kind}
use Rattle.net_model.specs.declared.station.Kind.TheVariants as kind
use Rattle.net_model.specs.Net.{Net, Site, is_source, no_site, site_at, site_of}
use Rattle.net_model.specs.Rules.{IsKind, IsNet, is_range, is_within}
use Rattle.stations.specs.Fitting.{fits_saved, fits_shape, is_job_of}
use Rattle.stations.specs.declared.saved.Saved.{Saved}
use Rattle.stations.specs.declared.saved.Shape.{Shape}
use Rattle.stations.specs.declared.saved.Shape.TheVariants as shape
use Rattle.stations.specs.declared.sender.TheConstants.{MAX_STAY_SUM, MAX_EVENT_TIMES, MAX_SENDS}
use Rattle.stations.proofs.Lawful.{site_valid}
use Rattle.snapshot_lines.specs.Forms.{line_of}
use Rattle.snapshot_lines.specs.Texts.{ended}
use Rattle.snapshot_lines.specs.declared.numbers.TheConstants.{MAX_STAY}
use Rattle.snapshot_lines.specs.Grammar.{end_form, job_word, message_line, number_word, payload_form}
use Rattle.snapshot_lines.specs.Grammar.{pending_line, shape_form, station_line, trace_line}
use Rattle.checkpoint.specs.RunKeeps.{completions_to}
use Rattle.checkpoint.specs.Tally.{tally}
use Rattle.checkpoint.specs.Accepted.{IsAccepted, first_unfit, fits_end}
use Rattle.checkpoint.specs.Due.{comes_after, first_bad, is_sayable_payload, may_be_due, may_carry, next_in, next_of}
use Rattle.checkpoint.specs.Snapshots.{SnapshotView}
use Rattle.checkpoint.proofs.FittingStations.{first_unfit-cons}
use Rattle.snapshot_text.specs.SnapshotTexts.{HaveForm, IsSayable, links_of, lines_of, station_lines, text_of}
use Rattle.snapshot_text.proofs.Sayable.{change-sayable}

-- a number below a bound that numbers have
fits : (n k : ℕ) → nat_le n k ≡ true → k ≤ MAX_NUMBER → nat_le n MAX_NUMBER ≡ true
fits n k e less = let h = leb-true n k e in le-leb n MAX_NUMBER (omega (arith, h, less))

fits_below : (n k : ℕ) → nat_lt n k ≡ true → k ≤ MAX_NUMBER → nat_le n MAX_NUMBER ≡ true
fits_below n k e less = let h = ltb-true n k e in le-leb n MAX_NUMBER (omega (arith, h, less))

-- both ends of a range
range-form : (low lo hi : ℕ) → is_range low lo hi ≡ true
    → (nat_le lo MAX_NUMBER ≡ true) × (nat_le hi MAX_NUMBER ≡ true)
range-form low lo hi e =
    let both = and_parts (nat_le low lo && nat_le lo hi) (nat_le hi MAX_TIME) e in
    let order = and_parts (nat_le low lo) (nat_le lo hi) both.0 in
    let less = leb-true lo hi order.1 in
    let most = leb-true hi MAX_TIME both.1 in
    (le-leb lo MAX_NUMBER (omega (arith, less, most)), le-leb hi MAX_NUMBER (omega (arith, most)))

within-form : (low high n : ℕ) → is_within low high n ≡ true → high ≤ MAX_NUMBER → nat_le n MAX_NUMBER ≡ true
within-form low high n e less = fits n high (and_parts (nat_le low n) (nat_le n high) e).1 less

-- a text has a byte or more for each line
lines-length : (ls : List (List ℕ)) → length ls ≤ length (flat_map ended ls)
lines-length [] = omega arith
lines-length (l ∷ ls) =
    let rest = lines-length ls in
    let one = length-append (ended l) (flat_map ended ls) in
    let end = length-append l (10 ∷ []) in
    omega (arith, rest, one, end)

module _ (net : Net) (valid : IsNet net) where
  -- ---- jobs

  source-station : (s : ℕ) → is_source (site_of net s).kind ≡ true → s ≤ length net.sites
  source-station zero e = omega arith
  source-station (suc i) e = by (slice_get net.sites i) refl e
    where
      by : (o : Option Site) → slice_get net.sites i ≡ o → is_source (unwrap_or o no_site).kind ≡ true
          → suc i ≤ length net.sites
      by None is h = absurd (cc)
      by (Some site) is h = let less = slice_get_within net.sites i site is in omega (arith, less)

  job-form : (j : JobOf) → is_job_of net j ≡ true → job_word.has j ≡ true
  job-form j e =
      let source = and_parts (is_source (site_of net j.source).kind) _ e in
      let counts = and_parts (nat_lt j.count MAX_JOBS) (nat_lt j.born net.horizon) source.1 in
      let station = source-station j.source source.0 in
      let few = valid.at_most in
      let soon = valid.horizon_max in
      and _ _ (le-leb j.source MAX_NUMBER (omega (arith, station, few)))
      (and _ _ (fits_below j.count MAX_JOBS counts.0 (omega arith))
      (fits_below j.born net.horizon counts.1 (omega (arith, soon))))

  -- ---- stations

  shape-form : (site : Site) (handled : ℕ) (k : Kind) (h : Shape) → IsKind k → handled ≤ MAX_LIMIT
      → fits_shape net site handled k h ≡ true → (shape_form (length site.links)).has h ≡ true
  shape-form site handled (kind.Source lo hi jobs class) (shape.Source low high sent) rules few e =
      let parts = and_parts (is_range 1 low high) (nat_le sent jobs) e in
      let range = range-form 1 low high parts.0 in
      let most = rules.at_most in
      and _ _ range.0 (and _ _ range.1 (fits sent jobs parts.1 (omega (arith, most))))
  shape-form site handled (kind.Server servers room lo hi by_class)
      (shape.Server number space low high busy done lost line) rules few e =
      let parts = and_parts (is_within 1 MAX_SERVERS number && (nat_le space MAX_ROOM && is_range 1 low high)) _ e in
      let parameters = and_parts (is_within 1 MAX_SERVERS number) (nat_le space MAX_ROOM && is_range 1 low high)
      parts.0 in
      let sizes = and_parts (nat_le space MAX_ROOM) (is_range 1 low high) parameters.1 in
      let range = range-form 1 low high sizes.1 in
      let rest = and_parts ((nat_le busy MAX_SERVERS && nat_le (length line) MAX_ROOM)
      && ((length line == 0) || nat_le number busy)) _ parts.1 in
      let service = and_parts (nat_le busy MAX_SERVERS && nat_le (length line) MAX_ROOM)
      ((length line == 0) || nat_le number busy) rest.0 in
      let waiting = and_parts (nat_le busy MAX_SERVERS) (nat_le (length line) MAX_ROOM) service.0 in
      let counts = and_parts (nat_le done handled && nat_le lost handled) (list_all (is_job_of net) line) rest.1 in
      let both = and_parts (nat_le done handled) (nat_le lost handled) counts.0 in
      and _ _ (within-form 1 MAX_SERVERS number parameters.0 (omega arith))
      (and _ _ (fits space MAX_ROOM sizes.0 (omega arith))
      (and _ _ range.0
      (and _ _ range.1
      (and _ _ (fits busy MAX_SERVERS waiting.0 (omega arith))
      (and _ _ (fits done handled both.0 (omega (arith, few)))
      (and _ _ (fits lost handled both.1 (omega (arith, few)))
      (and _ _ (fits (length line) MAX_ROOM waiting.1 (omega arith))
      (and _ _ (eq-eqb (length line) (length line) refl)
      (list_all-weaker (is_job_of net) job_word.has job-form line counts.1)))))))))
  shape-form site handled (kind.Delay lo hi) (shape.Delay low high passed) rules few e =
      let parts = and_parts (is_range 0 low high) (nat_le passed handled) e in
      let range = range-form 0 low high parts.0 in
      and _ _ range.0 (and _ _ range.1 (fits passed handled parts.1 (omega (arith, few))))
  shape-form site handled (kind.Router turn) (shape.Router passed weights) rules few e =
      let parts = and_parts ((length weights.items == length site.links)
      && list_all (is_within 1 MAX_WEIGHT) weights.items)
      (nat_le passed handled) e in
      let links = and_parts (length weights.items == length site.links)
      (list_all (is_within 1 MAX_WEIGHT) weights.items)
      parts.0 in
      and _ _ (fits passed handled parts.1 (omega (arith, few)))
      (and _ _ links.0 (list_all-weaker (is_within 1 MAX_WEIGHT) number_word.has
      (λ w h. within-form 1 MAX_WEIGHT w h (omega arith)) weights.items links.1))
  shape-form site handled kind.Sink (shape.Sink got stay) rules few e =
      let parts = and_parts (nat_le got handled) (nat_lt stay MAX_STAY_SUM) e in
      let less = ltb-true stay MAX_STAY_SUM parts.1 in
      and _ _ (fits got handled parts.0 (omega (arith, few))) (le-leb stay MAX_STAY (omega (arith, less)))
  shape-form site handled k h rules few e = absurd (cc)

  -- a station, or a number that no station has, keeps to the rules of its kind
  kind-rules : (s : ℕ) → IsKind (site_of net s).kind
  kind-rules s = by (site_at net s) refl
    where
      by : (o : Option Site) → site_at net s ≡ o → IsKind (unwrap_or o no_site).kind
      by None is = tt
      by (Some site) is = (site_valid net s site valid is).kind

  -- the counts of saved data that fits
  record HasFewSends (x : Saved) : Type 0 where
    pub next : x.next ≤ MAX_SENDS * (MAX_LIMIT + 1)
    pub drawn : x.drawn ≤ MAX_SENDS * (MAX_LIMIT + 1)
    pub handled : x.handled ≤ MAX_LIMIT

  few-sends : (s : ℕ) (x : Saved) → fits_saved net s x ≡ true → HasFewSends x
  few-sends s x e =
      let parts = and_parts (nat_le x.handled net.limit && (nat_le x.next (MAX_SENDS * (x.handled + 1))
      && nat_le x.drawn (MAX_SENDS * (x.handled + 1)))) _ e in
      let counts = and_parts (nat_le x.handled net.limit) (nat_le x.next (MAX_SENDS * (x.handled + 1))
      && nat_le x.drawn (MAX_SENDS * (x.handled + 1))) parts.0 in
      let sends = and_parts (nat_le x.next (MAX_SENDS * (x.handled + 1)))
      (nat_le x.drawn (MAX_SENDS * (x.handled + 1))) counts.1 in
      let handled = leb-true x.handled net.limit counts.0 in
      let next = leb-true x.next (MAX_SENDS * (x.handled + 1)) sends.0 in
      let drawn = leb-true x.drawn (MAX_SENDS * (x.handled + 1)) sends.1 in
      let short = valid.limit_max in
      record {
        next = omega (arith, handled, next, short);
        drawn = omega (arith, handled, drawn, short);
        handled = omega (arith, handled, short);
      }

  saved-form : (s : ℕ) (x : Saved) → fits_saved net s x ≡ true → (station_line s (links_of net s)).has x ≡ true
  saved-form s x e =
      let few = few-sends s x e in
      let next = few.next in
      let drawn = few.drawn in
      let handled = few.handled in
      let parts = and_parts (nat_le x.handled net.limit && (nat_le x.next (MAX_SENDS * (x.handled + 1))
      && nat_le x.drawn (MAX_SENDS * (x.handled + 1)))) _ e in
      and _ _ (le-leb x.next MAX_NUMBER (omega (arith, next)))
      (and _ _ (le-leb x.drawn MAX_NUMBER (omega (arith, drawn)))
      (and _ _ (le-leb x.handled MAX_NUMBER (omega (arith, handled)))
      (shape-form (site_of net s) x.handled (site_of net s).kind x.shape (kind-rules s) handled parts.1)))

  stations-form : (s : ℕ) (xs : List Saved) → first_unfit net s xs ≡ None → HaveForm net s xs
  stations-form s [] e = tt
  stations-form s (x ∷ xs) e =
      let h = first_unfit-cons net s x xs e in
      (saved-form s x h.0, stations-form (suc s) xs h.1)

  -- the number of a sender's next message is small
  next-small : (s : ℕ) (xs : List Saved) → first_unfit net s xs ≡ None → (i : ℕ)
      → next_in (slice_get xs i) ≤ MAX_SENDS * (MAX_LIMIT + 1)
  next-small s [] e i = omega arith
  next-small s (x ∷ xs) e zero = (few-sends s x (first_unfit-cons net s x xs e).0).next
  next-small s (x ∷ xs) e (suc i) = next-small (suc s) xs (first_unfit-cons net s x xs e).1 i

  next_of-small : (xs : List Saved) → first_unfit net 1 xs ≡ None → (sender : ℕ) → next_of xs sender ≤ MAX_NUMBER
  next_of-small xs e zero = omega arith
  next_of-small xs e (suc i) = let h = next-small 1 xs e i in omega (arith, h)

  -- ---- messages

  module _ (front : ℕ) (saved : List Saved) (fit : first_unfit net 1 saved ≡ None) where
    carried-form : (n to : ℕ) (p : Payload) → may_carry net saved n to p ≡ true → is_sayable_payload p ≡ true
        → payload_form.has p ≡ true
    carried-form n to Tick e say = refl
    carried-form n to (Job j) e say = job-form j e
    carried-form n to (Done j) e say = job-form j (and_parts (is_job_of net j) _ e).0
    carried-form n to (Set c) e say = sym (change-sayable c.param c.a c.b) ∙ say

    message-form : (n : ℕ) (last : Option Msg) (m : Msg) → may_be_due net front saved n last m ≡ true
        → is_sayable_payload m.payload ≡ true → message_line.has m ≡ true
    message-form n last m e say =
        let parts = and_parts (comes_after last m && (nat_le front m.key.time && nat_lt m.key.time MAX_EVENT_TIMES)) _ e
        in
        let times = and_parts (comes_after last m) (nat_le front m.key.time && nat_lt m.key.time MAX_EVENT_TIMES)
        parts.0 in
        let time = and_parts (nat_le front m.key.time) (nat_lt m.key.time MAX_EVENT_TIMES) times.1 in
        let rest = and_parts ((nat_lt 0 m.to && nat_le m.to (length net.sites))
        && nat_le m.key.sender (length net.sites)) _
        parts.1 in
        let who = and_parts (nat_lt 0 m.to && nat_le m.to (length net.sites))
        (nat_le m.key.sender (length net.sites)) rest.0 in
        let to = and_parts (nat_lt 0 m.to) (nat_le m.to (length net.sites)) who.0 in
        let number = and_parts (nat_lt m.key.number (next_of saved m.key.sender)) (may_carry net saved n m.to m.payload)
        rest.1 in
        let few = valid.at_most in
        and _ _ (fits_below m.key.time MAX_EVENT_TIMES time.1 (omega arith))
        (and _ _ (fits m.key.sender (length net.sites) who.1 (omega (arith, few)))
        (and _ _ (fits_below m.key.number (next_of saved m.key.sender) number.0 (next_of-small saved fit m.key.sender))
        (and _ _ (fits m.to (length net.sites) to.1 (omega (arith, few)))
        (carried-form n m.to m.payload number.1 say))))

    messages-form : (before : List Msg) (last : Option Msg) (ms : List Msg)
        → first_bad net front saved before last ms ≡ None → list_all (λ m. is_sayable_payload m.payload) ms ≡ true
        → list_all message_line.has ms ≡ true
    messages-form before last [] e say = refl
    messages-form before last (m ∷ ms) e say =
        by (may_be_due net front saved (tally (completions_to m.to) before) last m) refl e
        (λ h. messages-form (before ++ m ∷ []) (Some m) ms h words.1)
      where
        words : (is_sayable_payload m.payload ≡ true) × (list_all (λ (x : Msg). is_sayable_payload x.payload) ms ≡ true)
        words = and_parts (is_sayable_payload m.payload) (list_all (λ (x : Msg). is_sayable_payload x.payload) ms) say

        by : (b : Bool) → may_be_due net front saved (tally (completions_to m.to) before) last m ≡ b
            → (if b then first_bad net front saved (before ++ m ∷ []) (Some m) ms else Some (length before)) ≡ None
            → (first_bad net front saved (before ++ m ∷ []) (Some m) ms ≡ None → list_all message_line.has ms ≡ true)
            → list_all message_line.has (m ∷ ms) ≡ true
        by false is h rest = absurd (cc)
        by true is h rest =
            and _ _ (message-form (tally (completions_to m.to) before) last m is words.0) (rest h)

  -- ---- the whole snapshot

  end-form : (front : ℕ) (end : Option ℕ) → fits_end net front end ≡ true → end_form.has end ≡ true
  end-form front None e = refl
  end-form front (Some end) e =
      let soon = valid.horizon_max in
      fits_below end net.horizon (and_parts (nat_le front end) (nat_lt end net.horizon) e).1 (omega (arith, soon))

  -- the messages and the trace lines are at most as many as the bytes of the text
  counts-short : (x : SnapshotView) → length x.due + length x.lines ≤ length (text_of net x)
  counts-short x =
      let traces : List (List ℕ) = line_of trace_line (length x.lines) ∷ x.lines in
      let messages : List (List ℕ) = map (line_of message_line) x.due in
      let pending : List (List ℕ) = line_of pending_line (length x.due) ∷ (messages ++ traces) in
      let all = lines-length (lines_of net x) in
      let stations = length-append (station_lines net 1 x.saved) pending in
      let both = length-append messages traces in
      let count = length-map x.due (line_of message_line) in
      omega (arith, all, stations, both, count)

  pub accepted-sayable : (x : SnapshotView) → IsAccepted net x → length (text_of net x) ≤ MAX_FILE_BYTES
      → IsSayable net x
  accepted-sayable x ok short =
      let front = and_parts (nat_le x.front net.horizon) (fits_end net x.front x.end) ok.front in
      let counts = counts-short x in
      let soon = valid.horizon_max in
      record {
        head = and _ _ ok.name (and _ _ (fits x.front net.horizon front.0 (omega (arith, soon)))
            (end-form x.front x.end front.1));
        count = ok.count;
        stations = stations-form 1 x.saved ok.fit;
        message_count = omega (arith, counts, short);
        messages = messages-form x.front x.saved ok.fit [] None x.due ok.due ok.sayable;
        line_count = omega (arith, counts, short);
        lines = ok.lines;
      }
