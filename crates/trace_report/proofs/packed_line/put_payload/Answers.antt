use Rattle.std.proofs.Common.{◌≡◌, ◌≢◌, ◌+◌, ◌/◌, ◌%◌, ◌^◌, ◌<◌, ◌≤◌, ◌++◌, ℕ, List, take, refl, sym}
use Rattle.std.proofs.Common.{◌∙◌, subst, codes, decimal, arith, append_assoc, Ordering, Less, Equal, Greater, nat_cmp}
use Rattle.std.specs.Cmp.{ranks}
use Rattle.std.specs.Ordering.{MatchOrdering}
use Rattle.net_model.specs.Net.{Net}
use Rattle.msg_heap.specs.Packing.{payload_at, payload_of}
use Rattle.trace_report.specs.TraceText.{station_name, class_text, payload_text}
use Rattle.trace_report.specs.Writers.{WritesPiece}
use Rattle.trace_report.specs.declared.packed_line.TheConstants.{MAX_JOB, MAX_PAYLOAD}
use Rattle.trace_report.proofs.packed_line.put_payload.Goals as goal

module _ (net : Net) (low at mid end : ℕ) (old half new : List ℕ) where
  -- the text of the job in a content word
  abbrev job : List ℕ
  job = station_name net (low / 2 ^ 56 % 2 ^ 6 + 1) ++ codes "." ++ decimal (low / 2 ^ 30 % 2 ^ 26)
      ++ class_text net (low / 2 ^ 56 % 2 ^ 6 + 1)

  -- a payload of this kind is written
  abbrev Written : ℕ → Type 0
  Written kind = WritesPiece (codes " " ++ payload_text net (payload_of kind (low / 2 ^ 56 % 2 ^ 6)
      (low / 2 ^ 30 % 2 ^ 26) (low % 2 ^ 30))) MAX_PAYLOAD at end old new

  -- the first bytes of this word are written
  abbrev Started : List ℕ → ℕ → Type 0
  Started word len = WritesPiece (take len word) len at mid old half

  -- a word of at most six bytes, and the job after it
  with_word : (word : List ℕ) (len : ℕ) → len ≤ 6 → WritesPiece word len at mid old half
      → WritesPiece job MAX_JOB mid end half new → WritesPiece (word ++ job) MAX_PAYLOAD at end old new
  with_word word len l first second =
      record {
        text = second.text ∙ rw (first.text, append_assoc) refl;
        size = second.size ∙ first.size;
        end_max = omega (arith, l, first.end_max, second.end_max);
      }

  -- what is left of the kinds when ticks and sets are out
  pub written : (kind : ℕ) (word : List ℕ) → kind < 4 → kind ≢ 0 → kind ≢ 3
      → (kind ≡ 1 → take 5 word ≡ codes " job ") → (kind ≢ 1 → take 6 word ≡ codes " done ")
      → Started word (4 + kind) → WritesPiece job MAX_JOB mid end half new → Written kind
  written kind word fits no_tick no_set is_job is_done first second = by (nat_cmp kind 1) (ranks kind 1)
    where
      by : (r : Ordering) → MatchOrdering r (kind < 1) (kind ≡ 1) (1 < kind) → Written kind
      by Less l = absurd (no_tick (omega (arith, l)))
      by Equal e = subst Written (sym e) (with_word (codes " job ") 5 (omega arith)
          (subst (λ w. WritesPiece w 5 at mid old half) (is_job e) (subst (λ k. Started word (4 + k)) e first)) second)
      by Greater l =
          let e : kind ≡ 2 = omega (arith, l, fits, no_set) in
          let other : kind ≢ 1 = omega (arith, l) in
          subst Written (sym e) (with_word (codes " done ") 6 (omega arith)
          (subst (λ w. WritesPiece w 6 at mid old half) (is_done other) (subst (λ k. Started word (4 + k)) e first))
          second)

pub returns-else-kind-eq3 : goal.returns-else-kind-eq3
returns-else-kind-eq3 c =
    let low = c.args.low in
    record {
      written = written c.args.model.now low c.args.at c.put8-at.result c.put_job.result c.args.bytes.now
          c.put8-at.new.bytes c.put_job.new.bytes (low / 2 ^ 62) c.job_word.result (omega (arith, c.ranges.low.fits))
          c.if-kind-eq0.false c.if-kind-eq3.false c.job_word.ensures.job c.job_word.ensures.done
          c.put8-at.ensures.written c.put_job.ensures.written;
    }
