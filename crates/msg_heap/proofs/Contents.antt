-- Content words and their jobs.
use Rattle.std.proofs.Common.{◌≡◌, ℕ, ◌+◌, ◌/◌, ◌%◌, ◌^◌, refl, sym, ap, ◌∙◌, subst, arith}
use Rattle.sim_base.specs.declared.message.Job.{Job as JobOf}
use Rattle.sim_base.specs.declared.message.Payload.{Payload}
use Rattle.sim_base.specs.declared.message.Payload.TheVariants.{Tick, Job, Done}
use Rattle.msg_heap.specs.Jobs.{FitsJob, job_word, job_at}
use Rattle.msg_heap.specs.Packing.{PayloadFits, IsContent, content_of, content_word, payload_of, payload_at}
use Rattle.msg_heap.proofs.Packing.{payload_at-content}

-- the word of a payload that fits is a payload
pub is_content : (p : Payload) → PayloadFits p → IsContent (content_of p)
is_content p f = record {
  fits = subst PayloadFits (sym (payload_at-content p f)) f;
  back = ap content_of (payload_at-content p f);
}

-- a tick fits
pub tick_fits : PayloadFits Tick
tick_fits = record { source = tt; first = omega arith; second = omega arith; third = omega arith }

-- its word is 0
pub tick_word : content_of Tick ≡ 0
unfolding content_word
tick_word = refl

-- a job that arrives fits if the job does
pub job_fits : (j : JobOf) → FitsJob j → PayloadFits (Job j)
job_fits j f = record { source = f.source; first = f.first; second = f.count; third = f.born }

-- its word is the job's, after a 1
pub job_content : (j : JobOf) → content_of (Job j) ≡ 4611686018427387904 + job_word j
unfolding content_word job_word
job_content j = omega arith

-- a job whose service ends fits if the job does
pub done_fits : (j : JobOf) → FitsJob j → PayloadFits (Done j)
done_fits j f = record { source = f.source; first = f.first; second = f.count; third = f.born }

-- its word is the job's, after a 2
pub done_content : (j : JobOf) → content_of (Done j) ≡ 9223372036854775808 + job_word j
unfolding content_word job_word
done_content j = omega arith

-- the numbers below the kind are those of a job
numbers_at : (low : ℕ)
    → (low / 2 ^ 56 % 2 ^ 6 ≡ low % 2 ^ 62 / 2 ^ 56) × (low / 2 ^ 30 % 2 ^ 26 ≡ low % 2 ^ 62 / 2 ^ 30 % 2 ^ 26)
    × (low % 2 ^ 30 ≡ low % 2 ^ 62 % 2 ^ 30)
numbers_at low = (omega arith, omega arith, omega arith)

-- a word of kind 1 is that of a job that arrives
pub job_of : (low : ℕ) → low / 2 ^ 62 ≡ 1 → payload_at low ≡ Job (job_at (low % 2 ^ 62))
unfolding job_at
job_of low e =
    let n = numbers_at low in
    ap (λ k. payload_of k (low / 2 ^ 56 % 2 ^ 6) (low / 2 ^ 30 % 2 ^ 26) (low % 2 ^ 30)) e
    ∙ (λ i. Job (record { source = n.0 i + 1; count = n.1 i; born = n.2 i }))

-- a word of kind 2 is that of a job whose service ends
pub done_of : (low : ℕ) → low / 2 ^ 62 ≡ 2 → payload_at low ≡ Done (job_at (low % 2 ^ 62))
unfolding job_at
done_of low e =
    let n = numbers_at low in
    ap (λ k. payload_of k (low / 2 ^ 56 % 2 ^ 6) (low / 2 ^ 30 % 2 ^ 26) (low % 2 ^ 30)) e
    ∙ (λ i. Done (record { source = n.0 i + 1; count = n.1 i; born = n.2 i }))
