-- Jobs are read back from their word.
use Rattle.std.proofs.Common.{◌≡◌, ℕ, ◌+◌, ◌-◌, ◌*◌, ◌/◌, ◌%◌, ◌^◌, ◌<◌, sym, ap, ◌∙◌, subst, arith}
use Rattle.std.proofs.lemmas.Nat.{mod_low, shr-shr, shr_split}
use Rattle.sim_base.specs.declared.message.Job.{Job}
use Rattle.msg_heap.specs.Jobs.{FitsJob, job_word, job_at, IsJob}

-- a job that fits is that of its word
pub job_back : (j : Job) → FitsJob j → job_at (job_word j) ≡ j
unfolding job_word job_at
job_back j f =
    let few = f.first in
    let fc = f.count in
    let fb = f.born in
    let w = ((j.source - 1) * 67108864 + j.count) * 1073741824 + j.born in
    let first : w / 2 ^ 56 + 1 ≡ j.source = omega (arith, f.source) in
    let two : w / 2 ^ 30 ≡ (j.source - 1) * 67108864 + j.count = omega arith in
    let count : w / 2 ^ 30 % 2 ^ 26 ≡ j.count = ap (λ x. x % 2 ^ 26) two ∙ mod_low (j.source - 1) 26 j.count fc in
    let born : w % 2 ^ 30 ≡ j.born = mod_low ((j.source - 1) * 67108864 + j.count) 30 j.born fb in
    (λ i. record { source = first i; count = count i; born = born i })

-- so its word is a job
pub is_job : (j : Job) → FitsJob j → IsJob (job_word j)
is_job j f = record { fits = subst FitsJob (sym (job_back j f)) f; back = ap job_word (job_back j f) }

-- as is each word of 62 bits
pub job_in : (w : ℕ) → w < 2 ^ 62 → IsJob w
unfolding job_word job_at
job_in w l =
    let low : w / 2 ^ 30 * 2 ^ 30 + w % 2 ^ 30 ≡ w = shr_split w 30 in
    let high : w / 2 ^ 30 / 2 ^ 26 * 2 ^ 26 + w / 2 ^ 30 % 2 ^ 26 ≡ w / 2 ^ 30 = shr_split (w / 2 ^ 30) 26 in
    let up : w / 2 ^ 30 / 2 ^ 26 ≡ w / 2 ^ 56 = shr-shr w 30 26 in
    record {
      fits = record {
        source = omega arith;
        first = omega (arith, l);
        count = omega arith;
        born = omega arith;
      };
      back = omega (arith, low, high, up);
    }

-- a job's word has 62 bits
pub job_word-lt : (j : Job) → FitsJob j → job_word j < 2 ^ 62
unfolding job_word
job_word-lt j f =
    let few = f.first in
    let fc = f.count in
    let fb = f.born in
    omega arith

-- a job's word from its numbers
pub word_is : (n : ℕ) (j : Job) → n ≡ j.source
    → job_word j ≡ ((n - 1) * 67108864 + j.count) * 1073741824 + j.born
unfolding job_word
word_is n j is = ap (λ k. ((k - 1) * 67108864 + j.count) * 1073741824 + j.born) (sym is)
