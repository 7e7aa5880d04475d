-- Jobs as numbers of 62 bits: the source, from 0, the count and the time of birth.
use Rattle.std.specs.Prelude.{◌≡◌, ℕ, ◌+◌, ◌-◌, ◌*◌, ◌/◌, ◌%◌, ◌^◌, ◌<◌, ◌≤◌}
use Rattle.sim_base.specs.declared.message.Job.{Job}

-- a job whose numbers fit
pub record FitsJob (j : Job) : Type 0 where
  pub source : 1 ≤ j.source
  pub first : j.source - 1 < 64
  pub count : j.count < 67108864
  pub born : j.born < 1073741824

-- a job as a word
unfoldable pub job_word : Job → ℕ
job_word j = ((j.source - 1) * 67108864 + j.count) * 1073741824 + j.born

-- the job of a word
unfoldable pub job_at : ℕ → Job
job_at w = record { source = w / 2 ^ 56 + 1; count = w / 2 ^ 30 % 2 ^ 26; born = w % 2 ^ 30 }

-- a word that is a job
pub record IsJob (w : ℕ) : Type 0 where
  pub fits : FitsJob (job_at w)
  pub back : job_word (job_at w) ≡ w
