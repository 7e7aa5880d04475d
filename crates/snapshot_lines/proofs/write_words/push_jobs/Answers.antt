use Rattle.std.proofs.Common.{rules, ◌≡◌, ℕ, ◌+◌, List, ◌++◌, drop, sym, ap, ◌∙◌, append_assoc}
use Rattle.std.specs.List.{flat_map}
use Rattle.snapshot_lines.specs.Grammar.{job_word}
use Rattle.snapshot_lines.specs.Spaced.{spaced}
use Rattle.snapshot_lines.proofs.WaitingLines.{jobs_text-next}
use Rattle.snapshot_lines.proofs.write_words.push_jobs.Goals as goal

pub jobs-preserved : goal.jobs-preserved
jobs-preserved c =
    let rest : List ℕ = spaced (flat_map job_word.write (drop (c.jobs.place + 1) c.args.line.now)) in
    let one : List ℕ = spaced (job_word.write c.get.result) in
    let next = jobs_text-next c.args.line.now c.jobs.place c.get.result c.get.ensures in
    let items : c.push_job.new.out.items ≡ c.jobs.out.items ++ one = search rules in
    ap (λ (t : List ℕ). t ++ rest) items
    ∙ (append_assoc c.jobs.out.items one rest
    ∙ (ap (λ (t : List ℕ). c.jobs.out.items ++ t) (sym next) ∙ c.jobs.invariant))
