-- The words of a waiting line, one job more.
use Rattle.std.proofs.Common.{◌≡◌, ℕ, ◌+◌, List, ◌∷◌, ◌++◌, length, drop, Some, slice_get, ap, ◌∙◌}
use Rattle.std.specs.List.{flat_map}
use Rattle.std.proofs.lemmas.List.{drop_more, length-append}
use Rattle.std.proofs.lemmas.Option.{get_or_from_slice_get, slice_get_within}
use Rattle.sim_base.specs.declared.message.Job.{Job as JobOf}
use Rattle.snapshot_lines.specs.Grammar.{job_word}
use Rattle.snapshot_lines.specs.Spaced.{spaced}
use Rattle.snapshot_lines.proofs.SpacedWords.{spaced_append}

module _ (line : List JobOf) (i : ℕ) (j : JobOf) (here : slice_get line i ≡ Some j) where
  pub jobs_text-next : spaced (flat_map job_word.write (drop i line))
      ≡ spaced (job_word.write j) ++ spaced (flat_map job_word.write (drop (i + 1) line))
  jobs_text-next =
      ap (λ (l : List JobOf). spaced (flat_map job_word.write l))
      (drop_more line i j (slice_get_within line i j here)
      ∙ ap (λ (x : JobOf). x ∷ drop (i + 1) line) (get_or_from_slice_get line i j j here))
      ∙ spaced_append (job_word.write j) (flat_map job_word.write (drop (i + 1) line))

  pub jobs_length-next : length (spaced (flat_map job_word.write (drop i line)))
      ≡ length (spaced (job_word.write j)) + length (spaced (flat_map job_word.write (drop (i + 1) line)))
  jobs_length-next =
      ap length jobs_text-next
      ∙ length-append (spaced (job_word.write j)) (spaced (flat_map job_word.write (drop (i + 1) line)))
