-- The part of a file that a fetch returns is read as the whole file is: it is the whole file, or too long as well.
use Rattle.std.proofs.Common.{◌≡◌, ℕ, ◌+◌, Bool, true, false, nat_lt, if◌then◌else◌, cond, List, [], length, take, None}
use Rattle.std.proofs.Common.{refl, ap, sym, ◌∙◌, arith, Ok, Err}
use Rattle.std.proofs.lemmas.Bool.Decides.{nat_tests}
use Rattle.std.proofs.lemmas.List.{length-take, take_all}
use Rattle.sim_base.specs.Chain.{◌>>=◌}
use Rattle.sim_base.specs.declared.limits.TheConstants.{MAX_FILE_BYTES}
use Rattle.sim_outer.specs.Files.{prefix_of}
use Rattle.net_model.specs.Text.{model_of_tree, tree}
use Rattle.net_model.specs.declared.fault.ModelFault.TheVariants as bad_model
use Rattle.decision_script.specs.Lines.{lines}
use Rattle.decision_script.specs.Reading.{after_lines, new_reader, script_of}
use Rattle.decision_script.specs.declared.fault.ScriptFault.TheVariants as bad_script
use Rattle.watch_points.specs.Reading as watch_text
use Rattle.watch_points.specs.declared.fault.WatchFault.TheVariants as bad_watches
use Rattle.snapshot_lines.specs.Texts.{read_text}
use Rattle.snapshot_text.specs.Reading.{ends, of_lines, step}
use Rattle.snapshot_text.specs.declared.fault.SnapshotFault.TheVariants as bad_snapshot
use Rattle.cloner_top.specs.Prefixes.{PrefixesStateTheSame}

-- ---- readings that refuse what is too long

module _ {A : Type 0} (most : ℕ) (refusal : A) (reading : List ℕ → A) where
  -- the reading of a text, refused if it has more bytes than this
  abbrev pub within : List ℕ → A
  within text = if nat_lt most (length text) then refusal else reading text

  -- a text's first bytes, one more than the limit, have the same reading, whether or not the text is too long
  within-cut : (text : List ℕ) (longer : Bool) → nat_lt most (length text) ≡ longer
      → within (take (most + 1) text) ≡ within text
  within-cut text true is =
      let cut : nat_lt most (length (take (most + 1) text)) ≡ true =
      let h = length-take (most + 1) text in grind (arith, nat_tests) in
      ap (λ b. cond b refusal (reading (take (most + 1) text))) cut
      ∙ sym (ap (λ b. cond b refusal (reading text)) is)
  within-cut text false is =
      ap within (take_all (most + 1) text (grind (arith, nat_tests)))

  -- the same without the two cases
  pub within-take : (text : List ℕ) → within (take (most + 1) text) ≡ within text
  within-take text = within-cut text (nat_lt most (length text)) refl

-- ---- the texts of an assignment

-- the bytes that a fetch returns of a file are read as the whole file is
pub prefixes_state_the_same : PrefixesStateTheSame
unfolding prefix_of
prefixes_state_the_same file = record {
  model_is = within-take MAX_FILE_BYTES (Err bad_model.TooLong) (λ t. model_of_tree (tree t)) file;
  script_is = within-take MAX_FILE_BYTES (Err bad_script.TooLong)
      (λ t. after_lines 1 new_reader (lines t) >>= λ r. Ok (script_of r)) file;
  watches_are = within-take MAX_FILE_BYTES (Err bad_watches.TooLong)
      (λ t. watch_text.after_lines 1 [] (lines t)) file;
  snapshot_is = λ net. within-take MAX_FILE_BYTES (Err bad_snapshot.TooLong)
      (λ t. of_lines net (read_text (step net) ends None t)) file;
}
