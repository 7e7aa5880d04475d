-- Bounds on counts: a copy gains at most the limit for each of its clones, whether it represents them or not. The
-- counts of a report have the same bound.
use Rattle.std.proofs.Common.{◌≡◌, ℕ, ◌+◌, ◌*◌, ◌≤◌, List, [], ◌∷◌, inl, inr}
use Rattle.std.proofs.Common.{refl, sym, ap, ◌∙◌, subst, arith, length, map, take, Bool}
use Rattle.std.specs.Prelude.{sum_by}
use Rattle.std.specs.List.{flat_map}
use Rattle.std.specs.Set.{distinct_count}
use Rattle.std.proofs.Math.Nat.{add-mul}
use Rattle.std.proofs.lemmas.List.{length-map}
use Rattle.std.proofs.lemmas.List.Sums.{sum_by-cons, sum_by-le}
use Rattle.std.proofs.lemmas.Map.Made.{distinct_count-le}
use Rattle.std.proofs.lemmas.List.Elements.{All-from_recursion}
use Rattle.sim_base.specs.Clones.{Clone, clone_at}
use Rattle.sim_base.specs.declared.entry.Entry.{Entry}
use Rattle.sim_base.specs.Marked.{SortedMarked}
use Rattle.run_laws.specs.Queue.{In}
use Rattle.run_laws.specs.Machine.{run_to}
use Rattle.run_laws.specs.Simulation.{Simulation}
use Rattle.run_laws.specs.Window.{local_step}
use Rattle.run_laws.specs.Handlers.{HandlesLawfully}
use Rattle.run_laws.specs.Runs.{log_at}
use Rattle.run_laws.specs.Sharing.{prefixes, same_list, logs_at}
use Rattle.run_laws.specs.StepLaws.{AreReady}
use Rattle.run_laws.specs.CountLaws.{TellsSizes, AreWithinLimitAt, AreFew}
use Rattle.run_laws.specs.Prefixes.{IsCount, IsGained}
use Rattle.run_laws.specs.Copies.{Copy, Carries, handle_until, takes, messages_taken, view, IsCutLog, GainTogether}
use Rattle.run_laws.proofs.Running.{all_from_zero, run_is}
use Rattle.run_laws.proofs.Parts.{sorted_part}
use Rattle.run_laws.proofs.Prefixes.{no_longer}
use Rattle.run_laws.proofs.Places.{place_in}
use Rattle.run_laws.proofs.Counts.{in_map, map_has, logs_have_prefix, few_prefixes, none_cut}
use Rattle.run_laws.proofs.ComesTo.{until_lawful}
use Rattle.run_laws.proofs.Gaining.{begins_somehow, not_beyond}
use Rattle.run_laws.proofs.Queue.{all_from}

-- ---- gains

module _ {S M N K : Type 0} {sim : Simulation S M N} {Good : ℕ → S → Type 0} (law : HandlesLawfully sim Good)
    (has : K → ℕ → Bool) (ends : ℕ → ℕ) (s bound : ℕ) where
  module _ (r : Copy S M N K) (sent : List (M × K)) (good : Good s r.state)
      (sorted : SortedMarked sim.order r.pending) where
    -- the log that a clone of the copy reaches
    abbrev last_log : ℕ → List (Entry M N)
    last_log c = (run_to sim.order (local_step sim.to (handle_until sim (ends c)) s) sim.time
        (view sim has ends c r sent) bound).at.log

    -- there is one for each clone
    cut_is : (l : List (Entry M N)) (g : IsCutLog sim has ends s bound r sent l) → l ≡ take sim.limit (last_log g.clone)
    cut_is l g = g.is ∙ ap (λ d. take sim.limit d.at.log)
        (run_is law.order (until_lawful law (ends g.clone) s) bound (view sim has ends g.clone r sent) g.last
        (record {
          good = good;
          sorted = sorted_part (takes sim has ends) sim.order g.clone r.pending sorted;
          from_t = all_from_zero sim.time (messages_taken sim has ends g.clone r.pending);
        })
        g.ran g.settled)

    -- one copy
    pub few_gains : (n size : ℕ) → IsCount (λ c. Carries has r c) size →
        IsCount (IsGained (IsCutLog sim has ends s bound r sent) r.log) n → n ≤ size * sim.limit
    few_gains n size clones h =
        let logs : List (List (Entry M N)) = map last_log clones.members in
        let cuts : List (List (Entry M N)) = map (take sim.limit) logs in
        let l : length h.members ≤ length (flat_map prefixes cuts) =
        no_longer h.members (flat_map prefixes cuts) h.apart (λ p i.
        let g = h.exact p i in
        let b = begins_somehow r.log p g.first g.more g.longer in
        logs_have_prefix cuts p (record {
          log = g.log;
          is_log = subst (λ u. In u cuts) (sym (cut_is g.log g.is_log))
              (map_has (take sim.limit) logs (last_log g.is_log.clone)
              (map_has last_log clones.members g.is_log.clone (clones.all g.is_log.clone g.is_log.is_in)));
          first = b.0;
          more = b.1;
          rest = g.rest;
          longer = b.2;
          prefix = g.prefix;
        })) in
        let f : length (flat_map prefixes cuts) ≤ length logs * sim.limit = few_prefixes sim.limit logs in
        let e : length logs * sim.limit ≡ size * sim.limit =
        ap (λ k. k * sim.limit) (length-map clones.members last_log ∙ clones.number) in
        let k = h.number in
        omega (arith, l, f, e, k)

  -- several together
  pub few_gains_together : (size : K → ℕ) (old : List (Copy S M N K)) (n : ℕ) →
      AreReady K sim Good s old → TellsSizes has size old →
      GainTogether sim has ends s bound old n → n ≤ sum_by (λ a. size a.set) old * sim.limit
  few_gains_together size [] n ready sized e = omega (arith, e)
  few_gains_together size (a ∷ old) n ready sized h =
      let x = ready a (inl refl) in
      let one = few_gains a [] x.0 x.1 h.0 (size a.set) (sized a (inl refl)) h.2 in
      let rest = few_gains_together size old h.1 (λ b i. ready b (inr i)) (λ b i. sized b (inr i)) h.3 in
      let e = h.4 in
      let c : sum_by (λ (b : Copy S M N K). size b.set) (a ∷ old) * sim.limit
      ≡ (size a.set + sum_by (λ (b : Copy S M N K). size b.set) old) * sim.limit =
      ap (λ k. k * sim.limit) (sum_by-cons (λ (b : Copy S M N K). size b.set) a old) in
      let d = add-mul (size a.set) (sum_by (λ (b : Copy S M N K). size b.set) old) sim.limit in
      omega (arith, one, rest, e, c, d)

-- ---- counts

module _ {S M N : Type 0} (sim : Simulation S M N) where
  -- if no log is beyond the limit
  pub counts_are_few : (same : Entry M N → Entry M N → Bool) (cs : List Clone) (s front : ℕ) →
      AreWithinLimitAt sim cs s front →
      AreFew sim same cs s front
  counts_are_few same cs s front short =
      let logs : List (List (Entry M N)) = logs_at sim cs s front in
      let many : length logs ≡ length cs = length-map cs (λ c. log_at sim c s front) in
      let limits : length logs * sim.limit ≡ length cs * sim.limit = ap (λ k. k * sim.limit) many in
      let each : (l : List (Entry M N)) → In l logs → length l ≤ sim.limit = λ l i.
      let k = in_map (λ c. log_at sim c s front) cs l i in
      let c = place_in cs k.0 k.1 in
      subst (λ t. length t ≤ sim.limit) (ap (λ k. log_at sim k s front) c.2 ∙ sym k.2)
      (not_beyond sim (clone_at cs c.0) s front (short c.0 c.1)) in
      let few : length (flat_map prefixes logs) ≤ length logs * sim.limit =
      subst (λ t. length (flat_map prefixes t) ≤ length logs * sim.limit) (none_cut sim.limit logs each)
      (few_prefixes sim.limit logs) in
      let sum : sum_by length logs ≤ length logs * sim.limit =
      sum_by-le length sim.limit logs (All-from_recursion (λ l. length l ≤ sim.limit) logs
      (all_from (λ l. length l ≤ sim.limit) logs each)) in
      let different : distinct_count (same_list same) logs ≤ length logs = distinct_count-le (same_list same) logs in
      let once : distinct_count (same_list same) (flat_map prefixes logs) ≤ length (flat_map prefixes logs) =
      distinct_count-le (same_list same) (flat_map prefixes logs) in
      record {
        copies_few = omega (arith, different, many);
        handled_few = omega (arith, once, few, limits);
        alone_few = omega (arith, sum, limits);
      }
