-- The words of a clone's trace and logs, and the logs merged from a word on.
use Rattle.std.proofs.Common.{◌≡◌, ℕ, suc, ◌+◌, ◌<◌, not, nat_lt, List, [], ◌∷◌, inl, refl, sym, ap, ap₂, ◌∙◌}
use Rattle.std.proofs.Common.{subst, arith, length, ◌==◌, eq-eqb}
use Rattle.std.specs.declared.cmp.Ordering.TheVariants.{Less}
use Rattle.sim_base.specs.Clones.{Clone}
use Rattle.sim_base.specs.KeyWords.{FitsWord}
use Rattle.sim_base.specs.declared.entry.Line.{Line}
use Rattle.sim_base.specs.declared.message.Msg.{Msg}
use Rattle.sim_base.proofs.KeyWords.{key_word-lt}
use Rattle.run_laws.specs.Merges.{merge}
use Rattle.run_laws.specs.Queue.{In, Sorted}
use Rattle.run_laws.specs.Simulation.{Simulation}
use Rattle.run_laws.proofs.Lists.{filter_keeps}
use Rattle.run_laws.proofs.Queue.{all_in, all_from}
use Rattle.run_laws.proofs.Traces.{log_rises, trace_sorted}
use Rattle.net_model.specs.Net.{Net}
use Rattle.net_model.specs.Rules.{IsNet}
use Rattle.stations.specs.Good.{sender_of, number_of}
use Rattle.stations.specs.Handling.{StateView}
use Rattle.stations.specs.Laws.{HasFewNumbers}
use Rattle.stations.specs.Runs.{simulation, trace_of, log_at}
use Rattle.stations.proofs.GoodLaws.{lawful-stations, stations-to_stations, fresh-stations}
use Rattle.stations.proofs.KeyLaws.{log_keys-small}
use Rattle.log_chain.specs.Packing.{FitWords}
use Rattle.trace_writer.specs.Words.{by_key, entry_word, IsInOrder}
use Rattle.run_laws.specs.Beginnings.{from, merge_from, Rise}
use Rattle.run_laws.proofs.BeginningTraces.{all_filter, merged_from}
use Rattle.trace_writer.proofs.Marks.{E}

-- ---- entry_word

-- the words of entries in order rise
rise_words : (es : List E) → Sorted by_key es → FitWords es → Rise entry_word es
rise_words [] s h = tt
rise_words (e ∷ es) s h = (
  all_from (λ f. entry_word e < entry_word f) es (λ f i. key_word-lt 0 0 e.msg.key f.msg.key h.0
      (all_in _ es f h.1 i) (omega arith) (omega arith) (inl (all_in (λ f. by_key e f ≡ Less) es f s.0 i))),
  rise_words es s.1 h.1,
)

-- if all keys fit words, those from a word on do
pub fit_from : (w : ℕ) (es : List E) → FitWords es → FitWords (from entry_word w es)
fit_from w es h = all_filter (λ (e : E). FitsWord e.msg.key) (λ e. not (nat_lt (entry_word e) w)) es h

module _ (net : Net) (valid : IsNet net) (c : Clone) (counted : HasFewNumbers net c net.horizon) where
  -- its simulation
  abbrev sim : Simulation StateView Msg Line
  sim = simulation net

  -- ---- the entries of logs and of the trace

  -- an entry's key fits a word, and its time is before the horizon
  pub record IsOfLog (e : E) : Type 0 where
    pub fits : FitsWord e.msg.key
    pub early : e.msg.key.time < net.horizon

  -- so it is in each log
  of_log : (s : ℕ) (e : E) → In e (log_at net c s net.horizon) → IsOfLog e
  of_log s e i =
      let small = log_keys-small net valid c s net.horizon e counted i in
      let early = small.0 in
      let sender = small.1.sender in
      let soon = valid.horizon_max in
      let few = valid.at_most in
      record {
        fits = record {
          time = omega (arith, early, soon);
          sender = omega (arith, sender, few);
          number = small.1.number;
        };
        early = early;
      }

  -- and in the trace
  pub of_trace : (e : E) → In e (trace_of net c) → IsOfLog e
  of_trace e i = of_log e.msg.to e
      (filter_keeps (λ (f : E). f.msg.to == e.msg.to) (trace_of net c) e i (eq-eqb e.msg.to e.msg.to refl))

  -- the words of the trace rise
  pub trace_rises : Rise entry_word (trace_of net c)
  trace_rises = rise_words (trace_of net c)
      (trace_sorted (lawful-stations net valid) (stations-to_stations net valid) (fresh-stations net valid) c
      net.horizon counted.in_range)
      (all_from (λ (e : E). FitsWord e.msg.key) (trace_of net c) (λ e i. (of_trace e i).fits))

  -- and those of a log
  pub log_in_order : (s : ℕ) (log : List E) → log ≡ log_at net c s net.horizon → IsInOrder log
  log_in_order s log is =
      let fit : FitWords (log_at net c s net.horizon) = all_from (λ (e : E). FitsWord e.msg.key)
      (log_at net c s net.horizon) (λ e i. (of_log s e i).fits) in
      subst IsInOrder (sym is) (record {
        fit = fit;
        rise = rise_words (log_at net c s net.horizon)
            (log_rises (lawful-stations net valid) (stations-to_stations net valid) (fresh-stations net valid) c
            net.horizon counted.in_range s) fit;
      })

  -- ---- merge_from

  -- the log of one more station is merged
  pub merged_next : (w s : ℕ) (left log walk new : List E) → left ≡ merge_from sim sender_of number_of entry_word c w s
      → log ≡ log_at net c (s + 1) net.horizon → walk ≡ from entry_word w log → new ≡ merge by_key left walk
      → new ≡ merge_from sim sender_of number_of entry_word c w (s + 1)
  merged_next w s left log walk new so_far log_is walk_is new_is =
      let up : s + 1 ≡ suc s = omega arith in
      new_is ∙ ap₂ (merge by_key) so_far
      (walk_is ∙ ap (from entry_word w) (log_is ∙ ap (λ n. log_at net c n net.horizon) up))
      ∙ ap (merge_from sim sender_of number_of entry_word c w) (sym up)

  -- those of all stations are the trace from the word on
  pub merged_all : (w n : ℕ) (left : List E) → n ≡ length net.sites
      → left ≡ merge_from sim sender_of number_of entry_word c w n → left ≡ from entry_word w (trace_of net c)
  merged_all w n left many is =
      is ∙ ap (merge_from sim sender_of number_of entry_word c w) many
      ∙ merged_from (lawful-stations net valid) (stations-to_stations net valid) (fresh-stations net valid) c
      counted.in_range entry_word w
