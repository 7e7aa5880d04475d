-- Bounds on the senders and numbers of a run's messages: the law of numbers, for these stations.
use Rattle.std.proofs.Common.{ℕ, ◌+◌, ◌*◌, ◌<◌, ◌≤◌, inl, inr, List, min, arith}
use Rattle.std.specs.Prelude.{◌==◌}
use Rattle.sim_base.specs.declared.message.TheConstants.{WORD_NUMBERS}
use Rattle.sim_base.specs.declared.message.Msg.{Msg}
use Rattle.sim_base.specs.declared.entry.Entry.{Entry}
use Rattle.sim_base.specs.declared.entry.Line.{Line}
use Rattle.run_laws.specs.Queue.{In}
use Rattle.run_laws.specs.Runs.{end_of, run_of}
use Rattle.run_laws.specs.Numbers.{UsesFewNumbers}
use Rattle.run_laws.proofs.Counts.{map_has}
use Rattle.run_laws.proofs.Fronts.{trace_below}
use Rattle.run_laws.proofs.Lists.{in_filter}
use Rattle.run_laws.proofs.Numbers.{numbers_low, numbers_fit}
use Rattle.run_laws.proofs.Queue.{all_in}
use Rattle.net_model.specs.Net.{Net}
use Rattle.net_model.specs.Rules.{IsNet}
use Rattle.stations.specs.Good.{IsGood, next_number}
use Rattle.stations.specs.Laws.{KeysAreSmall, LogKeysAreSmall}
use Rattle.stations.specs.Runs.{simulation}
use Rattle.stations.proofs.GoodLaws.{lawful-stations, stations-to_stations, fresh-stations}
use Rattle.stations.proofs.ReplayLaws.{sends-next_numbers}
use Rattle.stations.specs.declared.sender.TheConstants.{MAX_SENDS}

module _ (net : Net) (valid : IsNet net) where
  -- ---- UsesFewNumbers

  -- a station uses up at most `MAX_SENDS` numbers with one message
  few-numbers : UsesFewNumbers (simulation net) (IsGood net) next_number MAX_SENDS
  few-numbers = record {
    opens = λ s there. let first = (sends-next_numbers net valid).opens s in omega (arith, first);
    grows = λ s st m there good.
        let few = (sends-next_numbers net valid).at_most s st m good in
        let next = (sends-next_numbers net valid).next s st m good in
        omega (arith, few, next);
  }

  -- `MAX_SENDS` numbers for each message of a log that keeps the limit, and once more, fit words
  bound-enough : MAX_SENDS * (net.limit + 1) ≤ WORD_NUMBERS
  bound-enough = let short = valid.limit_max in omega (arith, short)

  -- ---- KeysAreSmall and LogKeysAreSmall

  -- at a front with no log beyond the limit, each message of a clone's run has a small sender and number
  pub keys-small : KeysAreSmall net
  keys-small c front m counted i = record {
    sender = elim (numbers_low (lawful-stations net valid) (stations-to_stations net valid)
        (fresh-stations net valid) few-numbers
        c front counted.in_range m i) [
          | inl a ↦ let analyst = a.0 in omega (arith, analyst)
          | inr a ↦ a.0.1
        ];
    number = numbers_fit (lawful-stations net valid) (stations-to_stations net valid)
        (fresh-stations net valid) few-numbers
        c front counted.in_range WORD_NUMBERS m counted.within counted.length_max bound-enough i;
  }

  -- so has the message of each entry of a log, which comes before the front
  pub log_keys-small : LogKeysAreSmall net
  log_keys-small c s front e counted i =
      let trace : List (Entry Msg Line) = (run_of (simulation net) c front).at.trace in
      let handled : In e trace = (in_filter (λ e. e.msg.to == s) trace e i).0 in
      let end : ℕ = end_of (simulation net) c in
      let early : e.msg.key.time < min front end = all_in (λ e. e.msg.key.time < min front end) trace e
      (trace_below (lawful-stations net valid) c.plans (min front end)) handled in
      (omega (arith, early), keys-small c front e.msg counted (inl (map_has (λ e. e.msg) trace e handled)))
