use Rattle.std.proofs.Common.{◌≡◌, ◌∙◌, ◌≤◌, ◌++◌, List, length, drop, sym, ap, subst, Option, ℕ}
use Rattle.net_model.specs.Net.{Net}
use Rattle.net_model.specs.Rules.{IsNet}
use Rattle.run_laws.specs.Fronts.{window_end}
use Rattle.stations.specs.Runs.{simulation}
use Rattle.decision_book.specs.declared.call.Call.{Call}
use Rattle.decision_book.specs.Books.{BookView}
use Rattle.decision_book.specs.Journal.{calls_of}
use Rattle.decision_book.specs.Scripts.{accepted_of}
use Rattle.decision_desk.specs.Leasts.{leasts_with_calls, earliest, helm_at, calls_at}
use Rattle.decision_desk.specs.Passes.{IsSince, IsTurnAhead}
use Rattle.decision_desk.proofs.Leasts.{known_calls, is_turn_ahead}
use Rattle.decision_desk.proofs.legal.LegalBook.look_ahead.Goals as goal

pub accepted_calls_from-requires : goal.accepted_calls_from-requires
accepted_calls_from-requires c = record {
  known = subst (λ (l : List Call). c.args.known ≤ length l)
      (sym (c.calls.ensures.value ∙ ap (λ (b : BookView). calls_of b.events) c.book-book.ensures.value))
      (known_calls c.args.self.now c.args.known c.args.least.now c.requires.since);
}

pub returns : goal.returns
returns c =
    let b = c.book-book.result.now in
    let all = c.lists.result.now.clones in
    let fresh = c.in_ok-fresh.fresh.items in
    let times : c.extend_from_slice.new.self.items ≡ c.args.least.now =
    c.in_ok-extend_from_slice.ensures.items
    ∙ ap (λ (ts : List (Option ℕ)). ts ++ c.args.least.now) c.new-times.ensures.items in
    record {
      is_next = subst (λ (v : BookView). IsTurnAhead v (helm_at c.args.known v.events)
          (calls_at c.args.known v.events) fresh c.window_end-front.result) c.book-book.ensures.value
          (is_turn_ahead b fresh c.args.known c.window_end-front.result c.args.least.now
          c.take_calls.new.times.items all
          (subst (λ (v : BookView). IsSince v c.args.known c.args.least.now)
          (sym c.book-book.ensures.value) c.requires.since)
          (subst (λ (n : Net). IsNet n) c.model.ensures.value c.window_end-front.ensures.valid)
          c.front-front.ensures.right
          (c.in_ok-fresh.ensures.value ∙ ap (λ (l : List Call). accepted_of (drop c.args.known l))
          c.calls.ensures.value)
          c.lists.ensures.value
          (c.in_ok-take_calls.ensures.ok
          ∙ (ap (λ (ts : List (Option ℕ)). leasts_with_calls all ts c.as_slice.result.now) times
          ∙ ap (leasts_with_calls all c.args.least.now) c.as_slice.ensures.value))
          (c.window_end-front.ensures.value
          ∙ (ap (λ (n : Net). window_end (simulation n) c.earliest.result) c.model.ensures.value
          ∙ ap (λ t. window_end (simulation b.net) t)
          (c.earliest.ensures.value ∙ ap earliest c.as_slice-2.ensures.value))));
    }
