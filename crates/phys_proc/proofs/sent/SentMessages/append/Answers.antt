use Rattle.std.proofs.Common.{◌≡◌, ◌++◌, ◌∙◌, ◌≤◌, ℕ, ap, sym, arith, append_assoc, append-nil, drop, length, eqb-true}
use Rattle.std.proofs.Common.{vec_len}
use Rattle.std.proofs.Math.ListN.{drop_of_length-le}
use Rattle.std.proofs.lemmas.List.{nil_from_length}
use Rattle.phys_proc.specs.Own.{MarkedMessages}
use Rattle.phys_proc.proofs.sent.SentMessages.append.Goals as goal

-- all packed messages are appended when none is left
all_packed : (l first items : MarkedMessages) (i : ℕ) → l ++ drop i items ≡ first ++ items → length items ≤ i
    → l ≡ first ++ items
all_packed l first items i e all =
    sym (append-nil l) ∙ ap (λ d. l ++ d) (sym (drop_of_length-le items all)) ∙ e

pub returns-in_ok-append_whole : goal.returns-in_ok-append_whole
returns-in_ok-append_whole c =
    let packed = c.self.inside.packed.items in
    let whole = c.self.inside.whole.items in
    let more = c.more.inside in
    let all = all_packed c.loop-pair.self c.args.self.now c.as_slice-pair-items.result.now c.loop-pair.pair-index
    c.loop-pair.invariant c.loop-pair-test.false in
    record {
      both = ap (λ w. packed ++ w) (c.in_ok-append_whole.ensures.both ∙ ap (λ m. whole ++ m) c.as_slice.ensures.value)
          ∙ sym (append_assoc packed whole more.whole.items)
          ∙ ap (λ s. s ++ more.whole.items)
          (c.self.view_is ∙ all ∙ ap (λ p. c.args.self.now ++ p) c.as_slice-pair-items.ensures.value)
          ∙ append_assoc c.args.self.now more.packed.items more.whole.items
          ∙ ap (λ m. c.args.self.now ++ m) c.more.view_is;
    }

pub returns-else-not-is_empty : goal.returns-else-not-is_empty
returns-else-not-is_empty c =
    let more = c.more.inside in
    let all = all_packed c.loop-pair.self c.args.self.now c.as_slice-pair-items.result.now c.loop-pair.pair-index
    c.loop-pair.invariant c.loop-pair-test.false in
    let none = nil_from_length more.whole.items (omega (
      arith,
      eqb-true (vec_len more.whole) 0 (sym c.is_empty.ensures ∙ c.if-not-is_empty.false),
      more.whole.ok.0,
    )) in
    record {
      both = all ∙ ap (λ p. c.args.self.now ++ p) (c.as_slice-pair-items.ensures.value
          ∙ sym (append-nil more.packed.items) ∙ ap (λ w. more.packed.items ++ w) (sym none) ∙ c.more.view_is);
    }
