use Rattle.std.proofs.Common.{◌≡◌, length, sym, ◌∙◌, subst, arith, eqb-true, vec_len}
use Rattle.log_chain.specs.Packing.{ArePlaced, FitWords}
use Rattle.log_chain.proofs.Packs.{fit_words-packed}
use Rattle.log_chain.proofs.entry_list.EntryList.is_packed.Goals as goal

pub returns : goal.returns
returns c = record {
  words = λ t.
      let r = c.self.inside in
      let none : length r.wide.items ≡ 0 =
      omega (arith, eqb-true (vec_len r.wide) 0 (sym c.is_empty.ensures ∙ t), r.wide.ok.0) in
      subst FitWords c.self.view_is (fit_words-packed r.wide.items r.packed.items
      (subst (λ n. ArePlaced n r.packed.items) none c.self.invariant));
}
