use Rattle.std.proofs.Common.{◌≡◌, ◌∙◌, ◌++◌, ◌∷◌, [], Some, ap, sym, arith, length, length-append}
use Rattle.std.proofs.lemmas.List.Elements.{All-pop}
use Rattle.sim_base.specs.Reserved.{ReservedView}
use Rattle.journal_text.specs.declared.looked.Looked.{Looked}
use Rattle.live_study.specs.Asking.{SeatedAnalyst}
use Rattle.live_study.specs.Scripts.{each_acts}
use Rattle.live_study.proofs.Beginning.{acts_next, fresh_more, mapped_more, numbers_next}
use Rattle.live_study.proofs.begin.analysts_of.Goals as goal

pub loop-pass-preserved : goal.loop-pass-preserved
loop-pass-preserved g c =
    let inv = c.loop-pass.invariant in
    let items = c.args.script.now.items in
    let many = c.loop-pass.number in
    let pushed = c.in_ok-push.ensures.items in
    let popped = c.in-Some-pop.ensures.items in
    record {
      passes = mapped_more (λ (a : SeatedAnalyst). a.0.pass) _ _ _ _ pushed inv.passes;
      numbers = mapped_more (λ (a : SeatedAnalyst). a.0.number) _ _ _ _ pushed inv.numbers ∙ sym (numbers_next many);
      todo = mapped_more (λ (a : SeatedAnalyst). a.0.todo.items) _ _ _ _ pushed inv.todo
          ∙ ap (λ acts. each_acts items many ++ acts ∷ []) c.in_ok-todo.ensures.value ∙ sym (acts_next items many);
      number = omega (arith, inv.number, length-append c.loop-pass.yielded (c.in-Some.pass ∷ []));
      left = omega (
        arith,
        inv.left,
        length-append c.loop-pass.yielded (c.in-Some.pass ∷ []),
        ap length popped,
        length-append c.pop.new.self.items (c.in-Some-pop.seat ∷ []),
      );
      seats = λ opening h. (All-pop (λ s. s ≡ opening) _ _ (Some c.in-Some-pop.seat) popped (inv.seats opening h)).0;
      fresh = λ opening h. fresh_more opening _ _ _ pushed (inv.fresh opening h) (record {
        quiet = ap (λ (r : ReservedView Looked). r.items) c.in_ok-looks.ensures.value;
        reserved = let r = ap (λ (r : ReservedView Looked). r.reserved) c.in_ok-looks.ensures.value in omega (arith, r);
        seat = (All-pop (λ s. s ≡ opening) _ _ (Some c.in-Some-pop.seat) popped (inv.seats opening h)).1;
      });
    }
