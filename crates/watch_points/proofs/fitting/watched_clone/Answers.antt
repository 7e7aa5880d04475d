use Rattle.std.proofs.Common.{◌≡◌, ◌+◌, ◌-◌, Some, refl, true, length, arith, sym, ap, ◌∙◌}
use Rattle.std.specs.Prelude.{reverse, slice_get, take}
use Rattle.std.specs.Str.{bytes_eq}
use Rattle.std.proofs.lemmas.Option.{slice_get_read}
use Rattle.watch_points.specs.Checking.{watched_clone}
use Rattle.watch_points.specs.declared.watch.Watch.{Watch}
use Rattle.watch_points.proofs.Elements.{slice_get-same}
use Rattle.watch_points.proofs.NamesBack.{after_branches, back_to_source, ends_at_branch, ends_at_script}
use Rattle.watch_points.proofs.fitting.watched_clone.Goals as goal
use Rattle.watch_points.proofs.fitting.watched_clone.Goals.{else-branches-eq0, then-branches-eq0}

pub back-preserved-then-eq : goal.back-preserved-then-eq
back-preserved-then-eq c =
    let earlier = c.args.earlier.now in
    let i = c.back.left - 1 in
    let some = c.back-test.true in
    let within = c.back.invariant.within in
    let at_most = c.back.invariant.at_most in
    let one = c.index-earlier-left.result in
    let w = c.index-earlier-left-then-eq.result in
    let first : slice_get earlier i ≡ Some one =
    slice_get_read earlier (length earlier) i one refl (omega (arith, some, within)) c.index-earlier-left.is in
    let second : slice_get earlier i ≡ Some w =
    slice_get_read earlier (length earlier) i w refl (omega (arith, some, within)) c.index-earlier-left-then-eq.is in
    let same = slice_get-same earlier i one w first second in
    let new_is : c.as_bytes.result.now ≡ w.new =
    let v = c.as_bytes.ensures.value in let at = c.index-earlier-left.is in cc in
    let named : bytes_eq w.new c.back.name ≡ true =
    ap (λ b. bytes_eq b c.back.name) (sym new_is)
    ∙ ap (bytes_eq c.as_bytes.result.now) (sym c.as_bytes-in-back.ensures.value) ∙ sym c.eq.ensures ∙ c.if-eq.true in
    record {
      within = omega (arith, within);
      at_most = omega (arith, at_most, some);
      same = ap (λ (u : Watch). after_branches (c.back.branches + 1)
          (watched_clone c.args.lists.now.clones (reverse (take i earlier)) u.who))
          (sym c.index-earlier-left-then-eq.is)
          ∙ back_to_source c.args.lists.now.clones earlier c.back.left c.back.name c.back.branches w _
          (omega (arith, some)) within c.index-earlier-left-then-eq.is named c.back.invariant.same;
    }

pub returns : goal.returns
returns c =
    let cs = c.args.lists.now.clones in
    let earlier = c.args.earlier.now in
    let none = c.back-test.false in
    let place = sym c.in_ok-c.ensures.value in
    record {
      value = ap (λ l. Some (record { end = c.if-branches-eq0.end; decisions = length l + c.back.branches }))
          c.list.ensures.value
          ∙ elim c.if-branches-eq0.branch [
            | then-branches-eq0 w ↦ ends_at_script cs earlier c.back.left c.back.name c.back.branches c.in_ok-c.c _
                (omega (arith, none)) place c.back.invariant.same w.if-branches-eq0.true c.if-branches-eq0.end
                (w.end-is ∙ w.end_of-end.ensures.value)
            | else-branches-eq0 w ↦ ends_at_branch cs earlier c.back.left c.back.name c.back.branches c.in_ok-c.c _
                (omega (arith, none)) place c.back.invariant.same w.if-branches-eq0.false c.if-branches-eq0.end w.end-is
          ];
    }
