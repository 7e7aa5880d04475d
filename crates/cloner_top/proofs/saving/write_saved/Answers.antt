use Rattle.std.proofs.Common.{◌≡◌, ◌∙◌, ap, refl, subst, sym}
use Rattle.sim_base.specs.Clones.{place_of}
use Rattle.net_model.specs.Net.{Net}
use Rattle.cloner_top.specs.Endings.{limit_met_at, no_clone}
use Rattle.cloner_top.proofs.SavedRuns.{saved_done, saved_exceeds, saved_too_long}
use Rattle.cloner_top.proofs.saving.write_saved.Goals as goal

pub returns-in_default : goal.returns-in_default
returns-in_default g c = record {
  done = (
    no_clone (ap (place_of c.args.name.now) (sym c.lists-lists.ensures.value) ∙ sym c.in_default.ensures.value),
    refl,
    refl,
  );
}

pub returns-in-Ok : goal.returns-in-Ok
returns-in-Ok g c = record {
  done = saved_done _ _ _ _ c.args.name.now c.in-Some.place c.args.until _ _ c.deref.ensures
      c.lists-lists.ensures.value
      (ap (place_of c.args.name.now) (sym c.lists-lists.ensures.value) ∙ sym c.in-Some.ensures.value) _ _
      c.as_slice.ensures.value c.in-Ok.ensures.saved _ _ _ c.put_text.ensures.done;
}

pub returns-in-Err-TooLong : goal.returns-in-Err-TooLong
returns-in-Err-TooLong g c = record {
  done = (
    saved_too_long _ _ _ _ c.args.name.now c.in-Some.place c.args.until _ _ c.deref.ensures
        c.lists-lists.ensures.value
        (ap (place_of c.args.name.now) (sym c.lists-lists.ensures.value) ∙ sym c.in-Some.ensures.value)
        (rw c.in-Err-TooLong.field-0-is at c.in-Err-TooLong.ensures.fault),
    refl,
  );
}

pub returns-in-Err-LimitMet : goal.returns-in-Err-LimitMet
returns-in-Err-LimitMet g c = record {
  done = (
    saved_exceeds _ _ _ _ c.args.name.now c.in-Some.place c.args.until _ _ c.deref.ensures
        c.lists-lists.ensures.value
        (ap (place_of c.args.name.now) (sym c.lists-lists.ensures.value) ∙ sym c.in-Some.ensures.value)
        c.in-Err-LimitMet.station c.limit_at.result
        (rw c.in-Err-LimitMet.field-0-is at c.in-Err-LimitMet.ensures.fault)
        (subst (λ (n : Net). c.limit_at.result ≡ limit_met_at n c.in-Err-LimitMet.station c.args.name.now)
        (c.deref-in-Err-LimitMet.ensures ∙ sym c.deref.ensures)
        c.limit_at.ensures),
    refl,
  );
}
