use Rattle.std.proofs.Common.{◌≡◌, ◌∙◌, ap, ap₂, refl, subst, sym}
use Rattle.sim_base.specs.Clones.{place_of}
use Rattle.net_model.specs.Net.{Net}
use Rattle.trace_report.specs.TraceText.{trace_text}
use Rattle.cloner_top.specs.Endings.{limit_met_at, no_clone}
use Rattle.cloner_top.proofs.Runs.{alone_done, alone_exceeds}
use Rattle.cloner_top.proofs.alone.write_alone.Goals as goal

pub returns-in_default : goal.returns-in_default
returns-in_default g c = record {
  done = (
    no_clone (ap (place_of c.args.name.now) (sym c.lists-lists.ensures.value) ∙ sym c.in_default.ensures.value),
    refl,
    refl,
  );
}

pub returns-in-Ok : goal.returns-in-Ok
returns-in-Ok g c = record {
  done = alone_done _ _ _ _ c.args.name.now c.in-Some.place _ _ c.deref.ensures c.lists-lists.ensures.value
      (ap (place_of c.args.name.now) (sym c.lists-lists.ensures.value) ∙ sym c.in-Some.ensures.value) _
      (ap (λ (n : Net). trace_text n c.name.result c.trace.result.now) (c.deref-in-Ok.ensures ∙ sym c.deref.ensures)
      ∙ ap₂ (trace_text c.deref.result.now) c.name.ensures.value (c.trace.ensures ∙ c.in-Ok.ensures.trace))
      c.in-Ok.ensures.within c.in-Ok.ensures.steps _ _ _ c.put_trace.ensures.done;
}

pub returns-in-Err-LimitMet : goal.returns-in-Err-LimitMet
returns-in-Err-LimitMet g c = record {
  done = (
    alone_exceeds _ _ _ _ c.args.name.now c.in-Some.place _ _ c.deref.ensures c.lists-lists.ensures.value
        (ap (place_of c.args.name.now) (sym c.lists-lists.ensures.value) ∙ sym c.in-Some.ensures.value)
        c.in-Err-LimitMet.station c.in-Err-LimitMet.field-0-1 c.limit_at.result
        (rw c.in-Err-LimitMet.field-0-is at c.in-Err-LimitMet.ensures.fault)
        (subst (λ (n : Net). c.limit_at.result ≡ limit_met_at n c.in-Err-LimitMet.station c.args.name.now)
        (c.deref-in-Err-LimitMet.ensures ∙ sym c.deref.ensures)
        (rw c.in-Err-LimitMet.field-0-is at c.limit_at.ensures)),
    refl,
  );
}
